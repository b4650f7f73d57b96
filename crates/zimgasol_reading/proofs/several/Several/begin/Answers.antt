use Rattle.zimgasol_reading.proofs.Answering.{still_begun}
use Rattle.zimgasol_reading.proofs.several.Several.begin.Goals as goal

pub returns-clause-still : goal.returns-clause-still
returns-clause-still g c = λ all begun.
    still_begun g.F.Read.remaining all (g.R.Read.remaining c.args.input.now) (g.R.Read.remaining c.read_head.new.input) c.args.self.now
    c.begin_guest.new.self c.keep_front.new.self c.read_head.new.self c.begin_guest.ensures.others c.keep_front.ensures c.in_ok-read_head.ensures begun
