use Rattle.zimgasol_reading.proofs.Answering.{begun_parts}
use Rattle.zimgasol_reading.proofs.several.Several.new.Goals as goal

pub returns-clause-begun : goal.returns-clause-begun
returns-clause-begun g c = λ left. begun_parts g.F.Read.remaining c.args.inlets.items left c.in_ok-new.field-0 c.in_ok-channels_of.field-0.items
    c.in_ok-new.ensures c.in_ok-channels_of.ensures
