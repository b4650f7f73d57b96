use Rattle.std.proofs.Common.{refl}
use Rattle.mig_stream.specs.Reading.{settings, in_frame, with_waiting}
use Rattle.mig_stream.proofs.Standing.{stands_first}
use Rattle.mig_stream.proofs.reader.StreamReader.new_with.Goals as goal

pub returns-clause-stands : goal.returns-clause-stands
returns-clause-stands g c = stands_first
    (with_waiting c.args.waiting (in_frame c.args.frame (settings c.args.mode c.args.page_size c.args.limit))) _ c.new.ensures
    c.new-2.ensures.items refl refl refl refl
