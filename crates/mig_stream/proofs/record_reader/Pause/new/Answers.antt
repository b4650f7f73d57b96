use Rattle.std.proofs.Common.{refl}
use Rattle.mig_stream.specs.declared.item.Mode.TheVariants.{Single}
use Rattle.mig_stream.specs.Reading.{settings, in_frame, with_waiting}
use Rattle.mig_stream.proofs.Giver.{pauses_first}
use Rattle.mig_stream.proofs.record_reader.Pause.new.Goals as goal

pub returns : goal.returns
returns g c = record {
  pauses = pauses_first
      (with_waiting c.args.waiting (in_frame c.args.frame (settings Single c.args.page_size c.args.limit))) _ refl
      c.requires.page_size c.new.ensures c.new-2.ensures.items refl;
}
