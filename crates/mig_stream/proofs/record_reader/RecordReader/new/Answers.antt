use Rattle.std.proofs.Common.{◌++◌, List, ℕ, ap, refl}
use Rattle.mig_stream.specs.declared.item.Mode.TheVariants.{Single}
use Rattle.mig_stream.specs.Reading.{settings, in_frame, with_waiting}
use Rattle.mig_stream.proofs.Giver.{gives_first}
use Rattle.mig_stream.proofs.Reported.{reports_first}
use Rattle.mig_stream.proofs.record_reader.RecordReader.new.Goals as goal

pub returns-clause-gives : goal.returns-clause-gives
returns-clause-gives g c =
    gives_first (with_waiting c.args.waiting (in_frame c.args.frame (settings Single c.args.page_size c.args.limit)))
    c.args.text.now _ refl c.requires.page_size c.new-progress.ensures (ap (λ (x : List ℕ). x ++ c.args.text.now) c.new.ensures.items) refl refl

pub returns-clause-reports : goal.returns-clause-reports
returns-clause-reports g c =
    reports_first (with_waiting c.args.waiting (in_frame c.args.frame (settings Single c.args.page_size c.args.limit))) c.args.text.now _ c.new-progress.ensures
    (ap (λ (x : List ℕ). x ++ c.args.text.now) c.new.ensures.items) (returns-clause-gives g c)
