use Rattle.std.proofs.Common.{rules, arith, ◌≡◌, ◌++◌, ◌<◌, ℕ, List, length, ◌-◌}
use Rattle.std.proofs.lemmas.List.{length-append}
use Rattle.mig_stream.specs.Items.{size}
use Rattle.mig_stream.specs.Giving.{Paused}
use Rattle.mig_stream.specs.Reader.{IsUnfinished}
use Rattle.mig_stream.specs.Wanted.{AreWanted}
use Rattle.mig_stream.proofs.Growing.{size_grows}
use Rattle.mig_stream.proofs.record_reader.Pause.wanted.Goals as goal
use Rattle.mig_stream.proofs.record_reader.Pause.wanted.Goals.{then-is_empty+in-Content+in-Zero-1, then-is_empty+in-FileHeader-1, else-is_empty}

-- the rest of an item whose first bytes are pending
rest_wanted : (p : Paused) → IsUnfinished p.progress p.pending → AreWanted p (size p.progress.page_size p.progress.due p.pending - length p.pending)
rest_wanted p unfinished = record {
  is_some = omega (arith, unfinished);
  are_wanted = λ more few. omega (arith, length-append p.pending more, few, size_grows p.progress.page_size p.progress.due p.pending more);
}

pub returns : goal.returns
returns g c =
    elim c.if-is_empty.branch [
      | then-is_empty+in-Content+in-Zero-1 w ↦ search (rules, rest_wanted)
      | then-is_empty+in-FileHeader-1 w ↦ search (rules, rest_wanted)
      | else-is_empty w ↦ search (rules, rest_wanted)
    ]
