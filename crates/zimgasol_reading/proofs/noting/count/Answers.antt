use Rattle.std.proofs.Common.{[], ◌∷◌, ◌++◌, Option, Some, sym, subst}
use Rattle.std.specs.Option.{option_copied}
use Rattle.mig_stream.specs.PageRecord.{PageRecord}
use Rattle.zimgasol_reading.specs.declared.blocks.Blocks.{Blocks}
use Rattle.zimgasol_reading.specs.Recorded.{AreCounted}
use Rattle.zimgasol_reading.proofs.Counting.{named_more, no_blocks}
use Rattle.zimgasol_reading.proofs.noting.count.Goals.{in-Some+in_ok-count, in_default}
use Rattle.zimgasol_reading.proofs.noting.count.Goals as goal

pub returns : goal.returns
returns c = λ table records here had.
    let r : PageRecord = record { place = c.args.place; content = option_copied c.args.content } in
    elim c.match-blocks.branch [
      | in-Some+in_ok-count w ↦
          let before = subst (λ (o : Option Blocks). AreCounted o (Some table) records) w.in-Some.is had in
          subst (λ (o : Option Blocks). AreCounted o (Some table) (records ++ r ∷ [])) (sym w.blocks-is)
          (named_more table records r w.in-Some.blocks w.count.new.self here w.in_ok-count.ensures.recorded before)
      | in_default w ↦ absurd (no_blocks c.args.blocks.now table records w.in_default.is had)
    ]
