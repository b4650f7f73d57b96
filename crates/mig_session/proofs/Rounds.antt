-- What a load took of a piece of a source, round after round: its memory has the rounds counted
-- alone.
use Rattle.std.proofs.Common.{ℕ, ◌≡◌, List, take, sym, ap, subst, ◌∙◌}
use Rattle.std.specs.Prelude.{Result, Ok, Err, IfOk, OnErr}
use Rattle.mig_mem.specs.RamTable.{RamTable}
use Rattle.mig_mem.specs.Image.{zero_image}
use Rattle.mig_staged.specs.Staged.{staged}
use Rattle.mig_load_types.specs.Settings.{for_table}
use Rattle.mig_load_types.specs.declared.settings.LoadSettings.{LoadSettings}
use Rattle.mig_answer.specs.Texts.{Texts}
use Rattle.mig_sources.specs.declared.source.Source.{Source}
use Rattle.mig_sources.specs.Sources.{feed_step}
use Rattle.mig_in_place.specs.Session.{StandsFor, StepsOn}
use Rattle.mig_in_place.specs.WholeRounds.{HasRoundsAlone, KeepsRounds}
use Rattle.mig_session.specs.Loading.{RoundLoad, first_of, TakesOn, KeepsAlone}

-- a memory that has the rounds counted has them alone
pub rounds_kept : (step : Texts → Texts) (old new : RoundLoad) → new.load.table ≡ old.load.table
    → KeepsRounds step (staged old.memory) old.memory.kept old.load new.memory.kept new.load → KeepsAlone step old new
rounds_kept step old new table keeps given uuid taken took =
    subst (λ (t : RamTable). HasRoundsAlone (for_table t given) uuid (zero_image t) (step taken) new.load.rounds new.memory.kept) (sym table)
    (keeps given uuid (first_of old) taken took.stands took.alone)

-- the load took the bytes
pub rounds_took : (step : Texts → Texts) (old new : RoundLoad) → new.load.table ≡ old.load.table
    → StepsOn step (staged old.memory) old.load (staged new.memory) new.load
    → KeepsRounds step (staged old.memory) old.memory.kept old.load new.memory.kept new.load → TakesOn step old new
rounds_took step old new table steps keeps given uuid taken took = record {
  has_page_size = ap (λ (t : RamTable). t.page_size) table ∙ took.has_page_size;
  stands = subst (λ (t : RamTable). StandsFor given uuid (zero_image t) (step taken) (staged new.memory) new.load) (sym table)
      (steps given uuid (first_of old) taken took.stands);
  alone = rounds_kept step old new table keeps given uuid taken took;
}

-- the same of a call's answer
pub takes_on : {E : Type 0} (from : Source) (piece : List ℕ) (old new : RoundLoad) (result : Result ℕ E) → new.load.table ≡ old.load.table
    → IfOk result (λ n. StepsOn (feed_step from (take n piece)) (staged old.memory) old.load (staged new.memory) new.load)
    → IfOk result (λ n. KeepsRounds (feed_step from (take n piece)) (staged old.memory) old.memory.kept old.load new.memory.kept new.load)
    → IfOk result (λ n. TakesOn (feed_step from (take n piece)) old new)
takes_on from piece old new (Ok n) table steps keeps = rounds_took (feed_step from (take n piece)) old new table steps keeps
takes_on from piece old new (Err e) table steps keeps = tt

-- and where an allocation was refused
pub keeps_alone : {T E : Type 0} (step : Texts → Texts) (old new : RoundLoad) (result : Result T E) → new.load.table ≡ old.load.table
    → OnErr result (KeepsRounds step (staged old.memory) old.memory.kept old.load new.memory.kept new.load) → OnErr result (KeepsAlone step old new)
keeps_alone step old new (Ok x) table keeps = tt
keeps_alone step old new (Err e) table keeps = rounds_kept step old new table keeps
