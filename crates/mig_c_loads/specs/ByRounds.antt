-- A load of several channels into blocks of C by whole rounds: what each call does, by its status.
-- Between two calls the blocks have the rounds counted, and nothing else.
use Rattle.std.specs.Prelude.{◌≡◌, ◌≢◌, ◌⊎◌, ◌<◌, ◌≤◌, ◌+◌, ◌^◌, ℕ, List, [], ◌∷◌, length, take, IsTrue, IsFalse, Option, None, Some, IfSome, ⊤}
use Rattle.mig_mem.specs.RamTable.{RamTable}
use Rattle.mig_mem.specs.Image.{Image}
use Rattle.mig_mem.specs.Lent.{FitTable, lent_image}
use Rattle.mig_mem.specs.Round.{with_round, round_of}
use Rattle.mig_staged.specs.Staged.{Opened}
use Rattle.mig_stream.specs.declared.item.Frame.{Frame}
use Rattle.mig_load_types.specs.Settings.{for_table}
use Rattle.mig_load_types.specs.declared.settings.RoundEnd.{RoundEnd}
use Rattle.mig_answer.specs.Texts.{no_texts}
use Rattle.mig_sources.specs.declared.source.Source.{Source}
use Rattle.mig_sources.specs.Sources.{HasSource, count_of, feed_step, end_step}
use Rattle.mig_in_place.specs.Sources.{counts_of}
use Rattle.mig_in_place.specs.Session.{InPlaceLoad}
use Rattle.mig_in_place.specs.WholeRounds.{HasRoundsAlone, KeepsRounds}
use Rattle.mig_c_calls.specs.Status.{IsOneOf, done, no_memory, bad_source, is_over, too_long, bad_length, out_of_turn, to_feed}
use Rattle.mig_c_loads.specs.Frames.{frame_of, round_end_of, with_round_end}
use Rattle.mig_c_loads.specs.InPlace.{settings_into}
use Rattle.mig_c_loads.specs.InPlaceSessions.{Opens, OpensInto, FeedsMemory, EndsSource}

-- a load, and the pages of the open round, which are kept apart from the blocks
pub record RoundsLoad : Type 0 where
  pub load : InPlaceLoad
  pub apart : Option Opened

-- a memory with the pages of the open round
abbrev pub with_open : Option Opened → Image → Image
with_open None kept = kept
with_open (Some o) kept = with_round kept (round_of o.apart o.named.marked)

-- what the load stands for: the blocks with the pages of the open round
abbrev pub opened : RoundsLoad → List (List ℕ) → Image
opened s blocks = with_open s.apart (lent_image s.load.table blocks)

-- no round is open
abbrev pub HasNoneOpen : Option Opened → Type 0
HasNoneOpen None = ⊤
HasNoneOpen (Some o) = o.named.marked ≡ []

-- ---- the calls

abbrev pub load_in : Option RoundsLoad → Option InPlaceLoad
load_in None = None
load_in (Some s) = Some s.load

-- With any blocks that fit this table it took nothing yet, and they have no round.
abbrev pub HasNoRound : RamTable → List ℕ → ℕ → Frame → Option ℕ → RoundEnd → InPlaceLoad → Type 0
HasNoRound table uuid channels frame waiting ends s = (blocks : List (List ℕ)) → FitTable table blocks
    → HasRoundsAlone (for_table table (with_round_end (settings_into table frame waiting) ends)) uuid (lent_image table blocks) (no_texts channels) s.rounds (lent_image table blocks)

abbrev pub BeginsAlone : Option RamTable → List ℕ → ℕ → Option Frame → Option ℕ → Option RoundEnd → Option RoundsLoad → Type 0
BeginsAlone table uuid channels frame waiting ends None = ⊤
BeginsAlone (Some table) uuid channels (Some frame) waiting (Some ends) (Some s) = HasNoRound table uuid channels frame waiting ends s.load
BeginsAlone table uuid channels frame waiting ends (Some s) = ⊤

-- A load of a table begins as one in place, no round is open, and the blocks have none.
abbrev pub BeginsRounds : Option RamTable → List ℕ → ℕ → Option Frame → Option ℕ → Option RoundEnd → Option RoundsLoad → Type 0
BeginsRounds table uuid channels frame waiting ends made = Opens table uuid channels frame waiting ends (load_in made)
    × BeginsAlone table uuid channels frame waiting ends made × IfSome made (λ s. HasNoneOpen s.apart)

-- The effect of `new`, with a table.
pub record OpensRounds (table : Option RamTable) (uuid : List ℕ) (channels frame : ℕ) (waiting : Option ℕ) (ends status : ℕ) (made : Option RoundsLoad) : Type 0 where
  pub opens : OpensInto table uuid channels frame waiting ends status (load_in made)
  pub alone : BeginsAlone table uuid channels (frame_of frame) waiting (round_end_of ends) made
  pub none : IfSome made (λ s. HasNoneOpen s.apart)

-- The state after a piece was fed into a memory that keeps the open round apart: `before` and
-- `after` are the memory with it, `kept` and `now` without it. The load takes the piece as one in
-- place does, and the memory has the rounds counted.
pub record FeedsKept (from : Source) (piece : List ℕ) (before kept after now : Image) (taken status : ℕ) (old new : InPlaceLoad) : Type 0 where
  pub feeds : FeedsMemory from piece before after taken status old new
  pub keeps : status ≡ done → KeepsRounds (feed_step from (take taken piece)) before kept old now new
  pub still_keeps : status ≡ no_memory → KeepsRounds (feed_step from piece) before kept old now new

-- The effect of `feed` with blocks that hold these bytes. If an allocation was refused nothing has
-- changed, or the load has failed for good, and the blocks have the rounds counted.
pub record FeedsRounds (from : Source) (piece : List ℕ) (before after : List (List ℕ)) (taken status : ℕ) (old new : RoundsLoad) : Type 0 where
  pub is_named : IsOneOf (done ∷ no_memory ∷ bad_source ∷ is_over ∷ too_long ∷ bad_length ∷ []) status
  pub feeds : status ≡ done
      → FeedsKept from piece (opened old before) (lent_image old.load.table before) (opened new after) (lent_image new.load.table after) taken done old.load new.load
  pub runs_out : status ≡ no_memory → ((new ≡ old) × (after ≡ before))
      ⊎ FeedsKept from piece (opened old before) (lent_image old.load.table before) (opened new after) (lent_image new.load.table after) taken no_memory old.load new.load
  pub none : status ≢ done → taken ≡ 0
  pub same : status ≢ done → status ≢ no_memory → (new ≡ old) × (after ≡ before)
  pub same_table : new.load.table ≡ old.load.table
  pub still_fit : FitTable old.load.table before → FitTable old.load.table after
  pub foreign : status ≡ bad_source → HasSource (counts_of old.load.sources) from → ⊥
  pub has_source : status ≢ bad_source → HasSource (counts_of old.load.sources) from
  pub over : status ≡ is_over → IsTrue (count_of (counts_of old.load.sources) from).ended
  pub goes_on : status ≢ bad_source → status ≢ is_over → IsFalse (count_of (counts_of old.load.sources) from).ended
  pub long : status ≡ too_long → 2 ^ 64 ≤ (count_of (counts_of old.load.sources) from).fed + length piece
  pub short : status ≢ bad_source → status ≢ is_over → status ≢ too_long → (count_of (counts_of old.load.sources) from).fed + length piece < 2 ^ 64
  pub unfit : status ≡ bad_length → FitTable old.load.table before → ⊥
  pub fits : status ≡ done → FitTable old.load.table before

-- The effect of `end`: that of a load in place, and the rounds stay.
pub record EndsRounds (from : Source) (status : ℕ) (old new : RoundsLoad) : Type 0 where
  pub ends : EndsSource from status old.load new.load
  pub keeps : status ≡ done → (memory kept : Image) → KeepsRounds (end_step from) memory kept old.load kept new.load
  pub same_apart : new.apart ≡ old.apart

-- Nothing is claimed: any bytes of a channel are fed.
pub record ClaimsNone (from : Source) (status : ℕ) (s : RoundsLoad) : Type 0 where
  pub foreign : status ≡ bad_source → HasSource (counts_of s.load.sources) from → ⊥
  pub there : HasSource (counts_of s.load.sources) from → status ≡ to_feed
  pub is_named : IsOneOf (to_feed ∷ bad_source ∷ []) status

-- No packet is taken.
pub record TakesNone (from : Source) (status : ℕ) (s : RoundsLoad) : Type 0 where
  pub foreign : status ≡ bad_source → HasSource (counts_of s.load.sources) from → ⊥
  pub there : HasSource (counts_of s.load.sources) from → status ≡ out_of_turn
  pub is_named : IsOneOf (out_of_turn ∷ bad_source ∷ []) status
