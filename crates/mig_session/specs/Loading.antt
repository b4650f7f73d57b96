-- The load of a session that runs: a load in place, into zeros that keep the open round apart. It
-- takes bytes of each source in their order; the others wait.
use Rattle.std.specs.Prelude.{ℕ, ◌≡◌, ◌⊎◌, ◌+◌, ◌<◌, ◌^◌, true, false, IsFalse, List, [], ◌++◌, length, map, Option, None, Some, ⊤}
use Rattle.mig_mem.specs.Image.{Image, zero_image}
use Rattle.mig_stream.specs.Reader.{HasTable}
use Rattle.mig_staged.specs.Staged.{Staging, staged}
use Rattle.mig_load_types.specs.Settings.{main_of, for_table}
use Rattle.mig_load_types.specs.declared.settings.LoadSettings.{LoadSettings}
use Rattle.mig_answer.specs.declared.verdict.Verdict.TheVariants.{Running}
use Rattle.mig_answer.specs.Status.{is_pending}
use Rattle.mig_answer.specs.Texts.{Text, Texts, Readings, AreReadings}
use Rattle.mig_sources.specs.declared.source.Source.{Source}
use Rattle.mig_sources.specs.declared.counts.Count.{Count}
use Rattle.mig_sources.specs.Sources.{HasSource, count_in, counts_in, feed_step, end_step}
use Rattle.mig_in_place.specs.Session.{InPlaceLoad, text_of, status_of, TakesBytes, StandsFor}
use Rattle.mig_in_place.specs.WholeRounds.{HasRoundsAlone}
use Rattle.mig_session.specs.Sources.{Waits, waiting_of}

-- ---- the load

pub record RoundLoad : Type 0 where
  pub load : InPlaceLoad
  pub memory : Staging

abbrev pub round_load : InPlaceLoad → Staging → RoundLoad
round_load load memory = record { load = load; memory = memory }

-- what the memory was before the first round
abbrev pub first_of : RoundLoad → Image
first_of l = zero_image l.load.table

-- The load took this much of the streams. Its memory has the rounds that it counts, and nothing
-- else.
pub record Took (given : LoadSettings) (uuid : List ℕ) (taken : Texts) (l : RoundLoad) : Type 0 where
  pub has_page_size : l.load.table.page_size ≡ given.page_size
  pub stands : StandsFor given uuid (first_of l) taken (staged l.memory) l.load
  pub alone : HasRoundsAlone (for_table l.load.table given) uuid (first_of l) taken l.load.rounds l.memory.kept

-- With more bytes of a source it took these.
abbrev pub TakesOn : (Texts → Texts) → RoundLoad → RoundLoad → Type 0
TakesOn step old new = (given : LoadSettings) (uuid : List ℕ) (taken : Texts) → Took given uuid taken old → Took given uuid (step taken) new

-- An allocation was refused in a piece: its memory has the rounds that it counts, and nothing else.
abbrev pub KeepsAlone : (Texts → Texts) → RoundLoad → RoundLoad → Type 0
KeepsAlone step old new = (given : LoadSettings) (uuid : List ℕ) (taken : Texts) → Took given uuid taken old
    → HasRoundsAlone (for_table new.load.table given) uuid (first_of new) (step taken) new.load.rounds new.memory.kept

-- ---- the bytes that wait

-- what a session was made with, and the bytes of each source so far
pub record Feeding : Type 0 where
  pub given : LoadSettings
  pub uuid : List ℕ
  pub texts : Texts

-- with one more piece of a source
abbrev pub fed : Source → List ℕ → Feeding → Feeding
fed from piece f = record f { texts = feed_step from piece f.texts }

-- with a source ended
abbrev pub over : Source → Feeding → Feeding
over from f = record f { texts = end_step from f.texts }

-- The source is there, hasn't ended, and so many more bytes of it can be counted.
pub record HasRoom (texts : Texts) (from : Source) (n : ℕ) : Type 0 where
  pub there : HasSource (counts_in texts) from
  pub is_open : IsFalse (text_of texts from).ended
  pub few : length (text_of texts from).bytes + n < 2 ^ 64

-- The source is there, and this is its count.
pub record Counted (texts : Texts) (from : Source) (count : Count) : Type 0 where
  pub there : HasSource (counts_in texts) from
  pub is_count : count ≡ count_in (text_of texts from)

-- Of a source's bytes some were taken, and those after them wait. Its end is taken after them.
pub record IsPart (waiting : List ℕ) (taken text : Text) : Type 0 where
  pub has_bytes : text.bytes ≡ taken.bytes ++ waiting
  pub is_over : taken.ended ≡ true → (text.ended ≡ true) × (waiting ≡ [])

-- This is so of each source.
pub record AreParts (w : Waits) (taken texts : Texts) : Type 0 where
  pub as_many : length taken.channels ≡ length texts.channels
  pub has_waits : length w.channels ≡ length texts.channels
  pub parts : (from : Source) → HasSource (counts_in texts) from → IsPart (waiting_of w from) (text_of taken from) (text_of texts from)

-- The load takes the streams, whose table is its own. What it didn't take waits.
pub record Takes (f : Feeding) (w : Waits) (l : RoundLoad) : Type 0 where
  pub taken : Texts
  pub took : Took f.given f.uuid taken l
  pub are_parts : AreParts w taken f.texts
  pub has_table : HasTable (main_of f.given) f.texts.main.bytes (Some l.load.table)

-- Before the table is known all bytes wait.
pub record AllWait (w : Waits) (texts : Texts) : Type 0 where
  pub main : w.main ≡ texts.main.bytes
  pub channels : w.channels ≡ map (λ text. text.bytes) texts.channels

abbrev pub TakesOrWaits : Feeding → Waits → Option RoundLoad → Type 0
TakesOrWaits f w None = AllWait w f.texts
TakesOrWaits f w (Some l) = Takes f w l

-- The memory of a load has the rounds counted, and nothing else.
pub record HasAlone (f : Feeding) (l : RoundLoad) : Type 0 where
  pub has_page_size : l.load.table.page_size ≡ f.given.page_size
  pub alone : HasRoundsAlone f.given f.uuid (first_of l) f.texts l.load.rounds l.memory.kept
  pub has_table : HasTable (main_of f.given) f.texts.main.bytes (Some l.load.table)

-- If there is a load, it has.
abbrev pub HasAloneIfAny : Feeding → Option RoundLoad → Type 0
HasAloneIfAny f None = ⊤
HasAloneIfAny f (Some l) = HasAlone f l

-- ---- nothing is left to take

-- All of a source was taken, or it isn't read on now.
abbrev pub IsDone : ℕ → Feeding → Texts → Source → Type 0
IsDone k f taken from = (text_of f.texts from ≡ text_of taken from) ⊎ (TakesBytes f.given f.uuid k taken from → ⊥)

-- All of it was taken, or it has the round that is judged next, or is over.
abbrev pub IsSettled : ℕ → Feeding → Texts → Source → Type 0
IsSettled k f taken from = (text_of f.texts from ≡ text_of taken from)
    ⊎ ((readings : Readings) → AreReadings f.given f.uuid taken readings → is_pending (status_of k readings from) ≡ false)

-- As long as the load runs, this is so of each source.
pub record Settles (f : Feeding) (w : Waits) (l : RoundLoad) : Type 0 where
  pub takes : Takes f w l
  pub settled : l.load.verdict ≡ Running → (from : Source) → HasSource (counts_in f.texts) from → IsSettled l.load.rounds f takes.taken from
