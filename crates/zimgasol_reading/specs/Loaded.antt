-- The load of a main stream and its channels into a memory, and the streams that it represents.
use Rattle.std.specs.Prelude.{ℕ, ◌≡◌, List, length, Option, None}
use Rattle.mig_mem.specs.RamTable.{RamTable, IsTable}
use Rattle.mig_mem.specs.Image.{Image, IsImage, zero_image}
use Rattle.mig_stream.specs.declared.item.Frame.{Frame}
use Rattle.mig_stream.specs.PageRecord.{PageRecord}
use Rattle.mig_load_types.specs.declared.settings.LoadSettings.{LoadSettings}
use Rattle.mig_load_types.specs.declared.settings.RoundEnd.TheVariants.{AsShown}
use Rattle.mig_answer.specs.declared.verdict.Verdict.{Verdict}
use Rattle.mig_answer.specs.Texts.{Texts}
use Rattle.mig_sources.specs.declared.source.Source.{Source}
use Rattle.mig_in_place.specs.Answer.{IsInPlaceAnswer}
use Rattle.mig_in_place.specs.Session.{InPlaceLoad, StandsFor, StepsOn}
use Rattle.zimgasol_reading.specs.Consumed.{Bytes, AreConsumed, with_bytes}
use Rattle.zimgasol_reading.specs.Passed.{HasPassed}

-- the settings of such a load: what ends a round is seen in the main stream
abbrev pub settings_for : Frame → ℕ → ℕ → LoadSettings
settings_for frame page_size limit = record { page_size = page_size; limit = limit; frame = frame; waiting = None; round_end = AsShown }

-- a load, and the memory that it writes into
pub record LoadInto : Type 0 where
  pub load : InPlaceLoad
  pub memory : Image

-- The load was made for the memory `first`, with these settings and under this UUID. It took these
-- streams so far, and its answer on them is that of a load in place.
abbrev pub HasLoaded : LoadSettings → List ℕ → Image → Texts → LoadInto → Type 0
HasLoaded given uuid first texts l = StandsFor given uuid first texts l.memory l.load

-- If a load has taken some streams, it has then taken them with this step.
abbrev pub Takes : (Texts → Texts) → LoadInto → LoadInto → Type 0
Takes step old new = StepsOn step old.memory old.load new.memory new.load

-- The load has taken streams that are what was consumed of its sources.
pub record HasConsumed (given : LoadSettings) (uuid : List ℕ) (first : Image) (all left : Bytes) (l : LoadInto) : Type 0 where
  pub texts : Texts
  pub has_loaded : HasLoaded given uuid first texts l
  pub are_consumed : AreConsumed all left texts

-- The load has taken what was consumed meanwhile: the bytes of `before` were left of its sources,
-- and now those of `after` are.
abbrev pub TakesOn : Bytes → Bytes → LoadInto → LoadInto → Type 0
TakesOn before after old new = (given : LoadSettings) (uuid : List ℕ) (first : Image) (all : Bytes) → HasConsumed given uuid first all before old
    → HasConsumed given uuid first all after new

-- the same of one source, whatever is left of the others
abbrev pub TakesOf : Source → Option (List ℕ) → Option (List ℕ) → LoadInto → LoadInto → Type 0
TakesOf from before after old new = (others : Bytes) → TakesOn (with_bytes from before others) (with_bytes from after others) old new

-- Of streams that are what was consumed of these sources, these are the rounds and the verdict of a
-- load into zeros of this table, and the sink has taken pages that make its memory.
pub record HasLoadedTo (holds : RamTable → List PageRecord → Type 0) (given : LoadSettings) (uuid : List ℕ) (table : RamTable) (all : Bytes) (channels rounds : ℕ) (verdict : Verdict) : Type 0 where
  pub texts : Texts
  pub has_channels : length texts.channels ≡ channels
  pub left : Bytes
  pub are_consumed : AreConsumed all left texts
  pub memory : Image
  pub is_table : IsTable table
  pub is_image : IsImage memory
  pub is_answer : IsInPlaceAnswer given uuid (zero_image table) texts memory rounds verdict
  pub has_passed : HasPassed holds memory
