-- What the survey of a main stream and its channels says of them.
use Rattle.std.specs.Prelude.{ℕ, ◌≡◌, ◌≢◌, List, length, IfSome}
use Rattle.mig_mem.specs.RamTable.{RamTable}
use Rattle.mig_mem.specs.Image.{zero_image}
use Rattle.mig_stream.specs.PageRecord.{PageRecord}
use Rattle.mig_load_types.specs.declared.fault.Origin.TheVariants as origin
use Rattle.mig_load_types.specs.declared.fault.Fault.TheVariants as fault
use Rattle.mig_answer.specs.declared.verdict.Verdict.TheVariants.{Done}
use Rattle.mig_answer.specs.Texts.{Texts, no_texts}
use Rattle.mig_answer.specs.MultiLoad.{Answer, IsAnswer, failed}
use Rattle.mig_in_place.specs.Session.{InPlaceLoad, StandsFor}
use Rattle.zimgasol_reading.specs.declared.several.Several.{Several}
use Rattle.zimgasol_reading.specs.Consumed.{Bytes, AreConsumed}
use Rattle.zimgasol_reading.specs.Passed.{HasPassed}
use Rattle.zimgasol_reading.specs.Loaded.{HasLoadedTo, settings_for}

-- The sources had the bytes `all`, as far as these are known. The streams are what was consumed of
-- them: of each source a front of its bytes, and all of them where it has ended. Rounds and verdict
-- are those of the answer of a load on several channels on these streams, unless the load found
-- another table than the survey. If the load is done, the sink has taken records that make the
-- answer's memory.
pub record IsAnswered {F : Type 0} (all : Bytes) (holds : RamTable → List PageRecord → Type 0) (several : Several F) : Type 0 where
  pub page_size : ℕ
  pub texts : Texts
  pub has_channels : length texts.channels ≡ length several.channels.items
  pub left : Bytes
  pub are_consumed : AreConsumed all left texts
  pub answer : Answer
  pub is_answer : IsAnswer (settings_for several.frame page_size several.limit) several.uuid texts answer
  pub has_verdict : several.verdict ≢ failed 0 origin.Main fault.OtherTable → (several.rounds ≡ answer.rounds) × (several.verdict ≡ answer.verdict)
  pub has_memory : several.verdict ≡ Done → IfSome answer.memory (HasPassed holds)

-- ---- while the sources are read

-- What the load was asked for stays.
abbrev pub StaysAsked : {F : Type 0} → Several F → Several F → Type 0
StaysAsked old new = (new.uuid ≡ old.uuid) × (new.frame ≡ old.frame) × (new.page_size ≡ old.page_size) × (new.limit ≡ old.limit)
    × (length new.channels.items ≡ length old.channels.items)

-- a load into zeros of this table, as it was asked for, before the first byte
abbrev pub BeginsLoad : {F : Type 0} → Several F → RamTable → InPlaceLoad → Type 0
BeginsLoad several table load = StandsFor (settings_for several.frame several.page_size several.limit) several.uuid (zero_image table)
    (no_texts (length several.channels.items)) (zero_image table) load

-- Rounds and verdict are those of such a load, and the sink has taken records that make its memory.
abbrev pub HasLoadedAll : {F : Type 0} → Bytes → (RamTable → List PageRecord → Type 0) → RamTable → Several F → Type 0
HasLoadedAll all holds table several = HasLoadedTo holds (settings_for several.frame several.page_size several.limit) several.uuid table all
    (length several.channels.items) several.rounds several.verdict
