-- Streams with more bytes, and which of their answers stay.
use Rattle.std.specs.Prelude.{ℕ, ◌≡◌, ◌≢◌, ◌≤◌, true, List, ◌++◌}
use Rattle.std.specs.List.{AllZip}
use Rattle.mig_mem.specs.PageSize.{IsPageSize}
use Rattle.mig_load_types.specs.declared.settings.LoadSettings.{LoadSettings}
use Rattle.mig_answer.specs.declared.verdict.Verdict.TheVariants.{Running}
use Rattle.mig_answer.specs.Texts.{Text, Texts}
use Rattle.mig_answer.specs.MultiLoad.{Answer, IsAnswer, IsWithoutMemory}

-- A stream was continued to another: bytes have followed, or it has ended, or both. One that had
-- ended is unchanged.
pub record GoesOn (old new : Text) : Type 0 where
  pub more : List ℕ
  pub has_bytes : new.bytes ≡ old.bytes ++ more
  pub stays_ended : old.ended ≡ true → new ≡ old

-- each stream was continued
pub record GoOn (old new : Texts) : Type 0 where
  pub main : GoesOn old.main new.main
  pub channels : AllZip GoesOn old.channels new.channels

-- An answer other than `Running` stays the answer, whatever bytes follow.
abbrev pub AnswersStay : Type 0
AnswersStay = (given : LoadSettings) (uuid : List ℕ) (old new : Texts) (answer : Answer) → IsPageSize given.page_size → GoOn old new
    → IsAnswer given uuid old answer → answer.verdict ≢ Running → IsAnswer given uuid new answer

-- An answer without memory stays the answer, whatever bytes follow.
abbrev pub WithoutMemoryStays : Type 0
WithoutMemoryStays = (given : LoadSettings) (uuid : List ℕ) (old new : Texts) (answer : Answer) → IsPageSize given.page_size → GoOn old new
    → IsWithoutMemory given uuid old answer → IsWithoutMemory given uuid new answer

-- Rounds that were counted stay counted.
abbrev pub RoundsStay : Type 0
RoundsStay = (given : LoadSettings) (uuid : List ℕ) (old new : Texts) (before after : Answer) → IsPageSize given.page_size → GoOn old new
    → IsAnswer given uuid old before → IsAnswer given uuid new after → before.rounds ≤ after.rounds
