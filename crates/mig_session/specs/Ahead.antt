-- Streams of which bytes wait, since their sources have the round that is judged next.
use Rattle.std.specs.Prelude.{ℕ, ◌≡◌, ◌⊎◌, false, List, [], ◌∷◌, Some, ⊤}
use Rattle.mig_mem.specs.PageSize.{IsPageSize}
use Rattle.mig_mem.specs.Image.{Image}
use Rattle.mig_packet.specs.Reading.{ChannelReading}
use Rattle.mig_load_types.specs.declared.settings.LoadSettings.{LoadSettings}
use Rattle.mig_answer.specs.declared.verdict.Verdict.TheVariants.{Running}
use Rattle.mig_answer.specs.Status.{main_status, channel_status, is_pending}
use Rattle.mig_answer.specs.Texts.{Text, Texts, Readings}
use Rattle.mig_answer.specs.MultiLoad.{Answer, IsAnswer}
use Rattle.mig_answer.specs.Growing.{GoOn}

-- the main stream has no more bytes, or has round k, or is over
abbrev pub MainWaits : ℕ → Texts → Texts → Readings → Type 0
MainWaits k old new before = (new.main ≡ old.main) ⊎ (is_pending (main_status k before.main) ≡ false)

-- so has each channel
abbrev pub Wait : ℕ → List Text → List Text → List ChannelReading → Type 0
Wait k [] news befores = ⊤
Wait k (old ∷ olds) [] befores = ⊤
Wait k (old ∷ olds) (new ∷ news) [] = ⊤
Wait k (old ∷ olds) (new ∷ news) (before ∷ befores) = ((new ≡ old) ⊎ (is_pending (channel_status k before) ≡ false)) × Wait k olds news befores

-- As long as a load runs, bytes of sources that have the round judged next, or are over, change no
-- answer.
abbrev pub AnswersAhead : Type 0
AnswersAhead = (given : LoadSettings) (uuid : List ℕ) (old new : Texts) (answer : Answer) (memory : Image) → IsPageSize given.page_size → GoOn old new
    → (is : IsAnswer given uuid old answer) → answer.verdict ≡ Running → answer.memory ≡ Some memory
    → MainWaits answer.rounds old new is.readings → Wait answer.rounds old.channels new.channels is.readings.channels → IsAnswer given uuid new answer
