-- Properties of the answers of loads on several channels, whatever code returns them.
use Rattle.std.specs.Prelude.{ℕ, ◌≡◌, ◌≢◌, ◌≤◌, ◌<◌, ◌^◌, true, List, length, All}
use Rattle.mig_mem.specs.PageSize.{IsPageSize}
use Rattle.mig_load_types.specs.declared.settings.LoadSettings.{LoadSettings}
use Rattle.mig_load_types.specs.declared.settings.RoundEnd.{RoundEnd}
use Rattle.mig_load_types.specs.declared.settings.RoundEnd.TheVariants.{Flush, Eos}
use Rattle.mig_answer.specs.declared.verdict.Verdict.TheVariants.{Running, Done}
use Rattle.mig_answer.specs.Texts.{Texts}
use Rattle.mig_answer.specs.MultiLoad.{Answer, IsAnswer}

-- Any streams so far have exactly one answer.
abbrev pub HasOneAnswer : Type 0
HasOneAnswer = (given : LoadSettings) (uuid : List ℕ) (texts : Texts) → IsPageSize given.page_size
    → (answer : Answer) × IsAnswer given uuid texts answer
    × ((other : Answer) → IsAnswer given uuid texts other → other ≡ answer)

-- all streams have ended
abbrev pub HaveEnded : Texts → Type 0
HaveEnded texts = (texts.main.ended ≡ true) × All (λ text. text.ended ≡ true) texts.channels

-- The answer on streams that have ended is done or a fault.
abbrev pub EndedTextsAreJudged : Type 0
EndedTextsAreJudged = (given : LoadSettings) (uuid : List ℕ) (texts : Texts) (answer : Answer) → IsPageSize given.page_size → HaveEnded texts
    → IsAnswer given uuid texts answer → answer.verdict ≢ Running

-- these settings, with this end of a main stream's rounds
abbrev pub ending : RoundEnd → LoadSettings → LoadSettings
ending round_end given = record given { round_end = round_end }

-- Streams that are done where a FLUSH alone ends a main stream's rounds aren't done where each EOS
-- ends one too: then the main stream has more rounds, and the channels have as many as before. So a
-- wrong setting is never taken for a complete load.
abbrev pub DoneByOneRoundEnd : Type 0
DoneByOneRoundEnd = (given : LoadSettings) (uuid : List ℕ) (texts : Texts) (by_flush by_eos : Answer) → IsPageSize given.page_size → given.limit ≤ 2 ^ 40
    → All (λ byte. byte < 2 ^ 8) texts.main.bytes → 1 ≤ length texts.channels
    → IsAnswer (ending Flush given) uuid texts by_flush → by_flush.verdict ≡ Done → IsAnswer (ending Eos given) uuid texts by_eos → by_eos.verdict ≢ Done
