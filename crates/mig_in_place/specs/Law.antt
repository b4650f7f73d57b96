-- Properties of each answer of a load in place.
use Rattle.std.specs.Prelude.{ℕ, ◌≡◌, ◌≢◌, ◌≤◌, Bool, List, length, map}
use Rattle.mig_mem.specs.RamTable.{IsTable}
use Rattle.mig_mem.specs.Image.{Image, IsImage}
use Rattle.mig_mem.specs.Round.{with_rounds}
use Rattle.mig_stream.specs.declared.item.Frame.TheVariants.{Ram, Machine}
use Rattle.mig_stream.specs.Text.{total_bytes}
use Rattle.mig_send.specs.DealtRounds.{DealtRound}
use Rattle.mig_load_types.specs.Settings.{ram_settings, for_table}
use Rattle.mig_load_types.specs.declared.fault.Origin.TheVariants as origin
use Rattle.mig_load_types.specs.declared.fault.Fault.TheVariants as fault
use Rattle.mig_load_types.specs.declared.settings.LoadSettings.{LoadSettings}
use Rattle.mig_load_types.specs.declared.settings.RoundEnd.TheVariants.{Flush as by_flush}
use Rattle.mig_answer.specs.declared.verdict.Verdict.{Verdict}
use Rattle.mig_answer.specs.declared.verdict.Verdict.TheVariants.{Running, Done}
use Rattle.mig_answer.specs.Texts.{Text, Texts, ended_text}
use Rattle.mig_answer.specs.Growing.{GoesOn, GoOn}
use Rattle.mig_answer.specs.MultiLoad.{Answer, IsAnswer, failed}
use Rattle.mig_answer.specs.Sent.{LetsChannelsThrough, IsSentBefore, IsSentInAnyOrder, IsMachineSentInAnyOrder, sent_rounds}
use Rattle.mig_sources.specs.declared.source.Source.{Source}
use Rattle.mig_sources.specs.Sources.{HasSource, counts_in, at_source}
use Rattle.mig_in_place.specs.Answer.{rounds_onto, IsInPlaceAnswer}
use Rattle.mig_in_place.specs.Session.{text_of, TakesBytes}

-- Rounds and verdict are those of any load on several channels, unless the stream has another
-- table.
abbrev pub InPlaceTellsAlike : Type 0
InPlaceTellsAlike = (given : LoadSettings) (uuid : List ℕ) (first : Image) (texts : Texts) (memory : Image) (rounds : ℕ) (verdict : Verdict) (answer : Answer) → IsTable first.table
    → IsInPlaceAnswer given uuid first texts memory rounds verdict → IsAnswer (for_table first.table given) uuid texts answer → verdict ≢ failed 0 origin.Main fault.OtherTable
    → (rounds ≡ answer.rounds) × (verdict ≡ answer.verdict)

-- If the load is done the memory has all rounds on top of its earlier content, and nothing else.
abbrev pub InPlaceDoneIsExact : Type 0
InPlaceDoneIsExact = (given : LoadSettings) (uuid : List ℕ) (first : Image) (texts : Texts) (memory : Image) (rounds : ℕ) → IsTable first.table → IsImage first → IsImage memory
    → (answer : IsInPlaceAnswer given uuid first texts memory rounds Done) → memory ≡ rounds_onto first rounds answer.readings

-- A load that is done stays so, with the same memory, whatever bytes follow.
abbrev pub InPlaceDoneStays : Type 0
InPlaceDoneStays = (given : LoadSettings) (uuid : List ℕ) (first : Image) (old new : Texts) (memory : Image) (rounds : ℕ) → IsTable first.table → IsImage first → IsImage memory
    → GoOn old new → IsInPlaceAnswer given uuid first old memory rounds Done → IsInPlaceAnswer given uuid first new memory rounds Done

-- Bytes of a source that aren't taken change no answer, nor does its end after them. So the answer
-- on the bytes taken is that on all bytes that the caller has.
abbrev pub WaitingBytesChangeNothing : Type 0
WaitingBytesChangeNothing = (given : LoadSettings) (uuid : List ℕ) (first : Image) (texts : Texts) (memory : Image) (rounds : ℕ) (from : Source) (new : Text) → IsTable first.table
    → GoesOn (text_of texts from) new → (TakesBytes (for_table first.table given) uuid rounds texts from → ⊥)
    → IsInPlaceAnswer given uuid first texts memory rounds Running → IsInPlaceAnswer given uuid first (at_source from (λ text. new) texts) memory rounds Running

-- As long as a load runs it takes bytes of some source, whatever bytes it has.
abbrev pub RunningTakesSome : Type 0
RunningTakesSome = (given : LoadSettings) (uuid : List ℕ) (first : Image) (texts : Texts) (memory : Image) (rounds : ℕ) → IsTable first.table
    → IsInPlaceAnswer given uuid first texts memory rounds Running → (from : Source) × HasSource (counts_in texts) from × TakesBytes (for_table first.table given) uuid rounds texts from

-- a sender's streams of which all was taken: the channels have ended, and the main stream, which
-- its own bytes close, may have
abbrev pub taken_texts : List ℕ → Bool → List (List ℕ) → Texts
taken_texts main ended channels = record { main = record { bytes = main; ended = ended }; channels = map ended_text channels }

-- The streams of a sender on several channels with the memory's table are loaded: the memory has
-- the rounds sent, on top of its earlier content. It doesn't matter whether the main stream was
-- ended.
abbrev pub SentIsLoadedInPlace : Type 0
SentIsLoadedInPlace = (uuid : List ℕ) (limit : ℕ) (first : Image) (rounds : List DealtRound) (main : List ℕ) (ended : Bool) (channels : List (List ℕ)) (memory : Image) (k : ℕ) (verdict : Verdict)
    → IsTable first.table → IsImage first → IsImage memory → IsSentInAnyOrder first.table uuid rounds main channels → total_bytes first.table ≤ limit
    → IsInPlaceAnswer (ram_settings first.table.page_size limit) uuid first (taken_texts main ended channels) memory k verdict
    → (verdict ≡ Done) × (k ≡ length rounds) × (memory ≡ with_rounds first (sent_rounds rounds))

-- So they are whatever follows the end byte, and within a limit that lets the rounds through.
abbrev pub SentIsLoadedWithin : Type 0
SentIsLoadedWithin = (given : LoadSettings) (uuid : List ℕ) (first : Image) (rounds : List DealtRound) (main : List ℕ) (ended : Bool) (channels : List (List ℕ)) (memory : Image) (k : ℕ) (verdict : Verdict)
    → IsTable first.table → IsImage first → IsImage memory → given.frame ≡ Ram → LetsChannelsThrough given.waiting (length channels) rounds → given.round_end ≡ by_flush
    → IsSentBefore first.table uuid rounds main channels → total_bytes first.table ≤ given.limit
    → IsInPlaceAnswer given uuid first (taken_texts main ended channels) memory k verdict
    → (verdict ≡ Done) × (k ≡ length rounds) × (memory ≡ with_rounds first (sent_rounds rounds))

-- The sender's streams with a machine's main stream are loaded in a machine's frame, whatever
-- follows RAM's END, and within a limit that lets the rounds through.
abbrev pub MachineSentIsLoadedInPlace : Type 0
MachineSentIsLoadedInPlace = (given : LoadSettings) (uuid : List ℕ) (first : Image) (rounds : List DealtRound) (main : List ℕ) (ended : Bool) (channels : List (List ℕ)) (memory : Image) (k : ℕ) (verdict : Verdict)
    → IsTable first.table → IsImage first → IsImage memory → given.frame ≡ Machine → LetsChannelsThrough given.waiting (length channels) rounds → given.round_end ≡ by_flush
    → IsMachineSentInAnyOrder first.table uuid rounds main channels → total_bytes first.table ≤ given.limit
    → IsInPlaceAnswer given uuid first (taken_texts main ended channels) memory k verdict
    → (verdict ≡ Done) × (k ≡ length rounds) × (memory ≡ with_rounds first (sent_rounds rounds))
