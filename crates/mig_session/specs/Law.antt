-- What follows from the definition of a session for the streams of our senders.
use Rattle.std.specs.Prelude.{ℕ, ◌≡◌, ◌≤◌, List, length}
use Rattle.mig_mem.specs.RamTable.{RamTable}
use Rattle.mig_stream.specs.declared.item.Frame.TheVariants.{Ram, Machine}
use Rattle.mig_stream.specs.Text.{total_bytes}
use Rattle.mig_send.specs.DealtRounds.{DealtRound}
use Rattle.mig_load_types.specs.Settings.{ram_settings}
use Rattle.mig_load_types.specs.declared.settings.LoadSettings.{LoadSettings}
use Rattle.mig_load_types.specs.declared.settings.RoundEnd.TheVariants.{Flush as by_flush}
use Rattle.mig_answer.specs.Texts.{ended_texts}
use Rattle.mig_answer.specs.Sent.{LetsChannelsThrough, IsSentInAnyOrder, IsSentBefore, IsMachineSentInAnyOrder, sent_answer}
use Rattle.mig_session.specs.Session.{LoadSession, StandsFor, answer_in}

-- The streams of a sender on several channels, fed in any pieces and order, are loaded by any
-- session.
abbrev pub SentIsLoadedInPieces : Type 0
SentIsLoadedInPieces = (s : LoadSession) (table : RamTable) (uuid : List ℕ) (limit : ℕ) (rounds : List DealtRound) (main : List ℕ) (channels : List (List ℕ))
    → IsSentInAnyOrder table uuid rounds main channels → total_bytes table ≤ limit
    → StandsFor (ram_settings table.page_size limit) uuid (ended_texts main channels) s → answer_in s ≡ sent_answer table rounds

-- So they are whatever follows the end byte, and within a limit that lets the rounds through.
abbrev pub SentIsLoadedWithin : Type 0
SentIsLoadedWithin = (s : LoadSession) (given : LoadSettings) (table : RamTable) (uuid : List ℕ) (rounds : List DealtRound) (main : List ℕ)
    (channels : List (List ℕ))
    → given.frame ≡ Ram → LetsChannelsThrough given.waiting (length channels) rounds → given.round_end ≡ by_flush → table.page_size ≡ given.page_size
    → total_bytes table ≤ given.limit
    → IsSentBefore table uuid rounds main channels → StandsFor given uuid (ended_texts main channels) s → answer_in s ≡ sent_answer table rounds

-- The sender's streams with a machine's main stream are loaded, too, whatever follows RAM's END.
abbrev pub MachineSentIsLoadedInPieces : Type 0
MachineSentIsLoadedInPieces = (s : LoadSession) (given : LoadSettings) (table : RamTable) (uuid : List ℕ) (rounds : List DealtRound) (main : List ℕ)
    (channels : List (List ℕ))
    → given.frame ≡ Machine → LetsChannelsThrough given.waiting (length channels) rounds → given.round_end ≡ by_flush
    → table.page_size ≡ given.page_size → total_bytes table ≤ given.limit → IsMachineSentInAnyOrder table uuid rounds main channels
    → StandsFor given uuid (ended_texts main channels) s → answer_in s ≡ sent_answer table rounds
