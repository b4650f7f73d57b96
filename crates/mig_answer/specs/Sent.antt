-- A load of what a sender on several channels has sent.
use Rattle.std.specs.Prelude.{ℕ, ◌≡◌, ◌+◌, ◌*◌, ◌≤◌, ◌<◌, List, ◌++◌, length, map, Option, Some, Ok, IfSome, IsPermutation, All}
use Rattle.mig_mem.specs.RamTable.{RamTable}
use Rattle.mig_mem.specs.Image.{Page}
use Rattle.mig_mem.specs.Round.{after}
use Rattle.mig_mem.specs.Tracking.{rounds_of}
use Rattle.mig_stream.specs.declared.item.Frame.TheVariants.{Ram, Machine}
use Rattle.mig_stream.specs.Format.{most_name_bytes}
use Rattle.mig_stream.specs.Text.{total_bytes}
use Rattle.mig_stream.specs.Written.{single}
use Rattle.mig_packet.specs.Waiting.{IsWithin}
use Rattle.mig_send.specs.DealtRounds.{DealtRound, IsSending, IsMachineSending}
use Rattle.mig_send.specs.ReadBack.{channel_told}
use Rattle.mig_load_types.specs.Settings.{ram_settings}
use Rattle.mig_load_types.specs.declared.loaded.Loaded.{Loaded}
use Rattle.mig_load_types.specs.declared.settings.LoadSettings.{LoadSettings}
use Rattle.mig_load_types.specs.declared.settings.RoundEnd.TheVariants.{Flush as by_flush}
use Rattle.mig_answer.specs.declared.verdict.Verdict.TheVariants.{Done}
use Rattle.mig_single_load.specs.SingleLoad.{IsSingleAnswer}
use Rattle.mig_answer.specs.Texts.{ended_texts}
use Rattle.mig_answer.specs.MultiLoad.{Answer, IsAnswer}

-- The streams are those of a sending of these rounds, with this UUID and some batch limit: its main
-- stream, and its channels in any order.
pub record IsSentInAnyOrder (table : RamTable) (uuid : List ℕ) (rounds : List DealtRound) (main : List ℕ) (channels : List (List ℕ)) : Type 0 where
  pub batch_limit : ℕ
  pub in_order : List (List ℕ)
  pub is_sending : IsSending table uuid batch_limit (length channels) rounds main in_order
  pub is_permutation : IsPermutation in_order channels

-- the pages of the rounds that were dealt, as a single stream would send them
abbrev pub sent_rounds : List DealtRound → List (List Page)
sent_rounds rounds = rounds_of (map (λ round. round.snapshot) rounds)

-- The answer on the streams of some rounds: done, with all of them, and the memory after them.
abbrev pub sent_answer : RamTable → List DealtRound → Answer
sent_answer table rounds = record { memory = Some (after table (sent_rounds rounds)); rounds = length rounds; verdict = Done }

-- The streams that were sent are loaded, for any table, rounds, batch limit, number of channels and
-- their order, and whichever worker sent what.
abbrev pub SendingsAreLoaded : Type 0
SendingsAreLoaded = (table : RamTable) (uuid : List ℕ) (limit : ℕ) (rounds : List DealtRound) (main : List ℕ) (channels : List (List ℕ)) (answer : Answer)
    → IsSentInAnyOrder table uuid rounds main channels → total_bytes table ≤ limit
    → IsAnswer (ram_settings table.page_size limit) uuid (ended_texts main channels) answer → answer ≡ sent_answer table rounds

-- Rounds are let through by a limit on what waits: no channel carries more packets and pages of
-- one.
abbrev pub LetsChannelsThrough : Option ℕ → ℕ → List DealtRound → Type 0
LetsChannelsThrough waiting channels rounds = (channel : ℕ) → channel < channels → All (IsWithin waiting) (channel_told rounds channel).rounds

-- A limit of one more than twice a round's pages lets it through, however it was dealt.
abbrev pub TwiceThePagesLetThrough : Type 0
TwiceThePagesLetThrough = (table : RamTable) (uuid : List ℕ) (rounds : List DealtRound) (main : List ℕ) (channels : List (List ℕ)) (limit : ℕ) → IsSentInAnyOrder table uuid rounds main channels
    → All (λ round. 2 * length round.snapshot.dirty + 1 ≤ limit) rounds → LetsChannelsThrough (Some limit) (length channels) rounds

-- The streams are those of a sending, the channels in any order, and anything may follow the end
-- byte in the main stream.
pub record IsSentBefore (table : RamTable) (uuid : List ℕ) (rounds : List DealtRound) (main : List ℕ) (channels : List (List ℕ)) : Type 0 where
  pub ram : List ℕ
  pub behind : List ℕ
  pub has_main : main ≡ ram ++ behind
  pub is_sent : IsSentInAnyOrder table uuid rounds ram channels

-- They are loaded whatever follows, and within a limit that lets the rounds through.
abbrev pub SendingsAreLoadedWithin : Type 0
SendingsAreLoadedWithin = (given : LoadSettings) (table : RamTable) (uuid : List ℕ) (rounds : List DealtRound) (main : List ℕ) (channels : List (List ℕ)) (answer : Answer)
    → given.frame ≡ Ram → LetsChannelsThrough given.waiting (length channels) rounds → given.round_end ≡ by_flush → table.page_size ≡ given.page_size → total_bytes table ≤ given.limit
    → IsSentBefore table uuid rounds main channels → IsAnswer given uuid (ended_texts main channels) answer → answer ≡ sent_answer table rounds

-- The streams are those of a sending in a machine's stream, with its name or without one. The
-- channels are in any order, and anything may follow RAM's END in the main stream.
pub record IsMachineSentInAnyOrder (table : RamTable) (uuid : List ℕ) (rounds : List DealtRound) (main : List ℕ) (channels : List (List ℕ)) : Type 0 where
  pub batch_limit : ℕ
  pub name : Option (List ℕ)
  pub has_name : IfSome name (λ bytes. length bytes ≤ most_name_bytes)
  pub ram : List ℕ
  pub behind : List ℕ
  pub has_main : main ≡ ram ++ behind
  pub in_order : List (List ℕ)
  pub is_sending : IsMachineSending name table uuid batch_limit (length channels) rounds ram in_order
  pub is_permutation : IsPermutation in_order channels

-- The streams that were sent with a machine are loaded in a machine's frame, with the answer on the
-- streams without one, within a limit that lets the rounds through.
abbrev pub MachineSendingsAreLoaded : Type 0
MachineSendingsAreLoaded = (given : LoadSettings) (table : RamTable) (uuid : List ℕ) (rounds : List DealtRound) (main : List ℕ) (channels : List (List ℕ)) (answer : Answer)
    → given.frame ≡ Machine → LetsChannelsThrough given.waiting (length channels) rounds → given.round_end ≡ by_flush → table.page_size ≡ given.page_size → total_bytes table ≤ given.limit → IsMachineSentInAnyOrder table uuid rounds main channels
    → IsAnswer given uuid (ended_texts main channels) answer → answer ≡ sent_answer table rounds

-- a load of several channels and one of a single stream gave the same memory, and both are Ok; a
-- single stream has two sections more, START and END
abbrev pub AgreesWith : {A : Type 0} → Answer → Loaded A → Type 0
AgreesWith answer alone = (answer.memory ≡ alone.memory) × (answer.rounds + 2 ≡ alone.rounds) × (answer.verdict ≡ Done) × (alone.verdict ≡ Ok _)

-- The load of the streams sent agrees with the load of the single stream of these rounds.
abbrev pub ChannelsLoadAsOneStream : Type 0 → Type 0
ChannelsLoadAsOneStream A = (table : RamTable) (uuid : List ℕ) (limit limit_alone : ℕ) (rounds : List DealtRound) (main : List ℕ) (channels : List (List ℕ)) (answer : Answer) (alone : Loaded A)
    → IsSentInAnyOrder table uuid rounds main channels → total_bytes table ≤ limit → total_bytes table ≤ limit_alone
    → IsAnswer (ram_settings table.page_size limit) uuid (ended_texts main channels) answer
    → IsSingleAnswer (ram_settings table.page_size limit_alone) (single table (sent_rounds rounds)) alone → AgreesWith answer alone
