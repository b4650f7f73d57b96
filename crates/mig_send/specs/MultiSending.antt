-- A sender on several channels: the rounds that it has sent, and the bytes drained from it.
use Rattle.std.specs.Prelude.{ℕ, ◌≡◌, ◌+◌, ◌^◌, ◌≤◌, ◌<◌, List, [], ◌∷◌, ◌++◌, length, map, replicate, take, get_or, sum_by, All, Vec, ◌⊎◌, ◌==◌, if◌then◌else◌}
use Rattle.std.specs.List.{range_with_len}
use Rattle.mig_mem.specs.RamTable.{RamTable}
use Rattle.mig_mem.specs.Tracking.{Snapshot}
use Rattle.mig_stream.specs.Written.{FlushPart}
use Rattle.mig_stream.specs.Writer.{Writer, HasDrained}
use Rattle.mig_packet.specs.PageSize.{page_limit}
use Rattle.mig_send.specs.declared.fault.SendFault.{SendFault}
use Rattle.mig_send.specs.declared.fault.SendFault.TheVariants.{Channels, Limit, OtherTable, NoMemory}
use Rattle.mig_send.specs.DealtRounds.{DealtRound, IsDealtRound, AreNumbered, IsSetting, packet_count, channel_text}

-- ---- the sender

-- A sender: the main stream's writer, its setting, the bytes that it holds of the channels, and its
-- counts of packets and rounds.
pub record MultiSending : Type 0 where
  pub main : Writer
  pub uuid : List ℕ
  pub limit : ℕ
  pub channels : List (List ℕ)
  pub base : ℕ
  pub rounds : ℕ

-- the contents of some buffers
abbrev pub texts_of : {A : Type 0} → List (Vec ℕ A) → List (List ℕ)
texts_of channels = map (λ text. text.items) channels

-- channels' bytes, each cut to the length with its index
abbrev pub cut_texts : List ℕ → List (List ℕ) → List (List ℕ)
cut_texts [] texts = texts
cut_texts (len ∷ lens) [] = []
cut_texts (len ∷ lens) (text ∷ texts) = take len text ∷ cut_texts lens texts

-- The invariant of each: it was made within the limits, each round had a packet, and the packets
-- are numbered within 64 bits.
pub record IsMultiSending (sender : MultiSending) : Type 0 where
  pub is_set : IsSetting sender.main.table sender.uuid (length sender.channels) sender.limit
  pub has_rounds : sender.rounds ≤ sender.base
  pub has_base : sender.base < 2 ^ 64

-- the bytes drained from a sender: from its main stream, and from each channel
pub record Drained : Type 0 where
  pub main : List ℕ
  pub channel : ℕ → List ℕ

abbrev pub nothing_drained : Drained
nothing_drained = record { main = []; channel = λ _. [] }

-- The sender has sent these rounds, and these bytes of their streams were drained of it: each round
-- was dealt over its channels, with packets numbered from 0 on, its main stream has a FLUSH for
-- each, and its channels carry them.
pub record HasSentRounds (drained : Drained) (sender : MultiSending) (rounds : List DealtRound) : Type 0 where
  pub are_dealt : All (IsDealtRound sender.main.table sender.limit (length sender.channels)) rounds
  pub are_numbered : AreNumbered 0 rounds
  pub has_main : HasDrained drained.main sender.main (replicate (length rounds) FlushPart)
  pub has_texts : (channel : ℕ) → channel < length sender.channels
      → drained.channel channel ++ get_or sender.channels channel [] ≡ channel_text sender.uuid rounds channel
  pub has_base : sender.base ≡ sum_by packet_count rounds
  pub has_rounds : sender.rounds ≡ length rounds

-- all bytes of the channels: those drained from each, and the rest
abbrev pub whole_texts : Drained → List (List ℕ) → List (List ℕ)
whole_texts drained channels = map (λ channel. drained.channel channel ++ get_or channels channel []) (range_with_len 0 (length channels))

-- the sender keeps its table, UUID, limit and number of channels
pub record KeepsSetting (old new : MultiSending) : Type 0 where
  pub same_table : new.main.table ≡ old.main.table
  pub same_uuid : new.uuid ≡ old.uuid
  pub same_limit : new.limit ≡ old.limit
  pub as_many : length new.channels ≡ length old.channels

-- A sender that was drained keeps its setting, and its counts of packets and rounds.
pub record KeepsCounts (old new : MultiSending) : Type 0 where
  pub same_setting : KeepsSetting old new
  pub same_base : new.base ≡ old.base
  pub same_rounds : new.rounds ≡ old.rounds

-- the bytes drained, and these bytes of the main stream, or of a channel
abbrev pub with_main : Drained → List ℕ → Drained
with_main drained bytes = record drained { main = drained.main ++ bytes }

abbrev pub with_channel : Drained → ℕ → List ℕ → Drained
with_channel drained channel bytes = record drained { channel = λ other. if other == channel then drained.channel other ++ bytes else drained.channel other }

-- The sender has sent one more round, of this image and its dirty places. It was dealt over its
-- channels. Its packets are numbered from the sender's count of packets on, and that count rises by
-- a packet for each batch and one for each channel.
pub record HasSentOne (snapshot : Snapshot) (old new : MultiSending) : Type 0 where
  pub round : DealtRound
  pub is_of : round.snapshot ≡ snapshot
  pub is_dealt : IsDealtRound old.main.table old.limit (length old.channels) round
  pub goes_on : round.base ≡ old.base
  pub has_base : new.base ≡ old.base + packet_count round
  pub has_rounds : new.rounds ≡ old.rounds + 1
  pub has_sent : (drained : Drained) (rounds : List DealtRound) → HasSentRounds drained old rounds → HasSentRounds drained new (rounds ++ round ∷ [])

-- ---- refusals

-- Why no sender can be created with these channels and this limit: the first reason that applies.
abbrev pub IsRefused : RamTable → ℕ → ℕ → SendFault → Type 0
IsRefused table channels limit Channels = (channels ≡ 0) ⊎ (255 < channels)
IsRefused table channels limit Limit = (0 < channels) × (channels ≤ 255) × ((limit ≡ 0) ⊎ (page_limit table.page_size < limit))
IsRefused table channels limit OtherTable = ⊥
IsRefused table channels limit NoMemory = (0 < channels) × (channels ≤ 255) × (0 < limit) × (limit ≤ page_limit table.page_size)
