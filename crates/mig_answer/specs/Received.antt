-- The items received of channels, and what they determine of the complete channels.
use Rattle.std.specs.Prelude.{ℕ, ◌≡◌, ◌≢◌, ◌≤◌, ◌<◌, ◌⊎◌, Bool, true, false, if◌then◌else◌, List, [], ◌∷◌, ◌++◌, length, map, flat_map, get_or, sum_by, Option, Some, None}
use Rattle.std.specs.List.{AllZip, count_by, range_with_len, enumerate_from}
use Rattle.mig_mem.specs.PageSize.{IsPageSize}
use Rattle.mig_packet.specs.Packet.{Fields}
use Rattle.mig_packet.specs.ChannelItems.{ChannelItem, Hello, Page, Stop, AreItems}
use Rattle.mig_packet.specs.Reading.{ChannelReading, Settings, IsReading}
use Rattle.mig_load_types.specs.Settings.{channel_of}
use Rattle.mig_load_types.specs.declared.settings.LoadSettings.{LoadSettings}
use Rattle.mig_load_types.specs.declared.fault.Fault.TheVariants as fault
use Rattle.mig_load_types.specs.declared.fault.Origin.TheVariants as origin
use Rattle.mig_answer.specs.declared.status.Status.{Status}
use Rattle.mig_answer.specs.declared.status.Status.TheVariants.{Clean, Bad, Pending}
use Rattle.mig_answer.specs.Status.{status_at, channel_status}
use Rattle.mig_answer.specs.Texts.{Readings, AreReadings, ended_texts}
use Rattle.mig_answer.specs.Rounds.{channel_packets_at, packets_at, base_at}
use Rattle.mig_answer.specs.MultiLoad.{Standing, channels_at, hello_ids}

-- ---- the reading of items

-- an item ends a round: it is a SYNC packet
abbrev pub ends_round : ChannelItem → Bool
ends_round (Hello id) = false
ends_round (Page packet) = packet.sync
ends_round (Stop end) = false

-- how many SYNC packets there are, and so how many complete rounds
abbrev pub round_count : List ChannelItem → ℕ
round_count items = count_by ends_round items

-- a packet in front of the first round; if no round is complete, none begins with it
abbrev pub before_rounds : Fields → List (List Fields) → List (List Fields)
before_rounds packet [] = []
before_rounds packet (round ∷ rounds) = (packet ∷ round) ∷ rounds

-- the complete rounds: a SYNC packet ends its round, and any other belongs to the round of the
-- packet after it
abbrev pub rounds_in : List ChannelItem → List (List Fields)
rounds_in [] = []
rounds_in (Hello id ∷ items) = rounds_in items
rounds_in (Page packet ∷ items) = if packet.sync then (packet ∷ []) ∷ rounds_in items else before_rounds packet (rounds_in items)
rounds_in (Stop end ∷ items) = rounds_in items

-- the id in the hello, which is the first item
abbrev pub hello_in : List ChannelItem → Option ℕ
hello_in [] = None
hello_in (Hello id ∷ items) = Some id
hello_in (Page packet ∷ items) = None
hello_in (Stop end ∷ items) = None

-- the status of a channel after its complete rounds, by its stop; pending if there is no stop
abbrev pub end_in : List ChannelItem → Status
end_in [] = Pending
end_in (Hello id ∷ items) = end_in items
end_in (Page packet ∷ items) = end_in items
end_in (Stop None ∷ items) = Clean
end_in (Stop (Some f) ∷ items) = Bad (fault.Channel f)

-- the status of a channel at round k, and its packets of that round
abbrev pub status_in : ℕ → List ChannelItem → Status
status_in k items = status_at k (round_count items) (end_in items)

abbrev pub channel_packets_in : ℕ → List ChannelItem → List Fields
channel_packets_in k items = get_or (rounds_in items) k []

-- ---- one channel

-- the first of some items are these
pub record IsFront (front items : List ChannelItem) : Type 0 where
  pub rest : List ChannelItem
  pub has_rest : items ≡ front ++ rest

-- enough of some items was received to know round k: its SYNC packet, or all
abbrev pub AreEnough : ℕ → List ChannelItem → List ChannelItem → Type 0
AreEnough k received items = (k < round_count received) ⊎ (received ≡ items)

-- The items of a channel agree, up to round k, with the reading of its bytes: the hello, the status
-- at that round, and the packets.
pub record TellsChannel (page_size k : ℕ) (received : List ChannelItem) (reading : ChannelReading) : Type 0 where
  pub has_hello : hello_in received ≡ reading.hello
  pub has_status : status_in k received ≡ channel_status k reading
  pub has_packets : (i : ℕ) → i ≤ k → channel_packets_in i received ≡ channel_packets_at page_size i reading

-- A prefix of a channel's items that decides a round agrees on it with the complete channel.
abbrev pub FrontTellsChannel : Type 0
FrontTellsChannel = (given : Settings) (k : ℕ) (text : List ℕ) (items received : List ChannelItem) (reading : ChannelReading) → IsPageSize given.page_size
    → AreItems given text items → IsReading given text true reading → IsFront received items → AreEnough k received items
    → TellsChannel given.page_size k received reading

-- A front of a channel's items has the stop exactly if it is all of them.
abbrev pub StopIsLast : Type 0
StopIsLast = (given : Settings) (text : List ℕ) (items received : List ChannelItem) → IsPageSize given.page_size
    → AreItems given text items → IsFront received items
    → (end_in received ≢ Pending → received ≡ items) × (received ≡ items → end_in received ≢ Pending)

-- Items have as many complete rounds as SYNC packets.
abbrev pub RoundsAreCounted : Type 0
RoundsAreCounted = (items : List ChannelItem) → length (rounds_in items) ≡ round_count items

-- ---- all channels together

-- enough of a channel was received to know round k
pub record IsEnough (given : Settings) (k : ℕ) (text : List ℕ) (received : List ChannelItem) : Type 0 where
  pub items : List ChannelItem
  pub are_items : AreItems given text items
  pub is_front : IsFront received items
  pub settles : AreEnough k received items

-- the channels at round k, each by its index
abbrev pub channels_in : ℕ → List (List ChannelItem) → List Standing
channels_in k received = map (λ c. record { source = origin.Channel c.0; status = status_in k c.1 }) (enumerate_from 0 received)

-- the packets of all channels' round k
abbrev pub packets_in : ℕ → List (List ChannelItem) → List Fields
packets_in k received = flat_map (channel_packets_in k) received

-- how many packets there are of the rounds before round k
abbrev pub base_in : ℕ → List (List ChannelItem) → ℕ
base_in k received = sum_by (λ i. length (packets_in i received)) (range_with_len 0 k)

-- The items received of the channels agree, up to round k, with the readings: the channels'
-- statuses at that round, the ids in the hellos, the packets of each round up to it, and their
-- number before it. The main stream isn't included.
pub record TellsAllChannels (page_size k : ℕ) (received : List (List ChannelItem)) (readings : Readings) : Type 0 where
  pub has_channels : channels_in k received ≡ channels_at k readings
  pub has_hellos : map hello_in received ≡ hello_ids readings
  pub has_packets : (i : ℕ) → i ≤ k → packets_in i received ≡ packets_at page_size i readings
  pub has_base : base_in k received ≡ base_at k readings

-- If enough was received of each channel to know a round, the items agree with the readings of the
-- complete channels.
abbrev pub FrontsTellAllChannels : Type 0
FrontsTellAllChannels = (given : LoadSettings) (uuid : List ℕ) (k : ℕ) (main : List ℕ) (channels : List (List ℕ)) (received : List (List ChannelItem)) (readings : Readings)
    → IsPageSize given.page_size → AreReadings given uuid (ended_texts main channels) readings
    → AllZip (IsEnough (channel_of given uuid (length channels)) k) channels received → TellsAllChannels given.page_size k received readings
