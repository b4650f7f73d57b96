-- Rounds that are dealt over several channels, and their streams.
use Rattle.std.specs.Prelude.{ℕ, ◌≡◌, ◌+◌, ◌^◌, ◌≤◌, ◌<◌, List, [], ◌∷◌, ◌++◌, length, map, flat_map, replicate, get_or, sum_by, All, Option, ⊤}
use Rattle.std.specs.List.{range_with_len}
use Rattle.mig_mem.specs.RamTable.{RamTable, IsTable}
use Rattle.mig_mem.specs.Image.{IsImage}
use Rattle.mig_mem.specs.PlaceSet.{IsPlaceSet}
use Rattle.mig_mem.specs.Tracking.{Snapshot}
use Rattle.mig_stream.specs.Written.{FlushPart, main}
use Rattle.mig_stream.specs.MachineWritten.{machine_written}
use Rattle.mig_packet.specs.PageSize.{page_limit}
use Rattle.mig_packet.specs.Hello.{written_hello}
use Rattle.mig_send.specs.Batches.{BatchOfPages, IsCut}
use Rattle.mig_send.specs.Work.{Share}
use Rattle.mig_send.specs.Dealing.{IsDealing, share_text}

-- ---- a round on several channels

-- A round as it was dealt: the image with its dirty places, the batches that these were cut into,
-- the number of its first packet, and the share of each channel.
pub record DealtRound : Type 0 where
  pub snapshot : Snapshot
  pub batches : List BatchOfPages
  pub base : ℕ
  pub shares : List Share

-- The image and the dirty places are of the table, the batches are those of these places, and the
-- shares deal them over `channels` channels.
pub record IsDealtRound (table : RamTable) (limit channels : ℕ) (round : DealtRound) : Type 0 where
  pub has_image : IsImage round.snapshot.image
  pub has_table : round.snapshot.image.table ≡ table
  pub has_places : IsPlaceSet record { table = table; marked = round.snapshot.dirty }
  pub has_batches : IsCut limit round.snapshot.dirty round.batches
  pub has_shares : IsDealing round.base (length round.batches) round.shares
  pub as_many : length round.shares ≡ channels

-- how many packets all channels have of a round: one for each batch, and a SYNC packet each
abbrev pub packet_count : DealtRound → ℕ
packet_count round = length round.batches + length round.shares

-- packets are numbered consecutively from round to round
abbrev pub AreNumbered : ℕ → List DealtRound → Type 0
AreNumbered from [] = ⊤
AreNumbered from (round ∷ rounds) = (round.base ≡ from) × AreNumbered (from + packet_count round) rounds

-- ---- the streams

abbrev pub no_share : Share
no_share = record { numbers = []; last = 0 }

-- a channel's part of a round: the bytes sent of its share
abbrev pub round_text : ℕ → DealtRound → List ℕ
round_text channel round = share_text round.base round.snapshot.image round.batches (get_or round.shares channel no_share)

-- a channel's bytes: its hello, and then its part of each round
abbrev pub channel_text : List ℕ → List DealtRound → ℕ → List ℕ
channel_text uuid rounds channel = written_hello uuid channel ++ flat_map (round_text channel) rounds

-- the bytes of all channels, channel 0 first
abbrev pub channel_texts : List ℕ → ℕ → List DealtRound → List (List ℕ)
channel_texts uuid channels rounds = map (channel_text uuid rounds) (range_with_len 0 channels)

-- ---- a sending

-- The setting of a sender: a lawful table, a UUID of 16 bytes, 1 to 255 channels, and a batch limit
-- for which a packet has room.
pub record IsSetting (table : RamTable) (uuid : List ℕ) (channels limit : ℕ) : Type 0 where
  pub has_table : IsTable table
  pub has_uuid : length uuid ≡ 16
  pub has_channels : (0 < channels) × (channels ≤ 255)
  pub has_limit : (0 < limit) × (limit ≤ page_limit table.page_size)

-- The streams of some rounds. Each round was dealt, and their packets are numbered from 0 on within
-- 64 bits. The main stream has a FLUSH for each, and each channel its hello and its part of each.
pub record IsSending (table : RamTable) (uuid : List ℕ) (limit channels : ℕ) (rounds : List DealtRound) (main_text : List ℕ) (texts : List (List ℕ)) : Type 0 where
  pub is_set : IsSetting table uuid channels limit
  pub are_dealt : All (IsDealtRound table limit channels) rounds
  pub are_numbered : AreNumbered 0 rounds
  pub numbers_fit : sum_by packet_count rounds < 2 ^ 64
  pub has_main : main_text ≡ main table (length rounds)
  pub has_texts : texts ≡ channel_texts uuid channels rounds

-- The streams of some rounds with a machine's main stream of this name, up to the footer of RAM's
-- END. The channels carry what they carry of a sending.
pub record IsMachineSending (name : Option (List ℕ)) (table : RamTable) (uuid : List ℕ) (limit channels : ℕ) (rounds : List DealtRound) (main_text : List ℕ) (texts : List (List ℕ)) : Type 0 where
  pub is_sending : IsSending table uuid limit channels rounds (main table (length rounds)) texts
  pub has_main : main_text ≡ machine_written name table (replicate (length rounds) FlushPart)
