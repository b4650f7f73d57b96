-- The fields of the packets of a dealt round, and that they are a lawful round with the dealt
-- pages.
use Rattle.std.specs.Prelude.{ℕ, ◌≡◌, ◌+◌, ◌≤◌, ◌^◌, List, [], length, map, flat_map, None}
use Rattle.mig_mem.specs.RamTable.{RamTable}
use Rattle.mig_mem.specs.Image.{Page, Image}
use Rattle.mig_mem.specs.Round.{round_of, with_round}
use Rattle.mig_packet.specs.PageSize.{page_limit}
use Rattle.mig_packet.specs.Packet.{Fields, fields_of}
use Rattle.mig_send.specs.Work.{Share}
use Rattle.mig_send.specs.DealtRounds.{DealtRound, IsDealtRound, packet_count}
use Rattle.mig_send.specs.ReadBack.{share_packets}
use Rattle.mig_assemble.specs.Judging.{refusal, all_round_pages}

-- the fields of the packets that a channel carries of a round, by its share
abbrev pub share_fields : DealtRound → Share → List Fields
share_fields round share =
    map (fields_of round.snapshot.image.table.page_size) (share_packets round.base round.snapshot.image round.batches share)

-- the fields of the packets of all channels, channel after channel
abbrev pub dealt_fields : DealtRound → List Fields
dealt_fields round = flat_map (share_fields round) round.shares

-- their pages, if there is no page record with them
abbrev pub dealt_pages : RamTable → DealtRound → List Page
dealt_pages table round = all_round_pages table [] (dealt_fields round)

-- The packets of a round, without any page record, are a lawful round from the round's base on.
-- Their number is the round's. Applied to any memory they give the same as the round of its
-- snapshot.
pub record BringTheRound (table : RamTable) (round : DealtRound) : Type 0 where
  pub are_lawful : refusal table round.base [] (dealt_fields round) ≡ None
  pub as_many : length (dealt_fields round) ≡ packet_count round
  pub same_memory : (m : Image) → with_round m (dealt_pages table round) ≡ with_round m (round_of round.snapshot.image round.snapshot.dirty)

-- However a round was dealt, its packets are it, if a packet has room for a batch and its number.
abbrev pub DealtRoundsAreLawful : Type 0
DealtRoundsAreLawful = (table : RamTable) (limit channels : ℕ) (round : DealtRound) → limit ≤ page_limit table.page_size
    → round.base + packet_count round ≤ 2 ^ 64 → IsDealtRound table limit channels round → BringTheRound table round
