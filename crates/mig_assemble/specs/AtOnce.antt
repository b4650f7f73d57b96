-- Private: a complete round, judged as if its parts arrived one after another.
use Rattle.std.specs.Prelude.{ℕ, List, ◌∷◌, map, take}
use Rattle.std.specs.List.{All}
use Rattle.mig_mem.specs.RamTable.{RamTable}
use Rattle.mig_mem.specs.Image.{Page}
use Rattle.mig_packet.specs.declared.packet.Packet.{Packet}
use Rattle.mig_packet.specs.PageSize.{head_len}
use Rattle.mig_packet.specs.PacketHead.{as_zeros}
use Rattle.mig_assemble.specs.declared.judge.Placed.{Placed}
use Rattle.mig_assemble.specs.Arrivals.{Arrival, Records, OnePacket}
use Rattle.mig_assemble.specs.HeadPlaces.{Lie}

-- the head of a packet
abbrev pub head_of : Packet → List ℕ
head_of p = take (head_len p.page_size) p.bytes.now

-- the arrivals of a round: its records, and then its packets, by their heads
abbrev pub came_at_once : List Page → List Packet → List Arrival
came_at_once records packets = Records records ∷ map (λ p. OnePacket (as_zeros (head_of p))) packets

-- the packets, and where the pages of each are
abbrev pub packets_of : List Placed → List Packet
packets_of placed = map (λ x. x.packet) placed

abbrev pub LieEach : RamTable → List Placed → Type 0
LieEach table placed = All (λ x. Lie table (head_of x.packet) x.pages) placed
