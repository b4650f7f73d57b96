-- The head of a packet: the bytes before its pages.
use Rattle.std.specs.Prelude.{◌≡◌, ℕ, ◌+◌, List, [], length, map, None}
use Rattle.std.specs.List.{range_with_len}
use Rattle.mig_packet.specs.PageSize.{head_len}
use Rattle.mig_packet.specs.Faults.{first_of}
use Rattle.mig_packet.specs.Packet.{Fields, number_in, is_sync, id_in, normal_count, zero_count, offset_at, packet_faults}

-- The bytes are a complete head without a fault.
pub record IsPacketHead (page_size : ℕ) (bytes : List ℕ) : Type 0 where
  pub has_length : length bytes ≡ head_len page_size
  pub has_no_fault : first_of (packet_faults page_size bytes) ≡ None

-- the offsets of a packet's pages, which its head names
abbrev pub offsets_in : List ℕ → List ℕ
offsets_in head = map (offset_at head) (range_with_len 0 (normal_count head + zero_count head))

-- the packet of a head with zeros for all its pages: its number, its id and its places are those of
-- each packet that has this head
abbrev pub as_zeros : List ℕ → Fields
as_zeros head = record { number = number_in head; sync = is_sync head; id = id_in head; normal = []; zero = offsets_in head }
