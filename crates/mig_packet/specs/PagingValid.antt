-- Up to where the bytes are valid that a reader of pages took: how many it took of an item that
-- isn't complete.
use Rattle.std.specs.Prelude.{ℕ, ◌+◌, ◌*◌, ◌==◌, if◌then◌else◌, List, length, Option, Some, None}
use Rattle.mig_packet.specs.Packet.{normal_count}

-- the bytes that were given of the packet that was begun, by its head and how many of its pages
-- were given; none of one that is complete
abbrev pub open_len : ℕ → Option (List ℕ × ℕ) → ℕ
open_len page_size None = 0
open_len page_size (Some packet) = if packet.1 == normal_count packet.0 then 0 else length packet.0 + packet.1 * page_size
