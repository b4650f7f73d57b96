-- A channel that is read in pieces, without the packets of devices.
use Rattle.std.specs.Prelude.{◌≡◌, ℕ, ◌+◌, ◌-◌, ◌^◌, ◌<◌, ◌≤◌, min, Bool, true, false, nat_le, if◌then◌else◌, List, [], ◌∷◌, ◌++◌, length, take, drop}
use Rattle.mig_packet.specs.PageSize.{IsPageSize}
use Rattle.zimgasol_page_packets.specs.declared.page_packets.Next.{Next}
use Rattle.zimgasol_page_packets.specs.declared.page_packets.Next.TheVariants as coming
use Rattle.zimgasol_page_packets.specs.Packets.{front_len, is_device, state_len, is_of_pages, rest_len}
use Rattle.zimgasol_page_packets.specs.Parted.{Parted, all_given, with_front, with_device, part}

-- a channel that was read so far
pub record Passing : Type 0 where
  pub page_size : ℕ
  -- what the next bytes of the channel are
  pub next : Next
  -- bytes that were read and that are neither passed on nor passed over yet
  pub kept : List ℕ
  -- the packets that were passed over, and their bytes
  pub packets : ℕ
  pub bytes : ℕ

-- how the bytes to come are parted, if these were kept and these are all that follow
abbrev pub part_next : ℕ → Next → List ℕ → List ℕ → Parted
part_next page_size (coming.Bytes left) kept more = with_front (kept ++ take left more) (part page_size (drop left more))
part_next page_size coming.Front kept more = part page_size (kept ++ more)
part_next page_size (coming.State left) kept more =
    if nat_le left (length more) then with_device (front_len + state_len kept) (part page_size (drop left more)) else all_given kept
part_next page_size coming.Rest kept more = all_given (kept ++ more)

-- with those that were passed over before; the counts stop at 2^64 - 1
abbrev pub with_counts : ℕ → ℕ → Parted → Parted
with_counts packets bytes parted = record {
  given = parted.given;
  packets = min (packets + parted.packets) (2 ^ 64 - 1);
  bytes = min (bytes + parted.bytes) (2 ^ 64 - 1);
}

-- the bytes to come, and the counts in the end, if these are all that follow
abbrev pub to_come : Passing → List ℕ → Parted
to_come p more = with_counts p.packets p.bytes (part_next p.page_size p.next p.kept more)

-- ---- what waits to be passed on

abbrev pub has_any : List ℕ → Bool
has_any [] = false
has_any (byte ∷ bytes) = true

-- whether kept bytes are passed on
abbrev pub keeps_in : Next → List ℕ → Bool
keeps_in (coming.Bytes left) kept = has_any kept
keeps_in coming.Front kept = false
keeps_in (coming.State left) kept = false
keeps_in coming.Rest kept = has_any kept

abbrev pub keeps : Passing → Bool
keeps p = keeps_in p.next p.kept

-- of the piece that has the next bytes of the channel, those that are passed on
abbrev pub from_piece : Next → List ℕ → List ℕ
from_piece (coming.Bytes left) piece = take left piece
from_piece coming.Front piece = []
from_piece (coming.State left) piece = []
from_piece coming.Rest piece = piece

-- those that are kept, and otherwise the first of the piece
abbrev pub waits : Passing → List ℕ → List ℕ
waits p piece = if keeps p then p.kept else from_piece p.next piece

-- ---- the state

-- what follows the front of a packet
abbrev pub next_after : ℕ → List ℕ → Next
next_after page_size front =
    if is_device front then coming.State (state_len front)
    else (if is_of_pages page_size front then coming.Bytes (rest_len page_size front) else coming.Rest)

-- what is kept is bounded, and a packet is passed over as soon as its last byte was read
abbrev pub IsPart : Next → ℕ → List ℕ → Type 0
IsPart (coming.Bytes left) given kept = (given ≤ length kept) × (length kept ≤ front_len)
IsPart coming.Front given kept = (given ≡ 0) × (length kept < front_len)
IsPart (coming.State left) given kept = (given ≡ 0) × (length kept ≡ front_len) × (0 < left)
IsPart coming.Rest given kept = (given ≤ length kept) × (length kept ≤ front_len)

pub record IsPassing (page_size : ℕ) (next : Next) (given : ℕ) (kept : List ℕ) (room : ℕ) : Type 0 where
  pub is_page_size : IsPageSize page_size
  pub has_room : front_len ≤ room
  pub is_part : IsPart next given kept
