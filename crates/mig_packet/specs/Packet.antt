-- The layout of a packet, field by field at its offset. QEMU's `MultiFDPacket_t`, with this
-- project's count of zero pages.
use Rattle.std.specs.Prelude.{◌≡◌, ◌≢◌, ℕ, ◌+◌, ◌*◌, ◌≤◌, Bool, not, nat_le, nat_lt, if◌then◌else◌, ◌==◌}
use Rattle.std.specs.Prelude.{◌&&◌, List, [], ◌∷◌, length, map, Option, None, slice_range}
use Rattle.std.specs.List.{before_first, range_with_len}
use Rattle.mig_packet.specs.declared.fault.ChannelFault.{ChannelFault}
use Rattle.mig_packet.specs.declared.fault.ChannelFault.TheVariants as fault
use Rattle.mig_packet.specs.Fields.{be32_at, be64_at}
use Rattle.mig_packet.specs.PageSize.{page_limit, head_len}
use Rattle.mig_packet.specs.Faults.{first_of}

-- ---- the fields

-- `flags`: bit 0 is `MULTIFD_FLAG_SYNC`, the only one that is accepted
abbrev pub flags_in : List ℕ → ℕ
flags_in bytes = be32_at 8 bytes

abbrev pub is_sync : List ℕ → Bool
is_sync bytes = flags_in bytes == 1

-- `normal_pages`: the number of pages with contents
abbrev pub normal_count : List ℕ → ℕ
normal_count bytes = be32_at 16 bytes

-- `next_packet_size`: the number of bytes of the contents, according to the head
abbrev pub contents_len_in : List ℕ → ℕ
contents_len_in bytes = be32_at 20 bytes

-- `packet_num`
abbrev pub number_in : List ℕ → ℕ
number_in bytes = be64_at 24 bytes

-- `zero_pages`: the number of pages of zeros, which have no contents in the packet
abbrev pub zero_count : List ℕ → ℕ
zero_count bytes = be32_at 32 bytes

-- `ramblock`, the block's id: the bytes before the first 0, at most 255 of them
abbrev pub id_in : List ℕ → List ℕ
id_in bytes = before_first (λ byte. byte == 0) (slice_range bytes 64 319)

-- offset i in the block: those of the normal pages are first, then those of the zero pages
abbrev pub offset_at : List ℕ → ℕ → ℕ
offset_at bytes i = be64_at (320 + 8 * i) bytes

-- the content of normal page i
abbrev pub content_at : ℕ → List ℕ → ℕ → List ℕ
content_at page_size bytes i = slice_range bytes (head_len page_size + i * page_size) (head_len page_size + i * page_size + page_size)

-- ---- the fields as one record

-- a page by its offset in the block, with its content
pub record NormalPage : Type 0 where
  pub offset : ℕ
  pub content : List ℕ

pub record Fields : Type 0 where
  pub number : ℕ
  pub sync : Bool
  -- the id of the block of all its pages
  pub id : List ℕ
  pub normal : List NormalPage
  -- the offsets of the pages of zeros
  pub zero : List ℕ

abbrev pub fields_of : ℕ → List ℕ → Fields
fields_of page_size bytes = record {
  number = number_in bytes;
  sync = is_sync bytes;
  id = id_in bytes;
  normal = map (λ i. record { offset = offset_at bytes i; content = content_at page_size bytes i }) (range_with_len 0 (normal_count bytes));
  zero = map (offset_at bytes) (range_with_len (normal_count bytes) (zero_count bytes));
}

-- The bytes are those of one packet. Bytes that this doesn't name may have any values: pages_alloc,
-- next_packet_size if there are no normal pages, the reserved fields, the bytes after the id, and
-- the offsets that no page needs.
pub record IsPacketText (page_size : ℕ) (bytes : List ℕ) : Type 0 where
  pub has_magic : be32_at 0 bytes ≡ 0x11223344
  pub has_version : be32_at 4 bytes ≡ 1
  pub has_flags : flags_in bytes ≤ 1
  pub has_few : normal_count bytes + zero_count bytes ≤ page_limit page_size
  pub has_size : normal_count bytes ≢ 0 → contents_len_in bytes ≡ normal_count bytes * page_size
  pub has_length : length bytes ≡ head_len page_size + normal_count bytes * page_size

-- The bytes are a packet with these fields.
abbrev pub IsPacket : ℕ → List ℕ → Fields → Type 0
IsPacket page_size bytes fields = IsPacketText page_size bytes × (fields ≡ fields_of page_size bytes)

-- ---- tests

-- the faults of a packet's head, in the order of the tests
abbrev pub packet_faults : ℕ → List ℕ → List (Bool × ChannelFault)
packet_faults page_size bytes =
    (not (be32_at 0 bytes == 0x11223344), fault.PacketMagic) ∷
    (not (be32_at 4 bytes == 1), fault.PacketVersion) ∷
    (nat_lt 1 (flags_in bytes), fault.PacketFlags (flags_in bytes)) ∷
    (nat_lt (page_limit page_size) (normal_count bytes + zero_count bytes), fault.PageCount) ∷
    (not (normal_count bytes == 0) && not (contents_len_in bytes == normal_count bytes * page_size), fault.PacketSize) ∷ []

-- the fault that is known: none before the complete head is there; pages may be missing
abbrev pub due_packet_fault : ℕ → List ℕ → Option ChannelFault
due_packet_fault page_size bytes = if nat_le (head_len page_size) (length bytes) then first_of (packet_faults page_size bytes) else None
