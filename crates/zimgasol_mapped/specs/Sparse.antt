-- What libvirt writes before a stream with mapped-ram: its header (`virQEMUSaveHeader` in
-- `src/qemu/qemu_saveimage.h`), and XML.
use Rattle.std.specs.Prelude.{ℕ, ◌≡◌, ◌+◌, ◌≤◌, ◌⊎◌, ◌==◌, nat_le, Bool, true, List, [], ◌∷◌, ◌++◌, length, take, drop, slice_range, if◌then◌else◌, codes}
use Rattle.std.specs.Int.{w32, from_be_bytes, from_le_bytes}

-- ---- the header

-- the number of four bytes at an offset, in the byte order of the host that saved the guest
unfoldable pub field_at : Bool → ℕ → List ℕ → ℕ
field_at is_little at bytes =
    if is_little then from_le_bytes w32 (slice_range bytes at (at + 4)) else from_be_bytes w32 (slice_range bytes at (at + 4))

-- QEMU_SAVE_VERSION
abbrev pub version : ℕ
version = 2

-- QEMU_SAVE_FORMAT_SPARSE
abbrev pub sparse_format : ℕ
sparse_format = 6

-- the host was little-endian: so the header has the version
abbrev pub is_little : List ℕ → Bool
is_little file = field_at true 16 file == version

-- The file begins with the header of a sparse save that was completed. The XML follows, with as
-- many bytes as the header says, and then, at this offset, the stream.
pub record IsSparseAt (file : List ℕ) (offset : ℕ) : Type 0 where
  pub has_header : 92 ≤ length file
  pub has_magic : take 16 file ≡ codes "LibvirtQemudSave"
  pub has_version : field_at (is_little file) 16 file ≡ version
  pub has_format : field_at (is_little file) 28 file ≡ sparse_format
  pub has_length : offset ≡ 92 + field_at (is_little file) 20 file

abbrev pub IsNotSparse : List ℕ → Type 0
IsNotSparse file = (offset : ℕ) → IsSparseAt file offset → ⊥

-- The stream of a file begins at this offset: after what libvirt wrote, or with the first byte.
abbrev pub BeginsAt : List ℕ → ℕ → Type 0
BeginsAt file offset = IsSparseAt file offset ⊎ (IsNotSparse file × (offset ≡ 0))

-- ---- the header before a plain stream

-- the offset of the format in the header
abbrev pub format_offset : ℕ
format_offset = 28

-- QEMU_SAVE_FORMAT_RAW: the stream isn't packed
abbrev pub raw_format : List ℕ
raw_format = 0 ∷ 0 ∷ 0 ∷ 0 ∷ []

-- these bytes with that format, if they have one
abbrev pub with_raw_format : List ℕ → List ℕ
with_raw_format header =
    if nat_le (format_offset + length raw_format) (length header)
    then take format_offset header ++ raw_format ++ drop (format_offset + length raw_format) header
    else header
