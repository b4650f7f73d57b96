-- The header that libvirt puts before the stream of a guest that it saved: `virQEMUSaveHeader` in
-- `src/qemu/qemu_saveimage.h`.
use Rattle.std.specs.Prelude.{ℕ, ◌≡◌, ◌≢◌, ◌⊎◌, ◌+◌, ◌≤◌, Bool, List, length, take, slice_range, if◌then◌else◌, codes}
use Rattle.std.specs.Int.{w32, from_be_bytes, from_le_bytes}

-- the number of four bytes at an offset, in the byte order of the host that saved the guest
unfoldable pub field_at : Bool → ℕ → List ℕ → ℕ
field_at is_little at bytes =
    if is_little then from_le_bytes w32 (slice_range bytes at (at + 4)) else from_be_bytes w32 (slice_range bytes at (at + 4))

-- The first 92 bytes are the header of a save that was completed, in one of both byte orders: its
-- version is 2, and the stream isn't packed. The XML and the cookie follow, with as many bytes as
-- it says. So many bytes precede the stream.
pub record IsHeader (bytes : List ℕ) (before : ℕ) : Type 0 where
  pub is_little : Bool
  pub has_header : 92 ≤ length bytes
  pub has_magic : take 16 bytes ≡ codes "LibvirtQemudSave"
  pub has_version : field_at is_little 16 (take 92 bytes) ≡ 2
  pub has_format : field_at is_little 28 (take 92 bytes) ≡ 0
  pub has_length : before ≡ 92 + field_at is_little 20 (take 92 bytes)

-- So many bytes precede the stream: those of libvirt's header, which is there if the first 16 bytes
-- say so.
abbrev pub IsBefore : List ℕ → ℕ → Type 0
IsBefore bytes before = IsHeader bytes before ⊎ ((take 16 bytes ≢ codes "LibvirtQemudSave") × (before ≡ 0))
