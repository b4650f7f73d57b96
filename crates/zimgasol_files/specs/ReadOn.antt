-- The reading of a block's file in pieces, and of an older file beside it.
use Rattle.std.specs.Prelude.{ℕ, ◌≡◌, ◌*◌, ◌-◌, ◌<◌, ◌≤◌, List, length, take, drop, min, Option, Some, None, IfSome, IsSome}
use Rattle.std.specs.Option.{option_map}
use Rattle.zimgasol_files.specs.Differing.{Piece}
use Rattle.zimgasol_files.specs.declared.opened.Opened.{Opened}
use Rattle.zimgasol_files.specs.declared.pages.Reading.{Reading}

-- These bytes of a file are left. `remaining` gives those of a file whose bytes are known.
abbrev pub IsLeft : {F : Type 0} → (F → Option (List ℕ)) → Opened F → List ℕ → Type 0
IsLeft remaining file rest = remaining file.file ≡ Some rest

-- These bytes of the older file are left, if there is one.
abbrev pub IsOldLeft : {F : Type 0} → (F → Option (List ℕ)) → Option (Opened F) → Option (List ℕ) → Type 0
IsOldLeft remaining None old = old ≡ None
IsOldLeft remaining (Some file) old = (rest : List ℕ) × IsLeft remaining file rest × (old ≡ Some rest)

-- The first `count` bytes of those that were left were read into a buffer. If it wasn't filled,
-- these were all.
pub record IsRead (count : ℕ) (rest : List ℕ) (buffer : List ℕ) : Type 0 where
  pub fits : count ≤ length buffer
  pub are_there : count ≤ length rest
  pub has_bytes : take count buffer ≡ take count rest
  pub is_end : count < length buffer → length rest ≡ count

-- the piece that was read last
abbrev pub piece_read : {F : Type 0} → Reading F → Piece
piece_read r = record {
  size = r.page_size;
  bytes = take r.len r.bytes.items;
  before = option_map (λ _. take r.len r.old_bytes.items) r.before;
}

-- it lies in its buffers
pub record HasPiece {F : Type 0} (r : Reading F) (piece : Piece) : Type 0 where
  pub fits : r.len ≤ length r.bytes.items
  pub old_fits : IsSome r.before → r.len ≤ length r.old_bytes.items
  pub is_piece : piece_read r ≡ piece

-- These bytes of the file are left, and these of the older one. `left` bytes of each are wanted.
pub record IsReadTo {F : Type 0} (remaining : F → Option (List ℕ)) (size left : ℕ) (rest : List ℕ) (old : Option (List ℕ)) (r : Reading F) : Type 0 where
  pub has_size : r.page_size ≡ size
  pub has_room : length r.bytes.items ≡ size * 256
  pub has_old_room : IsSome r.before → length r.old_bytes.items ≡ size * 256
  pub is_wanted : r.left ≡ left
  pub is_left : IsLeft remaining r.file rest
  pub is_old_left : IsOldLeft remaining r.before old

-- The next `count` bytes of both were read: as many as are wanted, and at most 256 pages. If there
-- was room for more, these were all.
pub record ReadsOn {F : Type 0} (remaining : F → Option (List ℕ)) (size left : ℕ) (rest : List ℕ) (old : Option (List ℕ)) (count : ℕ) (r : Reading F) : Type 0 where
  pub is_count : count ≡ min left (size * 256)
  pub are_there : count ≤ length rest
  pub were_there : IfSome old (λ bytes. count ≤ length bytes)
  pub is_end : count < size * 256 → length rest ≡ count
  pub has_piece : HasPiece r (record { size = size; bytes = take count rest; before = option_map (λ bytes. take count bytes) old })
  pub goes_on : IsReadTo remaining size (left - count) (drop count rest) (option_map (λ bytes. drop count bytes) old) r
