-- A delta of a page: runs of bytes, each after a number of bytes that stay as they were. Which bytes
-- spell it, which deltas a page may have, and the page after a delta.
use Rattle.std.specs.Prelude.{◌≡◌, ℕ, ◌+◌, ◌-◌, ◌*◌, ◌<◌, ◌≤◌, nat_lt, if◌then◌else◌, List, [], ◌∷◌, ◌++◌, length, drop, slice_index, Option, Some, None}
use Rattle.std.specs.List.{AllByRecursion}
use Rattle.std.specs.Option.{unwrap_or}

-- A run: how many bytes of the page stay as they were, and the bytes that replace those after them.
pub record Run : Type 0 where
  pub skip : ℕ
  pub bytes : List ℕ

-- The bytes spell this length: one byte below 128, or two, the low seven bits with the top bit set
-- and the seven bits above them with the top bit clear. As `low` is a byte, a length is below 2^14.
-- One below 128 has both spellings.
abbrev pub IsLength : ℕ → List ℕ → Type 0
IsLength n [] = ⊥
IsLength n (low ∷ []) = (low < 128) × (n ≡ low)
IsLength n (low ∷ high ∷ []) = (128 ≤ low) × (high < 128) × (n ≡ low - 128 + high * 128)
IsLength n (low ∷ high ∷ _ ∷ _) = ⊥

-- The bytes spell these runs: of each the number of bytes skipped, the number of its bytes, and its
-- bytes.
abbrev pub Spells : List Run → List ℕ → Type 0
Spells [] bytes = bytes ≡ []
Spells (r ∷ rs) bytes =
    (zrun nzrun more : List ℕ) × IsLength r.skip zrun × IsLength (length r.bytes) nzrun × (bytes ≡ zrun ++ (nzrun ++ (r.bytes ++ more))) × Spells rs more

-- how many bytes of the page the runs skip and replace
abbrev pub span : List Run → ℕ
span [] = 0
span (r ∷ rs) = r.skip + length r.bytes + span rs

-- The runs are lawful for a page of `size` bytes: each replaces at least one byte, each but the first
-- skips at least one, and they end within the page. No runs at all are lawful, as QEMU takes them.
pub record IsDelta (size : ℕ) (runs : List Run) : Type 0 where
  pub replaces : AllByRecursion (λ r. 0 < length r.bytes) runs
  pub skips : AllByRecursion (λ r. 0 < r.skip) (drop 1 runs)
  pub within : span runs ≤ size

-- the byte of the run that covers the position `i`, counted from where the first run begins to skip
abbrev pub byte_at : List Run → ℕ → Option ℕ
byte_at [] i = None
byte_at (r ∷ rs) i =
    if nat_lt i r.skip then None
    else if nat_lt i (r.skip + length r.bytes) then Some (slice_index r.bytes (i - r.skip)) else byte_at rs (i - (r.skip + length r.bytes))

-- The page after the runs: at each position the byte of the run that covers it, else the old one.
pub record IsPageAfter (old : List ℕ) (runs : List Run) (new : List ℕ) : Type 0 where
  pub has_length : length new ≡ length old
  pub has_bytes : (i : ℕ) → i < length old → slice_index new i ≡ unwrap_or (byte_at runs i) (slice_index old i)
