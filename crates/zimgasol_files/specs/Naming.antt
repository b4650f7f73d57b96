-- The names of the files that blocks are extracted into.
use Rattle.std.specs.Prelude.{ℕ, ◌≢◌, ◌<◌, ◌^◌, ◌==◌, if◌then◌else◌, leb, All, List, ◌++◌, length, get_or, codes, decimal}
use Rattle.percent_encoding.specs.Percent.{percent_encode}
use Rattle.percent_encoding.specs.declared.ascii_set.AsciiSet.{AsciiSet}
use Rattle.zimgasol_files.specs.declared.naming.TheConstants.{ESCAPED, ESCAPED_WITH_DOTS, MOST_LEN}

-- the characters that are escaped in an id; dots are escaped if the id begins with one
abbrev pub escaped_in : List ℕ → AsciiSet
escaped_in id = if get_or id 0 0 == 46 then ESCAPED_WITH_DOTS else ESCAPED

-- the name without its suffix: the escaped id, or the block's number if the escaped id is too long
abbrev pub stem_of : List ℕ → ℕ → List ℕ
stem_of id block = let escaped = percent_encode (escaped_in id) id in
    if leb (length escaped) MOST_LEN then escaped else codes "%long-" ++ decimal block

-- the name of the file of the block with this id and number
abbrev pub name_of : List ℕ → ℕ → List ℕ
name_of id block = stem_of id block ++ codes ".bin"

-- a name with which a file is in the folder, and isn't hidden
pub record IsPlainName (name : List ℕ) : Type 0 where
  pub has_some : 0 < length name
  pub has_no_slash : All (λ b. b ≢ 47) name
  pub has_no_dot_first : get_or name 0 0 ≢ 46

-- an id is a non-empty list of bytes
pub record IsId (id : List ℕ) : Type 0 where
  pub are_bytes : All (λ b. b < 256) id
  pub has_some : 0 < length id

-- the name of each block's file is plain
abbrev pub NamesArePlain : Type 0
NamesArePlain = (id : List ℕ) (block : ℕ) → IsId id → block < 2 ^ 64 → IsPlainName (name_of id block)

-- two blocks with different ids and different numbers have different names
abbrev pub NamesAreDistinct : Type 0
NamesAreDistinct = (a b : List ℕ) (i j : ℕ) → IsId a → IsId b → i < 2 ^ 64 → j < 2 ^ 64 → a ≢ b → i ≢ j → name_of a i ≢ name_of b j
