-- What the bytes of an item are, if its tests have found no fault: numbers, flags, counted ids.
use Rattle.std.proofs.Common.{◌≡◌, ℕ, suc, ◌+◌, ◌-◌, ◌*◌, ◌/◌, ◌%◌, ◌^◌, ◌<◌, Bool, true, false, cond, eqb, List, [], ◌∷◌, ◌++◌, length, get_or, take, Option}
use Rattle.std.proofs.Common.{Some, refl, sym, ap, ◌∙◌, inl, inr, arith}
use Rattle.std.specs.Prelude.{All, find}
use Rattle.std.specs.Int.{w32, w64, to_be_bytes, from_be_bytes}
use Rattle.std.specs.Str.{bytes_eq}
use Rattle.std.proofs.lemmas.List.{take_all, get_or_past, get_or_append_left}
use Rattle.std.proofs.lemmas.List.Elements.{All-get_or}
use Rattle.std.proofs.lemmas.List.Quantifiers.{position-Some}
use Rattle.std.proofs.lemmas.Slice.Eq.{bytes_eq-Decides}
use Rattle.std.proofs.lemmas.Nat.{be_bytes_4, be_bytes_8, div-add-mod'}
use Rattle.std.proofs.lemmas.Bool.{cases_lt, eqb-true}
use Rattle.std.proofs.Math.Nat.{add-sub_cancel_left}
use Rattle.mig_mem.specs.RamTable.{Block, block, block_of}
use Rattle.mig_stream.specs.declared.item.RecordKind.{RecordKind}
use Rattle.mig_stream.specs.Fields.{be32, be64, counted, be32_at, be64_at}
use Rattle.mig_stream.specs.Format.{flags_of, record_kinds}
use Rattle.mig_stream.specs.Items.{id_in, record_kind}

-- ---- bytes

-- each is a byte, and so is the 0 past the end
abbrev pub IsBytes : List ℕ → Type 0
IsBytes bytes = (i : ℕ) → get_or bytes i 0 < 256

-- the same of each element
pub bytes_from_all : (bytes : List ℕ) → All (λ byte. byte < 2 ^ 8) bytes → IsBytes bytes
bytes_from_all bytes all i =
    elim (cases_lt i (length bytes)) [
      | inl h ↦ All-get_or (λ (byte : ℕ). byte < 2 ^ 8) bytes i 0 h all
      | inr h ↦ omega (arith, get_or_past bytes i 0 h)
    ]

-- the bytes of the first of two parts
pub bytes_of_front : (a b : List ℕ) → IsBytes (a ++ b) → IsBytes a
bytes_of_front a b all i =
    elim (cases_lt i (length a)) [
      | inl h ↦ omega (arith, get_or_append_left a b 0 i h, all i)
      | inr h ↦ omega (arith, get_or_past a i 0 h)
    ]

-- and of the second
pub bytes_of_rest : (a b : List ℕ) → IsBytes (a ++ b) → IsBytes b
bytes_of_rest [] b all = all
bytes_of_rest (x ∷ a) b all = bytes_of_rest a b (λ i. all (suc i))

-- ---- numbers

-- an item of four bytes is its number
pub be32_found : (item : List ℕ) → length item ≡ 4 → IsBytes item → be32 (be32_at 0 item) ≡ item
unfolding be32_at
be32_found item len fits = be_bytes_4 item (from_be_bytes w32 (take 4 item)) len fits (ap (from_be_bytes w32) (take_all 4 item (omega arith)))

-- an item of eight bytes is its number
pub be64_found : (item : List ℕ) → length item ≡ 8 → IsBytes item → be64 (be64_at 0 item) ≡ item
unfolding be64_at
be64_found item len fits = be_bytes_8 item (from_be_bytes w64 (take 8 item)) len fits (ap (from_be_bytes w64) (take_all 8 item (omega arith)))

-- a head is its page times the page size, and its flags
pub head_found : (p : ℕ) (item : List ℕ) → length item ≡ 8 → IsBytes item → item ≡ be64 (be64_at 0 item / p * p + be64_at 0 item % p)
head_found p item len fits = sym (be64_found item len fits) ∙ ap (to_be_bytes w64) (sym (div-add-mod' (be64_at 0 item) p))

-- ---- the flags of a kind

-- of two tests one after another: the first has found it, or the others have
found_first : (b : Bool) (flags : ℕ) (kind k : RecordKind) (others : Option RecordKind) → eqb flags (flags_of k) ≡ b
    → (others ≡ Some kind → flags ≡ flags_of kind)
    → cond b (Some k) others ≡ Some kind → flags ≡ flags_of kind
found_first true flags kind k others test later e = let same : k ≡ kind = cc in eqb-true flags (flags_of k) test ∙ ap flags_of same
found_first false flags kind k others test later e = later e

-- a kind found in a list of kinds has the flags that were looked for
found_flags : (flags : ℕ) (kind : RecordKind) (kinds : List RecordKind) → find (λ k. eqb flags (flags_of k)) kinds ≡ Some kind → flags ≡ flags_of kind
found_flags flags kind [] e = absurd cc
found_flags flags kind (k ∷ kinds) e = found_first (eqb flags (flags_of k)) flags kind k
    (find (λ x. eqb flags (flags_of x)) kinds) refl (found_flags flags kind kinds) e

-- Flags of a kind are the flags that it has.
pub kind_found : (flags : ℕ) (kind : RecordKind) → record_kind flags ≡ Some kind → flags ≡ flags_of kind
kind_found flags kind e = found_flags flags kind record_kinds e

-- ---- ids

-- a counted id is its own length and bytes
pub counted_found : (item : List ℕ) → length item ≡ 1 + get_or item 0 0 → item ≡ counted (id_in item)
counted_found [] len = absurd (omega arith)
counted_found (n ∷ id) len =
    let is : n ≡ length id = omega arith in
    let all : take (1 + n - 1) id ≡ id = rw add-sub_cancel_left (take_all n id (omega arith)) in
    rw all (ap (λ (k : ℕ). k ∷ id) is)

-- the block that an id names
pub named_found : (blocks : List Block) (id : List ℕ) (b : ℕ) → block_of blocks id ≡ Some b → (b < length blocks) × ((block blocks b).id ≡ id)
named_found blocks id b e =
    let none : Block = record { id = []; pages = 0 } in
    let found = position-Some (λ (x : Block). bytes_eq x.id id) blocks b none e in
    (found.0, (bytes_eq-Decides (get_or blocks b none).id id).0 found.1)
