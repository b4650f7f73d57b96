-- The parts of an item at their places: numbers, ids, and whole footers, entries of the size list
-- and heads of START.
use Rattle.std.proofs.Common.{◌≡◌, ℕ, ◌+◌, ◌-◌, ◌^◌, ◌<◌, ◌≤◌, List, ◌∷◌, ◌++◌, length, get_or, drop, refl, sym, ap, ◌∙◌, inl, inr, arith}
use Rattle.std.specs.Prelude.{slice_range}
use Rattle.std.specs.Int.{w32, w64, to_be_bytes, from_be_bytes}
use Rattle.std.proofs.lemmas.List.{append-nil, length-take-le, length-drop, get_or-take, get_or-drop, get_or_past, drop_more, drop_all, take_all}
use Rattle.std.proofs.lemmas.List.Folds.{drop_split}
use Rattle.std.proofs.lemmas.Nat.{be_bytes_4, be_bytes_8}
use Rattle.std.proofs.lemmas.Bool.{cases_lt}
use Rattle.mig_stream.specs.Fields.{be32, be64, counted, be32_at, be64_at}
use Rattle.mig_stream.specs.Format.{footer_type, ram_name, ram_instance, ram_version}
use Rattle.mig_stream.specs.Items.{id_in, length_in}
use Rattle.mig_stream.specs.Text.{footer}
use Rattle.mig_stream.proofs.FoundFields.{IsBytes}

-- ---- parts of an item

-- how long a part is
pub length_slice : (item : List ℕ) (at n : ℕ) → at + n ≤ length item → length (slice_range item at (at + n)) ≡ n
length_slice item at n le = length-take-le (at + n - at) (drop at item) (omega (arith, length-drop at item)) ∙ omega arith

-- a part of bytes is bytes
bytes_of_slice : (item : List ℕ) (at n : ℕ) → at + n ≤ length item → IsBytes item → IsBytes (slice_range item at (at + n))
bytes_of_slice item at n le all i =
    elim (cases_lt i (at + n - at)) [
      | inl h ↦ omega (arith, get_or-take (at + n - at) (drop at item) i 0 h, get_or-drop at item i 0, all (at + i))
      | inr h ↦ omega (arith, get_or_past (slice_range item at (at + n)) i 0 (omega (arith, length_slice item at n le)))
    ]

-- a number is spelled at its place
be32_part : (item : List ℕ) (at : ℕ) → at + 4 ≤ length item → IsBytes item → slice_range item at (at + 4) ≡ be32 (be32_at at item)
unfolding be32_at
be32_part item at le all = sym (be_bytes_4 (slice_range item at (at + 4)) (from_be_bytes w32 (slice_range item at (at + 4)))
    (length_slice item at 4 le) (bytes_of_slice item at 4 le all) refl)

-- the same of eight bytes
be64_part : (item : List ℕ) (at : ℕ) → at + 8 ≤ length item → IsBytes item → slice_range item at (at + 8) ≡ be64 (be64_at at item)
unfolding be64_at
be64_part item at le all = sym (be_bytes_8 (slice_range item at (at + 8)) (from_be_bytes w64 (slice_range item at (at + 8)))
    (length_slice item at 8 le) (bytes_of_slice item at 8 le all) refl)

-- a number of four bytes is below 2^32
small_number : (bytes : List ℕ) → IsBytes bytes → from_be_bytes w32 bytes < 2 ^ 32
small_number bytes all = omega (arith, all 0, all 1, all 2, all 3)

-- and so is the one at an item's front
pub be32_small : (item : List ℕ) → 4 ≤ length item → IsBytes item → be32_at 0 item < 2 ^ 32
unfolding be32_at
be32_small item le all = small_number (slice_range item 0 4) (bytes_of_slice item 0 4 le all)

-- a number of eight bytes whose first is 0 is below 2^56
small_rest : (bytes : List ℕ) → IsBytes bytes → get_or bytes 0 0 ≡ 0 → from_be_bytes w64 bytes < 2 ^ 56
small_rest bytes all none = omega (arith, none, all 1, all 2, all 3, all 4, all 5, all 6, all 7)

-- eight bytes of which the first is 0 are a number below 2^56
pub be64_small : (item : List ℕ) → length item ≡ 8 → IsBytes item → get_or item 0 0 ≡ 0 → be64_at 0 item < 2 ^ 56
unfolding be64_at
be64_small item len all none =
    let is : from_be_bytes w64 (slice_range item 0 8) ≡ from_be_bytes w64 item = ap (from_be_bytes w64) (take_all 8 item (omega arith)) in
    let small : from_be_bytes w64 item < 2 ^ 56 = small_rest item all none in
    omega (arith, is, small)

-- a number of eight bytes is below 2^64
long_number : (bytes : List ℕ) → IsBytes bytes → from_be_bytes w64 bytes < 2 ^ 64
long_number bytes all = omega (arith, all 0, all 1, all 2, all 3, all 4, all 5, all 6, all 7)

-- and so is the one at a place
pub be64_fits : (item : List ℕ) (at : ℕ) → at + 8 ≤ length item → IsBytes item → be64_at at item < 2 ^ 64
unfolding be64_at
be64_fits item at le all = long_number (slice_range item at (at + 8)) (bytes_of_slice item at 8 le all)

-- what is left of an item from a place on, before and after a number
be32_next : (item : List ℕ) (at : ℕ) → at + 4 ≤ length item → IsBytes item → drop at item ≡ be32 (be32_at at item) ++ drop (at + 4) item
be32_next item at le all = drop_split item at (at + 4) (omega arith) ∙ ap (λ (x : List ℕ). x ++ drop (at + 4) item) (be32_part item at le all)

-- the same of eight bytes
be64_next : (item : List ℕ) (at : ℕ) → at + 8 ≤ length item → IsBytes item → drop at item ≡ be64 (be64_at at item) ++ drop (at + 8) item
be64_next item at le all = drop_split item at (at + 8) (omega arith) ∙ ap (λ (x : List ℕ). x ++ drop (at + 8) item) (be64_part item at le all)

-- a number that ends its item
be32_last : (item : List ℕ) (at : ℕ) → at + 4 ≡ length item → IsBytes item → drop at item ≡ be32 (be32_at at item)
be32_last item at end all = be32_next item at (omega arith) all
    ∙ ap (λ (x : List ℕ). be32 (be32_at at item) ++ x) (drop_all (at + 4) item (omega arith)) ∙ append-nil (be32 (be32_at at item))

-- the same of eight bytes
be64_last : (item : List ℕ) (at : ℕ) → at + 8 ≡ length item → IsBytes item → drop at item ≡ be64 (be64_at at item)
be64_last item at end all = be64_next item at (omega arith) all
    ∙ ap (λ (x : List ℕ). be64 (be64_at at item) ++ x) (drop_all (at + 8) item (omega arith)) ∙ append-nil (be64 (be64_at at item))

-- ---- complete items

-- two numbers
pub header_found : (item : List ℕ) → length item ≡ 8 → IsBytes item → item ≡ be32 (be32_at 0 item) ++ be32 (be32_at 4 item)
header_found item len all = be32_next item 0 (omega arith) all ∙ ap (λ (x : List ℕ). be32 (be32_at 0 item) ++ x) (be32_last item 4 (omega arith) all)

-- a mark and a number
pub footer_found : (item : List ℕ) (id : ℕ) → length item ≡ 5 → IsBytes item → get_or item 0 0 ≡ footer_type → be32_at 1 item ≡ id → item ≡ footer id
footer_found item id len all mark same =
    let first : item ≡ get_or item 0 0 ∷ drop 1 item = drop_more item 0 0 (omega arith) in
    first ∙ ap (λ (x : ℕ). x ∷ drop 1 item) mark ∙ ap (λ (x : List ℕ). footer_type ∷ x) (be32_last item 1 (omega arith) all ∙ ap (to_be_bytes w32) same)

-- an entry of the size list
pub entry_found : (item : List ℕ) → length item ≡ 9 + get_or item 0 0 → IsBytes item → item ≡ counted (id_in item) ++ be64 (length_in item)
entry_found item len all =
    let n = get_or item 0 0 in
    let first : item ≡ n ∷ drop 1 item = drop_more item 0 0 (omega arith) in
    let id : drop 1 item ≡ id_in item ++ drop (1 + n) item = drop_split item 1 (1 + n) (omega arith) in
    let number : drop (1 + n) item ≡ be64 (length_in item) = be64_last item (1 + n) (omega arith) all in
    let long : n ≡ length (id_in item) = sym (length_slice item 1 n (omega arith)) in
    first ∙ ap (λ (x : List ℕ). n ∷ x) (id ∙ ap (λ (x : List ℕ). id_in item ++ x) number) ∙ ap (λ (x : ℕ). x ∷ (id_in item ++ be64 (length_in item))) long

-- the name and the version of a subsection
pub head_named : (item : List ℕ) → length item ≡ 5 + get_or item 0 0 → IsBytes item → item ≡ counted (id_in item) ++ be32 (be32_at (1 + get_or item 0 0) item)
head_named item len all =
    let n = get_or item 0 0 in
    let first : item ≡ n ∷ drop 1 item = drop_more item 0 0 (omega arith) in
    let id : drop 1 item ≡ id_in item ++ drop (1 + n) item = drop_split item 1 (1 + n) (omega arith) in
    let number : drop (1 + n) item ≡ be32 (be32_at (1 + n) item) = be32_last item (1 + n) (omega arith) all in
    let long : n ≡ length (id_in item) = sym (length_slice item 1 n (omega arith)) in
    first ∙ ap (λ (x : List ℕ). n ∷ x) (id ∙ ap (λ (x : List ℕ). id_in item ++ x) number) ∙ ap (λ (x : ℕ). x ∷ (id_in item ++ be32 (be32_at (1 + n) item))) long

-- the head of a section after its type byte: an id, a name, and two numbers
pub section_found : (item : List ℕ) (n : ℕ) → get_or item 4 0 ≡ n → length item ≡ 13 + n → IsBytes item
    → item ≡ be32 (be32_at 0 item) ++ (counted (slice_range item 5 (5 + n)) ++ (be32 (be32_at (5 + n) item) ++ be32 (be32_at (9 + n) item)))
section_found item n is len all =
    let name : List ℕ = slice_range item 5 (5 + n) in
    let long : n ≡ length name = sym (length_slice item 5 n (omega arith)) in
    let id : item ≡ be32 (be32_at 0 item) ++ drop 4 item = be32_next item 0 (omega arith) all in
    let count : drop 4 item ≡ length name ∷ drop 5 item = drop_more item 4 0 (omega arith) ∙ ap (λ (x : ℕ). x ∷ drop 5 item) (is ∙ long) in
    let named : drop 5 item ≡ name ++ drop (5 + n) item = drop_split item 5 (5 + n) (omega arith) in
    let one : drop (5 + n) item ≡ be32 (be32_at (5 + n) item) ++ drop (9 + n) item =
    be32_next item (5 + n) (omega arith) all ∙ ap (λ (x : ℕ). be32 (be32_at (5 + n) item) ++ drop x item) (omega arith) in
    let two : drop (9 + n) item ≡ be32 (be32_at (9 + n) item) = be32_last item (9 + n) (omega arith) all in
    id ∙ ap (λ (x : List ℕ). be32 (be32_at 0 item) ++ x)
    (count ∙ ap (λ (x : List ℕ). length name ∷ x) (named ∙ ap (λ (x : List ℕ). name ++ x) (one ∙ ap (λ (x : List ℕ). be32 (be32_at (5 + n) item) ++ x) two)))

-- five numbers, the fourth of four bytes
pub numbers_found : (item : List ℕ) → length item ≡ 36 → IsBytes item
    → item ≡ be64 (be64_at 0 item) ++ (be64 (be64_at 8 item) ++ (be64 (be64_at 16 item) ++ (be32 (be32_at 24 item) ++ be64 (be64_at 28 item))))
numbers_found item len all =
    let first : item ≡ be64 (be64_at 0 item) ++ drop 8 item = be64_next item 0 (omega arith) all in
    let second : drop 8 item ≡ be64 (be64_at 8 item) ++ drop 16 item = be64_next item 8 (omega arith) all in
    let third : drop 16 item ≡ be64 (be64_at 16 item) ++ drop 24 item = be64_next item 16 (omega arith) all in
    let fourth : drop 24 item ≡ be32 (be32_at 24 item) ++ drop 28 item = be32_next item 24 (omega arith) all in
    let fifth : drop 28 item ≡ be64 (be64_at 28 item) = be64_last item 28 (omega arith) all in
    first ∙ ap (λ (x : List ℕ). be64 (be64_at 0 item) ++ x) (second ∙ ap (λ (x : List ℕ). be64 (be64_at 8 item) ++ x)
    (third ∙ ap (λ (x : List ℕ). be64 (be64_at 16 item) ++ x) (fourth ∙ ap (λ (x : List ℕ). be32 (be32_at 24 item) ++ x) fifth)))

-- START's head after its type byte
pub start_found : (item : List ℕ) (n : ℕ) → get_or item 4 0 ≡ n → length item ≡ 13 + n → IsBytes item
    → slice_range item 5 (5 + n) ≡ ram_name → be32_at (5 + n) item ≡ ram_instance
    → be32_at (9 + n) item ≡ ram_version → item ≡ be32 (be32_at 0 item) ++ counted ram_name ++ be32 ram_instance ++ be32 ram_version
start_found item n is len all name instance version =
    let three : n ≡ 3 = sym (length_slice item 5 n (omega arith)) ∙ ap length name in
    let id : item ≡ be32 (be32_at 0 item) ++ drop 4 item = be32_next item 0 (omega arith) all in
    let count : drop 4 item ≡ 3 ∷ drop 5 item = drop_more item 4 0 (omega arith) ∙ ap (λ (x : ℕ). x ∷ drop 5 item) (is ∙ three) in
    let named : drop 5 item ≡ ram_name ++ drop (5 + n) item = drop_split item 5 (5 + n) (omega arith) ∙ ap (λ (x : List ℕ). x ++ drop (5 + n) item) name in
    let one : drop (5 + n) item ≡ be32 ram_instance ++ drop (9 + n) item =
    be32_next item (5 + n) (omega arith) all ∙ ap (λ (x : ℕ). be32 x ++ drop (5 + n + 4) item) instance
    ∙ ap (λ (x : ℕ). be32 ram_instance ++ drop x item) (omega arith) in
    let two : drop (9 + n) item ≡ be32 ram_version = be32_last item (9 + n) (omega arith) all ∙ ap (to_be_bytes w32) version in
    id ∙ ap (λ (x : List ℕ). be32 (be32_at 0 item) ++ x)
    (count ∙ ap (λ (x : List ℕ). 3 ∷ x) (named ∙ ap (λ (x : List ℕ). ram_name ++ x) (one ∙ ap (λ (x : List ℕ). be32 ram_instance ++ x) two)))
