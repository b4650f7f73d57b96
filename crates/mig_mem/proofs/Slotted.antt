-- The pages of a block: what the bytes of its slots hold.
use Rattle.std.proofs.Common.{ℕ, ◌≡◌, ◌≢◌, ◌<◌, ◌≤◌, ◌+◌, ◌-◌, ◌*◌, ◌/◌, ◌++◌, List, [], ◌∷◌, length, map, get_or, set, take, replicate, refl, sym, ap, ◌∙◌}
use Rattle.std.proofs.Common.{inl, inr, arith, zero, suc, get_or-set_same, get_or-set_other}
use Rattle.std.specs.Prelude.{sum_by, min}
use Rattle.std.proofs.lemmas.Bool.{cases_eq}
use Rattle.std.proofs.lemmas.Nat.{div-mul-add}
use Rattle.std.proofs.lemmas.List.{ext_get_or, get_or-map, length-map, length-set, length-append, length-replicate, map-set, drop_at}
use Rattle.std.proofs.Math.Seq.{take-length}
use Rattle.std.proofs.lemmas.List.Sums.{sum_by-cons, sum_by-set}
use Rattle.std.proofs.lemmas.List.Elements.{All-from_get_or}
use Rattle.mig_mem.specs.Image.{zero_page}
use Rattle.mig_mem.specs.Parts.{part_at, ChangesPart, slot_part, parts_in, written, AreParts}
use Rattle.mig_mem.specs.BlockPages.{BlockPages}
use Rattle.mig_mem.proofs.Members.{map_agree}
use Rattle.mig_mem.proofs.PageSizes.{page_before}
use Rattle.mig_mem.proofs.PartWrites.{page_front}

-- there is one page for each slot
pub length-pages : (size : ℕ) (slots bytes : List ℕ) → length (parts_in size slots bytes) ≡ length slots
unfolding parts_in
length-pages size slots bytes = length-map slots (slot_part size bytes)

-- a page of zeros has the page's size
pub length-zero_page : (size : ℕ) → length (zero_page size) ≡ size
length-zero_page size = length-replicate size 0

-- the page of a slot
pub page_is : (size : ℕ) (slots bytes : List ℕ) (i : ℕ) → i < length slots → get_or (parts_in size slots bytes) i [] ≡ slot_part size bytes (get_or slots i 0)
unfolding parts_in
page_is size slots bytes i lt = get_or-map (slot_part size bytes) slots i 0 [] lt

-- a page that has no slot is all zeros
pub page_zeros : (size : ℕ) (slots bytes : List ℕ) (i : ℕ) → i < length slots → get_or slots i 0 ≡ 0 → get_or (parts_in size slots bytes) i [] ≡ zero_page size
page_zeros size slots bytes i lt none = page_is size slots bytes i lt ∙ ap (λ (s : ℕ). slot_part size bytes s) none

-- a page that has a slot has the bytes of that slot
pub page_bytes : (size : ℕ) (slots bytes : List ℕ) (i k : ℕ) → i < length slots → get_or slots i 0 ≡ suc k
    → get_or (parts_in size slots bytes) i [] ≡ part_at size bytes k
page_bytes size slots bytes i k lt some = page_is size slots bytes i lt ∙ ap (λ (s : ℕ). slot_part size bytes s) some

-- a page has a slot
pub has_slot : (size : ℕ) (slots bytes : List ℕ) (b : BlockPages) (i : ℕ)
    → record { size = size; pages = parts_in size slots bytes } ≡ b → i < length b.pages → i < length slots
has_slot size slots bytes b i is lt = omega (arith, ap (λ (x : BlockPages). length x.pages) is, length-pages size slots bytes)

-- a slot's number that isn't 0 is one more than some number
pub some_slot : (s : ℕ) → s ≢ 0 → s ≡ suc (s - 1)
some_slot s some = omega (arith, some)

-- ---- how many pages have bytes

written-le : (slots : List ℕ) → written slots ≤ length slots
written-le [] = omega arith
written-le (s ∷ slots) =
    let rest : written slots ≤ length slots = written-le slots in
    let more : written (s ∷ slots) ≡ min s 1 + written slots = sum_by-cons (λ (x : ℕ). min x 1) s slots in
    omega arith

-- a page more has bytes
pub written_more : (slots : List ℕ) (i v : ℕ) → i < length slots → get_or slots i 0 ≡ 0 → written (set slots i (suc v)) ≡ written slots + 1
written_more slots i v lt none =
    let sum : sum_by (λ (s : ℕ). min s 1) (set slots i (suc v)) + min (get_or slots i 0) 1 ≡ sum_by
    (λ (s : ℕ). min s 1) slots + min (suc v) 1 = sum_by-set (λ (s : ℕ). min s 1) slots i (suc v) 0 lt in
    omega (arith, sum, none)

written_fewer : (slots : List ℕ) (i : ℕ) → i < length slots → get_or slots i 0 ≡ 0 → written slots + 1 ≤ length slots
written_fewer slots i lt none =
    let more : written (set slots i 1) ≡ written slots + 1 = written_more slots i 0 lt none in
    let le : written (set slots i 1) ≤ length (set slots i 1) = written-le (set slots i 1) in
    let len : length (set slots i 1) ≡ length slots = length-set slots i 1 in
    omega arith

-- there is room for one page more where a page has no bytes
pub room_more : (size : ℕ) (slots bytes : List ℕ) (capacity i : ℕ) → AreParts size slots bytes capacity → i < length slots
    → get_or slots i 0 ≡ 0 → length bytes + size ≤ capacity
room_more size slots bytes capacity i are lt none =
    let fewer : written slots < length slots = let le : written slots + 1 ≤ length slots = written_fewer slots i lt none in omega arith in
    let fits : written slots * size + size ≤ length slots * size = page_before size (length slots) (written slots) fewer in
    let room : length slots * size ≤ capacity = are.has_room in
    let bytes_are : length bytes ≡ written slots * size = are.has_items in
    omega arith

-- the bytes of a slot are there
pub room_slot : (size : ℕ) (slots bytes : List ℕ) (capacity i k : ℕ) → AreParts size slots bytes capacity → i < length slots
    → get_or slots i 0 ≡ suc k → k * size + size ≤ length bytes
room_slot size slots bytes capacity i k are lt some =
    let le : get_or slots i 0 ≤ written slots = are.has_slots i lt in
    let before : k * size + size ≤ written slots * size = page_before size (written slots) k (omega arith) in
    let bytes_are : length bytes ≡ written slots * size = are.has_items in
    omega arith

-- more room doesn't matter
pub more_room : (size : ℕ) (slots bytes : List ℕ) (old new : ℕ) → AreParts size slots bytes old → old ≤ new → AreParts size slots bytes new
more_room size slots bytes old new are le = record {
  is_some = are.is_some;
  has_items = are.has_items;
  has_slots = are.has_slots;
  own_slots = are.own_slots;
  has_room = (let room : length slots * size ≤ old = are.has_room in omega arith);
}

-- ---- a page that has bytes is written

other_slot : (size : ℕ) (old new : List ℕ) (k s : ℕ) (content : List ℕ) → ChangesPart size old new k content → s ≢ suc k
    → slot_part size new s ≡ slot_part size old s
other_slot size old new k zero content changes other = refl
other_slot size old new k (suc m) content changes other = changes.others m (λ e. other (ap (λ (n : ℕ). suc n) e))

-- bytes that are changed in a page's slot are the page's new content, and no other page changes
pub put_slot : (size : ℕ) (slots old new : List ℕ) (capacity i k : ℕ) (content : List ℕ) → AreParts size slots old capacity
    → i < length slots → get_or slots i 0 ≡ suc k
    → ChangesPart size old new k content → parts_in size slots new ≡ set (parts_in size slots old) i content
put_slot size slots old new capacity i k content are lt some changes =
    let before : List (List ℕ) = parts_in size slots old in
    let many : length before ≡ length slots = length-pages size slots old in
    ext_get_or [] (parts_in size slots new) (set before i content) (length-pages size slots new ∙ sym many ∙ sym (length-set before i content))
    (λ j lj.
    let inside : j < length slots = omega (arith, length-pages size slots new) in
    elim (cases_eq j i) [
      | inl at ↦ page_bytes size slots new j k inside (ap (λ (n : ℕ). get_or slots n 0) at ∙ some) ∙ changes.here
          ∙ sym (get_or-set_same before i content [] (omega arith)) ∙ ap (λ (n : ℕ). get_or (set before i content) n []) (sym at)
      | inr other ↦ page_is size slots new j inside
          ∙ other_slot size old new k (get_or slots j 0) content changes (λ e. other (sym (are.own_slots i j lt inside (omega arith) (some ∙ sym e))))
          ∙ sym (page_is size slots old j inside) ∙ sym (get_or-set_other before i j content [] other)
    ])

-- ---- a page without bytes is written

front_slot : (size : ℕ) (bytes more : List ℕ) (n s : ℕ) → length bytes ≡ n * size → s ≤ n → slot_part size (bytes ++ more) s ≡ slot_part size bytes s
front_slot size bytes more n zero len le = refl
front_slot size bytes more n (suc k) len le =
    let before : k * size + size ≤ n * size = page_before size n k (omega arith) in
    page_front size bytes more k (omega arith)

-- bytes that are appended as a new slot are the content of the page that the slot is given to
pub put_more : (size : ℕ) (slots bytes content : List ℕ) (capacity i : ℕ) → AreParts size slots bytes capacity → i < length slots → length content ≡ size
    → parts_in size (set slots i (suc (written slots))) (bytes ++ content) ≡ set (parts_in size slots bytes) i content
unfolding parts_in
put_more size slots bytes content capacity i are lt len =
    let n : ℕ = written slots in
    let bytes_are : length bytes ≡ n * size = are.has_items in
    map-set (slot_part size (bytes ++ content)) slots i (suc n)
    ∙ ap (λ (c : List ℕ). set (map (slot_part size (bytes ++ content)) slots) i c)
    (ap (λ (l : List ℕ). take size l) (drop_at bytes content (n * size) bytes_are) ∙ ap (λ (m : ℕ). take m content) (sym len) ∙ take-length content)
    ∙ ap (λ (l : List (List ℕ)). set l i content) (map_agree (slot_part size (bytes ++ content)) (slot_part size bytes) slots
    (All-from_get_or (λ s. slot_part size (bytes ++ content) s ≡ slot_part size bytes s) slots 0
    (λ j lj. front_slot size bytes content n (get_or slots j 0) bytes_are (are.has_slots j lj))))

-- the slots stay well formed if a page without one is given a new one
pub kept_more : (size : ℕ) (slots bytes content : List ℕ) (capacity i : ℕ) → AreParts size slots bytes capacity → i < length slots
    → get_or slots i 0 ≡ 0 → length content ≡ size
    → AreParts size (set slots i (suc (written slots))) (bytes ++ content) capacity
kept_more size slots bytes content capacity i are lt none len =
    let n : ℕ = written slots in
    let new : List ℕ = set slots i (suc n) in
    let more : written new ≡ n + 1 = written_more slots i n lt none in
    let long : length new ≡ length slots = length-set slots i (suc n) in
    let here : get_or new i 0 ≡ suc n = get_or-set_same slots i (suc n) 0 lt in
    let away : (j : ℕ) → j ≢ i → get_or new j 0 ≡ get_or slots j 0 = λ j other. get_or-set_other slots i j (suc n) 0 other in
    let low : (j : ℕ) → j < length new → j ≢ i
    → get_or new j 0 ≤ n = λ j lj other. (let le : get_or slots j 0 ≤ n = are.has_slots j (omega arith) in
    let e : get_or new j 0 ≡ get_or slots j 0 = away j other in omega arith) in
    let bytes_are : length bytes ≡ n * size = are.has_items in
    record {
      is_some = are.is_some;
      has_items = rw more (length-append bytes content ∙ (let next : (n + 1) * size ≡ n * size + size = grind arith in omega arith));
      has_slots = λ j lj. elim (cases_eq j i) [
        | inl at ↦ let e : get_or new j 0 ≡ suc n = ap (λ (m : ℕ). get_or new m 0) at ∙ here in omega arith
        | inr other ↦ let le : get_or new j 0 ≤ n = low j lj other in omega arith
      ];
      own_slots = λ j m lj lm some same. elim (cases_eq j i) [
        | inl at ↦ (elim (cases_eq m i) [
          | inl too ↦ at ∙ sym too
          | inr other ↦ let le : get_or new m 0 ≤ n = low m lm other in
              let e : get_or new j 0 ≡ suc n = ap (λ (x : ℕ). get_or new x 0) at ∙ here in absurd (omega arith)
        ])
        | inr other ↦ (elim (cases_eq m i) [
          | inl at ↦ let le : get_or new j 0 ≤ n = low j lj other in
              let e : get_or new m 0 ≡ suc n = ap (λ (x : ℕ). get_or new x 0) at ∙ here in absurd (omega arith)
          | inr too ↦
              let ej : get_or new j 0 ≡ get_or slots j 0 = away j other in
              let em : get_or new m 0 ≡ get_or slots m 0 = away m too in
              are.own_slots j m (omega arith) (omega arith) (omega arith) (sym ej ∙ same ∙ em)
        ])
      ];
      has_room = rw long are.has_room;
    }

-- the number of the slot that is made
pub slot_made : (size : ℕ) (slots bytes content : List ℕ) (capacity : ℕ) → AreParts size slots bytes capacity
    → length content ≡ size → (length bytes + length content) / size ≡ suc (written slots)
slot_made size slots bytes content capacity are len =
    let n : ℕ = written slots in
    let bytes_are : length bytes ≡ n * size = are.has_items in
    let e : length bytes + length content ≡ suc n * size + 0 = grind arith in
    rw e (div-mul-add (suc n) size 0 are.is_some)

-- ---- pages of zeros

zero_slots : (size n : ℕ) → map (slot_part size []) (replicate n 0) ≡ replicate n (zero_page size)
zero_slots size zero = refl
zero_slots size (suc n) = ap (λ (l : List (List ℕ)). zero_page size ∷ l) (zero_slots size n)

-- slots that were never given are pages of zeros
pub zeros_in : (size n : ℕ) → parts_in size (replicate n 0) [] ≡ replicate n (zero_page size)
unfolding parts_in
zeros_in size n = zero_slots size n
