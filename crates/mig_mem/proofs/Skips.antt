-- Steps over many marks at once.
use Rattle.std.proofs.Common.{ℕ, ◌≡◌, ◌<◌, ◌≤◌, ◌+◌, ◌-◌, ◌/◌, ◌%◌, ◌^◌, ◌==◌, List, [], ◌∷◌, ◌++◌, length, take, get_or, refl, sym, ap, ◌∙◌, inl, inr, arith}
use Rattle.std.proofs.Common.{suc, Bool, true, false, cond}
use Rattle.std.specs.Prelude.{bit_and, count_ones}
use Rattle.std.specs.Int.{bit_at}
use Rattle.std.specs.List.{range_with_len, count_by}
use Rattle.std.specs.declared.vec.Vec.{Vec}
use Rattle.std.proofs.lemmas.Bool.{cases_Bool, cases_lt}
use Rattle.std.proofs.lemmas.Nat.{and_le_r, shr-shr, shr_below}
use Rattle.std.proofs.lemmas.Nat.Bits.{bit_at_and, bit_at-lt, bit_at_ones}
use Rattle.std.proofs.Math.Seq.{take-suc}
use Rattle.std.proofs.lemmas.List.{map_push}
use Rattle.std.proofs.lemmas.List.Sums.{sum_by-cons}
use Rattle.mig_mem.specs.RamTable.{RamTable, block}
use Rattle.mig_mem.specs.Place.{place_at, has_place, IsPlace}
use Rattle.mig_mem.specs.PlaceSet.{PlaceSet, places_where}
use Rattle.mig_mem.specs.Buffers.{buffers_of}
use Rattle.mig_mem.specs.Marks.{is_set, is_marked, set_in, HasWords, IsCounted}
use Rattle.mig_mem.specs.Skipping.{IsPastPlaces, IsPastMarks, IsStepOver, marks_between}
use Rattle.mig_mem.proofs.Counts.{count_agree, count_later, count_parts, ones_are_bits}
use Rattle.mig_mem.proofs.Members.{All-range}
use Rattle.mig_mem.proofs.Sets.{has_place-where, has_place-where_past, mark_read, marks_at, row_at, has_row}

-- ---- the bits of a shifted word

-- a bit of a number that was shifted
pub shifted_bit : (word s i : ℕ) → bit_at (word / 2 ^ s) i ≡ bit_at word (s + i)
shifted_bit word s i = ap (λ (x : ℕ). x % 2) (shr-shr word s i)

-- ---- one step

-- over all bits
pub step_all : (bits room left ones : ℕ) → 0 < room → bits < 2 ^ room → ones ≡ count_ones bits → ones ≤ left → IsStepOver bits room left room ones
step_all bits room left ones some fits is few = record { some = some; within = omega arith; few = few; counts = is ∙ ones_are_bits room bits fits }

-- over the lowest eight
pub step_part : (bits room left ones : ℕ) → 8 ≤ room → ones ≡ count_ones (bit_and bits 255) → ones ≤ left → IsStepOver bits room left 8 ones
step_part bits room left ones wide is few = record {
  some = omega arith;
  within = wide;
  few = few;
  counts = is ∙ ones_are_bits 8 (bit_and bits 255) (let le : bit_and bits 255 ≤ 255 = and_le_r bits 255 in omega arith)
      ∙ count_agree (λ i. bit_at (bit_and bits 255) i == 1) (λ i. bit_at bits i == 1) (range_with_len 0 8)
      (All-range (λ i. (bit_at (bit_and bits 255) i == 1) ≡ (bit_at bits i == 1)) 0 8 (λ i lo hi.
      ap (λ (n : ℕ). n == 1) (bit_at_and bits 255 i ∙ omega (arith, bit_at_ones 8 i hi, bit_at-lt bits i))));
}

-- a shifted word has fewer bits
pub shifted_fits : (word s : ℕ) → word < 2 ^ 64 → s < 64 → word / 2 ^ s < 2 ^ (64 - s)
shifted_fits word s fits small =
    let all : (64 - s) + s ≡ 64 = omega arith in
    shr_below word (64 - s) s (rw all fits)

-- ---- the walk

-- a run in two parts
between_parts : (words : List ℕ) (from m n : ℕ)
    → count_by (is_set words) (range_with_len from (m + n)) ≡ count_by (is_set words) (range_with_len from m) + count_by
    (is_set words) (range_with_len (from + m) n)
between_parts words from m n =
    let f : ℕ → Bool = λ i. is_set words (i + from) in
    count_later (is_set words) from 0 from (m + n) (omega arith) ∙ count_parts f m n
    ∙ omega (
      arith,
      count_later (is_set words) from 0 from m (omega arith),
      count_later (is_set words) (from + m) 0 (from + m) n (omega arith),
      count_agree (λ i. f (i + m)) (λ i. is_set words (i + (from + m))) (range_with_len 0 n)
          (All-range (λ i. f (i + m) ≡ is_set words (i + (from + m))) 0 n
          (λ i lo hi. let e : (i + m) + from ≡ i + (from + m) = omega arith in ap (λ (q : ℕ). is_set words q) e)),
    )

-- the marks of a step's bits
stepped : (words : List ℕ) (page width : ℕ) → page % 64 + width ≤ 64
    → count_by (is_set words) (range_with_len page width) ≡ count_by
    (λ i. bit_at (get_or words (page / 64) 0 / 2 ^ (page % 64)) i == 1) (range_with_len 0 width)
unfolding is_set
stepped words page width within =
    count_later (is_set words) page 0 page width (omega arith)
    ∙ count_agree (λ i. is_set words (i + page)) (λ i. bit_at (get_or words (page / 64) 0 / 2 ^ (page % 64)) i == 1) (range_with_len 0 width)
    (All-range (λ i. is_set words (i + page) ≡ (bit_at (get_or words (page / 64) 0 / 2 ^ (page % 64)) i == 1)) 0 width (λ i lo hi.
    let at : (i + page) / 64 ≡ page / 64 = omega arith in
    let bit : (i + page) % 64 ≡ page % 64 + i = omega arith in
    rw (at, bit, shifted_bit (get_or words (page / 64) 0) (page % 64) i) refl))

-- what the walk keeps: the marks that it has passed, and those that are left
pub record IsOnWay (words : List ℕ) (from count page left : ℕ) : Type 0 where
  pub low : from ≤ page
  pub counts : marks_between words from page + left ≡ count

-- a step over some pages leaves fewer marks to pass, by those that it passed
pub steps_on : (words : List ℕ) (from count page left width ones : ℕ) → IsOnWay words from count page left
    → IsStepOver (get_or words (page / 64) 0 / 2 ^ (page % 64)) (64 - page % 64) left width ones → IsOnWay words from count (page + width) (left - ones)
steps_on words from count page left width ones way step =
    let low : from ≤ page = way.low in
    let few : ones ≤ left = step.few in
    let all : (page + width) - from ≡ (page - from) + width = omega arith in
    let at : from + (page - from) ≡ page = omega arith in
    let within : width ≤ 64 - page % 64 = step.within in
    let more : count_by (is_set words) (range_with_len (from + (page - from)) width) ≡ ones =
    ap (λ (n : ℕ). count_by (is_set words) (range_with_len n width)) at ∙ stepped words page width (omega arith) ∙ sym step.counts in
    record {
      low = omega arith;
      counts = rw all (omega (arith, way.counts, between_parts words from (page - from) width, more));
    }

-- ---- the same in a set

abbrev one_if : Bool → ℕ
one_if b = cond b 1 0

ones_of : (a b : Bool) → a ≡ b → one_if a ≡ one_if b
ones_of a b e = ap one_if e

-- a mark of a row may stand after the block's end, where the set has no place
count_less : (f g : ℕ → Bool) (xs : List ℕ) → ((n : ℕ) → f n ≡ true → g n ≡ true) → count_by f xs ≤ count_by g xs
count_less f g [] h = omega arith
count_less f g (x ∷ xs) h =
    let rest : count_by f xs ≤ count_by g xs = count_less f g xs h in
    elim (cases_Bool (f x)) [
      | inl t ↦ let u : g x ≡ true = h x t in omega
          (arith, sum_by-cons (λ (n : ℕ). cond (f n) 1 0) x xs, sum_by-cons (λ (n : ℕ). cond (g n) 1 0) x xs, ones_of (f x) true t, ones_of (g x) true u)
      | inr n ↦ omega (arith, sum_by-cons (λ (n : ℕ). cond (f n) 1 0) x xs, sum_by-cons (λ (n : ℕ). cond (g n) 1 0) x xs, ones_of (f x) false n)
    ]

row_len : {A : Type 0} (table : RamTable) (words : List (Vec ℕ A)) (b : ℕ) (x : Vec ℕ A) → HasWords table (buffers_of words) → b < length table.blocks
    → x ≡ get_or words b x → length x.items ≡ ((block table.blocks b).pages + 63) / 64
row_len {A} table words b x room lt e =
    ap (λ (l : List ℕ). length l) (sym (row_at words b x (has_row table words b room lt) e)) ∙ room.pages b lt

-- a page after so many marks of a row is after so many places of the set
pub past_places : {A : Type 0} (table : RamTable) (words : List (Vec ℕ A)) (b from count page : ℕ) (x : Vec ℕ A)
    → HasWords table (buffers_of words) → b < length table.blocks
    → x ≡ get_or words b x → IsPastMarks x.items from count page → IsPastPlaces (set_in table words) b from count page
past_places {A} table words b from count page x room lt e past =
    let set : PlaceSet = set_in table words in
    let has : ℕ → Bool = λ q. has_place set.marked (place_at b q) in
    let run : List ℕ = range_with_len from (page - from) in
    let within : (q : ℕ) → q < (block table.blocks b).pages → has q ≡ is_set x.items q = λ q inside.
    let is : IsPlace table (place_at b q) = record { has_block = lt; has_page = inside } in
    has_place-where table (marks_at words) (place_at b q) is ∙ sym (mark_read table words (place_at b q) x room is e) in
    let less : (q : ℕ) → has q ≡ true → is_set x.items q ≡ true = λ q there. elim (cases_lt q (block table.blocks b).pages) [
      | inl inside ↦ sym (within q inside) ∙ there
      | inr outside ↦
          let none : has q ≡ false = has_place-where_past table (marks_at words) (place_at b q)
          (λ is. let inside : q < (block table.blocks b).pages = is.has_page in absurd (omega arith)) in
          absurd cc
    ] in
    let low : from ≤ page = past.low in
    record {
      low = low;
      few = omega (arith, past.few, count_less has (is_set x.items) run less);
      all = λ before.
          let len : length x.items ≡ ((block table.blocks b).pages + 63) / 64 = row_len table words b x room lt e in
          let same : count_by has run ≡ count_by (is_set x.items) run =
          count_agree has (is_set x.items) run (All-range (λ q. has q ≡ is_set x.items q) from (page - from) (λ q lo hi. within q (omega arith))) in
          same ∙ past.all (omega arith);
    }

-- ---- a copy

-- the marks of the first blocks, and those of one more
pub copied_more : {A : Type 0} (rows : List (List ℕ)) (copies : List (Vec ℕ A)) (i : ℕ) (v : Vec ℕ A) → i < length rows
    → buffers_of copies ≡ take i rows → v.items ≡ get_or rows i []
    → buffers_of (copies ++ v ∷ []) ≡ take (i + 1) rows
copied_more {A} rows copies i v lt before same =
    let next : i + 1 ≡ suc i = omega arith in
    map_push (λ (w : Vec ℕ A). w.items) copies v ∙ ap (λ (l : List (List ℕ)). l ++ v.items ∷ []) before ∙ ap (λ (row : List ℕ). take i rows ++ row ∷ []) same
    ∙ sym (take-suc rows i [] lt) ∙ ap (λ (n : ℕ). take n rows) (sym next)

-- the marks of all blocks
pub copied_counted : {A B : Type 0} (table copy : RamTable) (words : List (Vec ℕ A)) (copies : List (Vec ℕ B)) (count : ℕ)
    → copy ≡ table → buffers_of copies ≡ buffers_of words
    → IsCounted table words count → IsCounted copy copies count × (set_in copy copies ≡ set_in table words)
copied_counted {A} {B} table copy words copies count of_table same counted =
    let set : set_in copy copies ≡ set_in table words =
    ap (λ (rows : List (List ℕ)). record { table = copy; marked = places_where copy (is_marked rows) }) same
    ∙ ap (λ (t : RamTable). record { table = t; marked = places_where t (is_marked (buffers_of words)) }) of_table in (
      record {
        is_table = rw of_table counted.is_table;
        has_room = rw (of_table, same) counted.has_room;
        counts = counted.counts ∙ ap (λ (s : PlaceSet). length s.marked) (sym set);
      },
      set,
    )
