-- How many marks there are.
use Rattle.std.proofs.Common.{ℕ, ◌≡◌, ◌<◌, ◌≤◌, ◌+◌, ◌-◌, ◌*◌, ◌/◌, ◌%◌, ◌^◌, ◌==◌, List, [], ◌∷◌, ◌++◌, length, map, get_or, refl, sym, ap, ◌∙◌, inl, inr}
use Rattle.std.proofs.Common.{arith, zero, suc, Bool, true, false, cond, pow-suc}
use Rattle.std.specs.Prelude.{count_ones}
use Rattle.std.specs.Int.{bit_at}
use Rattle.std.specs.Int.Count.{ones_step}
use Rattle.std.specs.List.{range_with_len, flat_map, count_by, sum_by, All}
use Rattle.std.proofs.lemmas.Bool.{cases_eq, eq-eqb, ne_eqb}
use Rattle.std.proofs.lemmas.Nat.{ones_le_self}
use Rattle.std.proofs.lemmas.Nat.Bits.{bit_at_lowest, bit_at-suc}
use Rattle.std.proofs.lemmas.List.Elements.{All-head, All-tail}
use Rattle.std.proofs.lemmas.List.{get_or_default}
use Rattle.std.proofs.lemmas.List.Folds.{fold-map}
use Rattle.std.proofs.lemmas.List.FromFn.{fill_by_all, length-range_with_len}
use Rattle.std.proofs.lemmas.List.Sums.{sum_by-cons, sum_by-append, length-filter, count_by-le-length}
use Rattle.mig_mem.specs.declared.place.Place.{Place}
use Rattle.mig_mem.specs.RamTable.{RamTable, block}
use Rattle.mig_mem.specs.Place.{place_at, block_places, places}
use Rattle.mig_mem.specs.PlaceSet.{places_where}
use Rattle.mig_mem.specs.Marks.{is_set, is_marked, marks_in, AreMarks}
use Rattle.mig_mem.proofs.Blocks.{block_room}
use Rattle.mig_mem.proofs.Members.{All-range}
use Rattle.mig_mem.proofs.PageSizes.{page_size_some}

-- ---- counts over lists and runs of numbers

-- functions that agree on each element have one sum
pub sum_agree : {X : Type 0} (f g : X → ℕ) (xs : List X) → All (λ x. f x ≡ g x) xs → sum_by f xs ≡ sum_by g xs
sum_agree f g [] h = refl
sum_agree {X} f g (x ∷ xs) h =
    let here : f x ≡ g x = All-head (λ (y : X). f y ≡ g y) x xs h in
    let rest : sum_by f xs ≡ sum_by g xs = sum_agree f g xs (All-tail (λ (y : X). f y ≡ g y) x xs h) in
    omega (arith, sum_by-cons f x xs, sum_by-cons g x xs)

-- tests that agree on each element count the same
pub count_agree : {X : Type 0} (f g : X → Bool) (xs : List X) → All (λ x. f x ≡ g x) xs → count_by f xs ≡ count_by g xs
count_agree {X} f g xs h = sum_agree (λ (x : X). cond (f x) 1 0) (λ (x : X). cond (g x) 1 0) xs (λ k d lt. ap (λ (b : Bool). cond b 1 0) (h k d lt))

-- if no element passes, 0 are counted
pub count_none : {X : Type 0} (f : X → Bool) (xs : List X) → All (λ x. f x ≡ false) xs → count_by f xs ≡ 0
count_none f [] h = refl
count_none {X} f (x ∷ xs) h =
    let here : f x ≡ false = All-head (λ (y : X). f y ≡ false) x xs h in
    let rest : count_by f xs ≡ 0 = count_none f xs (All-tail (λ (y : X). f y ≡ false) x xs h) in
    sum_by-cons (λ (y : X). cond (f y) 1 0) x xs ∙ rw (here, rest) refl

-- to sum over all that is listed of each element is to sum the sums of what is listed of each
pub sum_by-flat_map : {X Y : Type 0} (f : Y → ℕ) (g : X → List Y) (xs : List X) → sum_by f (flat_map g xs) ≡ sum_by (λ x. sum_by f (g x)) xs
sum_by-flat_map f g [] = refl
sum_by-flat_map {X} f g (x ∷ xs) =
    sum_by-append f (g x) (flat_map g xs) ∙ ap (λ (n : ℕ). sum_by f (g x) + n) (sum_by-flat_map f g xs)
    ∙ sym (sum_by-cons (λ (y : X). sum_by f (g y)) x xs)

-- a run further on
pub count_later : (f : ℕ → Bool) (d a b n : ℕ) → a + d ≡ b → count_by f (range_with_len b n) ≡ count_by (λ i. f (i + d)) (range_with_len a n)
count_later f d a b zero e = refl
count_later f d a b (suc n) e =
    sum_by-cons (λ (i : ℕ). cond (f i) 1 0) b (range_with_len (b + 1) n)
    ∙ ap (λ (i : ℕ). cond (f i) 1 0 + count_by f (range_with_len (b + 1) n)) (sym e)
    ∙ ap (λ (m : ℕ). cond (f (a + d)) 1 0 + m) (count_later f d (a + 1) (b + 1) n (omega arith))
    ∙ sym (sum_by-cons (λ (i : ℕ). cond (f (i + d)) 1 0) a (range_with_len (a + 1) n))

-- a range of numbers is its front and the rest after it
pub range-append : (a m n : ℕ) → range_with_len a (m + n) ≡ range_with_len a m ++ range_with_len (a + m) n
range-append a zero n =
    let e : a + 0 ≡ a = omega arith in
    let z : zero + n ≡ n = omega arith in rw (e, z) refl
range-append a (suc m) n =
    let e : suc m + n ≡ suc (m + n) = omega arith in
    let f : (a + 1) + m ≡ a + suc m = omega arith in
    ap (λ (k : ℕ). range_with_len a k) e
    ∙ ap (λ (l : List ℕ). a ∷ l) (range-append (a + 1) m n ∙ ap (λ (k : ℕ). range_with_len (a + 1) m ++ range_with_len k n) f)

-- a run in two parts
pub count_parts : (f : ℕ → Bool) (m n : ℕ)
    → count_by f (range_with_len 0 (m + n)) ≡ count_by f (range_with_len 0 m) + count_by (λ i. f (i + m)) (range_with_len 0 n)
count_parts f m n =
    ap (λ (l : List ℕ). count_by f l) (range-append 0 m n)
    ∙ sum_by-append (λ (i : ℕ). cond (f i) 1 0) (range_with_len 0 m) (range_with_len (0 + m) n)
    ∙ ap (λ (k : ℕ). count_by f (range_with_len 0 m) + k) (count_later f m 0 (0 + m) n refl)

-- ---- the ones of a word

lowest_bit : (n : ℕ) → cond (bit_at n 0 == 1) 1 0 ≡ n % 2
lowest_bit n =
    let low : bit_at n 0 ≡ n % 2 = bit_at_lowest n in
    elim (cases_eq (n % 2) 1) [
      | inl one ↦ let t : (n % 2 == 1) ≡ true = eq-eqb (n % 2) 1 one in rw (low, t) (sym one)
      | inr none ↦ let f : (n % 2 == 1) ≡ false = ne_eqb (n % 2) 1 none in rw (low, f) (omega arith)
    ]

-- as many ones are counted in a number as it has bits that are 1
pub ones_are_bits : (k n : ℕ) → n < 2 ^ k → count_ones n ≡ count_by (λ i. bit_at n i == 1) (range_with_len 0 k)
ones_are_bits zero n h = let none : count_ones n ≤ n = ones_le_self n in omega arith
ones_are_bits (suc k) n h =
    let half : n / 2 < 2 ^ k = omega (arith, pow-suc 2 k) in
    let bits : ℕ → Bool = λ i. bit_at n i == 1 in
    let rest : count_by bits (range_with_len 1 k) ≡ count_ones (n / 2) =
    count_later bits 1 0 1 k refl
    ∙ count_agree (λ i. bits (i + 1)) (λ i. bit_at (n / 2) i == 1) (range_with_len 0 k)
    (λ j d lt.
    let bit : ℕ = get_or (range_with_len 0 k) j d in
    let next : bit + 1 ≡ suc bit = omega arith in
    ap (λ (m : ℕ). bit_at n m == 1) next ∙ ap (λ (b : ℕ). b == 1) (bit_at-suc n bit))
    ∙ sym (ones_are_bits k (n / 2) half) in
    omega (arith, ones_step n, lowest_bit n, sum_by-cons (λ (i : ℕ). cond (bits i) 1 0) 0 (range_with_len 1 k))

-- the marks of one word more
pub marks_more : (words : List ℕ) (i w : ℕ) → w ≡ get_or words i 0 → w < 2 ^ 64
    → count_by (is_set words) (range_with_len 0 (64 * (i + 1))) ≡ count_by (is_set words) (range_with_len 0 (64 * i)) + count_ones w
unfolding is_set
marks_more words i w e fits =
    let size : 64 * (i + 1) ≡ 64 * i + 64 = omega arith in
    ap (λ (n : ℕ). count_by (is_set words) (range_with_len 0 n)) size
    ∙ count_parts (is_set words) (64 * i) 64
    ∙ ap (λ (n : ℕ). count_by (is_set words) (range_with_len 0 (64 * i)) + n) (
    count_agree (λ j. is_set words (j + 64 * i)) (λ j. bit_at w j == 1) (range_with_len 0 64)
    (All-range (λ j. is_set words (j + 64 * i) ≡ (bit_at w j == 1)) 0 64 (λ j lo hi.
    let at : (j + 64 * i) / 64 ≡ i = omega arith in
    let bit : (j + 64 * i) % 64 ≡ j = omega arith in
    rw (at, bit, sym e) refl))
    ∙ sym (ones_are_bits 64 w fits)
    )

-- before a page there are at most as many marks as pages
pub marks_before_few : (words : List ℕ) (n : ℕ) → count_by (is_set words) (range_with_len 0 n) ≤ n
marks_before_few words n = omega (arith, count_by-le-length (is_set words) (range_with_len 0 n), length-range_with_len 0 n)

-- words have at most 64 marks each
pub marks_few : (words : List ℕ) → marks_in words ≤ 64 * length words
unfolding marks_in
marks_few words = marks_before_few words (64 * length words)

-- ---- the marks of all blocks

-- no mark stands past the pages, so those up to there are all
marks_of_pages : (words : List ℕ) (pages : ℕ) → length words ≡ (pages + 63) / 64 → ((q : ℕ) → pages ≤ q → is_set words q ≡ false)
    → count_by (is_set words) (range_with_len 0 pages) ≡ marks_in words
unfolding marks_in
marks_of_pages words pages len past =
    let rest : ℕ = 64 * length words - pages in
    let all : 64 * length words ≡ pages + rest = omega arith in
    let none : count_by (λ i. is_set words (i + pages)) (range_with_len 0 rest) ≡ 0 =
    count_none (λ i. is_set words (i + pages)) (range_with_len 0 rest) (λ k d lt. past (get_or (range_with_len 0 rest) k d + pages) (omega arith)) in
    sym (ap (λ (n : ℕ). count_by (is_set words) (range_with_len 0 n)) all ∙ count_parts (is_set words) pages rest ∙ omega (arith, none))

-- a block's words are few
pub rows_short : (table : RamTable) (rows : List (List ℕ)) → AreMarks table rows → All (λ row. length row < 2 ^ 50) rows
rows_short table rows are i d lt =
    let within : i < length table.blocks = rw are.has_room.blocks at lt in
    let bytes : (block table.blocks i).pages * table.page_size ≤ 2 ^ 40 = block_room table i are.is_table within in
    let some : 0 < table.page_size = page_size_some table.page_size are.is_table.has_page_size in
    let few : (block table.blocks i).pages ≤ (block table.blocks i).pages * table.page_size = grind arith in
    let len : length (get_or rows i []) ≡ ((block table.blocks i).pages + 63) / 64 = are.has_room.pages i within in
    let short : length (get_or rows i []) < 2 ^ 50 = omega arith in
    let same : get_or rows i [] ≡ get_or rows i d = get_or_default rows i [] d lt in
    rw same at short

-- the number of the places that are marked
pub marks_counted : (table : RamTable) (rows : List (List ℕ)) → AreMarks table rows → sum_by marks_in rows ≡ length (places_where table (is_marked rows))
unfolding places_where places
marks_counted table rows are =
    let count : ℕ = length table.blocks in
    let marked : Place → ℕ = λ p. cond (is_marked rows p) 1 0 in
    let row : ℕ → List ℕ = λ b. get_or rows b [] in
    let numbers : List ℕ = range_with_len 0 count in
    let each : All (λ b. sum_by marked (block_places table.blocks b) ≡ marks_in (row b)) numbers =
    All-range (λ b. sum_by marked (block_places table.blocks b) ≡ marks_in (row b)) 0 count (λ b lo hi.
    let within : b < count = omega arith in
    fold-map (λ (n : ℕ) (p : Place). n + marked p) (place_at b) 0 (range_with_len 0 (block table.blocks b).pages)
    ∙ marks_of_pages (row b) (block table.blocks b).pages (are.has_room.pages b within) (λ q le. are.is_within b q within le)) in
    let listed : rows ≡ map row numbers = fill_by_all row rows count [] are.has_room.blocks (λ k lt. refl) in
    sym (
    length-filter (is_marked rows) (flat_map (block_places table.blocks) numbers)
    ∙ sum_by-flat_map marked (block_places table.blocks) numbers
    ∙ sum_agree (λ b. sum_by marked (block_places table.blocks b)) (λ b. marks_in (row b)) numbers each
    ∙ sym (fold-map (λ (n : ℕ) (l : List ℕ). n + marks_in l) row 0 numbers)
    ∙ ap (λ (l : List (List ℕ)). sum_by marks_in l) (sym listed)
    )
