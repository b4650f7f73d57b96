-- The marks of the places where two memories differ.
use Rattle.std.proofs.Common.{ℕ, ◌≡◌, ◌≢◌, ◌<◌, ◌+◌, ◌*◌, ◌/◌, ◌%◌, ◌^◌, ◌==◌, List, [], ◌∷◌, ◌++◌, length, get_or, min, refl, sym, ap, ◌∙◌, inl, inr, arith}
use Rattle.std.proofs.Common.{zero, suc, Bool, true, false, w64}
use Rattle.std.specs.Prelude.{◌&&◌, bit_or, nat_lt, slice_get}
use Rattle.std.specs.Int.{bit_at}
use Rattle.std.specs.List.{range_with_len, filter, find, AllZip}
use Rattle.std.specs.declared.vec.Vec.{Vec}
use Rattle.std.proofs.lemmas.Bool.{cases_Bool, cases_eq, cases_lt, lt-ltb, le-ltb}
use Rattle.std.proofs.lemmas.List.{get_or_push, get_or_append_left, length_push}
use Rattle.std.proofs.lemmas.List.FromFn.{length-range_with_len}
use Rattle.std.proofs.lemmas.Nat.Bits.{bit_at-zero, bit_at_set_same, bit_at_set_other}
use Rattle.std.proofs.lemmas.Slice.Zip.{AllZip-long}
use Rattle.mig_mem.specs.RamTable.{RamTable, block}
use Rattle.mig_mem.specs.declared.place.Place.{Place}
use Rattle.mig_mem.specs.Place.{place_at, places}
use Rattle.mig_mem.specs.Image.{Image, differs}
use Rattle.mig_mem.specs.PlaceSet.{places_where}
use Rattle.mig_mem.specs.Difference.{differing}
use Rattle.mig_mem.specs.Buffers.{buffers_of}
use Rattle.mig_mem.specs.Marks.{is_set, is_marked, set_in, IsDifferingWord, IsDifferingRow}
use Rattle.mig_mem.proofs.Bits.{unset_past}
use Rattle.mig_mem.proofs.Sets.{where_agree}

-- ---- the marks of one word

-- a word has marks of those of its pages that pass a test and come before a page
abbrev pub MarksBefore : ℕ → (ℕ → Bool) → ℕ → ℕ → Type 0
MarksBefore page test i word = (k : ℕ) → k < 64 → (bit_at word k == 1) ≡ (nat_lt (i * 64 + k) page && test (i * 64 + k))

-- before the first page of a word no mark is set
pub word_none : (test : ℕ → Bool) (i : ℕ) → MarksBefore (i * 64 + 0) test i 0
word_none test i b small =
    let no : nat_lt (i * 64 + b) (i * 64 + 0) ≡ false = le-ltb (i * 64 + b) (i * 64 + 0) (omega arith) in
    let z : bit_at 0 b ≡ 0 = bit_at-zero b in
    rw (no, z) refl

-- a number that isn't this one is below the next where it is below this one
lt_other : (q page next : ℕ) → next ≡ page + 1 → q ≢ page → nat_lt q next ≡ nat_lt q page
lt_other q page next e ne = elim (cases_lt q page) [
  | inl lt ↦ lt-ltb q next (omega arith) ∙ sym (lt-ltb q page lt)
  | inr ge ↦ le-ltb q next (omega arith) ∙ sym (le-ltb q page ge)
]

-- a page more, which fails the test
pub word_same : (test : ℕ → Bool) (i bit word : ℕ) → MarksBefore (i * 64 + bit) test i word → test (i * 64 + bit) ≡ false
    → MarksBefore (i * 64 + (bit + 1)) test i word
word_same test i bit word marks fails b small = elim (cases_eq b bit) [
  | inl at ↦
      let past : nat_lt (i * 64 + b) (i * 64 + bit) ≡ false = le-ltb (i * 64 + b) (i * 64 + bit) (omega arith) in
      let no : test (i * 64 + b) ≡ false = ap (λ (n : ℕ). test (i * 64 + n)) at ∙ fails in
      marks b small ∙ rw (past, no) (elim (cases_Bool (nat_lt (i * 64 + b) (i * 64 + (bit + 1)))) [ inl t ↦ rw t refl | inr f ↦ rw f refl ])
  | inr away ↦ marks b small ∙ ap (λ (t : Bool). t && test (i * 64 + b))
      (sym (lt_other (i * 64 + b) (i * 64 + bit) (i * 64 + (bit + 1)) (omega arith) (λ e. away (omega arith))))
]

-- and one that passes
pub word_more : (test : ℕ → Bool) (i bit word : ℕ) → bit < 64 → MarksBefore (i * 64 + bit) test i word → test (i * 64 + bit) ≡ true
    → MarksBefore (i * 64 + (bit + 1)) test i (bit_or word (1 * 2 ^ bit % 2 ^ 64))
word_more test i bit word low marks passes b small =
    let new : ℕ = bit_or word (1 * 2 ^ bit % 2 ^ 64) in
    elim (cases_eq b bit) [
      | inl at ↦
          let before : nat_lt (i * 64 + b) (i * 64 + (bit + 1)) ≡ true = lt-ltb (i * 64 + b) (i * 64 + (bit + 1)) (omega arith) in
          let yes : test (i * 64 + b) ≡ true = ap (λ (n : ℕ). test (i * 64 + n)) at ∙ passes in
          let one : bit_at new b ≡ 1 = ap (λ (n : ℕ). bit_at new n) at ∙ bit_at_set_same w64 word bit low in
          rw (one, before, yes) refl
      | inr away ↦
          let other : bit_at new b ≡ bit_at word b = bit_at_set_other w64 word bit low b away in
          ap (λ (n : ℕ). n == 1) other ∙ marks b small
          ∙ ap (λ (t : Bool). t && test (i * 64 + b)) (sym (lt_other (i * 64 + b) (i * 64 + bit) (i * 64 + (bit + 1)) (omega arith) (λ e. away (omega arith))))
    ]

-- all pages of a word
pub word_all : (test : ℕ → Bool) (i bit pages word : ℕ) → i * 64 + bit ≡ min pages (i * 64 + 64)
    → MarksBefore (i * 64 + bit) test i word → MarksBefore pages test i word
word_all test i bit pages word e marks b small =
    marks b small ∙ ap (λ (t : Bool). t && test (i * 64 + b)) (elim (cases_lt (i * 64 + b) pages) [
      | inl lt ↦ lt-ltb (i * 64 + b) (i * 64 + bit) (omega arith) ∙ sym (lt-ltb (i * 64 + b) pages lt)
      | inr ge ↦ le-ltb (i * 64 + b) (i * 64 + bit) (omega arith) ∙ sym (le-ltb (i * 64 + b) pages ge)
    ])

-- ---- the marks of a block

-- whether memories differ at a page of a block
abbrev pub differs_in : Image → Image → ℕ → ℕ → Bool
differs_in a b at page = differs a b (place_at at page)

-- a word that has the marks of all its pages marks those that differ
pub differing_word : (a b : Image) (at i bit word : ℕ) → i * 64 + bit ≡ min (block a.table.blocks at).pages (i * 64 + 64)
    → MarksBefore (i * 64 + bit) (differs_in a b at) i word
    → IsDifferingWord a b at i word
differing_word a b at i bit word end marks = record { bits = word_all (differs_in a b at) i bit (block a.table.blocks at).pages word end marks }

zipped_at : (R : ℕ → ℕ → Type 0) (a n : ℕ) (ys : List ℕ) → AllZip R (range_with_len a n) ys → (k : ℕ) → k < n → R (a + k) (get_or ys k 0)
zipped_at R a zero ys h k lt = absurd (omega arith)
zipped_at R a (suc n) [] h k lt = absurd h
zipped_at R a (suc n) (y ∷ ys) h zero lt = let e : a + 0 ≡ a = omega arith in rw e h.0
zipped_at R a (suc n) (y ∷ ys) h (suc k) lt = let e : a + suc k ≡ (a + 1) + k = omega arith in rw e (zipped_at R (a + 1) n ys h.1 k (omega arith))

-- words that mark the pages that differ are the row of a block
pub differing_row : (a b : Image) (at count : ℕ) (words : List ℕ) → count ≡ ((block a.table.blocks at).pages + 63) / 64
    → AllZip (IsDifferingWord a b at) (range_with_len 0 count) words → IsDifferingRow a b at words
unfolding is_set
differing_row a b at count words e zipped =
    let pages : ℕ = (block a.table.blocks at).pages in
    let len : length words ≡ count = AllZip-long (IsDifferingWord a b at) (range_with_len 0 count) words zipped ∙ length-range_with_len 0 count in
    record {
      len = len ∙ e;
      marks = λ q. elim (cases_lt (q / 64) count) [
        | inl within ↦
            let here : (0 + q / 64) * 64 + q % 64 ≡ q = omega arith in
            (zipped_at (IsDifferingWord a b at) 0 count words zipped (q / 64) within).bits (q % 64) (omega arith)
            ∙ ap (λ (p : ℕ). nat_lt p pages && differs_in a b at p) here
        | inr past ↦
            let no : nat_lt q pages ≡ false = le-ltb q pages (omega arith) in
            unset_past words q (omega arith) ∙ rw no refl
      ];
    }

-- ---- the marks of all blocks

-- the marks of the first blocks
pub record DifferingRows (a b : Image) (count : ℕ) (rows : List (List ℕ)) : Type 0 where
  pub len : length rows ≡ count
  pub each : (i : ℕ) → i < count → IsDifferingRow a b i (get_or rows i [])

-- the row of the next block is added to the rows before it
pub rows_more : (a b : Image) (count : ℕ) (rows : List (List ℕ)) (row : List ℕ) → DifferingRows a b count rows → IsDifferingRow a b count row
    → DifferingRows a b (count + 1) (rows ++ row ∷ [])
rows_more a b count rows row before more = record {
  len = length_push rows row ∙ ap (λ (n : ℕ). n + 1) before.len;
  each = λ i lt. elim (cases_lt i count) [
    | inl low ↦
        let same : get_or (rows ++ row ∷ []) i [] ≡ get_or rows i [] = get_or_append_left rows (row ∷ []) [] i (rw before.len low) in
        rw same (before.each i low)
    | inr high ↦
        let last : i ≡ count = omega arith in
        let here : get_or (rows ++ row ∷ []) i [] ≡ row = get_or_push rows row [] i (before.len ∙ sym last) in
        rw (here, last) more
  ];
}

-- and make the set of the places where the memories differ
pub differing_set : {A : Type 0} (a b : Image) (table : RamTable) (words : List (Vec ℕ A)) (count : ℕ) → table ≡ a.table → count ≡ length a.table.blocks
    → DifferingRows a b count (buffers_of words) → set_in table words ≡ differing a b
differing_set a b table words count same end marks =
    let rows : List (List ℕ) = buffers_of words in
    let all : DifferingRows a b (length a.table.blocks) rows = rw end at marks in
    ap (λ (t : RamTable). set_in t words) same
    ∙ ap (λ (ps : List Place). record { table = a.table; marked = ps }) (where_agree a.table (is_marked rows) (differs a b) (λ p is.
    let inside : nat_lt p.page (block a.table.blocks p.block).pages ≡ true = lt-ltb p.page (block a.table.blocks p.block).pages is.has_page in
    (all.each p.block is.has_block).marks p.page ∙ rw inside refl))

-- ---- the least

first_passing : {X : Type 0} (f : X → Bool) (xs : List X) → slice_get (filter f xs) 0 ≡ find f xs
first_passing f [] = refl
first_passing f (x ∷ xs) = elim (cases_Bool (f x)) [ inl t ↦ rw t refl | inr n ↦ rw n (first_passing f xs) ]

-- the least place of two memories' differences
pub least_differing : (a b : Image) → slice_get (differing a b).marked 0 ≡ find (differs a b) (places a.table)
unfolding places_where
least_differing a b = first_passing (differs a b) (places a.table)
