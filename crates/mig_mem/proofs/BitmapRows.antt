-- The rows of marks that bitmaps give.
use Rattle.std.proofs.Common.{ℕ, ◌≡◌, ◌≢◌, ◌<◌, ◌≤◌, ◌+◌, ◌-◌, ◌*◌, ◌/◌, ◌%◌, ◌^◌, List, [], ◌∷◌, ◌++◌, length, take, get_or, set, refl, sym, ap, ◌∙◌, inl, inr}
use Rattle.std.proofs.Common.{arith, Bool, true, false, get_or-set_same, get_or-set_other}
use Rattle.std.specs.Prelude.{bit_and, ◌&&◌, nat_lt}
use Rattle.std.specs.Int.{bit_at}
use Rattle.std.specs.declared.vec.Vec.{Vec}
use Rattle.std.proofs.Math.Pow.{pow-lt}
use Rattle.std.proofs.Math.Nat.{mod-eq_of_lt}
use Rattle.std.proofs.lemmas.Bool.{cases_eq, cases_lt, lt-ltb, le-ltb, ne_eqb}
use Rattle.std.proofs.lemmas.List.{get_or_push, get_or_append_left, length_push, length-take-le, get_or-take}
use Rattle.std.proofs.lemmas.Nat.Bits.{bit_at_and, bit_at-lt, bit_at_ones, bit_at_ones_above}
use Rattle.mig_mem.specs.RamTable.{RamTable, block, IsTable}
use Rattle.mig_mem.specs.declared.place.Place.{Place}
use Rattle.mig_mem.specs.Buffers.{buffers_of}
use Rattle.mig_mem.specs.Marks.{is_set, is_marked, set_in, AreMarks}
use Rattle.mig_mem.specs.Bitmaps.{has_bit, in_bitmaps, bitmap_of, bitmap_set, IsRowOf}
use Rattle.mig_mem.proofs.Bits.{unset_past}
use Rattle.mig_mem.proofs.Sets.{where_agree}

-- ---- one row

-- the ones below a bit
mask_is : (k : ℕ) → k < 64 → 1 * 2 ^ k % 2 ^ 64 - 1 ≡ 2 ^ k - 1
mask_is k small =
    let less : 2 ^ k < 2 ^ 64 = pow-lt small in
    let one : 1 * 2 ^ k ≡ 2 ^ k = omega arith in
    ap (λ (n : ℕ). n % 2 ^ 64 - 1) one ∙ ap (λ (n : ℕ). n - 1) (mod-eq_of_lt less)

-- the last word without its bits from a bit on
low_bits : (word k i : ℕ) → k < 64 → i < k → bit_at (bit_and word (1 * 2 ^ k % 2 ^ 64 - 1)) i ≡ bit_at word i
low_bits word k i small lt =
    ap (λ (m : ℕ). bit_at (bit_and word m) i) (mask_is k small) ∙ bit_at_and word (2 ^ k - 1) i ∙ omega (arith, bit_at_ones k i lt, bit_at-lt word i)

high_bits : (word k i : ℕ) → k < 64 → k ≤ i → bit_at (bit_and word (1 * 2 ^ k % 2 ^ 64 - 1)) i ≡ 0
high_bits word k i small le =
    ap (λ (m : ℕ). bit_at (bit_and word m) i) (mask_is k small) ∙ bit_at_and word (2 ^ k - 1) i ∙ omega (arith, bit_at_ones_above k i le)

-- no mark stands after the pages
pub cleared : (words : List ℕ) (pages page : ℕ) → length words ≡ (pages + 63) / 64 → pages % 64 ≢ 0
    → is_set (set words (pages / 64) (bit_and (get_or words (pages / 64) 0) (1 * 2 ^ (pages % 64) % 2 ^ 64 - 1))) page
    ≡ (nat_lt page pages && is_set words page)
unfolding is_set
cleared words pages page len some =
    let i : ℕ = pages / 64 in
    let k : ℕ = pages % 64 in
    let word : ℕ = bit_and (get_or words i 0) (1 * 2 ^ k % 2 ^ 64 - 1) in
    let within : i < length words = omega arith in
    elim (cases_eq (page / 64) i) [
      | inr away ↦
          let same : get_or (set words i word) (page / 64) 0 ≡ get_or words (page / 64) 0 = get_or-set_other words i (page / 64) word 0 away in
          elim (cases_lt page pages) [
            | inl lt ↦ let t : nat_lt page pages ≡ true = lt-ltb page pages lt in rw (same, t) refl
            | inr ge ↦
                let f : nat_lt page pages ≡ false = le-ltb page pages ge in
                rw (same, f) (unset_past words page (omega arith))
          ]
      | inl at ↦
          let here : get_or (set words i word) (page / 64) 0 ≡ word = ap (λ (n : ℕ). get_or (set words i word) n 0) at
          ∙ get_or-set_same words i word 0 within in
          let was : get_or words (page / 64) 0 ≡ get_or words i 0 = ap (λ (n : ℕ). get_or words n 0) at in
          elim (cases_lt (page % 64) k) [
            | inl lt ↦
                let t : nat_lt page pages ≡ true = lt-ltb page pages (omega arith) in
                let low : bit_at word (page % 64) ≡ bit_at (get_or words i 0) (page % 64) = low_bits (get_or words i 0) k (page % 64) (omega arith) lt in
                rw (here, was, t, low) refl
            | inr ge ↦
                let f : nat_lt page pages ≡ false = le-ltb page pages (omega arith) in
                let none : bit_at word (page % 64) ≡ 0 = high_bits (get_or words i 0) k (page % 64) (omega arith) ge in
                rw (here, f) (ne_eqb (bit_at word (page % 64)) 1 (λ one. absurd (omega arith)))
          ]
    ]

-- whole words have no mark after the pages
pub whole_words : (words : List ℕ) (pages page : ℕ) → length words ≡ (pages + 63) / 64 → pages % 64 ≡ 0
    → is_set words page ≡ (nat_lt page pages && is_set words page)
whole_words words pages page len whole = elim (cases_lt page pages) [
  | inl lt ↦ let t : nat_lt page pages ≡ true = lt-ltb page pages lt in rw t refl
  | inr ge ↦ let f : nat_lt page pages ≡ false = le-ltb page pages ge in rw f (unset_past words page (omega arith))
]

-- the first words of a bitmap have its bits
front_bits : (bitmap : List ℕ) (count page : ℕ) → count ≤ length bitmap → page < 64 * count → is_set (take count bitmap) page ≡ has_bit bitmap page
unfolding is_set has_bit
front_bits bitmap count page enough lt =
    let within : page / 64 < count = omega arith in
    let same : get_or (take count bitmap) (page / 64) 0 ≡ get_or bitmap (page / 64) 0 = get_or-take count bitmap (page / 64) 0 within in
    rw same refl

-- a row of a bitmap, if the bits after the pages were removed from its first words
pub row_of : (bitmap front words : List ℕ) (pages : ℕ) → pages ≤ 64 * length bitmap → front ≡ take ((pages + 63) / 64) bitmap → length words ≡ length front
    → ((page : ℕ) → is_set words page ≡ (nat_lt page pages && is_set front page)) → IsRowOf bitmap pages words
row_of bitmap front words pages enough is len marks =
    let count : ℕ = (pages + 63) / 64 in
    let few : count ≤ length bitmap = omega arith in
    let long : length (take count bitmap) ≡ count = length-take-le count bitmap few in
    record {
      len = len ∙ ap (λ (l : List ℕ). length l) is ∙ long;
      marks = λ page. marks page ∙ elim (cases_lt page pages) [
        | inl lt ↦
            let bits : is_set front page ≡ has_bit bitmap page = ap (λ (l : List ℕ). is_set l page) is ∙ front_bits bitmap count page few (omega arith) in
            ap (λ (b : Bool). nat_lt page pages && b) bits
        | inr ge ↦ let f : nat_lt page pages ≡ false = le-ltb page pages ge in rw f refl
      ];
    }

-- ---- the rows of all blocks

-- the rows of the first blocks
pub record AreRowsOf (table : RamTable) (bitmaps : List (List ℕ)) (count : ℕ) (rows : List (List ℕ)) : Type 0 where
  pub len : length rows ≡ count
  pub each : (i : ℕ) → i < count → IsRowOf (bitmap_of bitmaps i) (block table.blocks i).pages (get_or rows i [])

-- the row of the next bitmap is added to the rows before it
pub one_row_more : (table : RamTable) (bitmaps : List (List ℕ)) (count : ℕ) (rows : List (List ℕ)) (row : List ℕ) → AreRowsOf table bitmaps count rows
    → IsRowOf (bitmap_of bitmaps count) (block table.blocks count).pages row → AreRowsOf table bitmaps (count + 1) (rows ++ row ∷ [])
one_row_more table bitmaps count rows row before more = record {
  len = length_push rows row ∙ ap (λ (n : ℕ). n + 1) before.len;
  each = λ i lt. elim (cases_lt i count) [
    | inl low ↦
        let same : get_or (rows ++ row ∷ []) i [] ≡ get_or rows i [] = get_or_append_left rows (row ∷ []) [] i (rw before.len low) in
        rw same (before.each i low)
    | inr high ↦
        let last : i ≡ count = omega arith in
        let here : get_or (rows ++ row ∷ []) i [] ≡ row = get_or_push rows row [] i (before.len ∙ sym last) in
        rw (here, last) more
  ];
}

-- of all blocks they are marks of the table's places
pub rows_are_marks : (table : RamTable) (bitmaps rows : List (List ℕ)) → IsTable table
    → AreRowsOf table bitmaps (length table.blocks) rows → AreMarks table rows
rows_are_marks table bitmaps rows is all = record {
  is_table = is;
  has_room = record { blocks = all.len; pages = λ i lt. (all.each i lt).len };
  is_within = λ i q lt past.
      let no : nat_lt q (block table.blocks i).pages ≡ false = le-ltb q (block table.blocks i).pages past in
      (all.each i lt).marks q ∙ rw no refl;
}

-- and make the set of the bitmaps' places
pub rows_make_set : {A : Type 0} (table : RamTable) (bitmaps : List (List ℕ)) (words : List (Vec ℕ A))
    → AreRowsOf table bitmaps (length table.blocks) (buffers_of words)
    → set_in table words ≡ bitmap_set table bitmaps
rows_make_set table bitmaps words all =
    let rows : List (List ℕ) = buffers_of words in
    ap (λ (ps : List Place). record { table = table; marked = ps }) (where_agree table (is_marked rows) (in_bitmaps bitmaps) (λ p is.
    let inside : nat_lt p.page (block table.blocks p.block).pages ≡ true = lt-ltb p.page (block table.blocks p.block).pages is.has_page in
    (all.each p.block is.has_block).marks p.page ∙ rw inside refl))
