-- Steps of a filling: the bytes that wait are written, and a page is added to them.
use Rattle.std.proofs.Common.{ℕ, ◌≡◌, ◌≢◌, ◌+◌, ◌-◌, ◌*◌, ◌<◌, ◌≤◌, ◌^◌, min, Bool, true, false}
use Rattle.std.proofs.Common.{cond, ◌&&◌, ◌||◌, ◌==◌, List, [], ◌∷◌, ◌++◌, length, map, get_or, Result, Ok, Err}
use Rattle.std.proofs.Common.{refl, sym, ap, subst, ◌∙◌, inl, inr, ◌⊎◌, Option, Some, None, arith}
use Rattle.std.specs.Prelude.{nat_lt, nat_le, OnOk}
use Rattle.std.specs.Option.{unwrap_or}
use Rattle.std.proofs.lemmas.Bool.{cases_Bool, cases_lt, cond-true, cond-false, le-leb, leb-true, lt-ltb, le-ltb}
use Rattle.std.proofs.lemmas.Bool.{and_left, and_right, or_left, or_right, eq-eqb, eqb-true, ne_eqb, false≢true}
use Rattle.std.proofs.lemmas.Option.{same_Some, none-some}
use Rattle.std.proofs.lemmas.List.Elements.{All-head, All-tail}
use Rattle.std.proofs.lemmas.List.Quantifiers.{position-Some}
use Rattle.std.proofs.lemmas.List.{get_or_append_left, get_or-append_right, get_or-replicate, length-append, length-replicate, map-append, append-nil}
use Rattle.mig_mem.specs.declared.place.Place.{Place}
use Rattle.mig_mem.specs.RamTable.{RamTable, IsTable, block}
use Rattle.mig_mem.specs.Place.{IsPlace, has_place, place_eq}
use Rattle.mig_mem.specs.PlaceSet.{PlaceSet, places_where, with_place}
use Rattle.mig_mem.specs.Image.{Page, Image, content_at, zero_page, zero_image, with_page}
use Rattle.mig_mem.specs.Round.{with_round, last_at}
use Rattle.mig_mem.proofs.Rounds.{with_page-more}
use Rattle.mig_stream.specs.PageRecord.{PageRecord, page_of}
use Rattle.zimgasol_reading.specs.Recorded.{with_records}
use Rattle.mig_mem.proofs.Images.{content_at-image_of, image_agree}
use Rattle.mig_mem.proofs.PageSizes.{page_before}
use Rattle.mig_mem.proofs.Blocks.{block_room}
use Rattle.mig_mem.proofs.PlaceOrder.{place_eq-true, place_eq-from}
use Rattle.mig_mem.proofs.Sets.{has_place-where}
use Rattle.mig_zero.specs.Zero.{IsZero}
use Rattle.zimgasol_filling.specs.declared.run.Run.{Run}
use Rattle.zimgasol_filling.specs.declared.filling.Filling.{Filling}
use Rattle.zimgasol_filling.specs.Filled.{file_in, HaveOneBlock, HaveMemory, over, written, WritesAt}
use Rattle.zimgasol_filling.specs.Filled.{with_run, IsFilled, HasTakenPages, KeepsPages, AreZeros, StillFilled, Marks}

-- ---- bytes over a file's

-- no bytes change nothing
over_none : (f : ℕ → ℕ) (at : ℕ) (bytes : List ℕ) (k : ℕ) → bytes ≡ [] → over f at bytes k ≡ f k
over_none f at bytes k none =
    let len : length bytes ≡ 0 = ap (λ (l : List ℕ). length l) none in
    cond-false (nat_le at k && nat_lt (k - at) (length bytes)) (get_or bytes (k - at) 0) (f k)
    (and_right (nat_le at k) (nat_lt (k - at) (length bytes)) (le-ltb (k - at) (length bytes) (omega (arith, len))))

pub written_none : (i at : ℕ) (bytes : List ℕ) (j : ℕ) (f : ℕ → ℕ) (k : ℕ) → bytes ≡ [] → written i at bytes j f k ≡ f k
written_none i at bytes j f k none = elim (cases_Bool (i == j)) [
  | inl t ↦ cond-true (i == j) (over f at bytes k) (f k) t ∙ over_none f at bytes k none
  | inr n ↦ cond-false (i == j) (over f at bytes k) (f k) n
]

-- bytes of another file change nothing
written_other : (i at : ℕ) (bytes : List ℕ) (j : ℕ) (f : ℕ → ℕ) (k : ℕ) → i ≢ j → written i at bytes j f k ≡ f k
written_other i at bytes j f k other = cond-false (i == j) (over f at bytes k) (f k) (ne_eqb i j other)

written_same : (i at : ℕ) (bytes : List ℕ) (j : ℕ) (f : ℕ → ℕ) (k : ℕ) → i ≡ j → written i at bytes j f k ≡ over f at bytes k
written_same i at bytes j f k same = cond-true (i == j) (over f at bytes k) (f k) (eq-eqb i j same)

in_range : (at n k : ℕ) → at ≤ k → k - at < n → (nat_le at k && nat_lt (k - at) n) ≡ true
in_range at n k low high = ap (λ (b : Bool). b && nat_lt (k - at) n) (le-leb at k low) ∙ lt-ltb (k - at) n high

over_in : (f : ℕ → ℕ) (at : ℕ) (bytes : List ℕ) (k : ℕ) → at ≤ k → k - at < length bytes → over f at bytes k ≡ get_or bytes (k - at) 0
over_in f at bytes k low high =
    cond-true (nat_le at k && nat_lt (k - at) (length bytes)) (get_or bytes (k - at) 0) (f k) (in_range at (length bytes) k low high)

over_past : (f : ℕ → ℕ) (at : ℕ) (bytes : List ℕ) (k : ℕ) → length bytes ≤ k - at → over f at bytes k ≡ f k
over_past f at bytes k high =
    cond-false (nat_le at k && nat_lt (k - at) (length bytes)) (get_or bytes (k - at) 0) (f k)
    (and_right (nat_le at k) (nat_lt (k - at) (length bytes)) (le-ltb (k - at) (length bytes) high))

leb_not : (a b : ℕ) → b < a → nat_le a b ≡ false
leb_not a b lt = elim (cases_Bool (nat_le a b)) [ inl t ↦ absurd (omega (arith, lt, leb-true a b t)) | inr f ↦ f ]

over_before : (f : ℕ → ℕ) (at : ℕ) (bytes : List ℕ) (k : ℕ) → k < at → over f at bytes k ≡ f k
over_before f at bytes k low =
    cond-false (nat_le at k && nat_lt (k - at) (length bytes)) (get_or bytes (k - at) 0) (f k)
    (and_left (nat_le at k) (nat_lt (k - at) (length bytes)) (leb_not at k low))

-- more bytes at the end change nothing outside them
over_more : (f : ℕ → ℕ) (at : ℕ) (bytes more : List ℕ) (k : ℕ) → (k < at + length bytes) ⊎ (at + length bytes + length more ≤ k)
    → over f at (bytes ++ more) k ≡ over f at bytes k
over_more f at bytes more k where_is = elim (cases_lt k at) [
  | inl low ↦ over_before f at (bytes ++ more) k low ∙ sym (over_before f at bytes k low)
  | inr low ↦ elim where_is [
    | inl within ↦
        let here : k - at < length bytes = omega (arith, low, within) in
        over_in f at (bytes ++ more) k low (omega (arith, here, length-append bytes more)) ∙ get_or_append_left bytes more 0 (k - at) here
        ∙ sym (over_in f at bytes k low here)
    | inr past ↦
        over_past f at (bytes ++ more) k (omega (arith, past, low, length-append bytes more)) ∙ sym (over_past f at bytes k (omega (arith, past, low)))
  ]
]

-- and are there inside
over_added : (f : ℕ → ℕ) (at : ℕ) (bytes more : List ℕ) (k : ℕ) → k < length more → over f at (bytes ++ more) (at + length bytes + k) ≡ get_or more k 0
over_added f at bytes more k lt =
    let far : (at + length bytes + k) - at ≡ length bytes + k = omega arith in
    over_in f at (bytes ++ more) (at + length bytes + k) (omega arith) (omega (arith, far, lt, length-append bytes more))
    ∙ ap (λ (n : ℕ). get_or (bytes ++ more) n 0) far
    ∙ get_or-append_right bytes more (length bytes) (length bytes + k) 0 refl (omega arith)
    ∙ ap (λ (n : ℕ). get_or more n 0) (omega arith)

-- ---- pages

-- the content of a memory with a page written
content_here : (m : Image) (p q : Place) (bytes : List ℕ) → IsPlace m.table q → place_eq q p ≡ true → content_at (with_page m p bytes) q ≡ bytes
content_here m p q bytes is same =
    content_at-image_of m.table (λ x. cond (place_eq x p) bytes (content_at m x)) q is ∙ cond-true (place_eq q p) bytes (content_at m q) same

content_other : (m : Image) (p q : Place) (bytes : List ℕ) → IsPlace m.table q → place_eq q p ≡ false
    → content_at (with_page m p bytes) q ≡ content_at m q
content_other m p q bytes is other =
    content_at-image_of m.table (λ x. cond (place_eq x p) bytes (content_at m x)) q is ∙ cond-false (place_eq q p) bytes (content_at m q) other

-- the bytes of another page of a block lie before a page, or after it
apart : (size p q k : ℕ) → (p ≡ q → ⊥) → k < size → (q * size + k < p * size) ⊎ (p * size + size ≤ q * size + k)
apart size p q k other lt = elim (cases_lt q p) [
  | inl before ↦ inl (omega (arith, page_before size p q before, lt))
  | inr not_before ↦
      let after : p < q = elim (cases_lt p q) [ inl lt ↦ lt | inr ge ↦ absurd (other (omega (arith, ge, not_before))) ] in
      inr (omega (arith, page_before size q p after))
]

place_same : (p q : Place) → p.block ≡ q.block → p.page ≡ q.page → p ≡ q
place_same p q b n = ap (λ (x : ℕ). record { block = x; page = p.page }) b ∙ ap (λ (x : ℕ). record { block = q.block; page = x }) n

-- ---- steps

-- THE BYTES THAT WAIT were written
pub run_written : {F : Type 0} (has has_new : ℕ → (ℕ → ℕ) → Type 0) (file : ℕ → Option ℕ) (f t : Filling F)
    → WritesAt has has_new f.run.file f.run.start f.run.bytes.items → t.page_size ≡ f.page_size → t.zeros.items ≡ f.zeros.items → t.written ≡ f.written
    → t.run.bytes.items ≡ [] → StillFilled has file f has_new file t
run_written {F} has has_new file f t writes size zeros marks none = λ memory is. record {
  same_size = size ∙ is.same_size;
  has_zeros = zeros ∙ is.has_zeros;
  marked = is.marked;
  has_marks = marks ∙ is.has_marks;
  has_pages = λ p i g place at there k lt.
      let was = writes i g there in
      written_none t.run.file t.run.start t.run.bytes.items i g (p.page * memory.table.page_size + k) none
      ∙ was.2 (p.page * memory.table.page_size + k) ∙ is.has_pages p i was.0 place at was.1 k lt;
  are_zeros = is.are_zeros;
}

-- no bytes wait, so they may be those of any file at any offset
pub run_turned : {F : Type 0} (has : ℕ → (ℕ → ℕ) → Type 0) (file : ℕ → Option ℕ) (f t : Filling F) → t.page_size ≡ f.page_size
    → t.zeros.items ≡ f.zeros.items → t.written ≡ f.written → f.run.bytes.items ≡ [] → t.run.bytes.items ≡ [] → StillFilled has file f has file t
run_turned {F} has file f t size zeros marks none still_none = λ memory is. record {
  same_size = size ∙ is.same_size;
  has_zeros = zeros ∙ is.has_zeros;
  marked = is.marked;
  has_marks = marks ∙ is.has_marks;
  has_pages = λ p i g place at there k lt.
      written_none t.run.file t.run.start t.run.bytes.items i g (p.page * memory.table.page_size + k) still_none
      ∙ sym (written_none f.run.file f.run.start f.run.bytes.items i g (p.page * memory.table.page_size + k) none)
      ∙ is.has_pages p i g place at there k lt;
  are_zeros = is.are_zeros;
}

-- The bytes of a page are added to those that wait of its file.
pub record IsAdded {F : Type 0} (f t : Filling F) (number : ℕ) (page : List ℕ) : Type 0 where
  pub same_size : t.page_size ≡ f.page_size
  pub same_zeros : t.zeros.items ≡ f.zeros.items
  pub same_marks : t.written ≡ f.written
  pub has_file : f.run.file ≡ number
  pub same_file : t.run.file ≡ f.run.file
  pub same_start : t.run.start ≡ f.run.start
  pub has_bytes : t.run.bytes.items ≡ f.run.bytes.items ++ page

-- they are the next ones of it, from this byte on
abbrev pub IsNext : {F : Type 0} → Filling F → ℕ → Type 0
IsNext f at = f.run.start + length f.run.bytes.items ≡ at

-- what waits of a file, with more bytes
more_waits : {F : Type 0} (f t : Filling F) (number : ℕ) (page : List ℕ) (i : ℕ) (g : ℕ → ℕ) (k : ℕ) → IsAdded f t number page
    → with_run t.run i g k ≡ written f.run.file f.run.start (f.run.bytes.items ++ page) i g k
more_waits {F} f t number page i g k added =
    ap (λ (n : ℕ). written n t.run.start t.run.bytes.items i g k) added.same_file
    ∙ ap (λ (n : ℕ). written f.run.file n t.run.bytes.items i g k) added.same_start
    ∙ ap (λ (l : List ℕ). written f.run.file f.run.start l i g k) added.has_bytes

-- other files are as before
other_waits : {F : Type 0} (f t : Filling F) (number : ℕ) (page : List ℕ) (i : ℕ) (g : ℕ → ℕ) (k : ℕ) → IsAdded f t number page → (number ≡ i → ⊥)
    → with_run t.run i g k ≡ with_run f.run i g k
other_waits {F} f t number page i g k added other =
    let is : f.run.file ≢ i = λ e. other (sym added.has_file ∙ e) in
    more_waits f t number page i g k added ∙ written_other f.run.file f.run.start (f.run.bytes.items ++ page) i g k is
    ∙ sym (written_other f.run.file f.run.start f.run.bytes.items i g k is)

-- and so is what lies outside the page
outside_waits : {F : Type 0} (f t : Filling F) (number at : ℕ) (page : List ℕ) (i : ℕ) (g : ℕ → ℕ) (k : ℕ) → IsAdded f t number page → IsNext f at →
    number ≡ i
    → (k < at) ⊎ (at + length page ≤ k) → with_run t.run i g k ≡ with_run f.run i g k
outside_waits {F} f t number at page i g k added next same where_is =
    let is : f.run.file ≡ i = added.has_file ∙ same in
    let out : (k < f.run.start + length f.run.bytes.items) ⊎ (f.run.start + length f.run.bytes.items + length page ≤ k) = elim where_is [
      | inl low ↦ inl (omega (arith, low, next))
      | inr high ↦ inr (omega (arith, high, next))
    ] in
    more_waits f t number page i g k added ∙ written_same f.run.file f.run.start (f.run.bytes.items ++ page) i g k is
    ∙ over_more g f.run.start f.run.bytes.items page k out ∙ sym (written_same f.run.file f.run.start f.run.bytes.items i g k is)

-- the page itself is there
inside_waits : {F : Type 0} (f t : Filling F) (number at : ℕ) (page : List ℕ) (i : ℕ) (g : ℕ → ℕ) (k : ℕ) → IsAdded f t number page → IsNext f at →
    number ≡ i
    → k < length page → with_run t.run i g (at + k) ≡ get_or page k 0
inside_waits {F} f t number at page i g k added next same lt =
    let is : f.run.file ≡ i = added.has_file ∙ same in
    more_waits f t number page i g (at + k) added ∙ written_same f.run.file f.run.start (f.run.bytes.items ++ page) i g (at + k) is
    ∙ ap (λ (n : ℕ). over g f.run.start (f.run.bytes.items ++ page) (n + k)) (sym next)
    ∙ over_added g f.run.start f.run.bytes.items page k lt

-- where another place of the table was
page_beside : {F : Type 0} (has : ℕ → (ℕ → ℕ) → Type 0) (file : ℕ → Option ℕ) (f t : Filling F) (memory : Image) (p q : Place) (page : List ℕ)
    (number at i : ℕ) (g : ℕ → ℕ) (k : ℕ) → HaveOneBlock file → file p.block ≡ Some number → at ≡ p.page * memory.table.page_size
    → length page ≡ memory.table.page_size → IsAdded f t number page → IsNext f at → IsFilled has file f memory → IsPlace memory.table q → file
    q.block ≡ Some i
    → has i g → k < memory.table.page_size → (p ≡ q → ⊥)
    → with_run t.run i g (q.page * memory.table.page_size + k) ≡ get_or (content_at memory q) k 0
page_beside {F} has file f t memory p q page number at i g k own of offset len added next is place to there lt other =
    let size : ℕ = memory.table.page_size in
    elim (cases_Bool (number == i)) [
      | inl t2 ↦
          let same : number ≡ i = eqb-true number i t2 in
          let block : p.block ≡ q.block = own p.block q.block i (of ∙ ap (λ (n : ℕ). Some n) same) to in
          let pages : p.page ≡ q.page → ⊥ = λ e. other (place_same p q block e) in
          let out : (q.page * size + k < at) ⊎ (at + length page ≤ q.page * size + k) = elim (apart size p.page q.page k pages lt) [
            | inl low ↦ inl (omega (arith, low, offset))
            | inr high ↦ inr (omega (arith, high, offset, len))
          ] in
          outside_waits f t number at page i g (q.page * size + k) added next same out ∙ is.has_pages q i g place to there k lt
      | inr n ↦
          let apart_files : number ≡ i → ⊥ = λ e. false≢true (sym n ∙ eq-eqb number i e) in
          other_waits f t number page i g (q.page * size + k) added apart_files ∙ is.has_pages q i g place to there k lt
    ]

-- A PAGE is added to the bytes that wait
pub page_added : {F : Type 0} (has : ℕ → (ℕ → ℕ) → Type 0) (file : ℕ → Option ℕ) (f t : Filling F) (memory : Image) (p : Place) (page : List ℕ)
    (number at : ℕ) → HaveOneBlock file → file p.block ≡ Some number → at ≡ p.page * memory.table.page_size → length page ≡ memory.table.page_size
    → Marks f p → IsAdded f t number page → IsNext f at → IsFilled has file f memory → IsFilled has file t (with_page memory p page)
page_added {F} has file f t memory p page number at own of offset len marks added next is = record {
  same_size = added.same_size ∙ is.same_size;
  has_zeros = added.same_zeros ∙ is.has_zeros;
  marked = is.marked;
  has_marks = added.same_marks ∙ is.has_marks;
  has_pages = λ q i g place to there k lt. elim (cases_Bool (place_eq q p)) [
    | inl t2 ↦
        let same : q ≡ p = place_eq-true q p t2 in
        let number_is : number ≡ i = same_Some number i (sym of ∙ ap (λ (x : Place). file x.block) (sym same) ∙ to) in
        ap (λ (n : ℕ). with_run t.run i g (n + k)) (ap (λ (x : Place). x.page * memory.table.page_size) same ∙ sym offset)
        ∙ inside_waits f t number at page i g k added next number_is (omega (arith, lt, len))
        ∙ ap (λ (l : List ℕ). get_or l k 0) (sym (content_here memory p q page place t2))
    | inr n ↦
        page_beside has file f t memory p q page number at i g k own of offset len added next is place to there lt
        (λ e. false≢true (sym n ∙ place_eq-from q p (sym e)))
        ∙ ap (λ (l : List ℕ). get_or l k 0) (sym (content_other memory p q page place n))
  ];
  are_zeros = λ q i place to unmarked. elim (cases_Bool (place_eq q p)) [
    | inl t2 ↦
        let same : q ≡ p = place_eq-true q p t2 in
        absurd (false≢true (sym unmarked ∙ ap (λ (x : Place). has_place is.marked x) same
        ∙ marks (record { table = memory.table; marked = is.marked }) is.has_marks))
    | inr n ↦ content_other memory p q page place n ∙ is.are_zeros q i place to unmarked
  ];
}

-- bytes of a block that the table hasn't are added to those that wait
pub other_added : {F : Type 0} (has : ℕ → (ℕ → ℕ) → Type 0) (file : ℕ → Option ℕ) (f t : Filling F) (memory : Image) (p : Place) (page : List ℕ)
    (number : ℕ) → HaveOneBlock file → file p.block ≡ Some number → ((q : Place) → IsPlace memory.table q → p.block ≡ q.block → ⊥)
    → IsAdded f t number page → IsFilled has file f memory → IsFilled has file t memory
other_added {F} has file f t memory p page number own of beyond added is = record {
  same_size = added.same_size ∙ is.same_size;
  has_zeros = added.same_zeros ∙ is.has_zeros;
  marked = is.marked;
  has_marks = added.same_marks ∙ is.has_marks;
  has_pages = λ q i g place to there k lt.
      other_waits f t number page i g (q.page * memory.table.page_size + k) added
      (λ e. beyond q place (own p.block q.block i (of ∙ ap (λ (n : ℕ). Some n) e) to)) ∙ is.has_pages q i g place to there k lt;
  are_zeros = is.are_zeros;
}

-- a page that is zeros already is zeros
pub still_zeros : {F : Type 0} (has : ℕ → (ℕ → ℕ) → Type 0) (file : ℕ → Option ℕ) (f : Filling F) (memory : Image) (p : Place) (number : ℕ)
    → file p.block ≡ Some number → IsFilled has file f memory → ((set : PlaceSet) → f.written ≡ Some set → has_place set.marked p ≡ false)
    → IsFilled has file f (with_page memory p (zero_page memory.table.page_size))
still_zeros {F} has file f memory p number of is unmarked =
    let size : ℕ = memory.table.page_size in
    let none : has_place is.marked p ≡ false = unmarked (record { table = memory.table; marked = is.marked }) is.has_marks in
    let same : (q : Place) (i : ℕ) → IsPlace memory.table q → file q.block ≡ Some i
    → content_at (with_page memory p (zero_page size)) q ≡ content_at memory q =
    λ q i place to. elim (cases_Bool (place_eq q p)) [
      | inl t2 ↦
          let e : q ≡ p = place_eq-true q p t2 in
          content_here memory p q (zero_page size) place t2
          ∙ sym (is.are_zeros q i place to (ap (λ (x : Place). has_place is.marked x) e ∙ none))
      | inr n ↦ content_other memory p q (zero_page size) place n
    ] in
    record {
      same_size = is.same_size;
      has_zeros = is.has_zeros;
      marked = is.marked;
      has_marks = is.has_marks;
      has_pages = λ q i g place to there k lt. is.has_pages q i g place to there k lt ∙ ap (λ (l : List ℕ). get_or l k 0) (sym (same q i place to));
      are_zeros = λ q i place to none. same q i place to ∙ is.are_zeros q i place to none;
    }

-- a page of a block without a file changes nothing
pub not_filled : {F : Type 0} (has : ℕ → (ℕ → ℕ) → Type 0) (file : ℕ → Option ℕ) (f : Filling F) (memory : Image) (p : Place) (page : List ℕ)
    → file p.block ≡ None → IsFilled has file f memory → IsFilled has file f (with_page memory p page)
not_filled {F} has file f memory p page none is =
    let other : (q : Place) (i : ℕ) → file q.block ≡ Some i → place_eq q p ≡ false = λ q i to. elim (cases_Bool (place_eq q p)) [
      | inl t ↦ absurd (none-some i (sym none ∙ ap (λ (x : Place). file x.block) (sym (place_eq-true q p t)) ∙ to))
      | inr n ↦ n
    ] in
    record {
      same_size = is.same_size;
      has_zeros = is.has_zeros;
      marked = is.marked;
      has_marks = is.has_marks;
      has_pages = λ q i g place to there k lt.
          is.has_pages q i g place to there k lt ∙ ap (λ (l : List ℕ). get_or l k 0) (sym (content_other memory p q page place (other q i to)));
      are_zeros = λ q i place to none2. content_other memory p q page place (other q i to) ∙ is.are_zeros q i place to none2;
    }

-- ---- the beginning, and marks

pub filled_none : {F : Type 0} (has : ℕ → (ℕ → ℕ) → Type 0) (file : ℕ → Option ℕ) (t : Filling F) (table : RamTable) → t.page_size ≡ table.page_size
    → t.zeros.items ≡ zero_page table.page_size → t.written ≡ Some (record { table = table; marked = [] }) → t.run.bytes.items ≡ [] → AreZeros has
    → IsFilled has file t (zero_image table)
filled_none {F} has file t table size zeros marks none all = record {
  same_size = size;
  has_zeros = zeros;
  marked = [];
  has_marks = marks;
  has_pages = λ p i g place to there k lt.
      written_none t.run.file t.run.start t.run.bytes.items i g (p.page * table.page_size + k) none ∙ all i g there (p.page * table.page_size + k)
      ∙ sym (ap (λ (l : List ℕ). get_or l k 0) (content_at-image_of table (λ _. zero_page table.page_size) p place)
      ∙ get_or-replicate table.page_size k 0 0 lt);
  are_zeros = λ p i place to none2. content_at-image_of table (λ _. zero_page table.page_size) p place;
}

or_none : (a b : Bool) → (a || b) ≡ false → b ≡ false
or_none a b e = elim (cases_Bool b) [ inl t ↦ absurd (false≢true (sym e ∙ or_right a b t)) | inr n ↦ n ]

-- a page more is marked
pub marked_more : {F : Type 0} (has : ℕ → (ℕ → ℕ) → Type 0) (file : ℕ → Option ℕ) (f t : Filling F) (p : Place) (set : PlaceSet) → t.page_size ≡ f.page_size
    → t.zeros.items ≡ f.zeros.items → t.run ≡ f.run → f.written ≡ Some set → t.written ≡ Some (with_place set p) → StillFilled has file f has file t
marked_more {F} has file f t p set size zeros run had has_now = λ memory is.
    let same : set ≡ record { table = memory.table; marked = is.marked } = same_Some set (record { table = memory.table; marked = is.marked })
    (sym had ∙ is.has_marks) in
    let now : List Place = places_where memory.table (λ q. place_eq q p || has_place is.marked q) in
    record {
      same_size = size ∙ is.same_size;
      has_zeros = zeros ∙ is.has_zeros;
      marked = now;
      has_marks = has_now ∙ ap (λ (s : PlaceSet). Some (with_place s p)) same;
      has_pages = λ q i g place to there k lt.
          ap (λ (r : Run). with_run r i g (q.page * memory.table.page_size + k)) run ∙ is.has_pages q i g place to there k lt;
      are_zeros = λ q i place to none.
          is.are_zeros q i place to (or_none (place_eq q p) (has_place is.marked q)
          (sym (has_place-where memory.table (λ x. place_eq x p || has_place is.marked x) q place) ∙ none));
    }

pub marks_more : (now : Option PlaceSet) (p : Place) (set : PlaceSet) → IsPlace set.table p → now ≡ Some (with_place set p)
    → (other : PlaceSet) → now ≡ Some other → has_place other.marked p ≡ true
marks_more now p set place has_now other at =
    let same : other ≡ with_place set p = same_Some other (with_place set p) (sym at ∙ has_now) in
    ap (λ (s : PlaceSet). has_place s.marked p) same ∙ has_place-where set.table (λ q. place_eq q p || has_place set.marked q) p place
    ∙ or_left (place_eq p p) (has_place set.marked p) (place_eq-from p p refl)

-- ---- zeros

-- A PAGE OF ZEROS is written over what a file may have there
pub zeros_written : {F : Type 0} (has before after : ℕ → (ℕ → ℕ) → Type 0) (file : ℕ → Option ℕ) (f u t : Filling F) (memory : Image) (p : Place)
    (number at : ℕ) → HaveOneBlock file → file p.block ≡ Some number → at ≡ p.page * memory.table.page_size → Marks f p
    → StillFilled has file f before file u → u.written ≡ f.written → u.run.bytes.items ≡ [] → WritesAt before after number at u.zeros.items
    → t.page_size ≡ u.page_size → t.zeros.items ≡ u.zeros.items → t.written ≡ u.written → t.run.bytes.items ≡ []
    → IsFilled has file f memory → IsFilled after file t (with_page memory p (zero_page memory.table.page_size))
zeros_written {F} has before after file f u t memory p number at own of offset marks still same_marks none writes size zeros marks_t none_t is =
    let mid : IsFilled before file u memory = still memory is in
    let v : Filling F = record u { run = record { file = number; start = at; bytes = u.run.bytes } } in
    let w : Filling F = record u { run = record { file = number; start = at; bytes = u.zeros } } in
    let turned : IsFilled before file v memory = run_turned before file u v refl refl refl none none memory mid in
    let added : IsAdded v w number u.zeros.items = record {
      same_size = refl;
      same_zeros = refl;
      same_marks = refl;
      has_file = refl;
      same_file = refl;
      same_start = refl;
      has_bytes = ap (λ (l : List ℕ). l ++ u.zeros.items) (sym none);
    } in
    let next : IsNext v at = omega (arith, ap (λ (l : List ℕ). length l) none) in
    let long : length u.zeros.items ≡ memory.table.page_size =
    ap (λ (l : List ℕ). length l) mid.has_zeros ∙ length-replicate memory.table.page_size 0 in
    let here : IsFilled before file w (with_page memory p u.zeros.items) =
    page_added before file v w memory p u.zeros.items number at own of offset long (λ set has_set. marks set (sym same_marks ∙ has_set)) added next
    turned in
    subst (λ (l : List ℕ). IsFilled after file t (with_page memory p l)) mid.has_zeros
    (run_written before after file w t writes size zeros marks_t none_t (with_page memory p u.zeros.items) here)

-- bytes of a block that the table hasn't are written
pub other_written : {F : Type 0} (before after : ℕ → (ℕ → ℕ) → Type 0) (file : ℕ → Option ℕ) (u t : Filling F) (memory : Image) (p : Place)
    (number at : ℕ) (bytes : List ℕ) → HaveOneBlock file → file p.block ≡ Some number → ((q : Place) → IsPlace memory.table q → p.block ≡ q.block → ⊥)
    → u.run.bytes.items ≡ [] → WritesAt before after number at bytes → t.page_size ≡ u.page_size → t.zeros.items ≡ u.zeros.items
    → t.written ≡ u.written → t.run.bytes.items ≡ [] → IsFilled before file u memory → IsFilled after file t memory
other_written {F} before after file u t memory p number at bytes own of beyond none writes size zeros marks none_t is = record {
  same_size = size ∙ is.same_size;
  has_zeros = zeros ∙ is.has_zeros;
  marked = is.marked;
  has_marks = marks ∙ is.has_marks;
  has_pages = λ q i g place to there k lt.
      let was = writes i g there in
      let at_byte : ℕ = q.page * memory.table.page_size + k in
      written_none t.run.file t.run.start t.run.bytes.items i g at_byte none_t ∙ was.2 at_byte
      ∙ written_other number at bytes i was.0 at_byte (λ e. beyond q place (own p.block q.block i (of ∙ ap (λ (n : ℕ). Some n) e) to))
      ∙ sym (written_none u.run.file u.run.start u.run.bytes.items i was.0 at_byte none) ∙ is.has_pages q i was.0 place to was.1 k lt;
  are_zeros = is.are_zeros;
}

-- a block after those of a table has none of its places
pub beyond_table : (table : RamTable) (p : Place) → length table.blocks ≤ p.block → (q : Place) → IsPlace table q → p.block ≡ q.block → ⊥
beyond_table table p past q place same = absurd (omega (arith, past, place.has_block, same))

-- ---- a page that is put

pub on_ok : {E : Type 0} {A B : Type 0} (made : Result (Unit {0}) E) → OnOk made A → (A → B) → OnOk made B
on_ok (Ok u) a f = f a
on_ok (Err e) a f = tt

-- a page lies where no number is cut
pub offset_low : (table : RamTable) (p : Place) → IsTable table → IsPlace table p → p.page * table.page_size < 2 ^ 63
offset_low table p is place =
    omega (arith, block_room table p.block is place.has_block, page_before table.page_size (block table.blocks p.block).pages p.page place.has_page)

pub offset_is : (table : RamTable) (p : Place) (size at : ℕ) → IsTable table → IsPlace table p → size ≡ table.page_size
    → at ≡ min (p.page * size) (2 ^ 64 - 1) → at ≡ p.page * table.page_size
offset_is table p size at is place same made =
    let e : p.page * size ≡ p.page * table.page_size = ap (λ (n : ℕ). p.page * n) same in
    omega (arith, offset_low table p is place, made, e)

-- bytes that are zeros are a page of zeros
zeros_are : (xs : List ℕ) → IsZero xs → xs ≡ zero_page (length xs)
zeros_are [] zeros = refl
zeros_are (x ∷ xs) zeros =
    let first : x ≡ 0 = All-head (λ b. b ≡ 0) x xs zeros in
    rw (← zeros_are xs (All-tail (λ b. b ≡ 0) x xs zeros)) (ap (λ (n : ℕ). n ∷ xs) first)

pub zeros_page : (xs : List ℕ) (size : ℕ) → IsZero xs → length xs ≡ size → zero_page size ≡ xs
zeros_page xs size zeros len = ap zero_page (sym len) ∙ sym (zeros_are xs zeros)

-- ---- records

-- zeros with no record are zeros
zeros_stay : (table : RamTable) → zero_image table ≡ with_records (zero_image table) []
unfolding last_at
zeros_stay table =
    sym (image_agree table (λ p. content_at (zero_image table) p) (λ _. zero_page table.page_size)
    (λ p is. content_at-image_of table (λ _. zero_page table.page_size) p is))

push_record : (size : ℕ) (records : List PageRecord) (x : PageRecord) → map (page_of size) (records ++ x ∷ []) ≡ map (page_of size) records ++ page_of
    size x ∷ []
push_record size records x = map-append (page_of size) records (x ∷ [])

-- A RECORD MORE is one page more
pub record_more : (table : RamTable) (records : List PageRecord) (x : PageRecord)
    → with_page (with_records (zero_image table) records) x.place (unwrap_or x.content (zero_page table.page_size))
    ≡ with_records (zero_image table) (records ++ x ∷ [])
record_more table records x =
    with_page-more table (content_at (zero_image table)) (map (page_of table.page_size) records) (page_of table.page_size x)
    ∙ ap (λ (l : List Page). with_round (zero_image table) l) (sym (push_record table.page_size records x))

-- no bytes wait, so the files have the memory
pub memory_is_there : {F : Type 0} (has : ℕ → (ℕ → ℕ) → Type 0) (file : ℕ → Option ℕ) (f : Filling F) (memory : Image) → f.run.bytes.items ≡ []
    → IsFilled has file f memory → HaveMemory has file memory
memory_is_there {F} has file f memory none is = λ p i g place to there k lt.
    sym (written_none f.run.file f.run.start f.run.bytes.items i g (p.page * memory.table.page_size + k) none) ∙ is.has_pages p i g place to there k lt

-- no record makes no page
pub taken_none : {F : Type 0} (has : ℕ → (ℕ → ℕ) → Type 0) (file : ℕ → Option ℕ) (f : Filling F) (table : RamTable)
    → IsFilled has file f (zero_image table) → HasTakenPages has file f table []
taken_none {F} has file f table is = ([], subst (λ (m : Image). IsFilled has file f m) (zeros_stay table) is)

-- a place is the table's or isn't
is_of_table : (table : RamTable) (p : Place) → IsPlace table p ⊎ (IsPlace table p → ⊥)
is_of_table table p = elim (cases_lt p.block (length table.blocks)) [
  | inl there ↦ elim (cases_lt p.page (block table.blocks p.block).pages) [
    | inl has ↦ inl (record { has_block = there; has_page = has })
    | inr past ↦ inr (λ place. absurd (omega (arith, past, place.has_page)))
  ]
  | inr past ↦ inr (λ place. absurd (omega (arith, past, place.has_block)))
]

-- A PAGE BEFORE THOSE OF THE RECORDS was put, of any place
pub page_kept : {F : Type 0} (has has_new : ℕ → (ℕ → ℕ) → Type 0) (file file_new : ℕ → Option ℕ) (f t : Filling F) (p : Place) (page : List ℕ)
    → length page ≡ f.page_size
    → ((memory : Image) → IsFilled has file f memory → IsPlace memory.table p → length page ≡ memory.table.page_size
    → IsFilled has_new file_new t (with_page memory p page))
    → ((memory : Image) → IsFilled has file f memory → (IsPlace memory.table p → ⊥) → IsFilled has_new file_new t memory)
    → KeepsPages has file f has_new file_new t
page_kept {F} has has_new file file_new f t p page len puts others = λ table had.
    let before : List PageRecord = had.0 in
    let x : PageRecord = record { place = p; content = Some page } in
    let memory : Image = with_records (zero_image table) (before ++ []) in
    elim (is_of_table table p) [
      | inl place ↦ (
        before ++ x ∷ [],
        subst (λ (m : Image). IsFilled has_new file_new t m)
            (ap (λ (l : List PageRecord). with_page (with_records (zero_image table) l) p page) (append-nil before) ∙ record_more table before x
            ∙ ap (λ (l : List PageRecord). with_records (zero_image table) l) (sym (append-nil (before ++ x ∷ []))))
            (puts memory had.1 place (len ∙ had.1.same_size)),
      )
      | inr none ↦ (before, others memory had.1 none)
    ]

-- ---- the files of the system

-- each file is of one block
pub one_block : (blocks : List ℕ) → HaveOneBlock (file_in blocks)
one_block blocks = λ a b i of also.
    let first = position-Some (λ other. other == a) blocks i 0 of in
    let second = position-Some (λ other. other == b) blocks i 0 also in
    sym (eqb-true (get_or blocks i 0) a first.1) ∙ eqb-true (get_or blocks i 0) b second.1
