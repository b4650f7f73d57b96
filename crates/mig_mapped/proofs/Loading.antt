-- The steps of a load in place: bytes passed over, a page written, a head taken.
use Rattle.std.proofs.Common.{ℕ, ◌≡◌, ◌≢◌, ◌⊎◌, ◌+◌, ◌-◌, ◌*◌, ◌<◌, ◌≤◌, ◌||◌, ◌&&◌, Bool, true, false, List, [], ◌++◌, length, take}
use Rattle.std.proofs.Common.{refl, sym, ap, subst, ◌∙◌, inl, inr, arith}
use Rattle.std.specs.Prelude.{slice_range, not, nat_lt, nat_le}
use Rattle.std.proofs.lemmas.Bool.{cases_Bool, cases_lt, cond-true, cond-false, le-leb, lt-leb, leb-true, lt-ltb, le-ltb, or_cases, and_left, not-true}
use Rattle.std.proofs.lemmas.List.{length-append, take-append-le, take_all, drop-append-le, drop_all}
use Rattle.mig_mem.specs.declared.place.Place.{Place}
use Rattle.mig_mem.specs.RamTable.{Block, RamTable}
use Rattle.mig_mem.specs.Place.{IsPlace}
use Rattle.mig_mem.specs.Image.{Image, IsImage, content_at, with_page}
use Rattle.mig_mem.proofs.PageSizes.{page_size_some, page_before}
use Rattle.mig_mem.proofs.PlaceOrder.{same_place}
use Rattle.mig_mem.proofs.Images.{image_agree, image_is, with_page-image_of}
use Rattle.mig_mapped.specs.declared.settings.MappedSettings.{MappedSettings}
use Rattle.mig_mapped.specs.Bitmap.{is_set}
use Rattle.mig_mapped.specs.Block.{MappedBlock, mapped_block, page_offset, page_in}
use Rattle.mig_mapped.specs.Head.{start}
use Rattle.mig_mapped.specs.Load.{MappedLoading, LoadsMapped, IsLoading, AreOwn, has_come, loaded_at, last_block, AreSkipped, IsDue, LoadsMore}
use Rattle.mig_mapped.proofs.Longer.{slice_front, blocks_longer}

-- ---- a page in a longer file

slice_longer : (file more : List ℕ) (i j : ℕ) → j ≤ length file → slice_range (file ++ more) i j ≡ slice_range file i j
slice_longer file more i j le =
    let front : take (length file) (file ++ more) ≡ file = take-append-le (length file) file more (omega arith) ∙ take_all (length file) file (omega arith) in
    sym (slice_front (file ++ more) (length file) i j le) ∙ ap (λ (x : List ℕ). slice_range x i j) front

-- a page whose content is known stays
page_longer : (given : MappedSettings) (file more : List ℕ) (b : MappedBlock) (q : ℕ) → has_come given file b q ≡ true
    → page_in given (file ++ more) b q ≡ page_in given file b q
page_longer given file more b q come = elim (cases_Bool (is_set given.order b.bitmap q)) [
  | inr unset ↦ cond-false _ _ _ unset ∙ sym (cond-false _ _ _ unset)
  | inl set ↦
      let at : ℕ = page_offset given.page_size b q in
      let there : nat_le (at + given.page_size) (length file) ≡ true = elim (or_cases _ _ come) [
        | inl un ↦ absurd (let no : is_set given.order b.bitmap q ≡ false = not-true _ un in let clash : true ≡ false = sym set ∙ no in cc)
        | inr t ↦ t
      ] in
      cond-true _ _ _ set ∙ slice_longer file more at (at + given.page_size) (leb-true _ _ there) ∙ sym (cond-true _ _ _ set)
]

-- A page is as known as before if it was read before, or begins after these bytes.
pub same_come : (given : MappedSettings) (file more : List ℕ) (b : MappedBlock) (q : ℕ) → 0 < given.page_size
    → (is_set given.order b.bitmap q ≡ true → (page_offset given.page_size b q + given.page_size ≤ length file)
    ⊎ (length file + length more ≤ page_offset given.page_size b q))
    → has_come given (file ++ more) b q ≡ has_come given file b q
same_come given file more b q some where_is = elim (cases_Bool (is_set given.order b.bitmap q)) [
  | inr unset ↦
      let here : (l : List ℕ) → has_come given l b q ≡ true = λ l. ap
      (λ (t : Bool). not t || nat_le (page_offset given.page_size b q + given.page_size) (length l)) unset in
      here (file ++ more) ∙ sym (here file)
  | inl set ↦
      let at : ℕ = page_offset given.page_size b q in
      let test : (l : List ℕ) → has_come given l b q ≡ nat_le (at + given.page_size) (length l) =
      λ l. ap (λ (t : Bool). not t || nat_le (at + given.page_size) (length l)) set in
      let long : length (file ++ more) ≡ length file + length more = length-append file more in
      let same : nat_le (at + given.page_size) (length (file ++ more)) ≡ nat_le (at + given.page_size) (length file) = elim (where_is set) [
        | inl before ↦ le-leb (at + given.page_size) (length (file ++ more)) (omega arith) ∙ sym (le-leb (at + given.page_size) (length file) before)
        | inr after ↦ lt-leb (at + given.page_size) (length (file ++ more)) (omega arith) ∙ sym (lt-leb (at + given.page_size) (length file) (omega arith))
      ] in
      test (file ++ more) ∙ same ∙ sym (test file)
]

-- what a place holds stays, if its page is as known as before
pub same_at : (given : MappedSettings) (file more : List ℕ) (blocks : List MappedBlock) (first : Image) (p : Place)
    → (p.block < length blocks → has_come given (file ++ more) (mapped_block blocks p.block) p.page ≡ has_come given file (mapped_block blocks p.block) p.page)
    → loaded_at given (file ++ more) blocks first p ≡ loaded_at given file blocks first p
same_at given file more blocks first p same = elim (cases_lt p.block (length blocks)) [
  | inr past ↦
      let no : nat_lt p.block (length blocks) ≡ false = le-ltb _ _ past in
      let out : (l : List ℕ) → loaded_at given l blocks first p ≡ content_at first p = λ l.
      cond-false _ _ _ (ap (λ (t : Bool). t && has_come given l (mapped_block blocks p.block) p.page) no) in
      out (file ++ more) ∙ sym (out file)
  | inl lt ↦
      let b : MappedBlock = mapped_block blocks p.block in
      let yes : nat_lt p.block (length blocks) ≡ true = lt-ltb _ _ lt in
      let test : (l : List ℕ) → (nat_lt p.block (length blocks) && has_come given l b p.page) ≡ has_come given l b p.page = λ l.
      ap (λ (t : Bool). t && has_come given l b p.page) yes in
      elim (cases_Bool (has_come given file b p.page)) [
        | inl come ↦ cond-true _ _ _ (test (file ++ more) ∙ same lt ∙ come) ∙ page_longer given file more b p.page come
            ∙ sym (cond-true _ _ _ (test file ∙ come))
        | inr not_yet ↦ cond-false _ _ _ (test (file ++ more) ∙ same lt ∙ not_yet) ∙ sym (cond-false _ _ _ (test file ∙ not_yet))
      ]
]

-- ---- pages of the blocks so far

-- a place of the table in a block that was read is a page of it
pub own_page : (table : RamTable) (blocks : List MappedBlock) (p : Place) → AreOwn table blocks → IsPlace table p → p.block < length blocks
    → p.page < (mapped_block blocks p.block).pages
own_page table blocks p own place lt = omega (arith, ap (λ (b : Block). b.pages) (own.are_same p.block lt), place.has_page)

-- each page of a block before the last one was read
pub earlier : (s : MappedLoading) (p : Place) → IsLoading s → p.block + 1 < length s.index.blocks → p.page < (mapped_block s.index.blocks p.block).pages
    → page_offset s.index.given.page_size (mapped_block s.index.blocks p.block) p.page + s.index.given.page_size ≤ s.place
earlier s p is lt page =
    let end = is.others_came p.block lt in
    let before = page_before s.index.given.page_size (mapped_block s.index.blocks p.block).pages p.page page in
    omega (arith, end, before)

-- the last block, by its number
pub at_last : (s : MappedLoading) (i : ℕ) → i + 1 ≡ length s.index.blocks → mapped_block s.index.blocks i ≡ last_block s
at_last s i e = let at : i ≡ length s.index.blocks - 1 = omega arith in ap (mapped_block s.index.blocks) at

-- ---- bytes passed over

pub skip_loads : (s : MappedLoading) (n : ℕ) → IsLoading s → AreSkipped s n → (memory : Image) (bytes : List ℕ) → length bytes ≡ n
    → LoadsMore s memory bytes (record s { place = s.place + n }) memory
skip_loads s n is skipped memory bytes len at total first file l =
    let given : MappedSettings = s.index.given in
    let blocks : List MappedBlock = s.index.blocks in
    let size : 0 < given.page_size = page_size_some given.page_size is.has_page_size in
    let here : s.place ≡ length file = l.same_place in
    let last : (q : ℕ) → q < (last_block s).pages → is_set given.order (last_block s).bitmap q ≡ true
    → (page_offset given.page_size (last_block s) q + given.page_size ≤ length file)
    ⊎ (length file + length bytes ≤ page_offset given.page_size (last_block s) q) =
    λ q lt set. elim (skipped.no_page q lt set) [
      | inr after ↦ inr (omega arith)
      | inl before ↦ elim (is.is_whole q lt set) [ inl whole ↦ inl (omega arith) | inr past ↦ absurd (omega arith) ]
    ] in
    record {
      same_place = omega (arith, length-append file bytes);
      are_blocks = blocks_longer file bytes (start given at total) blocks l.are_blocks;
      is_index = l.is_index;
      are_own = l.are_own;
      has_memory = l.has_memory ∙ image_agree first.table (loaded_at given file blocks first) (loaded_at given (file ++ bytes) blocks first) (λ p place.
          sym (same_at given file bytes blocks first p (λ lt. same_come given file bytes (mapped_block blocks p.block) p.page size (λ set.
          let page : p.page < (mapped_block blocks p.block).pages = own_page first.table blocks p l.are_own place lt in
          elim (cases_lt (p.block + 1) (length blocks)) [
            | inl before ↦ inl (omega (arith, earlier s p is before page))
            | inr end ↦
                let same : mapped_block blocks p.block ≡ last_block s = at_last s p.block (omega arith) in
                subst (λ (b : MappedBlock). (page_offset given.page_size b p.page + given.page_size ≤ length file)
                ⊎ (length file + length bytes ≤ page_offset given.page_size b p.page))
                (sym same)
                (last p.page (omega (arith, ap (λ (b : MappedBlock). b.pages) same))
                (ap (λ (b : MappedBlock). is_set given.order b.bitmap p.page) (sym same) ∙ set))
          ]))));
    }

-- ---- a page written

-- another page of the last block lies before the page that is next, or after it
apart : (s : MappedLoading) (p q here len : ℕ) → s.place ≡ here → s.place ≡ page_offset s.index.given.page_size (last_block s) p
    → len ≡ s.index.given.page_size → q ≢ p
    → (page_offset s.index.given.page_size (last_block s) q + s.index.given.page_size ≤ s.place)
    ⊎ (s.place ≤ page_offset s.index.given.page_size (last_block s) q)
    → (page_offset s.index.given.page_size (last_block s) q + s.index.given.page_size ≤ here)
    ⊎ (here + len ≤ page_offset s.index.given.page_size (last_block s) q)
apart s p q here len e at size ne (inl before) = inl (omega arith)
apart s p q here len e at size ne (inr after) = elim (cases_lt p q) [
  | inl lt ↦ let room : p * s.index.given.page_size + s.index.given.page_size ≤ q * s.index.given.page_size = page_before s.index.given.page_size q p lt in
      inr (omega arith)
  | inr le ↦
      let less : q < p = omega arith in
      let room : q * s.index.given.page_size + s.index.given.page_size ≤ p * s.index.given.page_size = page_before s.index.given.page_size p q less in
      inl (omega arith)
]

pub page_loads : (s : MappedLoading) (p : Place) (content : List ℕ) (before : Image) → IsLoading s → IsDue s p → length content ≡ s.index.given.page_size
    → IsPlace before.table p → LoadsMore s before content (record s { place = s.place + length content }) (with_page before p content)
page_loads s p content before is due len at_place at total first file l =
    let given : MappedSettings = s.index.given in
    let blocks : List MappedBlock = s.index.blocks in
    let size : 0 < given.page_size = page_size_some given.page_size is.has_page_size in
    let old : Place → List ℕ = loaded_at given file blocks first in
    let new : Place → List ℕ = loaded_at given (file ++ content) blocks first in
    let same : mapped_block blocks p.block ≡ last_block s = at_last s p.block due.is_last in
    let set : is_set given.order (mapped_block blocks p.block).bitmap p.page ≡ true =
    ap (λ (b : MappedBlock). is_set given.order b.bitmap p.page) same ∙ due.is_set in
    let place : page_offset given.page_size (mapped_block blocks p.block) p.page ≡ length file =
    ap (λ (b : MappedBlock). page_offset given.page_size b p.page) same ∙ sym due.is_here ∙ l.same_place in
    let long : length (file ++ content) ≡ length file + length content = length-append file content in
    let known : has_come given (file ++ content) (mapped_block blocks p.block) p.page ≡ true =
    ap (λ (t : Bool). not t || nat_le (page_offset given.page_size (mapped_block blocks p.block) p.page + given.page_size) (length (file ++ content))) set
    ∙ le-leb _ _ (omega arith) in
    let inside : nat_lt p.block (length blocks) ≡ true = lt-ltb _ _ (omega (arith, due.is_last)) in
    let test : (nat_lt p.block (length blocks) && has_come given (file ++ content) (mapped_block blocks p.block) p.page) ≡ true =
    ap (λ (t : Bool). t && has_come given (file ++ content) (mapped_block blocks p.block) p.page) inside ∙ known in
    let part : slice_range (file ++ content) (page_offset given.page_size (mapped_block blocks p.block) p.page)
    (page_offset given.page_size (mapped_block blocks p.block) p.page + given.page_size) ≡ content =
    ap (λ (n : ℕ). slice_range (file ++ content) n (n + given.page_size)) place
    ∙ ap (λ (xs : List ℕ). take (length file + given.page_size - length file) xs)
    (drop-append-le (length file) file content (omega arith) ∙ ap (λ (xs : List ℕ). xs ++ content) (drop_all (length file) file (omega arith)))
    ∙ take_all (length file + given.page_size - length file) content (omega arith) in
    let here : content ≡ new p = sym (cond-true _ _ _ test ∙ cond-true _ _ _ set ∙ part) in
    record {
      same_place = omega (arith, long, l.same_place);
      are_blocks = blocks_longer file content (start given at total) blocks l.are_blocks;
      is_index = l.is_index;
      are_own = l.are_own;
      has_memory = ap (λ (m : Image). with_page m p content) l.has_memory ∙ with_page-image_of first.table old new p content here (λ q is_place ne.
          sym (same_at given file content blocks first q (λ lt. same_come given file content (mapped_block blocks q.block) q.page size (λ set.
          let page : q.page < (mapped_block blocks q.block).pages = own_page first.table blocks q l.are_own is_place lt in
          elim (cases_lt (q.block + 1) (length blocks)) [
            | inl before ↦ inl (omega (arith, earlier s q is before page, l.same_place))
            | inr end ↦
                let in_last : mapped_block blocks q.block ≡ last_block s = at_last s q.block (omega arith) in
                let far : q.page ≢ p.page = λ e. ne (same_place q p (omega (arith, due.is_last)) e) in
                subst (λ (b : MappedBlock). (page_offset given.page_size b q.page + given.page_size ≤ length file)
                ⊎ (length file + length content ≤ page_offset given.page_size b q.page))
                (sym in_last)
                (apart s p.page q.page (length file) (length content) l.same_place due.is_here len far
                (is.is_whole q.page (omega (arith, ap (λ (b : MappedBlock). b.pages) in_last))
                (ap (λ (b : MappedBlock). is_set given.order b.bitmap q.page) (sym in_last) ∙ set)))
          ]))));
    }

-- ---- before the first entry

pub new_loads : (given : MappedSettings) (place total : ℕ) (first : Image) (file : List ℕ) → IsImage first → length file ≡ place
    → LoadsMapped place total first file (record { index = start given place total; place = place }) first
new_loads given place total first file is len = record {
  same_place = sym len;
  are_blocks = tt;
  is_index = refl;
  are_own = record { has_room = omega arith; are_same = λ i lt. absurd (omega arith) };
  has_memory = image_is first is ∙ image_agree first.table (content_at first) (loaded_at given file [] first)
      (λ p at. sym (cond-false _ _ _ (and_left _ _ (le-ltb p.block 0 (omega arith)))));
}
