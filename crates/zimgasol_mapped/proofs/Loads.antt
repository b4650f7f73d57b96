-- A plain stream is a machine's stream, with a record for each page of the file's memory.
use Rattle.std.proofs.Common.{ℕ, zero, suc, ◌≡◌, ◌≢◌, ◌+◌, ◌<◌, ◌≤◌, Bool, true, false, List, [], ◌∷◌, ◌++◌, length, map}
use Rattle.std.proofs.Common.{Option, Some, None, refl, sym, ap, subst, ◌∙◌, arith, append_assoc}
use Rattle.std.specs.Prelude.{◌==◌, not, IfSome}
use Rattle.std.specs.List.{flat_map, range_with_len, All, AllByRecursion}
use Rattle.std.specs.Option.{unwrap_or}
use Rattle.std.proofs.lemmas.Bool.{eqb-false, not-true}
use Rattle.std.proofs.lemmas.List.{map-append}
use Rattle.std.proofs.lemmas.List.Elements.{All-nil, All-cons, All-head, All-tail}
use Rattle.mig_mem.specs.declared.place.Place.{Place}
use Rattle.mig_mem.specs.RamTable.{Block, block}
use Rattle.mig_mem.specs.Place.{place_at, block_places, places, IsPlace}
use Rattle.mig_mem.specs.Image.{Page, Image, content_at, pages_of, zero_page}
use Rattle.mig_mem.specs.Round.{round_of, all_pages}
use Rattle.mig_stream.specs.PageRecord.{page_of}
use Rattle.mig_stream.specs.Text.{Record, record_bytes, Fits, Follow, page_records, HasNoFlush, all_records}
use Rattle.mig_stream.specs.Machine.{PassedSection, CommandOf, EarlyOf, IsPassedSection, PartOrPassed, PartOf, PassedOf, AreBetween, parts_of}
use Rattle.mig_mapped.specs.Block.{mapped_block}
use Rattle.mig_mapped.specs.Head.{MappedProgress}
use Rattle.mig_mapped.specs.Load.{has_come}
use Rattle.zimgasol_mapped.specs.Records.{record_of}
use Rattle.zimgasol_mapped.specs.Plain.{content_of, index_table, pages_bytes}
use Rattle.zimgasol_mapped.specs.Law.{IsBare}

-- ---- the records of pages

abbrev pub own_record : MappedProgress → List ℕ → Place → Record
own_record c file p = record_of p (content_of c file p)

-- the file has the page, with as many bytes as a page has
pub record IsThere (c : MappedProgress) (file : List ℕ) (p : Place) : Type 0 where
  pub is_place : IsPlace (index_table c) p
  pub come : has_come c.given file (mapped_block c.blocks p.block) p.page ≡ true
  pub has_size : IfSome (content_of c file p) (λ bytes. length bytes ≡ c.given.page_size)

-- each page of the table has its record
pub pages_whole : (c : MappedProgress) (file rest : List ℕ) (ps : List Place) → All (IsThere c file) ps
    → pages_bytes c file rest ps ≡ flat_map (record_bytes (index_table c)) (map (own_record c file) ps) ++ rest
pages_whole c file rest [] all = refl
pages_whole c file rest (p ∷ ps) all =
    let t : has_come c.given file (mapped_block c.blocks p.block) p.page ≡ true = (All-head (IsThere c file) p ps all).come in
    let here : List ℕ = record_bytes (index_table c) (own_record c file p) in
    rw t (ap (λ (l : List ℕ). here ++ l) (pages_whole c file rest ps (All-tail (IsThere c file) p ps all))
    ∙ sym (append_assoc here (flat_map (record_bytes (index_table c)) (map (own_record c file) ps)) rest))

-- a page's record is allowed after one of its block, and the first one after any
fits : (c : MappedProgress) (file : List ℕ) (p : Place) (before : Option ℕ) → IsThere c file p → (p.page ≢ 0 → before ≡ Some p.block)
    → Fits (index_table c) before (not (p.page == 0)) (record { place = p; content = content_of c file p })
fits c file p before is named = record {
  has_place = is.is_place;
  has_size = is.has_size;
  is_carried = λ carried. named (eqb-false p.page 0 (not-true (p.page == 0) carried));
}

-- the records of some pages of a block, and then others that are allowed after any
follow_block : (c : MappedProgress) (file : List ℕ) (b first n : ℕ) (before : Option ℕ) (more : List Record) → (first ≢ 0 → before ≡ Some b)
    → ((q : ℕ) → first ≤ q → q < first + n → IsThere c file (place_at b q)) → ((x : Option ℕ) → Follow (index_table c) x more)
    → Follow (index_table c) before (map (own_record c file) (map (place_at b) (range_with_len first n)) ++ more)
follow_block c file b first zero before more named all rest = rest before
follow_block c file b first (suc n) before more named all rest = (
  fits c file (place_at b first) before (all first (omega arith) (omega arith)) named,
  follow_block c file b (first + 1) n (Some b) more (λ _. refl) (λ q low high. all q (omega (arith, low)) (omega (arith, high))) rest,
)

-- those of some blocks
follow_blocks : (c : MappedProgress) (file : List ℕ) (a n : ℕ) (before : Option ℕ)
    → ((b q : ℕ) → a ≤ b → b < a + n → q < (block (index_table c).blocks b).pages → IsThere c file (place_at b q))
    → Follow (index_table c) before (map (own_record c file) (flat_map (block_places (index_table c).blocks) (range_with_len a n)))
follow_blocks c file a zero before all = tt
follow_blocks c file a (suc n) before all =
    let blocks : List Block = (index_table c).blocks in
    let others : List Place = flat_map (block_places blocks) (range_with_len (a + 1) n) in
    subst (λ (l : List Record). Follow (index_table c) before l) (sym (map-append (own_record c file) (block_places blocks a) others))
    (follow_block c file a 0 (block blocks a).pages before (map (own_record c file) others) (λ some. absurd (some refl))
    (λ q low high. all a q (omega arith) (omega arith) (omega (arith, high)))
    (λ x. follow_blocks c file (a + 1) n x (λ b q low high. all b q (omega (arith, low)) (omega (arith, high)))))

-- those of all pages
pub follow_all : (c : MappedProgress) (file : List ℕ) → ((p : Place) → IsPlace (index_table c) p → IsThere c file p)
    → Follow (index_table c) None (map (own_record c file) (places (index_table c)))
unfolding places
follow_all c file all =
    follow_blocks c file 0 (length (index_table c).blocks) None
    (λ b q low high page. all (place_at b q) (record { has_block = omega (arith, high); has_page = page }))

-- ---- their rounds

-- no FLUSH is one of them
pub no_flush : (c : MappedProgress) (file : List ℕ) (ps : List Place) → HasNoFlush (map (own_record c file) ps)
no_flush c file [] = tt
no_flush c file (p ∷ ps) = no_flush c file ps

-- the pages that they have are those of a memory with the same contents
pub pages_are : (c : MappedProgress) (file : List ℕ) (m : Image) (ps : List Place)
    → All (λ p. unwrap_or (content_of c file p) (zero_page c.given.page_size) ≡ content_at m p) ps
    → map (page_of c.given.page_size) (page_records (map (own_record c file) ps)) ≡ round_of m ps
unfolding pages_of
pages_are c file m [] same = refl
pages_are c file m (p ∷ ps) same =
    let P : Place → Type 0 = λ q. unwrap_or (content_of c file q) (zero_page c.given.page_size) ≡ content_at m q in
    let here : unwrap_or (content_of c file p) (zero_page c.given.page_size) ≡ content_at m p = All-head P p ps same in
    ap (λ (bytes : List ℕ). record { place = p; content = bytes } ∷ map (page_of c.given.page_size) (page_records (map (own_record c file) ps))) here
    ∙ ap (λ (pages : List Page). record { place = p; content = content_at m p } ∷ pages) (pages_are c file m ps (All-tail P p ps same))

-- ---- sections without records

-- what is passed over behind a PART may stand anywhere
passed_stands : (before_parts : Bool) (x : PassedSection) → IsPassedSection false x → IsPassedSection before_parts x
passed_stands before_parts (CommandOf c) is = is
passed_stands before_parts (EarlyOf e) is = absurd (let clash : false ≡ true = is.0 in cc)

pub bare_stand : (before_parts : Bool) (others : List PartOrPassed) → AllByRecursion IsBare others → AreBetween before_parts others
bare_stand before_parts [] are = tt
bare_stand before_parts (PartOf records ∷ others) are = bare_stand false others are.1
bare_stand before_parts (PassedOf x ∷ others) are = (passed_stands before_parts x are.0, bare_stand before_parts others are.1)

pub bare_records : (others : List PartOrPassed) → AllByRecursion IsBare others → all_records (parts_of others) ≡ []
bare_records [] are = refl
bare_records (PartOf records ∷ others) are = ap (λ (l : List Record). l ++ all_records (parts_of others)) are.0 ∙ bare_records others are.1
bare_records (PassedOf x ∷ others) are = bare_records others are.1

pub bare_flush : (others : List PartOrPassed) → AllByRecursion IsBare others → All HasNoFlush (parts_of others ++ [] ∷ [])
bare_flush [] are = All-cons HasNoFlush [] [] tt (All-nil HasNoFlush)
bare_flush (PartOf records ∷ others) are =
    All-cons HasNoFlush records (parts_of others ++ [] ∷ []) (subst HasNoFlush (sym are.0) tt) (bare_flush others are.1)
bare_flush (PassedOf x ∷ others) are = bare_flush others are.1

-- their rounds have no pages
pub bare_pages : (size : ℕ) (others : List PartOrPassed) → AllByRecursion IsBare others
    → all_pages (map (map (page_of size)) (map page_records (parts_of others ++ [] ∷ []))) ≡ []
bare_pages size [] are = refl
bare_pages size (PartOf records ∷ others) are =
    ap (λ (l : List Record). map (page_of size) (page_records l) ++ all_pages (map (map (page_of size)) (map page_records (parts_of others ++ [] ∷ [])))) are.0
    ∙ bare_pages size others are.1
bare_pages size (PassedOf x ∷ others) are = bare_pages size others are.1
