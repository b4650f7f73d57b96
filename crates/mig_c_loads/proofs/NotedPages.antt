-- The pages that may hold something else than zeros, in blocks that were zeros.
use Rattle.std.proofs.Common.{ℕ, zero, suc, ◌≡◌, ◌+◌, ◌<◌, ◌≤◌, ◌/◌, ◌||◌, ◌&&◌, not, Bool, true, false, cond, List, [], ◌∷◌, ◌++◌, length, map, Option, Some}
use Rattle.std.proofs.Common.{None, refl, sym, ap, subst, ◌∙◌, inl, inr, arith}
use Rattle.std.specs.Prelude.{IfSome}
use Rattle.std.specs.List.{All, range_with_len}
use Rattle.std.specs.Option.{option_map_or, option_or}
use Rattle.std.proofs.lemmas.Bool.{cases_Bool, cases_order, or_parts}
use Rattle.std.proofs.lemmas.List.Elements.{All-head, All-tail, All-nil, All-cons, All-append}
use Rattle.std.proofs.lemmas.List.Folds.{list_any-append}
use Rattle.std.proofs.lemmas.List.{map-append}
use Rattle.mig_mem.specs.declared.place.Place.{Place}
use Rattle.mig_mem.specs.RamTable.{RamTable}
use Rattle.mig_mem.specs.Place.{IsPlace, has_place, place_at, place_eq}
use Rattle.mig_mem.specs.PlaceSet.{PlaceSet}
use Rattle.mig_mem.specs.Image.{Image, Page, content_at, zero_page}
use Rattle.mig_mem.specs.Round.{last_at}
use Rattle.mig_mem.proofs.Images.{content_at-image_of}
use Rattle.mig_mem.proofs.Members.{map-map}
use Rattle.mig_mem.proofs.Rounds.{last_at-cons, last_at-nil}
use Rattle.mig_packet.specs.Packet.{normal_count, zero_count, offset_at}
use Rattle.mig_assemble.specs.HeadPlaces.{LieIn}
use Rattle.mig_assemble.specs.Judging.{places_of}
use Rattle.mig_assemble.proofs.PacketParts.{zero_page_at, zero_by_number}
use Rattle.mig_marking.specs.Fresh.{AreZeros}
use Rattle.mig_marking.proofs.Zeros.{zeros_elsewhere}
use Rattle.mig_in_place.specs.Sources.{block_in, zeros_begun}
use Rattle.mig_in_place.specs.TakenPackets.{normal_page, pages_taken}
use Rattle.mig_in_place.proofs.Lying.{block_is}
use Rattle.mig_c_loads.specs.ZeroBlocks.{filled_at_first}
use Rattle.mig_c_loads.specs.Filling.{FillsPacket, FillsPages, PagesReadAreNoted, normal_places, zero_places}

-- ---- the set is of the table of the blocks

-- at first
pub noted_at_first : (zeros : Bool) (table other : RamTable) (filled : Option PlaceSet) → filled ≡ filled_at_first zeros table
    → table ≡ other → IfSome filled (λ f. f.table ≡ other)
noted_at_first zeros table other filled is same = rw is (at_first zeros)
  where
    at_first : (z : Bool) → IfSome (filled_at_first z table) (λ f. f.table ≡ other)
    at_first true = same
    at_first false = tt

-- and after a packet
pub noted_after : (table : RamTable) (b : ℕ) (head : List ℕ) (old new : Option PlaceSet) → IfSome old (λ f. f.table ≡ table)
    → FillsPacket table b head old new → IfSome new (λ f. f.table ≡ table)
noted_after table b head None None same fills = tt
noted_after table b head None (Some g) same fills = absurd cc
noted_after table b head (Some f) None same fills = absurd fills
noted_after table b head (Some f) (Some g) same fills = fills.0 ∙ same

-- ---- places of a run of numbers

-- a place that isn't among them is none of them
lacks_each : (f : ℕ → Place) (n a : ℕ) (p : Place) → has_place (map f (range_with_len a n)) p ≡ false → (i : ℕ) → a ≤ i → i < a + n → place_eq (f i) p ≡ false
lacks_each f zero a p none i low high = absurd (omega (arith, low, high))
lacks_each f (suc n) a p none i low high =
    let parts = or_parts (place_eq (f a) p) (has_place (map f (range_with_len (a + 1) n)) p) none in
    elim (cases_order a i) [
      | inl same ↦ subst (λ (k : ℕ). place_eq (f k) p ≡ false) same parts.0
      | inr apart ↦ lacks_each f n (a + 1) p parts.1 i (elim apart [ inl lt ↦ omega (arith, lt) | inr gt ↦ omega (arith, low, gt) ]) (omega (arith, high))
    ]

none_each : (f : ℕ → Place) (n a : ℕ) (p : Place) → ((i : ℕ) → a ≤ i → i < a + n → place_eq (f i) p ≡ false) → has_place (map f (range_with_len a n)) p ≡ false
none_each f zero a p each = refl
none_each f (suc n) a p each =
    ap (λ (b : Bool). b || has_place (map f (range_with_len (a + 1) n)) p) (each a (omega arith) (omega arith))
    ∙ none_each f n (a + 1) p (λ i low high. each i (omega (arith, low)) (omega (arith, high)))

-- what holds of each page of a run of numbers
all_ranged : (P : Page → Type 0) (f : ℕ → Page) (n a : ℕ) → ((i : ℕ) → a ≤ i → i < a + n → P (f i)) → All P (map f (range_with_len a n))
all_ranged P f zero a each = All-nil P
all_ranged P f (suc n) a each =
    All-cons P (f a) (map f (range_with_len (a + 1) n)) (each a (omega arith) (omega arith))
    (all_ranged P f n (a + 1) (λ i low high. each i (omega (arith, low)) (omega (arith, high))))

-- ---- a place whose pages are all zeros

-- the last of them, or what was there before
last_is : (p : Place) (z : List ℕ) (pages : List Page) (before : List ℕ)
    → All (λ x. place_eq x.place p ≡ true → x.content ≡ z) pages → (has_place (places_of pages) p ≡ false → before ≡ z)
    → option_map_or (λ (x : Page). x.content) (last_at p pages) before ≡ z
last_is p z [] before all none = ap (λ (o : Option Page). option_map_or (λ (x : Page). x.content) o before) (last_at-nil p) ∙ none refl
last_is p z (x ∷ pages) before all none =
    let P : Page → Type 0 = λ y. place_eq y.place p ≡ true → y.content ≡ z in
    let rest : All P pages = All-tail P x pages all in
    elim (cases_Bool (place_eq x.place p)) [
      | inl here ↦
          ap (λ (o : Option Page). option_map_or (λ (y : Page). y.content) o before)
          (last_at-cons p x pages ∙ ap (λ (b : Bool). option_or (last_at p pages) (cond b (Some x) None)) here)
          ∙ given_first (last_at p pages)
          ∙ last_is p z pages x.content rest (λ _. All-head P x pages all here)
      | inr other ↦
          ap (λ (o : Option Page). option_map_or (λ (y : Page). y.content) o before)
          (last_at-cons p x pages ∙ ap (λ (b : Bool). option_or (last_at p pages) (cond b (Some x) None)) other ∙ or_none (last_at p pages))
          ∙ last_is p z pages before rest (λ lacks. none (ap (λ (b : Bool). b || has_place (places_of pages) p) other ∙ lacks))
    ]
  where
    given_first : (o : Option Page) → option_map_or (λ (y : Page). y.content) (option_or o (Some x)) before ≡ option_map_or
        (λ (y : Page). y.content) o x.content
    given_first None = refl
    given_first (Some y) = refl

    or_none : (o : Option Page) → option_or o None ≡ o
    or_none None = refl
    or_none (Some y) = refl

-- ---- the law

module _ (memory : Image) (head : List ℕ) (contents : List (List ℕ)) (b : ℕ)
    (old new : PlaceSet) (lie : LieIn memory.table b head) (many : length contents ≡ normal_count head)
    (are : AreZeros memory old) (fills : FillsPages memory.table b head old new) (p : Place) (is : IsPlace memory.table
    p) (unmarked : has_place new.marked p ≡ false) where
  abbrev table : RamTable
  table = memory.table

  abbrev z : List ℕ
  z = zero_page table.page_size

  abbrev zeros : List Page
  zeros = zeros_begun table head

  abbrev normals : List Page
  normals = map (normal_page table head contents) (range_with_len 0 (length contents))

  abbrev Zero : Page → Type 0
  Zero x = place_eq x.place p ≡ true → x.content ≡ z

  block : block_in table head ≡ b
  block = block_is table b head lie

  parts : (has_place (normal_places table b head) p ≡ false) × ((has_place old.marked p && not (has_place (zero_places table b head) p)) ≡ false)
  parts = or_parts (has_place (normal_places table b head) p)
      (has_place old.marked p && not (has_place (zero_places table b head) p)) (sym (fills p is) ∙ unmarked)

  by_number : map (zero_page_at table (block_in table head) head) (range_with_len (normal_count head) (zero_count head)) ≡ zeros
  by_number = zero_by_number table (block_in table head) table.page_size head

  zeros_are : All Zero zeros
  zeros_are = subst (λ (l : List Page). All Zero l) by_number
      (all_ranged Zero (zero_page_at table (block_in table head) head) (zero_count head) (normal_count head) (λ i low high here. refl))

  normals_are : All Zero normals
  normals_are = all_ranged Zero (normal_page table head contents) (length contents) 0 (λ i low high here.
      let lacks : place_eq (place_at b (offset_at head i / table.page_size)) p ≡ false =
      lacks_each (λ k. place_at b (offset_at head k / table.page_size)) (normal_count head) 0 p parts.0 i low (omega (arith, high, many)) in
      let same : place_eq (place_at (block_in table head) (offset_at head i / table.page_size)) p ≡ false =
      ap (λ (k : ℕ). place_eq (place_at k (offset_at head i / table.page_size)) p) block ∙ lacks in
      absurd (let clash : true ≡ false = sym here ∙ same in cc))

  before_is : has_place (places_of (zeros ++ normals)) p ≡ false → content_at memory p ≡ z
  before_is none =
      let either = or_parts (has_place (places_of zeros) p) (has_place (places_of normals) p)
      (sym (ap (λ (l : List Place). has_place l p) (map-append (λ (x : Page). x.place) zeros normals)
      ∙ list_any-append (λ (q : Place). place_eq q p) (places_of zeros) (places_of normals)) ∙ none) in
      let n : ℕ = normal_count head in
      let f : ℕ → Place = λ i. place_at (block_in table head) (offset_at head i / table.page_size) in
      let lacks : has_place (map f (range_with_len n (zero_count head))) p ≡ false =
      ap (λ (l : List Place). has_place l p) (sym
      (map-map (λ (x : Page). x.place) (zero_page_at table (block_in table head) head) (range_with_len n (zero_count head))))
      ∙ ap (λ (l : List Page). has_place (places_of l) p) by_number ∙ either.0 in
      let no_zero : has_place (zero_places table b head) p ≡ false =
      none_each (λ i. place_at b (offset_at head (n + i) / table.page_size)) (zero_count head) 0 p (λ i low high.
      ap (λ (k : ℕ). place_eq (place_at k (offset_at head (n + i) / table.page_size)) p) (sym block)
      ∙ lacks_each f (zero_count head) n p lacks (n + i) (omega arith) (omega (arith, high))) in
      are.are_zeros p is (and_true (has_place old.marked p) (ap (λ (x : Bool). has_place old.marked p && not x) (sym no_zero) ∙ parts.1))
    where
      and_true : (x : Bool) → (x && true) ≡ false → x ≡ false
      and_true true e = e
      and_true false e = refl

  is_zeros : option_map_or (λ (x : Page). x.content) (last_at p (pages_taken table head contents)) (content_at memory p) ≡ z
  is_zeros = last_is p z (pages_taken table head contents) (content_at memory p) (All-append Zero zeros normals zeros_are normals_are) before_is

-- memory that is zeros but for noted pages stays so as a page or a packet's pages are read in
pub noted_law : PagesReadAreNoted
noted_law = record {
  page = λ memory filled place content are. zeros_elsewhere memory filled place content are;
  packet = λ memory head contents b old new lie many are same fills. record {
    same_table = same ∙ are.same_table;
    are_zeros = λ p is none.
        content_at-image_of memory.table (λ q. option_map_or (λ (x : Page). x.content)
        (last_at q (pages_taken memory.table head contents)) (content_at memory q)) p is
        ∙ is_zeros memory head contents b old new lie many are fills p is none;
  };
}
