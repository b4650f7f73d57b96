-- The records of pages, and the pages from one on.
use Rattle.std.proofs.Common.{ℕ, zero, suc, ◌≡◌, ◌+◌, ◌-◌, ◌<◌, ◌≤◌, List, [], ◌++◌, length}
use Rattle.std.proofs.Common.{map, refl, sym, ap, ◌∙◌, arith, append_assoc, true, Option, inl, inr}
use Rattle.std.proofs.lemmas.Bool.{cases_lt}
use Rattle.std.proofs.lemmas.List.{map-append, get_or_past}
use Rattle.std.specs.List.{flat_map, range_with_len}
use Rattle.mig_mem.specs.declared.place.Place.{Place}
use Rattle.mig_mem.specs.RamTable.{RamTable, Block, block}
use Rattle.mig_mem.specs.Place.{place_at, block_places, places}
use Rattle.mig_mem.proofs.Counts.{range-append}
use Rattle.mig_stream.specs.Text.{record_bytes}
use Rattle.mig_mapped.specs.Block.{mapped_block}
use Rattle.mig_mapped.specs.Head.{MappedProgress}
use Rattle.mig_mapped.specs.Load.{has_come}
use Rattle.zimgasol_mapped.specs.Records.{record_of, records_bytes}
use Rattle.zimgasol_mapped.specs.Plain.{content_of, index_table, pages_bytes}
use Rattle.zimgasol_mapped.specs.Course.{places_from}

-- the file has these pages of a block, with these contents
abbrev pub AreThere : MappedProgress → List ℕ → ℕ → (ℕ → Option (List ℕ)) → ℕ → ℕ → Type 0
AreThere c file b content first k = (q : ℕ) → first ≤ q → q < first + k
    → (has_come c.given file (mapped_block c.blocks b) q ≡ true) × (content_of c file (place_at b q) ≡ content q)

-- their records come first
pub pages_some : (c : MappedProgress) (file rest : List ℕ) (b : ℕ) (content : ℕ → Option (List ℕ)) (first k : ℕ) (more : List Place)
    → AreThere c file b content first k
    → pages_bytes c file rest (map (place_at b) (range_with_len first k) ++ more)
    ≡ records_bytes (index_table c) b content (range_with_len first k) ++ pages_bytes c file rest more
pages_some c file rest b content first zero more are = refl
pages_some c file rest b content first (suc k) more are =
    let here = are first (omega arith) (omega arith) in
    let t : has_come c.given file (mapped_block c.blocks b) first ≡ true = here.0 in
    let others = pages_some c file rest b content (first + 1) k more (λ q low high. are q (omega (arith, low)) (omega (arith, high))) in
    rw t (ap (λ (o : Option (List ℕ)). record_bytes (index_table c) (record_of (place_at b first) o)
    ++ pages_bytes c file rest (map (place_at b) (range_with_len (first + 1) k) ++ more)) here.1
    ∙ ap (λ (l : List ℕ). record_bytes (index_table c) (record_of (place_at b first) (content first)) ++ l) others
    ∙ sym (append_assoc (record_bytes (index_table c) (record_of (place_at b first) (content first)))
    (records_bytes (index_table c) b content (range_with_len (first + 1) k)) (pages_bytes c file rest more)))

-- the pages of a block up to one, and those from it on
pub places_split : (table : RamTable) (b first end : ℕ) → first ≤ end → end ≤ (block table.blocks b).pages
    → places_from table (place_at b first) ≡ map (place_at b) (range_with_len first (end - first)) ++ places_from table (place_at b end)
places_split table b first end low high =
    let pages = (block table.blocks b).pages in
    let later = flat_map (block_places table.blocks) (range_with_len (b + 1) (length table.blocks - (b + 1))) in
    let n : pages - first ≡ (end - first) + (pages - end) = omega (arith, low, high) in
    let at : first + (end - first) ≡ end = omega (arith, low) in
    let cut : range_with_len first (pages - first) ≡ range_with_len first (end - first) ++ range_with_len end (pages - end) =
    ap (λ m. range_with_len first m) n ∙ range-append first (end - first) (pages - end)
    ∙ ap (λ m. range_with_len first (end - first) ++ range_with_len m (pages - end)) at in
    ap (λ (l : List ℕ). map (place_at b) l ++ later) cut
    ∙ ap (λ (l : List Place). l ++ later) (map-append (place_at b) (range_with_len first (end - first)) (range_with_len end (pages - end)))
    ∙ append_assoc (map (place_at b) (range_with_len first (end - first))) (map (place_at b) (range_with_len end (pages - end))) later

no_pages : (blocks : List Block) (b : ℕ) → length blocks ≤ b → (block blocks b).pages ≡ 0
no_pages blocks b past = ap (λ (x : Block). x.pages) (get_or_past blocks b (record { id = []; pages = 0 }) past)

-- a table has no pages after its last block
pub places_over : (table : RamTable) (b page : ℕ) → length table.blocks ≤ b → places_from table (place_at b page) ≡ []
places_over table b page past =
    let none = no_pages table.blocks b past in
    let zero_here : (block table.blocks b).pages - page ≡ 0 = omega (arith, none) in
    let zero_later : length table.blocks - (b + 1) ≡ 0 = omega (arith, past) in
    ap (λ n. map (place_at b) (range_with_len page n)
    ++ flat_map (block_places table.blocks) (range_with_len (b + 1) (length table.blocks - (b + 1)))) zero_here
    ∙ ap (λ n. flat_map (block_places table.blocks) (range_with_len (b + 1) n)) zero_later

-- the pages of the blocks from one on
later_blocks : (table : RamTable) (b : ℕ)
    → flat_map (block_places table.blocks) (range_with_len b (length table.blocks - b)) ≡ places_from table (place_at b 0)
later_blocks table b = elim (cases_lt b (length table.blocks)) [
  | inr past ↦ let none : length table.blocks - b ≡ 0 = omega (arith, past) in
      ap (λ n. flat_map (block_places table.blocks) (range_with_len b n)) none ∙ sym (places_over table b 0 past)
  | inl lt ↦ let some : length table.blocks - b ≡ suc (length table.blocks - (b + 1)) = omega (arith, lt) in
      let pages = (block table.blocks b).pages in
      let whole : pages ≡ pages - 0 = omega arith in
      ap (λ n. flat_map (block_places table.blocks) (range_with_len b n)) some
      ∙ ap (λ n. map (place_at b) (range_with_len 0 n) ++ flat_map (block_places table.blocks) (range_with_len (b + 1) (length table.blocks - (b + 1)))) whole
]

-- after a block's last page comes the next block's first one
pub places_next : (table : RamTable) (b page : ℕ) → (block table.blocks b).pages ≤ page
    → places_from table (place_at b page) ≡ places_from table (place_at (b + 1) 0)
places_next table b page past =
    let none : (block table.blocks b).pages - page ≡ 0 = omega (arith, past) in
    ap (λ n. map (place_at b) (range_with_len page n) ++ flat_map (block_places table.blocks) (range_with_len (b + 1) (length table.blocks - (b + 1)))) none
    ∙ later_blocks table (b + 1)

-- all pages are those from the first one on
pub places_all : (table : RamTable) → places table ≡ places_from table (place_at 0 0)
unfolding places
places_all table =
    let whole : length table.blocks ≡ length table.blocks - 0 = omega arith in
    ap (λ n. flat_map (block_places table.blocks) (range_with_len 0 n)) whole ∙ later_blocks table 0
