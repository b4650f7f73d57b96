-- The blocks of a file make a lawful table, and their pages a memory of it.
use Rattle.std.proofs.Common.{ℕ, zero, suc, ◌≡◌, ◌+◌, ◌-◌, ◌*◌, ◌<◌, ◌≤◌, ◌^◌, Bool, false, List, [], ◌∷◌, ◌++◌, length, map, Some, None}
use Rattle.std.proofs.Common.{refl, sym, ap, subst, ◌∙◌, inl, inr, append_assoc, append-nil, arith}
use Rattle.std.specs.Str.{bytes_eq}
use Rattle.std.proofs.lemmas.Bool.{ltb-false, cond_both, cases_eq}
use Rattle.std.proofs.lemmas.List.{length-append, length-map, map-append}
use Rattle.std.proofs.lemmas.List.Elements.{All-push}
use Rattle.mig_mem.specs.RamTable.{Block, block, block_of, IsTable}
use Rattle.mig_mem.proofs.Lists.{position_past, any_false}
use Rattle.mig_mem.proofs.Members.{list_any-map}
use Rattle.mig_mem.proofs.PageSizes.{page_before}
use Rattle.mig_mem.proofs.Images.{image_from}
use Rattle.mig_mem.proofs.Slotted.{length-zero_page}
use Rattle.mig_stream.specs.Entries.{Listed, AreListed, IsNext}
use Rattle.mig_stream.specs.Items.{id_in, length_in}
use Rattle.mig_stream.proofs.Entering.{listed_more}
use Rattle.mig_stream.proofs.FoundParts.{length_slice}
use Rattle.mig_mapped.specs.declared.settings.MappedSettings.{MappedSettings}
use Rattle.mig_mapped.specs.Bitmap.{is_set}
use Rattle.mig_mapped.specs.Block.{MappedBlock, ram_block, table_of, mapped_block, page_offset, end_of, page_in}
use Rattle.mig_mapped.specs.Head.{MappedProgress, start, most_file_bytes, pages_in, pages_offset_in, head_fault, has_id, block_in, after_block, after_head}
use Rattle.mig_mapped.specs.Index.{IsIndex}
use Rattle.mig_mapped.specs.Reading.{rest_of, AreBlocks, after_blocks, end_fault}
use Rattle.mig_mapped.specs.Law.{FaultlessIsMemory}
use Rattle.mig_mapped.proofs.Heads.{IsEntry, IsHead, none_of, head_good, all_bytes}
use Rattle.mig_mapped.proofs.Blocks.{block_mapped}

-- ---- the table

-- no RAM block has an id that none of the blocks has
pub own_id : (blocks : List MappedBlock) (id : List ℕ) → has_id blocks id ≡ false → block_of (map ram_block blocks) id ≡ None
own_id blocks id h =
    let none : Block = record { id = []; pages = 0 } in
    let all : List Block = map ram_block blocks in
    let p : Block → Bool = λ b. bytes_eq b.id id in
    position_past p all (length all) none (omega arith) (λ k lt. any_false p all k none (list_any-map p ram_block blocks ∙ h) lt)

-- the blocks so far make a table, once no byte of the total is left
abbrev pub AreTabled : MappedProgress → Type 0
AreTabled c = AreListed c.given.page_size (2 ^ 40) (Some c.left) (map ram_block c.blocks)

-- and so with one more
pub next_tabled : (c : MappedProgress) (bytes : List ℕ) → AreTabled c → IsEntry c bytes → AreTabled (after_head c bytes)
next_tabled c bytes tabled is =
    let e : Listed = record { page_size = c.given.page_size; limit = 2 ^ 40; left = Some c.left; blocks = map ram_block c.blocks } in
    let b : MappedBlock = block_in c.given.page_size bytes in
    let few : length (map ram_block c.blocks) < 256 = omega (arith, length-map c.blocks ram_block, is.is_few) in
    let next : IsNext e (id_in bytes) (length_in bytes) = record {
      has_room = few;
      has_id = is.has_name;
      has_own_id = own_id c.blocks (id_in bytes) is.is_own;
      has_pages = omega (arith, is.is_some);
      has_whole_pages = is.is_whole;
      has_bytes = is.fits;
    } in
    subst (AreListed c.given.page_size (2 ^ 40) (Some (after_head c bytes).left)) (sym (map-append ram_block c.blocks (b ∷ [])))
    (listed_more e (id_in bytes) (length_in bytes) (after_head c bytes).left (ram_block b) tabled next refl refl
    (ap (λ (n : ℕ). c.left - n) (all_bytes c bytes is)))

all_tabled : (file : List ℕ) (c : MappedProgress) (bs : List MappedBlock) → AreTabled c → AreBlocks file c bs → AreTabled (after_blocks c bs)
all_tabled file c [] tabled are = tabled
all_tabled file c (b ∷ bs) tabled are =
    let d : MappedProgress = after_block c b in
    let same : after_head c (rest_of file c) ≡ d = ap (after_block c) (sym are.2) in
    all_tabled file d bs (subst AreTabled same (next_tabled c (rest_of file c) tabled (head_good c (rest_of file c) are.1).entry)) are.3

-- the blocks after some are those before, and these
blocks_after : (c : MappedProgress) (bs : List MappedBlock) → (after_blocks c bs).blocks ≡ c.blocks ++ bs
blocks_after c [] = sym (append-nil c.blocks)
blocks_after c (b ∷ bs) = blocks_after (after_block c b) bs ∙ append_assoc c.blocks (b ∷ []) bs

given_after : (c : MappedProgress) (bs : List MappedBlock) → (after_blocks c bs).given ≡ c.given
given_after c [] = refl
given_after c (b ∷ bs) = given_after (after_block c b) bs

-- some block is there, if the total had bytes
some_block : (c : MappedProgress) (bs : List MappedBlock) → 0 < c.left → (after_blocks c bs).left ≡ 0 → 0 < length bs
some_block c [] some none = absurd (omega arith)
some_block c (b ∷ bs) some none = omega arith

-- blocks that are listed make a lawful table
pub table_good : (page_size left : ℕ) (blocks : List Block) → AreListed page_size (2 ^ 40) (Some left) blocks → 0 < length blocks
    → IsTable (record { page_size = page_size; blocks = blocks })
table_good page_size left blocks k some = record {
  has_page_size = k.has_page_size;
  has_blocks = some;
  has_few = k.has_few;
  has_ids = k.has_ids;
  has_own_ids = k.has_own_ids;
  has_pages = k.has_pages;
  has_room = omega (arith, k.has_room);
}

-- ---- the memory

-- an end of each of some blocks, and of one before them
each_within : (page_size end : ℕ) (b : MappedBlock) (bs : List MappedBlock) → end_of page_size b ≤ end
    → ((i : ℕ) → i < length bs → end_of page_size (mapped_block bs i) ≤ end)
    → (i : ℕ) → i < length (b ∷ bs) → end_of page_size (mapped_block (b ∷ bs) i) ≤ end
each_within page_size end b bs first others zero lt = first
each_within page_size end b bs first others (suc i) lt = others i (omega arith)

-- The pages of each block end where the next head is, or before it.
pub within_file : (file : List ℕ) (c : MappedProgress) (bs : List MappedBlock) → AreBlocks file c bs
    → (c.place ≤ (after_blocks c bs).place) × ((i : ℕ) → i < length bs → end_of c.given.page_size (mapped_block bs i) ≤ (after_blocks c bs).place)
within_file file c [] are = (omega arith, λ i lt. absurd (omega arith))
within_file file c (b ∷ bs) are =
    let d : MappedProgress = after_block c b in
    let others = within_file file d bs are.3 in
    let head : IsHead c (rest_of file c) = head_good c (rest_of file c) are.1 in
    let begin : b.pages_at ≡ (block_in c.given.page_size (rest_of file c)).pages_at = ap (λ (x : MappedBlock). x.pages_at) are.2 in
    let past : end_of c.given.page_size b ≤ (after_blocks d bs).place = others.0 in
    (omega (arith, head.header.is_after), each_within c.given.page_size (after_blocks d bs).place b bs past others.1)

-- a page that lies in the file has the page's size
pub page_long : (given : MappedSettings) (file : List ℕ) (b : MappedBlock) (page : ℕ) → page < b.pages → end_of given.page_size b ≤ length file
    → length (page_in given file b page) ≡ given.page_size
page_long given file b page lt within =
    let before : page * given.page_size + given.page_size ≤ b.pages * given.page_size = page_before given.page_size b.pages page lt in
    cond_both (is_set given.order b.bitmap page) _ _ (λ (x : List ℕ). length x ≡ given.page_size)
    (λ _. length_slice file (page_offset given.page_size b page) given.page_size (omega arith))
    (λ _. length-zero_page given.page_size)

-- A file without a fault ends after its last page.
no_end_fault : (file : List ℕ) (c : MappedProgress) → end_fault file c ≡ None → c.place ≤ length file
no_end_fault file c h = ltb-false _ _ (none_of _ _ _ h).0

pub faultless_is_memory : FaultlessIsMemory
faultless_is_memory given place total file reading size some limit is good =
    let c : MappedProgress = start given place total in
    let blocks : List MappedBlock = reading.blocks in
    let end : MappedProgress = after_blocks c blocks in
    let tabled : AreTabled c = record {
      has_page_size = size;
      has_limit = omega arith;
      has_few = omega arith;
      has_ids = λ i d lt. absurd (omega arith);
      has_own_ids = λ i j d before lt. absurd (omega arith);
      has_pages = λ i d lt. absurd (omega arith);
      has_room = omega arith;
      has_begun = λ none. absurd cc;
    } in
    let none : end.left ≡ 0 = elim (cases_eq end.left 0) [ inl none ↦ none | inr some ↦ absurd ((is.ends.at_head some).0 good) ] in
    let inside : end.place ≤ length file = no_end_fault file end (sym (is.ends.at_end none) ∙ good) in
    let all : AreListed end.given.page_size (2 ^ 40) (Some end.left) (map ram_block end.blocks) = all_tabled file c blocks tabled is.are_blocks in
    let sized : AreListed given.page_size (2 ^ 40) (Some end.left) (map ram_block end.blocks) =
    subst (λ (g : MappedSettings). AreListed g.page_size (2 ^ 40) (Some end.left) (map ram_block end.blocks)) (given_after c blocks) all in
    let listed : AreListed given.page_size (2 ^ 40) (Some end.left) (map ram_block blocks) =
    subst (λ (bs : List MappedBlock). AreListed given.page_size (2 ^ 40) (Some end.left) (map ram_block bs)) (blocks_after c blocks) sized in
    let count : 0 < length blocks = some_block c blocks some none in
    let each = (within_file file c blocks is.are_blocks).1 in (
      table_good given.page_size end.left (map ram_block blocks) listed (omega (arith, length-map blocks ram_block)),
      image_from (table_of given.page_size blocks) (λ p. page_in given file (mapped_block blocks p.block) p.page) (λ p place.
          let lt : p.block < length blocks = omega (arith, length-map blocks ram_block, place.has_block) in
          let pages : (block (map ram_block blocks) p.block).pages ≡ (mapped_block blocks p.block).pages =
          ap (λ (b : Block). b.pages) (block_mapped blocks p.block lt) in
          page_long given file (mapped_block blocks p.block) p.page (omega (arith, pages, place.has_page)) (omega (arith, each p.block lt, inside))),
    )

-- ---- the index

-- what is kept of the blocks after one more head
pub next_index : (c : MappedProgress) (bytes : List ℕ) → IsIndex c → head_fault c bytes ≡ None → IsIndex (after_head c bytes)
next_index c bytes is good =
    let head : IsHead c bytes = head_good c bytes good in
    let b : MappedBlock = block_in c.given.page_size bytes in
    let whole : b.pages * c.given.page_size ≡ length_in bytes = all_bytes c bytes head.entry in
    let end : end_of c.given.page_size b < most_file_bytes = omega (arith, whole, head.header.is_in_file) in
    record {
      are_listed = next_tabled c bytes is.are_listed head.entry;
      has_blocks = λ _. omega (arith, length-append c.blocks (b ∷ []));
      has_place = end;
      have_places = All-push (λ (x : MappedBlock). end_of c.given.page_size x < most_file_bytes) c.blocks b is.have_places end;
    }

-- the parts of what is kept after a head
pub next_progress : (c : MappedProgress) (bytes : List ℕ) → IsEntry c bytes → (place left : ℕ) (blocks : List MappedBlock)
    → place ≡ pages_offset_in bytes + length_in bytes → left ≡ c.left - length_in bytes → blocks ≡ c.blocks ++ block_in c.given.page_size bytes ∷ []
    → after_head c bytes ≡ record c { place = place; left = left; blocks = blocks }
next_progress c bytes is place left blocks p l b =
    let next : MappedProgress = after_head c bytes in
    let whole : pages_in c.given.page_size bytes * c.given.page_size ≡ length_in bytes = all_bytes c bytes is in
    let same_place : next.place ≡ place = ap (λ (n : ℕ). pages_offset_in bytes + n) whole ∙ sym p in
    let same_left : next.left ≡ left = ap (λ (n : ℕ). c.left - n) whole ∙ sym l in
    ap (λ (x : ℕ). record c { place = x; left = next.left; blocks = next.blocks }) same_place
    ∙ ap (λ (x : ℕ). record c { place = place; left = x; blocks = next.blocks }) same_left
    ∙ ap (λ (x : List MappedBlock). record c { place = place; left = left; blocks = x }) (sym b)
