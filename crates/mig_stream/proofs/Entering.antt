-- The entries of a size list, one after another, and the table that they make.
use Rattle.std.proofs.Common.{ℕ, zero, suc, ◌≡◌, ◌≢◌, ◌⊎◌, ◌+◌, ◌-◌, ◌*◌, ◌/◌, ◌%◌, ◌<◌, List, [], ◌∷◌, ◌++◌, Some, None, sum_by, inl, inr, sym, ap, ◌∙◌, arith}
use Rattle.std.specs.Prelude.{IsTrue}
use Rattle.std.specs.Option.{unwrap_or}
use Rattle.std.proofs.lemmas.List.{length-append}
use Rattle.std.proofs.lemmas.List.Elements.{All-push}
use Rattle.std.proofs.lemmas.List.Quantifiers.{all_pairs_push}
use Rattle.std.proofs.lemmas.List.Sums.{sum_by_push}
use Rattle.std.proofs.lemmas.Nat.{div-add-mod'}
use Rattle.mig_mem.specs.declared.fault.TableFault.{TableFault}
use Rattle.mig_mem.specs.declared.fault.TableFault.TheVariants as fault
use Rattle.mig_mem.specs.RamTable.{Block, RamTable, block_of, is_id, total_pages, IsTable}
use Rattle.mig_mem.specs.Refusal.{refusal}
use Rattle.mig_mem.proofs.Lawful.{unrefused}
use Rattle.mig_stream.specs.Entries.{Listed, AreListed, IsNext}
use Rattle.mig_stream.proofs.Tables.{new_id}

-- A lawful table is refused with `NoMemory` alone.
pub memory_alone : (table built : RamTable) (e : TableFault) → IsTable table → built ≡ table
    → (e ≡ fault.NoMemory) ⊎ (refusal built ≡ Some e) → e ≡ fault.NoMemory
memory_alone table built e is same (inl h) = h
memory_alone table built e is same (inr h) = absurd (let clash : None ≡ Some e = sym (unrefused table is) ∙ ap refusal (sym same) ∙ h in cc)

-- What is known of the blocks holds of one entry more.
pub listed_more : (e : Listed) (id : List ℕ) (len left : ℕ) (b : Block) → AreListed e.page_size e.limit e.left e.blocks
    → IsNext e id len → b.id ≡ id → b.pages ≡ len / e.page_size → left ≡ unwrap_or e.left 0 - len
    → AreListed e.page_size e.limit (Some left) (e.blocks ++ b ∷ [])
listed_more e id len left b k n same_id same_pages same_left =
    let whole : len / e.page_size * e.page_size + len % e.page_size ≡ len = div-add-mod' len e.page_size in
    let bytes : b.pages * e.page_size ≡ len = ap (λ (x : ℕ). x * e.page_size) same_pages ∙ omega (arith, whole, n.has_whole_pages) in
    record {
      has_page_size = k.has_page_size;
      has_limit = k.has_limit;
      has_few = omega (arith, n.has_room, length-append e.blocks (b ∷ []));
      has_ids = All-push (λ (x : Block). IsTrue (is_id x.id)) e.blocks b k.has_ids (ap is_id same_id ∙ n.has_id);
      has_own_ids = all_pairs_push (λ (x y : Block). x.id ≢ y.id) e.blocks b k.has_own_ids
          (λ i d lt. new_id e.blocks b i d (ap (block_of e.blocks) same_id ∙ n.has_own_id) lt);
      has_pages = All-push (λ (x : Block). 0 < x.pages) e.blocks b k.has_pages (positive b.pages e.page_size len bytes n.has_pages);
      has_room =
          let sum : sum_by (λ (x : Block). x.pages) (e.blocks ++ b ∷ []) ≡ total_pages e.blocks + b.pages = sum_by_push (λ (x : Block). x.pages) e.blocks b in
          let product : sum_by (λ (x : Block). x.pages)
          (e.blocks ++ b ∷ []) * e.page_size ≡ total_pages e.blocks * e.page_size + b.pages * e.page_size = ap (λ (x : ℕ). x * e.page_size) sum ∙ omega arith in
          omega (arith, product, bytes, k.has_room, n.has_bytes, same_left);
      has_begun = λ none. absurd cc;
    }
  where
    positive : (p s n : ℕ) → p * s ≡ n → 0 < n → 0 < p
    positive zero s n same some = omega (arith, same)
    positive (suc p) s n same some = omega arith

-- and makes a lawful table
pub listed_table_more : (page_size limit left : ℕ) (blocks : List Block) (b : Block)
    → AreListed page_size limit (Some left) (blocks ++ b ∷ []) → IsTable (record { page_size = page_size; blocks = blocks ++ b ∷ [] })
listed_table_more page_size limit left blocks b k = record {
  has_page_size = k.has_page_size;
  has_blocks = omega (arith, length-append blocks (b ∷ []));
  has_few = k.has_few;
  has_ids = k.has_ids;
  has_own_ids = k.has_own_ids;
  has_pages = k.has_pages;
  has_room = omega (arith, k.has_room, k.has_limit);
}
