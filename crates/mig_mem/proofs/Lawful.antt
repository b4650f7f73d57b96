-- A list has no refusal exactly if it is a lawful table.
use Rattle.std.proofs.Common.{ℕ, ◌≡◌, ◌≢◌, ◌<◌, ◌*◌, ◌^◌, List, [], ◌∷◌, length, map, take, get_or, true, false, not, refl, sym, ap, ◌∙◌, arith, None, nat_lt}
use Rattle.std.proofs.Common.{◌==◌}
use Rattle.std.proofs.lemmas.Bool.{not-false, ltb-false, eqb-false, ne_eqb, le-ltb, false_from_ne_true}
use Rattle.std.proofs.lemmas.List.Folds.{list_any_none}
use Rattle.std.proofs.lemmas.Slice.Eq.{bytes_eq-Decides}
use Rattle.std.proofs.lemmas.List.{get_or_default, get_or-take, length-take-le}
use Rattle.std.specs.Prelude.{IsTrue, ◌↔◌}
use Rattle.std.specs.Bool.{then_some}
use Rattle.std.specs.List.{list_any, range_with_len}
use Rattle.std.specs.Cmp.Lexicographic.{other_text}
use Rattle.std.specs.Str.{bytes_eq}
use Rattle.mig_mem.specs.declared.fault.TableFault.TheVariants.{NoBlocks, TooManyBlocks, Id, IdTwice, NoPages, TooLarge}
use Rattle.mig_mem.specs.First.{first_some}
use Rattle.mig_mem.specs.PageSize.{IsPageSize}
use Rattle.mig_mem.specs.RamTable.{Block, RamTable, block, is_id, IsTable, total_pages}
use Rattle.mig_mem.specs.Refusal.{block_refusal, entry_refusal, refusal}
use Rattle.mig_mem.proofs.Lists.{or_none, then_none, any_false, first_some-none, first_some_nothing}

-- a block that nothing is wrong with
record IsGood (before : List Block) (b : Block) : Type 0 where
  id : IsTrue (is_id b.id)
  own : (k : ℕ) (d : Block) → k < length before → (get_or before k d).id ≢ b.id
  pages : 0 < b.pages

good : (before : List Block) (b : Block) → block_refusal before b ≡ None → IsGood before b
unfolding block_refusal
good before b h =
    let n : ℕ = length before in
    let id = or_none (then_some (not (is_id b.id)) (Id n))
    (first_some (then_some (list_any (λ (e : Block). bytes_eq e.id b.id) before) (IdTwice n) ∷ (then_some (b.pages == 0) (NoPages n) ∷ []))) h in
    let own = or_none (then_some (list_any (λ (e : Block). bytes_eq e.id b.id) before) (IdTwice n))
    (first_some (then_some (b.pages == 0) (NoPages n) ∷ [])) id.1 in
    let pages = or_none (then_some (b.pages == 0) (NoPages n)) None own.1 in
    record {
      id = not-false (is_id b.id) (then_none (not (is_id b.id)) (Id n) id.0);
      own = λ k d lt. other_text (get_or before k d).id b.id
          (sym (any_false (λ (e : Block). bytes_eq e.id b.id) before k d (then_none _ (IdTwice n) own.0) lt));
      pages = let ne : b.pages ≢ 0 = eqb-false b.pages 0 (then_none (b.pages == 0) (NoPages n) pages.0) in omega arith;
    }

entries : (blocks : List Block) → first_some (map (entry_refusal blocks) (range_with_len 0 (length blocks))) ≡ None
    → (i : ℕ) → i < length blocks → IsGood (take i blocks) (block blocks i)
entries blocks h i lt = good (take i blocks) (block blocks i) (first_some_nothing (entry_refusal blocks) 0 (length blocks) i h (omega arith) (omega arith))

-- a table that is refused nothing is a table of the definition
pub lawful : (table : RamTable) → IsPageSize table.page_size → refusal table ≡ None → IsTable table
unfolding refusal
lawful table is h =
    let blocks : List Block = table.blocks in
    let none : Block = record { id = []; pages = 0 } in
    let some = or_none (then_some (length blocks == 0) NoBlocks) _ h in
    let few = or_none (then_some (nat_lt 256 (length blocks)) TooManyBlocks) _ some.1 in
    let each = or_none (first_some (map (entry_refusal blocks) (range_with_len 0 (length blocks)))) _ few.1 in
    let total = or_none (then_some (nat_lt (2 ^ 40) (total_pages blocks * table.page_size)) TooLarge) _ each.1 in
    let all = entries blocks each.0 in
    record {
      has_page_size = is;
      has_blocks = let ne : length blocks ≢ 0 = eqb-false (length blocks) 0 (then_none _ NoBlocks some.0) in omega arith;
      has_few = ltb-false 256 (length blocks) (then_none _ TooManyBlocks few.0);
      has_ids = λ k d lt. let e : get_or blocks k none ≡ get_or blocks k d = get_or_default blocks k none d lt in
          ap (λ (b : Block). is_id b.id) (sym e) ∙ (all k lt).id;
      has_own_ids = λ i j d before lt e.
          let here : get_or blocks j d ≡ get_or blocks j none = get_or_default blocks j d none lt in
          let there : get_or (take j blocks) i d ≡ get_or blocks i d = get_or-take j blocks i d before in
          let long : length (take j blocks) ≡ j = length-take-le j blocks (omega arith) in
          (all j lt).own i d (omega arith) (ap (λ (b : Block). b.id) there ∙ e ∙ ap (λ (b : Block). b.id) here);
      has_pages = λ k d lt. let e : get_or blocks k none ≡ get_or blocks k d = get_or_default blocks k none d lt in
          let p : (get_or blocks k none).pages ≡ (get_or blocks k d).pages = ap (λ (b : Block). b.pages) e in
          let good : 0 < (get_or blocks k none).pages = (all k lt).pages in omega arith;
      has_room = ltb-false (2 ^ 40) (total_pages blocks * table.page_size) (then_none _ TooLarge total.0);
    }

-- ---- and the other way

not_refused : (table : RamTable) (i : ℕ) → IsTable table → i < length table.blocks → entry_refusal table.blocks i ≡ None
unfolding block_refusal
not_refused table i is lt =
    let blocks : List Block = table.blocks in
    let none : Block = record { id = []; pages = 0 } in
    let b : Block = block blocks i in
    let id : is_id b.id ≡ true = is.has_ids i none lt in
    let own : list_any (λ (e : Block). bytes_eq e.id b.id) (take i blocks) ≡ false =
    list_any_none (λ (e : Block). bytes_eq e.id b.id) (take i blocks) (λ k d within.
    let before : k < i = omega (arith, length-take-le i blocks (omega arith)) in
    let there : get_or (take i blocks) k d ≡ get_or blocks k d = get_or-take i blocks k d before in
    let here : get_or blocks i d ≡ b = get_or_default blocks i d none lt in
    let apart : (get_or (take i blocks) k d).id ≢ b.id =
    λ e. is.has_own_ids k i d before lt (ap (λ (x : Block). x.id) (sym there) ∙ e ∙ ap (λ (x : Block). x.id) (sym here)) in
    false_from_ne_true (bytes_eq (get_or (take i blocks) k d).id b.id) (λ t. apart ((bytes_eq-Decides (get_or (take i blocks) k d).id b.id).0 t))) in
    let some : 0 < b.pages = is.has_pages i none lt in
    let pages : (b.pages == 0) ≡ false = ne_eqb b.pages 0 (λ e. absurd (omega arith)) in
    rw (id, own, pages) refl

-- a table of the definition is refused nothing
pub unrefused : (table : RamTable) → IsTable table → refusal table ≡ None
unfolding refusal
unrefused table is =
    let blocks : List Block = table.blocks in
    let has : 0 < length blocks = is.has_blocks in
    let some : (length blocks == 0) ≡ false = ne_eqb (length blocks) 0 (λ e. absurd (omega arith)) in
    let few : nat_lt 256 (length blocks) ≡ false = le-ltb 256 (length blocks) is.has_few in
    let each : first_some (map (entry_refusal blocks) (range_with_len 0 (length blocks))) ≡ None =
    first_some-none (entry_refusal blocks) 0 (length blocks) (λ k _ lt. not_refused table k is (omega arith)) in
    let room : nat_lt (2 ^ 40) (total_pages blocks * table.page_size) ≡ false = le-ltb (2 ^ 40) (total_pages blocks * table.page_size) is.has_room in
    rw (some, few, each, room) refl

-- a table is refused nothing if, and only if, it is a table of the definition
pub table_law : (table : RamTable) → IsPageSize table.page_size → (refusal table ≡ None) ↔ IsTable table
table_law table is = ((λ h. lawful table is h), (λ h. unrefused table h))
