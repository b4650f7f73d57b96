use Rattle.std.proofs.Common.{◌≡◌, ◌∙◌, ◌++◌, ◌*◌, ◌<◌, ◌^◌, ◌∷◌, [], ℕ, List, not, map, take, get_or, sym, ap, arith}
use Rattle.mig_mem.specs.RamTable.{RamTable}
use Rattle.mig_mem.specs.Place.{place_at}
use Rattle.mig_zero.specs.Zero.{is_zero}
use Rattle.mig_send.specs.Packing.{normal_offsets, zero_offsets}
use Rattle.mig_send.proofs.Packing.{none_passing, passes_too, passes_not, page_offset_fits}
use Rattle.mig_send.proofs.packed.put_offsets.Goals as goal

pub loop-page-init : goal.loop-page-init
loop-page-init g c =
    let m = g.M.GuestPages.image c.args.memory.now in
    record {
      normal = c.reserve.ensures.items ∙ c.clear.ensures.items ∙ none_passing (λ b. not (is_zero b)) m c.args.block;
      zero = c.reserve-2.ensures.items ∙ c.clear-2.ensures.items ∙ none_passing is_zero m c.args.block;
    }

pub overflow_mul-offset : goal.overflow_mul-offset
overflow_mul-offset g c =
    let size : c.page_size-page_size.result ≡ (g.M.GuestPages.image c.args.memory.now).table.page_size =
    c.page_size-page_size.ensures ∙ ap (λ (t : RamTable). t.page_size) c.table.ensures.value in
    let fits : get_or c.args.pages.now c.loop-page.page-index 0 * c.page_size-page_size.result < 2 ^ 64 =
    rw size (page_offset_fits (g.M.GuestPages.image c.args.memory.now).table c.args.block c.args.pages.now c.loop-page.page-index
    c.requires.table c.requires.places
    c.loop-page-test.true) in
    omega (arith, fits)

pub loop-page-preserved-then-is_zero_page : goal.loop-page-preserved-then-is_zero_page
loop-page-preserved-then-is_zero_page g c =
    let m = g.M.GuestPages.image c.args.memory.now in
    let i = c.loop-page.page-index in
    let pages = c.args.pages.now in
    let size : c.page_size-page_size.result ≡ m.table.page_size = c.page_size-page_size.ensures ∙ ap (λ (t : RamTable). t.page_size) c.table.ensures.value in
    let is = sym c.is_zero_page.ensures ∙ c.if-is_zero_page.true in
    record {
      normal = c.loop-page.invariant.normal ∙ sym (passes_not (λ b. not (is_zero b)) m c.args.block pages i c.loop-page-test.true (ap not is));
      zero = c.in_ok-push.ensures.items ∙ ap (λ (l : List ℕ). l ++ (get_or pages i 0 * c.page_size-page_size.result) ∷ []) c.loop-page.invariant.zero
          ∙ ap (λ (k : ℕ). zero_offsets m (map (place_at c.args.block) (take i pages)) ++ (get_or pages i 0 * k) ∷ []) size
          ∙ sym (passes_too is_zero m c.args.block pages i c.loop-page-test.true is);
    }

pub loop-page-preserved : goal.loop-page-preserved
loop-page-preserved g c =
    let m = g.M.GuestPages.image c.args.memory.now in
    let i = c.loop-page.page-index in
    let pages = c.args.pages.now in
    let size : c.page_size-page_size.result ≡ m.table.page_size = c.page_size-page_size.ensures ∙ ap (λ (t : RamTable). t.page_size) c.table.ensures.value in
    let is = sym c.is_zero_page.ensures ∙ c.if-is_zero_page.false in
    record {
      normal = c.in_ok-push-2.ensures.items ∙ ap (λ (l : List ℕ). l ++ (get_or pages i 0 * c.page_size-page_size.result) ∷ []) c.loop-page.invariant.normal
          ∙ ap (λ (k : ℕ). normal_offsets m (map (place_at c.args.block) (take i pages)) ++ (get_or pages i 0 * k) ∷ []) size
          ∙ sym (passes_too (λ b. not (is_zero b)) m c.args.block pages i c.loop-page-test.true (ap not is));
      zero = c.loop-page.invariant.zero ∙ sym (passes_not is_zero m c.args.block pages i c.loop-page-test.true is);
    }
