use Rattle.std.proofs.Common.{ℕ, ◌≡◌, ◌*◌, List, take, drop, replicate, refl, sym, ap, ◌∙◌, arith}
use Rattle.mig_mem.specs.Image.{Image, with_page, zero_page}
use Rattle.mig_mem.specs.declared.place.Place.{Place}
use Rattle.mig_mem.specs.RamTable.{RamTable, block}
use Rattle.mig_mem.specs.Place.{place_at}
use Rattle.mig_mem.specs.Parts.{part_at}
use Rattle.mig_image.proofs.FirstPages.{no_page, one_page_more, all_pages, zeros_are, left_more}
use Rattle.mig_image.proofs.reading.take_block.Goals.{then-is_zero, else-is_zero}
use Rattle.mig_image.proofs.reading.take_block.Goals as goal

pub loop-page-init : goal.loop-page-init
loop-page-init g c = (
  no_page c.args.memory.now c.args.block c.args.bytes.now c.table.ensures.image,
  (let e : 0 ≡ 0 * c.page_size-size.result = omega arith in ap (λ (k : ℕ). drop k c.args.bytes.now) e),
  c.page_size-size.ensures ∙ ap (λ (t : RamTable). t.page_size) c.table.ensures.value,
)

pub loop-page-preserved : goal.loop-page-preserved
loop-page-preserved g c =
    let m : Image = c.args.memory.now in
    let n : ℕ = c.loop-page.page in
    let at : Place = place_at c.args.block n in
    let size : c.page_size-size.result ≡ m.table.page_size = c.loop-page.invariant.2 in
    let part : c.split_at.result.0.now ≡ part_at m.table.page_size c.args.bytes.now n =
    c.split_at.ensures.front ∙ ap (λ (k : ℕ). take k c.loop-page.left.now) size ∙ ap (λ (l : List ℕ). take m.table.page_size l) c.loop-page.invariant.1
    ∙ ap (λ (k : ℕ). take m.table.page_size (drop (n * k) c.args.bytes.now)) size in (
      elim c.if-is_zero.branch [
        | then-is_zero w ↦ w.memory-is ∙ w.put_zero_page.ensures ∙ ap (λ (x : Image). with_page x at (zero_page x.table.page_size)) c.loop-page.invariant.0
            ∙ one_page_more m c.args.block n c.args.bytes.now (zero_page m.table.page_size)
            (sym (zeros_are c.split_at.result.0.now (w.if-is_zero.ensures.0 refl) ∙ ap (λ (k : ℕ). replicate k 0) (c.split_at.ensures.front_len ∙ size)) ∙ part)
        | else-is_zero w ↦ w.memory-is ∙ w.put_page.ensures ∙ ap (λ (x : Image). with_page x at c.split_at.result.0.now) c.loop-page.invariant.0
            ∙ one_page_more m c.args.block n c.args.bytes.now c.split_at.result.0.now part
      ],
      c.split_at.ensures.back ∙ left_more c.page_size-size.result n c.args.bytes.now c.loop-page.left.now c.loop-page.invariant.1,
      size,
    )

pub returns-clause-memory : goal.returns-clause-memory
returns-clause-memory g c =
    c.loop-page.invariant.0 ∙ all_pages c.args.memory.now c.args.block c.loop-page.page c.args.bytes.now
    (let le = c.loop-page.auto.page-end in let ge = c.loop-page-test.false in
    let same : c.loop-page.page ≡ c.pages-page-end.result = omega (arith, le, ge) in same ∙ c.pages-page-end.ensures.value
    ∙ ap (λ (t : RamTable). (block t.blocks c.args.block).pages) c.table-2.ensures.value)
