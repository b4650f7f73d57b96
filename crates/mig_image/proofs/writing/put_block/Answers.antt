use Rattle.std.proofs.Common.{◌≡◌, ◌<◌, IsSome, subst, arith}
use Rattle.std.specs.Io.KnownBytes.{append_known}
use Rattle.mig_mem.specs.RamTable.{RamTable, block}
use Rattle.mig_image.proofs.Written.{page_written}
use Rattle.mig_image.proofs.writing.put_block.Goals.{in-Some+in_ok-collect, in_default}
use Rattle.mig_image.proofs.writing.put_block.Goals as goal

pub loop-page-preserved : goal.loop-page-preserved
loop-page-preserved g c = elim c.match-page.branch [
  | in-Some+in_ok-collect w ↦ rw (w.out-is, w.buffer-is) (page_written c.args.memory.now c.args.block c.loop-page.page w.in-Some.bytes.now
      _ (append_known (g.W.Write.contents c.loop-page.out) c.loop-page.buffer.items) _ w.in-Some.ensures.value c.loop-page.invariant w.in_ok-collect.ensures)
  | in_default w ↦
      let blocks : c.table.result.now ≡ c.args.memory.now.table = c.table.ensures.value in
      let page : c.loop-page.page < (block c.args.memory.now.table.blocks c.args.block).pages =
      subst (λ (t : RamTable). c.loop-page.page < (block t.blocks c.args.block).pages) blocks
      (let lt = c.loop-page-test.true in let e = c.pages-page-end.ensures.value in omega (arith, lt, e)) in
      let some = subst IsSome w.in_default.is (c.page.ensures.there.1 (record { has_block = c.requires; has_page = page })) in absurd cc
]
