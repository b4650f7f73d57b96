use Rattle.std.proofs.Common.{ℕ, ◌≡◌, ◌+◌, ◌-◌, ◌∙◌, List, take, drop, ap, arith}
use Rattle.mig_mem.specs.RamTable.{Block, block, IsTable}
use Rattle.mig_mem.proofs.Blocks.{block_id_length}
use Rattle.mig_mem.proofs.Packing.{packed_block}
use Rattle.mig_mem.proofs.table.Table.id.Goals as goal

pub returns-clause-len : goal.returns-clause-len
returns-clause-len g c =
    let table = c.args.self.now in
    let s = c.index-span.result.now in
    let is : IsTable table = rw c.self.view_is at c.self.invariant.1 in
    let n : s.start + s.len - s.start ≡ s.len = omega arith in
    let id : take (s.start + s.len - s.start) (drop s.start c.deref.result.now) ≡ (block table.blocks c.args.i).id =
    ap (λ (k : ℕ). take k (drop s.start c.deref.result.now)) n ∙ ap (λ (l : List ℕ). take s.len (drop s.start l)) c.deref.ensures.value
    ∙ ap (λ (b : Block). b.id) (packed_block table c.self.inside.page_size c.self.inside.ids.items c.self.inside.spans.items
    c.args.i s c.self.view_is c.requires c.index-span.ensures) in
    rw id (block_id_length table c.args.i is c.requires)
