use Rattle.std.proofs.Common.{◌≡◌, ap}
use Rattle.mig_mem.specs.RamTable.{Block, block, IsTable}
use Rattle.mig_mem.proofs.Blocks.{block_some, block_room}
use Rattle.mig_mem.proofs.Packing.{packed_block}
use Rattle.mig_mem.proofs.table.Table.pages.Goals as goal

pub returns-clause-some : goal.returns-clause-some
returns-clause-some g c =
    let is : IsTable c.args.self.now = rw c.self.view_is at c.self.invariant.1 in
    let e : c.index.result.now.pages ≡ (block c.args.self.now.blocks c.args.i).pages =
    ap (λ (b : Block). b.pages) (packed_block c.args.self.now c.self.inside.page_size c.self.inside.ids.items
    c.self.inside.spans.items c.args.i c.index.result.now c.self.view_is c.requires c.index.ensures) in
    rw e (block_some c.args.self.now c.args.i is c.requires)

pub returns-clause-room : goal.returns-clause-room
returns-clause-room g c =
    let is : IsTable c.args.self.now = rw c.self.view_is at c.self.invariant.1 in
    let e : c.index.result.now.pages ≡ (block c.args.self.now.blocks c.args.i).pages =
    ap (λ (b : Block). b.pages) (packed_block c.args.self.now c.self.inside.page_size c.self.inside.ids.items
    c.self.inside.spans.items c.args.i c.index.result.now c.self.view_is c.requires c.index.ensures) in
    rw e (block_room c.args.self.now c.args.i is c.requires)
