use Rattle.std.proofs.Common.{◌≡◌, ◌*◌, drop}
use Rattle.mig_image.proofs.FirstPages.{first_pages}
use Rattle.mig_image.proofs.reading.take_block.Given as goal

abbrev pub invariant-loop-page : goal.invariant-loop-page
invariant-loop-page g l = (l.memory ≡ first_pages l.fn.memory l.fn.block l.fn.bytes l.page)
    × (l.left ≡ drop (l.page * l.size) l.fn.bytes) × (l.size ≡ l.fn.memory.table.page_size)
