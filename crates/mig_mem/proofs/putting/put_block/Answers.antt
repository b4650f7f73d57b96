use Rattle.std.proofs.Common.{ℕ, ◌<◌, ◌*◌, ◌/◌, List, take, drop, subst}
use Rattle.mig_mem.specs.Puts.{PutsAll}
use Rattle.mig_mem.proofs.PageSizes.{page_size_some}
use Rattle.mig_mem.proofs.BytePuts.{puts_all, first_page}
use Rattle.mig_mem.proofs.putting.put_block.Goals as goal

pub returns : goal.returns
returns g c =
    let size : ℕ = c.args.size in
    let count : ℕ = c.args.count in
    let some : 0 < size = page_size_some size c.requires.size in
    let old : List ℕ = c.args.bytes.now in
    let new : List ℕ = c.for_each_chunk_mut.new.s in
    let pages = c.args.pages.now in
    puts_all size count c.args.block old new pages some c.requires.count.0 c.for_each_chunk_mut.auto.s (λ n lt.
    let k = c.for_each_chunk_mut.ensures.chunks n lt in
    subst (λ (first : ℕ). PutsAll size c.args.block first (take (count * size) (drop (n * (count * size)) old))
    (take (count * size) (drop (n * (count * size)) new)) pages)
    (first_page size count n some)
    (subst (λ (l : List ℕ). PutsAll size c.args.block (n * (count * size) / size) (take (count * size) (drop (n * (count * size)) old)) l pages) k.left
    (subst (λ (l : List ℕ). PutsAll size c.args.block (n * (count * size) / size) l k.after_call.now pages) k.argument_is k.call)))
