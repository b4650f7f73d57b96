use Rattle.std.proofs.Common.{ℕ, ◌≡◌, ◌∙◌, ◌++◌, List, [], ◌∷◌, map, replicate, length, sym, ap, arith}
use Rattle.std.specs.List.{range_with_len}
use Rattle.std.proofs.lemmas.List.FromFn.{map-range_with_len_more}
use Rattle.mig_mem.specs.RamTable.{RamTable}
use Rattle.mig_mem.specs.Image.{zero_page}
use Rattle.mig_mem.specs.BlockPages.{BlockPages}
use Rattle.mig_mem.specs.Buffers.{image_in}
use Rattle.mig_mem.proofs.Kept.{zero_block, zeros_held, zeros_image}
use Rattle.mig_mem.proofs.memory.Memory.zeroed.Goals as goal

pub loop-i-preserved : goal.loop-i-preserved
loop-i-preserved g c =
    let table = c.args.table.now in
    let i = c.loop-i.i in
    let made : c.in_ok-zeroed.field-0 ≡ zero_block table i = c.in_ok-zeroed.ensures
    ∙ ap (λ (n : ℕ). record { size = n; pages = replicate c.pages.result (zero_page n) }) c.page_size.ensures
    ∙ ap (λ (n : ℕ). record { size = table.page_size; pages = replicate n (zero_page table.page_size) }) c.pages.ensures.value in
    c.in_ok-push.ensures.items
    ∙ ap (λ (l : List BlockPages). l ++ c.in_ok-zeroed.field-0 ∷ []) c.loop-i.invariant
    ∙ ap (λ (x : BlockPages). map (zero_block table) (range_with_len 0 i) ++ x ∷ []) made
    ∙ sym (map-range_with_len_more (zero_block table) 0 i i (omega arith))

pub invariant_of-result : goal.invariant_of-result
invariant_of-result g c =
    let table = c.args.table.now in
    let same : c.in_ok-table.table ≡ table = c.in_ok-table.ensures in
    let all : c.loop-i.blocks.items ≡ map (zero_block table) (range_with_len 0 (length table.blocks)) =
    c.loop-i.invariant ∙ ap (λ (n : ℕ). map (zero_block table) (range_with_len 0 n)) (omega (arith, c.len-i-end.ensures.value)) in
    rw same (zeros_held table c.loop-i.blocks.items c.len-i-end.ensures.table all)

pub returns : goal.returns
returns g c =
    let table = c.args.table.now in
    let same : c.in_ok-table.table ≡ table = c.in_ok-table.ensures in
    let all : c.loop-i.blocks.items ≡ map (zero_block table) (range_with_len 0 (length table.blocks)) =
    c.loop-i.invariant ∙ ap (λ (n : ℕ). map (zero_block table) (range_with_len 0 n)) (omega (arith, c.len-i-end.ensures.value)) in
    ap (λ (t : RamTable). image_in t c.loop-i.blocks.items) same ∙ zeros_image table c.loop-i.blocks.items all
