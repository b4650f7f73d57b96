use Rattle.std.proofs.Common.{◌≡◌, ◌∙◌, List, length, map, set, sym, ap}
use Rattle.std.specs.List.{range_with_len}
use Rattle.std.proofs.lemmas.List.{with_items_is}
use Rattle.std.proofs.lemmas.List.Edits.{map_over_more}
use Rattle.mig_mem.specs.Image.{Image, zero_image}
use Rattle.mig_mem.specs.BlockPages.{BlockPages, cleared}
use Rattle.mig_mem.specs.Buffers.{image_in}
use Rattle.mig_mem.proofs.Lists.{mapped_all}
use Rattle.mig_mem.proofs.Kept.{zero_block, zeros_held, zeros_image, cleared_blocks}
use Rattle.mig_mem.proofs.memory.Memory.clear.Goals as goal

pub loop-pages-preserved : goal.loop-pages-preserved
loop-pages-preserved g c =
    let items : List BlockPages = c.loop-pages.pages-items in
    let i = c.loop-pages.pages-index in
    let x : BlockPages = c.pages-item.result in
    let wrote : c.clear.new.self ≡ cleared x = c.clear.ensures ∙ ap (λ (b : BlockPages). cleared b) (sym c.pages-item.is) in
    ap (λ (b : BlockPages). set items i b) wrote
    ∙ map_over_more cleared c.deref_mut-pages-items.result.now items i x c.loop-pages-test.true c.loop-pages.invariant c.pages-item.is

pub invariant_of-self : goal.invariant_of-self
invariant_of-self g c =
    let m = c.self.inside in
    let items : List BlockPages = c.loop-pages.pages-items in
    let all : items ≡ map (zero_block m.table) (range_with_len 0 (length m.table.blocks)) =
    mapped_all cleared c.deref_mut-pages-items.result.now items c.loop-pages.pages-index c.loop-pages-test.false c.loop-pages.invariant
    ∙ ap (λ (l : List BlockPages). map cleared l) c.deref_mut-pages-items.ensures.value
    ∙ cleared_blocks m.table m.blocks.items c.self.invariant in
    rw (with_items_is m.blocks items (c.loop-pages.auto.pages-items ∙ c.deref_mut-pages-items.ensures.len))
    (zeros_held m.table items c.self.invariant.is_table all)

pub returns : goal.returns
returns g c =
    let m = c.self.inside in
    let items : List BlockPages = c.loop-pages.pages-items in
    let all : items ≡ map (zero_block m.table) (range_with_len 0 (length m.table.blocks)) =
    mapped_all cleared c.deref_mut-pages-items.result.now items c.loop-pages.pages-index c.loop-pages-test.false c.loop-pages.invariant
    ∙ ap (λ (l : List BlockPages). map cleared l) c.deref_mut-pages-items.ensures.value
    ∙ cleared_blocks m.table m.blocks.items c.self.invariant in
    ap (λ (l : List BlockPages). image_in m.table l) (with_items_is m.blocks items (c.loop-pages.auto.pages-items ∙ c.deref_mut-pages-items.ensures.len))
    ∙ zeros_image m.table items all
    ∙ ap (λ (i : Image). zero_image i.table) c.self.view_is
