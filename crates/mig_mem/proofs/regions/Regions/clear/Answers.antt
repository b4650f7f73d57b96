use Rattle.std.proofs.Common.{◌≡◌, ◌∙◌, List, map, set, sym, ap}
use Rattle.std.proofs.lemmas.List.{with_items_is}
use Rattle.std.proofs.lemmas.List.Edits.{map_over_more}
use Rattle.mig_mem.specs.BlockPages.{BlockPages, cleared}
use Rattle.mig_mem.specs.Regions.{in_regions}
use Rattle.mig_mem.proofs.Lists.{mapped_all}
use Rattle.mig_mem.proofs.BlockRegions.{cleared_are, cleared_is}
use Rattle.mig_mem.proofs.regions.Regions.clear.Goals as goal

pub loop-region-preserved : goal.loop-region-preserved
loop-region-preserved g c =
    let items : List BlockPages = c.loop-region.region-items in
    let i = c.loop-region.region-index in
    let x : BlockPages = c.region-item.result in
    let wrote : c.clear.new.self ≡ cleared x = c.clear.ensures ∙ ap (λ (b : BlockPages). cleared b) (sym c.region-item.is) in
    ap (λ (b : BlockPages). set items i b) wrote
    ∙ map_over_more cleared c.deref_mut-region-items.result.now items i x c.loop-region-test.true c.loop-region.invariant c.region-item.is

pub invariant_of-self : goal.invariant_of-self
invariant_of-self g c =
    let p = c.self.inside in
    let items : List BlockPages = c.loop-region.region-items in
    let all : items ≡ map cleared p.regions.items =
    mapped_all cleared c.deref_mut-region-items.result.now items c.loop-region.region-index c.loop-region-test.false c.loop-region.invariant
    ∙ ap (λ (l : List BlockPages). map cleared l) c.deref_mut-region-items.ensures.value in
    rw (with_items_is p.regions items (c.loop-region.auto.region-items ∙ c.deref_mut-region-items.ensures.len), all)
    (cleared_are p.per p.size p.count p.regions.items c.self.invariant)

pub returns : goal.returns
returns g c =
    let p = c.self.inside in
    let items : List BlockPages = c.loop-region.region-items in
    let all : items ≡ map cleared p.regions.items =
    mapped_all cleared c.deref_mut-region-items.result.now items c.loop-region.region-index c.loop-region-test.false c.loop-region.invariant
    ∙ ap (λ (l : List BlockPages). map cleared l) c.deref_mut-region-items.ensures.value in
    ap (λ (l : List BlockPages). in_regions p.per p.size p.count l)
    (with_items_is p.regions items (c.loop-region.auto.region-items ∙ c.deref_mut-region-items.ensures.len) ∙ all)
    ∙ cleared_is p.per p.size p.count p.regions.items c.self.invariant
    ∙ ap (λ (b : BlockPages). cleared b) c.self.view_is
