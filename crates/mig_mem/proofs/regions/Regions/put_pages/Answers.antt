use Rattle.std.proofs.Common.{ℕ, ◌≡◌, ◌∙◌, length, sym, ap, subst}
use Rattle.std.specs.List.{All}
use Rattle.std.proofs.lemmas.List.{with_items_is}
use Rattle.mig_mem.specs.BlockPages.{BlockPages}
use Rattle.mig_mem.specs.Regions.{in_regions}
use Rattle.mig_mem.specs.Puts.{HasPageSize, PutsPages, PutsRegions}
use Rattle.mig_mem.proofs.BlockRegions.{regions_size}
use Rattle.mig_mem.proofs.RegionPuts.{block_put, regions_kept}
use Rattle.mig_mem.proofs.regions.Regions.put_pages.Goals as goal

pub put_regions-requires-clause-room : goal.put_regions-requires-clause-room
put_regions-requires-clause-room g c κs within = rw c.deref_mut.ensures.value c.self.invariant.has_room

pub put_regions-requires-clause-are : goal.put_regions-requires-clause-are
put_regions-requires-clause-are g c κs within = rw c.deref_mut.ensures.value c.self.invariant.are_each

pub put_regions-requires-clause-sizes : goal.put_regions-requires-clause-sizes
put_regions-requires-clause-sizes g c κs within =
    let p = c.self.inside in
    let same : c.args.self.now.size ≡ p.size = sym (ap (λ (b : BlockPages). b.size) c.self.view_is) ∙ regions_size p.per p.size p.count p.regions.items in
    subst (λ (s : ℕ). All (HasPageSize s) c.args.pages.now) same c.requires.sizes

pub invariant_of-self : goal.invariant_of-self
invariant_of-self g c =
    let p = c.self.inside in
    let new = c.put_regions.new.regions in
    let len : length new ≡ p.regions.len = c.put_regions.auto.regions ∙ c.deref_mut.ensures.len in
    let puts : PutsRegions p.size p.per c.args.block 0 p.regions.items new c.args.pages.now = rw (← c.deref_mut.ensures.value) c.put_regions.ensures in
    rw (with_items_is p.regions new len) (regions_kept p.size p.per p.count c.args.block p.regions.items new c.args.pages.now c.self.invariant puts)

pub returns : goal.returns
returns g c =
    let p = c.self.inside in
    let new = c.put_regions.new.regions in
    let len : length new ≡ p.regions.len = c.put_regions.auto.regions ∙ c.deref_mut.ensures.len in
    let puts : PutsRegions p.size p.per c.args.block 0 p.regions.items new c.args.pages.now = rw (← c.deref_mut.ensures.value) c.put_regions.ensures in
    let same : p.size ≡ c.args.self.now.size = sym (regions_size p.per p.size p.count p.regions.items) ∙ ap (λ (b : BlockPages). b.size) c.self.view_is in
    rw (with_items_is p.regions new len)
    (subst (λ (s : ℕ). PutsPages s c.args.block 0 c.args.self.now (in_regions p.per p.size p.count new) c.args.pages.now) same
    (subst (λ (b : BlockPages). PutsPages p.size c.args.block 0 b (in_regions p.per p.size p.count new) c.args.pages.now) c.self.view_is
    (block_put p.size p.per p.count c.args.block p.regions.items new c.args.pages.now c.self.invariant puts)))
