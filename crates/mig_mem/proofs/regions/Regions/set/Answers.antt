use Rattle.std.proofs.Common.{ℕ, ◌≡◌, ◌<◌, ◌/◌, ◌%◌, ◌∙◌, List, set, sym, ap, subst, arith}
use Rattle.mig_mem.specs.BlockPages.{BlockPages, page_at, with_content}
use Rattle.mig_mem.specs.Regions.{in_regions, AreRegions}
use Rattle.mig_mem.proofs.BlockRegions.{has_count, region_has, region_page, region_size, regions_size, write_are, write_is}
use Rattle.mig_mem.proofs.regions.Regions.set.Goals as goal

pub index_mut-requires : goal.index_mut-requires
index_mut-requires g c =
    let p = c.self.inside in
    let lt : c.args.i < p.count = has_count p.per p.size p.count p.regions.items c.args.self.now c.args.i c.self.view_is c.requires.page in
    omega (arith, c.self.invariant.has_regions c.args.i lt, p.regions.ok.0)

pub set-requires-clause-page : goal.set-requires-clause-page
set-requires-clause-page g c =
    let p = c.self.inside in
    let lt : c.args.i < p.count = has_count p.per p.size p.count p.regions.items c.args.self.now c.args.i c.self.view_is c.requires.page in
    region_has p.per p.size p.count p.regions.items c.args.i c.index_mut.result.now c.self.invariant lt c.index_mut.ensures.value

pub set-requires-clause-offset : goal.set-requires-clause-offset
set-requires-clause-offset g c =
    let p = c.self.inside in
    let lt : c.args.i < p.count = has_count p.per p.size p.count p.regions.items c.args.self.now c.args.i c.self.view_is c.requires.page in
    omega (
      arith,
      c.requires.offset,
      ap (λ (b : BlockPages). b.size) c.self.view_is,
      regions_size p.per p.size p.count p.regions.items,
      region_size p.per p.size p.count p.regions.items c.args.i c.index_mut.result.now c.self.invariant lt c.index_mut.ensures.value,
    )

pub invariant_of-self : goal.invariant_of-self
invariant_of-self g c =
    let p = c.self.inside in
    let lt : c.args.i < p.count = has_count p.per p.size p.count p.regions.items c.args.self.now c.args.i c.self.view_is c.requires.page in
    let x : BlockPages = c.index_mut.result.now in
    let n : ℕ = c.args.i / p.per in
    let content : List ℕ = set (page_at x (c.args.i % p.per)) c.args.offset c.args.byte in
    let wrote : c.set.new.self ≡ with_content x (c.args.i % p.per) content = c.set.ensures in
    subst (λ (b : BlockPages). AreRegions p.per p.size p.count (set p.regions.items n b)) (sym wrote)
    (write_are p.per p.size p.count p.regions.items c.args.i c.index_mut.result.now content c.self.invariant lt c.index_mut.ensures.value)

pub returns : goal.returns
returns g c =
    let p = c.self.inside in
    let lt : c.args.i < p.count = has_count p.per p.size p.count p.regions.items c.args.self.now c.args.i c.self.view_is c.requires.page in
    let x : BlockPages = c.index_mut.result.now in
    let n : ℕ = c.args.i / p.per in
    let content : List ℕ = set (page_at x (c.args.i % p.per)) c.args.offset c.args.byte in
    let wrote : c.set.new.self ≡ with_content x (c.args.i % p.per) content = c.set.ensures in
    ap (λ (b : BlockPages). in_regions p.per p.size p.count (set p.regions.items n b)) wrote
    ∙ write_is p.per p.size p.count p.regions.items c.args.i c.index_mut.result.now content c.self.invariant lt c.index_mut.ensures.value
    ∙ ap (λ (l : List ℕ). with_content (in_regions p.per p.size p.count p.regions.items) c.args.i
    (set l c.args.offset c.args.byte)) (region_page p.per p.size p.count p.regions.items c.args.i c.index_mut.result.now
    c.self.invariant lt c.index_mut.ensures.value)
    ∙ ap (λ (b : BlockPages). with_content b c.args.i (set (page_at b c.args.i) c.args.offset c.args.byte)) c.self.view_is
