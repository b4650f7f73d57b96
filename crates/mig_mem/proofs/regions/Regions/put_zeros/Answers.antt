use Rattle.std.proofs.Common.{ℕ, ◌≡◌, ◌<◌, ◌/◌, ◌%◌, ◌∙◌, List, set, sym, ap, subst, arith}
use Rattle.mig_mem.specs.Image.{zero_page}
use Rattle.mig_mem.specs.BlockPages.{BlockPages, with_content}
use Rattle.mig_mem.specs.Regions.{in_regions, AreRegions}
use Rattle.mig_mem.proofs.BlockRegions.{has_count, region_has, region_size, regions_size, write_are, write_is}
use Rattle.mig_mem.proofs.regions.Regions.put_zeros.Goals as goal

pub index_mut-requires : goal.index_mut-requires
index_mut-requires g c =
    let p = c.self.inside in
    let lt : c.args.i < p.count = has_count p.per p.size p.count p.regions.items c.args.self.now c.args.i c.self.view_is c.requires in
    omega (arith, c.self.invariant.has_regions c.args.i lt, p.regions.ok.0)

pub put_zeros-requires : goal.put_zeros-requires
put_zeros-requires g c =
    let p = c.self.inside in
    let lt : c.args.i < p.count = has_count p.per p.size p.count p.regions.items c.args.self.now c.args.i c.self.view_is c.requires in
    region_has p.per p.size p.count p.regions.items c.args.i c.index_mut.result.now c.self.invariant lt c.index_mut.ensures.value

pub invariant_of-self : goal.invariant_of-self
invariant_of-self g c =
    let p = c.self.inside in
    let lt : c.args.i < p.count = has_count p.per p.size p.count p.regions.items c.args.self.now c.args.i c.self.view_is c.requires in
    let x : BlockPages = c.index_mut.result.now in
    let n : ℕ = c.args.i / p.per in
    let content : List ℕ = zero_page p.size in
    let wrote : c.put_zeros.new.self ≡ with_content x (c.args.i % p.per) content = c.put_zeros.ensures
    ∙ ap (λ (s : ℕ). with_content x (c.args.i % p.per) (zero_page s))
    (region_size p.per p.size p.count p.regions.items c.args.i c.index_mut.result.now c.self.invariant lt c.index_mut.ensures.value) in
    subst (λ (b : BlockPages). AreRegions p.per p.size p.count (set p.regions.items n b)) (sym wrote)
    (write_are p.per p.size p.count p.regions.items c.args.i c.index_mut.result.now content c.self.invariant lt c.index_mut.ensures.value)

pub returns : goal.returns
returns g c =
    let p = c.self.inside in
    let lt : c.args.i < p.count = has_count p.per p.size p.count p.regions.items c.args.self.now c.args.i c.self.view_is c.requires in
    let x : BlockPages = c.index_mut.result.now in
    let n : ℕ = c.args.i / p.per in
    let content : List ℕ = zero_page p.size in
    let wrote : c.put_zeros.new.self ≡ with_content x (c.args.i % p.per) content = c.put_zeros.ensures
    ∙ ap (λ (s : ℕ). with_content x (c.args.i % p.per) (zero_page s))
    (region_size p.per p.size p.count p.regions.items c.args.i c.index_mut.result.now c.self.invariant lt c.index_mut.ensures.value) in
    ap (λ (b : BlockPages). in_regions p.per p.size p.count (set p.regions.items n b)) wrote
    ∙ write_is p.per p.size p.count p.regions.items c.args.i c.index_mut.result.now content c.self.invariant lt c.index_mut.ensures.value
    ∙ ap (λ (s : ℕ). with_content (in_regions p.per p.size p.count p.regions.items) c.args.i (zero_page s))
    (sym (regions_size p.per p.size p.count p.regions.items))
    ∙ ap (λ (b : BlockPages). with_content b c.args.i (zero_page b.size)) c.self.view_is
