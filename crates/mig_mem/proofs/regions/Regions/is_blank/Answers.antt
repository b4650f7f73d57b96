use Rattle.std.proofs.Common.{ℕ, ◌<◌, ◌∙◌, sym, ap, arith}
use Rattle.mig_mem.specs.Image.{zero_page}
use Rattle.mig_mem.specs.BlockPages.{BlockPages, page_at}
use Rattle.mig_mem.proofs.BlockRegions.{has_count, region_has, region_page, region_size, regions_size}
use Rattle.mig_mem.proofs.regions.Regions.is_blank.Goals as goal

pub index-requires : goal.index-requires
index-requires g c =
    let p = c.self.inside in
    let lt : c.args.i < p.count = has_count p.per p.size p.count p.regions.items c.args.self.now c.args.i c.self.view_is c.requires in
    omega (arith, c.self.invariant.has_regions c.args.i lt, p.regions.ok.0)

pub is_blank-requires : goal.is_blank-requires
is_blank-requires g c =
    let p = c.self.inside in
    let lt : c.args.i < p.count = has_count p.per p.size p.count p.regions.items c.args.self.now c.args.i c.self.view_is c.requires in
    region_has p.per p.size p.count p.regions.items c.args.i c.index.result.now c.self.invariant lt c.index.ensures

pub returns : goal.returns
returns g c = λ yes.
    let p = c.self.inside in
    let lt : c.args.i < p.count = has_count p.per p.size p.count p.regions.items c.args.self.now c.args.i c.self.view_is c.requires in
    ap (λ (b : BlockPages). page_at b c.args.i) (sym c.self.view_is)
    ∙ sym (region_page p.per p.size p.count p.regions.items c.args.i c.index.result.now c.self.invariant lt c.index.ensures)
    ∙ c.is_blank.ensures yes
    ∙ ap (λ (n : ℕ). zero_page n) (region_size p.per p.size p.count p.regions.items c.args.i c.index.result.now c.self.invariant lt c.index.ensures
    ∙ sym (regions_size p.per p.size p.count p.regions.items) ∙ ap (λ (b : BlockPages). b.size) c.self.view_is)
