use Rattle.std.proofs.Common.{◌<◌, ◌∙◌, ap, arith}
use Rattle.mig_mem.specs.BlockPages.{BlockPages, page_at}
use Rattle.mig_mem.proofs.BlockRegions.{has_count, region_has, region_page}
use Rattle.mig_mem.proofs.regions.Regions.page.Goals as goal

pub index-requires : goal.index-requires
index-requires g c =
    let p = c.self.inside in
    let lt : c.args.i < p.count = has_count p.per p.size p.count p.regions.items c.args.self.now c.args.i c.self.view_is c.requires in
    omega (arith, c.self.invariant.has_regions c.args.i lt, p.regions.ok.0)

pub page-requires : goal.page-requires
page-requires g c =
    let p = c.self.inside in
    let lt : c.args.i < p.count = has_count p.per p.size p.count p.regions.items c.args.self.now c.args.i c.self.view_is c.requires in
    region_has p.per p.size p.count p.regions.items c.args.i c.index.result.now c.self.invariant lt c.index.ensures

pub returns : goal.returns
returns g c =
    let p = c.self.inside in
    let lt : c.args.i < p.count = has_count p.per p.size p.count p.regions.items c.args.self.now c.args.i c.self.view_is c.requires in
    c.page.ensures
    ∙ region_page p.per p.size p.count p.regions.items c.args.i c.index.result.now c.self.invariant lt c.index.ensures
    ∙ ap (λ (b : BlockPages). page_at b c.args.i) c.self.view_is
