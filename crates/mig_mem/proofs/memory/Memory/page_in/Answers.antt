use Rattle.std.proofs.Common.{◌≡◌, ◌∙◌, sym, ap}
use Rattle.mig_mem.specs.Place.{IsPlace}
use Rattle.mig_mem.specs.Image.{Image, content_at}
use Rattle.mig_mem.proofs.Kept.{page_read}
use Rattle.mig_mem.proofs.memory.Memory.page_in.Goals as goal

pub returns : goal.returns
returns g c =
    let table = c.self.inside.table in
    let same : c.args.self.now.table ≡ table = sym (ap (λ (m : Image). m.table) c.self.view_is) in
    let is : IsPlace table c.args.place = rw same at c.requires in
    c.page.ensures ∙ page_read table c.self.inside.blocks.items c.args.place c.index.result.now c.self.invariant is c.index.ensures
    ∙ ap (λ (m : Image). content_at m c.args.place) c.self.view_is
