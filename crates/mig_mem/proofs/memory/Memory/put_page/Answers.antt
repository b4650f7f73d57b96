use Rattle.std.proofs.Common.{◌≡◌, ◌∙◌, List, set, sym, ap}
use Rattle.mig_mem.specs.Place.{IsPlace}
use Rattle.mig_mem.specs.Image.{Image, with_page}
use Rattle.mig_mem.specs.BlockPages.{BlockPages}
use Rattle.mig_mem.specs.Buffers.{image_in}
use Rattle.mig_mem.proofs.Kept.{put_image}
use Rattle.mig_mem.proofs.memory.Memory.put_page.Goals as goal

pub returns : goal.returns
returns g c =
    let table = c.self.inside.table in
    let blocks : List BlockPages = c.self.inside.blocks.items in
    let same : c.args.self.now.table ≡ table = sym (ap (λ (m : Image). m.table) c.self.view_is) in
    let is : IsPlace table c.args.place = rw same at c.requires.place in
    ap (λ (b : BlockPages). image_in table (set blocks c.args.place.block b)) c.put.ensures
    ∙ sym (put_image table blocks c.args.place c.index_mut.result.now c.args.bytes.now c.self.invariant is c.index_mut.ensures.value)
    ∙ ap (λ (m : Image). with_page m c.args.place c.args.bytes.now) c.self.view_is
