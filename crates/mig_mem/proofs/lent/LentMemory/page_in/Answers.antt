use Rattle.std.proofs.Common.{ℕ, ◌≡◌, ◌∙◌, List, sym, ap}
use Rattle.std.specs.Borrow.{Bor}
use Rattle.mig_mem.specs.Place.{IsPlace}
use Rattle.mig_mem.specs.Image.{Image, content_at}
use Rattle.mig_mem.proofs.Lents.{page_of_loan}
use Rattle.mig_mem.proofs.lent.LentMemory.page_in.Goals as goal

pub returns : goal.returns
returns g c =
    let table = c.self.inside.table.now in
    let same : c.args.self.now.table ≡ table = sym (ap (λ (m : Image). m.table) c.self.view_is) in
    let is : IsPlace table c.args.place = rw same at c.requires in
    c.part_of.ensures ∙ (rw c.page_size.ensures (page_of_loan (λ (b : Bor (List ℕ)). b.now) table c.self.inside.blocks.now c.args.place _ c.self.invariant is))
    ∙ ap (λ (m : Image). content_at m c.args.place) c.self.view_is
