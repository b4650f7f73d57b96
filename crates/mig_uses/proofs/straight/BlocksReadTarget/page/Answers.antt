use Rattle.std.proofs.Common.{ℕ, List, ◌∙◌, sym, ap}
use Rattle.std.specs.Borrow.{MutBor}
use Rattle.mig_mem.specs.Place.{IsPlace}
use Rattle.mig_mem.specs.Image.{Image, content_at}
use Rattle.mig_mem.specs.Parts.{part_at}
use Rattle.mig_mem.proofs.Lents.{page_of_loan}
use Rattle.mig_uses.proofs.straight.BlocksReadTarget.page.Goals as goal

pub returns : goal.returns
returns g c =
    let table = c.self.inside.table in
    let p = c.args.place in
    let is : IsPlace table p = rw (sym (ap (λ (m : Image). m.table) c.self.view_is)) at c.requires in
    c.page_of.ensures ∙ ap (λ (n : ℕ). part_at n c.index.result.now.now p.page) c.page_size.ensures
    ∙ ap (λ (b : MutBor (List ℕ)). part_at table.page_size b.now p.page) c.index.ensures
    ∙ page_of_loan (λ (b : MutBor (List ℕ)). b.now) table c.self.inside.blocks.items p c.index.result.now c.self.invariant is
    ∙ ap (λ (m : Image). content_at m p) c.self.view_is
