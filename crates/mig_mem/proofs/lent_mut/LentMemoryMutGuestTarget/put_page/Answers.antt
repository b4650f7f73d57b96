use Rattle.std.proofs.Common.{ℕ, ◌∙◌, List, [], sym, ap, get_or}
use Rattle.std.specs.Borrow.{MutBor}
use Rattle.mig_mem.specs.Place.{IsPlace}
use Rattle.mig_mem.specs.Image.{Image, with_page}
use Rattle.mig_mem.specs.Parts.{ChangesPart}
use borrow.Rule.Slice.Mut.{set_vals}
use Rattle.mig_mem.proofs.Lents.{loan_written}
use Rattle.mig_mem.proofs.lent_mut.LentMemoryMutGuestTarget.put_page.Goals as goal

abbrev no_loan : MutBor (List ℕ)
no_loan = record { ref_ptr = (0, 0); ghost_name = 0; now = [] }

pub invariant_of-self : goal.invariant_of-self
invariant_of-self g c =
    let table = c.self.inside.table.now in
    let loans = c.self.inside.blocks.now in
    let p = c.args.place in
    let is : IsPlace table p = rw (sym (ap (λ (m : Image). m.table) c.self.view_is)) at c.requires.place in
    let changes : ChangesPart table.page_size (get_or loans p.block no_loan).now c.write_part.new.items p.page c.args.bytes.now =
    rw (← c.page_size-size.ensures) c.write_part.ensures in
    (loan_written (λ (b : MutBor (List ℕ)). b.now) table loans p no_loan
    (set_vals c.write_part.new.items (get_or loans p.block no_loan)) c.args.bytes.now c.self.invariant is changes).0

pub returns-clause-image : goal.returns-clause-image
returns-clause-image g c =
    let table = c.self.inside.table.now in
    let loans = c.self.inside.blocks.now in
    let p = c.args.place in
    let is : IsPlace table p = rw (sym (ap (λ (m : Image). m.table) c.self.view_is)) at c.requires.place in
    let changes : ChangesPart table.page_size (get_or loans p.block no_loan).now c.write_part.new.items p.page c.args.bytes.now =
    rw (← c.page_size-size.ensures) c.write_part.ensures in
    sym (loan_written (λ (b : MutBor (List ℕ)). b.now) table loans p no_loan
    (set_vals c.write_part.new.items (get_or loans p.block no_loan)) c.args.bytes.now c.self.invariant is changes).1
    ∙ ap (λ (m : Image). with_page m p c.args.bytes.now) c.self.view_is
