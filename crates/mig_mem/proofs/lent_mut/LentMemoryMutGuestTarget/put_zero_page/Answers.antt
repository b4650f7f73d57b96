use Rattle.std.proofs.Common.{ℕ, ◌∙◌, List, [], sym, ap, get_or}
use Rattle.std.specs.Borrow.{MutBor}
use Rattle.mig_mem.specs.Place.{IsPlace}
use Rattle.mig_mem.specs.Image.{Image, with_page, zero_page}
use Rattle.mig_mem.specs.Parts.{ChangesPart}
use borrow.Rule.Slice.Mut.{set_vals}
use Rattle.mig_mem.proofs.Lents.{loan_written}
use Rattle.mig_mem.proofs.lent_mut.LentMemoryMutGuestTarget.put_zero_page.Goals as goal

abbrev no_loan : MutBor (List ℕ)
no_loan = record { ref_ptr = (0, 0); ghost_name = 0; now = [] }

pub clear_part-requires-clause-size : goal.clear_part-requires-clause-size
clear_part-requires-clause-size g c = rw c.page_size-size.ensures c.keeps_limits.ensures.has_page_size

pub invariant_of-self : goal.invariant_of-self
invariant_of-self g c =
    let table = c.self.inside.table.now in
    let loans = c.self.inside.blocks.now in
    let p = c.args.place in
    let is : IsPlace table p = rw (sym (ap (λ (m : Image). m.table) c.self.view_is)) at c.requires in
    let changes : ChangesPart table.page_size (get_or loans p.block no_loan).now c.clear_part.new.bytes p.page
    (zero_page table.page_size) = rw (← c.page_size-size.ensures) c.clear_part.ensures in
    (loan_written (λ (b : MutBor (List ℕ)). b.now) table loans p no_loan
    (set_vals c.clear_part.new.bytes (get_or loans p.block no_loan)) (zero_page table.page_size) c.self.invariant is changes).0

pub returns-clause-image : goal.returns-clause-image
returns-clause-image g c =
    let table = c.self.inside.table.now in
    let loans = c.self.inside.blocks.now in
    let p = c.args.place in
    let is : IsPlace table p = rw (sym (ap (λ (m : Image). m.table) c.self.view_is)) at c.requires in
    let changes : ChangesPart table.page_size (get_or loans p.block no_loan).now c.clear_part.new.bytes p.page
    (zero_page table.page_size) = rw (← c.page_size-size.ensures) c.clear_part.ensures in
    sym (loan_written (λ (b : MutBor (List ℕ)). b.now) table loans p no_loan
    (set_vals c.clear_part.new.bytes (get_or loans p.block no_loan)) (zero_page table.page_size) c.self.invariant is changes).1
    ∙ ap (λ (m : Image). with_page m p (zero_page m.table.page_size)) c.self.view_is
