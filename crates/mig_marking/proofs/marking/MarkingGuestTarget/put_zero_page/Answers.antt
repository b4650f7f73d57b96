use Rattle.std.proofs.Common.{sym, ap, subst, ◌∙◌}
use Rattle.mig_mem.specs.Image.{Image, with_page, zero_page}
use Rattle.mig_mem.specs.PlaceSet.{PlaceSet}
use Rattle.mig_marking.specs.Marking.{Marked, IsMarked, seen}
use Rattle.mig_marking.proofs.Marks.{marked_put, seen_put, zeros_are_bytes}
use Rattle.mig_marking.proofs.marking.MarkingGuestTarget.put_zero_page.Goals as goal

pub invariant_of-self : goal.invariant_of-self
invariant_of-self g c =
    let m : Marked = record { memory = g.M.GuestTarget.image c.self.inside.memory; written = c.self.inside.written } in
    let are = zeros_are_bytes (g.M.GuestTarget.image c.self.inside.memory).table.page_size in
    subst (λ (i : Image). IsMarked (record { memory = i; written = c.mark.new.self })) (sym c.put_zero_page.ensures.image)
    (subst (λ (s : PlaceSet). IsMarked (record {
      memory = with_page m.memory c.args.place
          (zero_page (g.M.GuestTarget.image c.self.inside.memory).table.page_size);
      written = s;
    })) (sym c.mark.ensures.set)
    (marked_put m c.args.place (zero_page (g.M.GuestTarget.image c.self.inside.memory).table.page_size) c.self.invariant are))

pub returns-clause-image : goal.returns-clause-image
returns-clause-image g c =
    let m : Marked = record { memory = g.M.GuestTarget.image c.self.inside.memory; written = c.self.inside.written } in
    ap (λ (i : Image). seen (record { memory = i; written = c.mark.new.self })) c.put_zero_page.ensures.image
    ∙ ap (λ (s : PlaceSet). seen (record {
      memory = with_page m.memory c.args.place
          (zero_page (g.M.GuestTarget.image c.self.inside.memory).table.page_size);
      written = s;
    })) c.mark.ensures.set
    ∙ seen_put m c.args.place (zero_page (g.M.GuestTarget.image c.self.inside.memory).table.page_size) c.self.invariant
    ∙ ap (λ (x : Marked). with_page (seen x) c.args.place (zero_page (seen x).table.page_size)) c.self.view_is
