use Rattle.std.proofs.Common.{length, sym, ap, ◌∙◌}
use Rattle.std.proofs.lemmas.List.{length-map}
use Rattle.mig_mem.specs.BlockPages.{BlockPages}
use Rattle.mig_mem.specs.Parts.{parts_in, slot_part}
use Rattle.mig_mem.proofs.pages.Pages.len.Goals as goal

pub returns : goal.returns
unfolding parts_in
returns g c =
    let p = c.self.inside in
    c.len.ensures ∙ sym (length-map p.slots (slot_part p.size p.bytes.items)) ∙ ap (λ (b : BlockPages). length b.pages) c.self.view_is
