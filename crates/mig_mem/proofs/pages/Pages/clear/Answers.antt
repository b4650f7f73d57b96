use Rattle.std.proofs.Common.{ℕ, ◌≡◌, ◌∙◌, List, length, replicate, sym, ap}
use Rattle.mig_mem.specs.Image.{zero_page}
use Rattle.mig_mem.specs.Parts.{parts_in}
use Rattle.mig_mem.specs.BlockPages.{BlockPages, cleared}
use Rattle.mig_mem.proofs.Slotted.{length-pages, zeros_in}
use Rattle.mig_mem.proofs.pages.Pages.clear.Goals as goal

pub returns : goal.returns
returns g c =
    let p = c.self.inside in
    let pages : parts_in p.size c.clear.new.self c.clear-2.new.self.items ≡ replicate (length p.slots) (zero_page p.size) =
    rw (c.clear.ensures, c.clear-2.ensures.items) (zeros_in p.size (length p.slots)) in
    ap (λ (l : List (List ℕ)). record { size = p.size; pages = l })
    (pages ∙ ap (λ (n : ℕ). replicate n (zero_page p.size)) (sym (length-pages p.size p.slots p.bytes.items)))
    ∙ ap (λ (b : BlockPages). cleared b) c.self.view_is
