use Rattle.std.proofs.Common.{ℕ, ◌≡◌, List, ap, replicate}
use Rattle.mig_mem.specs.Image.{zero_page}
use Rattle.mig_mem.specs.Parts.{parts_in}
use Rattle.mig_mem.proofs.Slotted.{zeros_in}
use Rattle.mig_mem.proofs.pages.Pages.zeroed.Goals as goal

pub returns : goal.returns
returns g c =
    let pages : parts_in c.args.size c.in_ok-slots.slots c.in_ok-bytes.bytes.items ≡ replicate c.args.count (zero_page c.args.size) =
    rw (c.in_ok-slots.ensures, c.in_ok-bytes.ensures.items) (zeros_in c.args.size c.args.count) in
    ap (λ (l : List (List ℕ)). record { size = c.args.size; pages = l }) pages
