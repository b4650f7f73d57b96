use Rattle.std.proofs.Common.{◌≡◌, ◌<◌, ◌∙◌, length, get_or, sym, ap}
use Rattle.std.proofs.lemmas.Bool.{eqb-true}
use Rattle.mig_mem.specs.Image.{zero_page}
use Rattle.mig_mem.specs.BlockPages.{BlockPages, page_at}
use Rattle.mig_mem.proofs.Slotted.{has_slot, page_zeros}
use Rattle.mig_mem.proofs.pages.Pages.is_blank.Goals as goal

pub get-requires : goal.get-requires
get-requires g c = has_slot c.self.inside.size c.self.inside.slots c.self.inside.bytes.items c.args.self.now c.args.i c.self.view_is c.requires

pub returns : goal.returns
returns g c = λ yes.
    let p = c.self.inside in
    let lt : c.args.i < length p.slots = has_slot p.size p.slots p.bytes.items c.args.self.now c.args.i c.self.view_is c.requires in
    let zero : c.get.result ≡ 0 = eqb-true c.get.result 0 yes in
    let none : get_or p.slots c.args.i 0 ≡ 0 = sym c.get.ensures ∙ zero in
    ap (λ (b : BlockPages). page_at b c.args.i) (sym c.self.view_is)
    ∙ page_zeros p.size p.slots p.bytes.items c.args.i lt none
    ∙ ap (λ (b : BlockPages). zero_page b.size) c.self.view_is
