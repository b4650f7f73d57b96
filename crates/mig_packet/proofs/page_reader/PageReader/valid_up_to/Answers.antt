use Rattle.std.proofs.Common.{◌≡◌, ap, arith}
use Rattle.mig_packet.specs.Paging.{PageHolder}
use Rattle.mig_packet.proofs.PagingValid.{valid_place}
use Rattle.mig_packet.proofs.page_reader.PageReader.valid_up_to.Goals as goal

pub returns : goal.returns
returns g c =
    let fed : c.self.inside.fed ≡ c.args.self.now.fed = ap (λ (r : PageHolder). r.fed) c.self.view_is in
    valid_place c.args.self.now c.saturating_sub.result
    (omega (arith, c.saturating_sub.ensures, c.saturating_sub-front.ensures, c.open_len.ensures, c.kept_len.ensures, fed))
