use Rattle.std.proofs.Common.{sym, ◌∙◌, ap, subst, arith}
use Rattle.mig_deal.specs.declared.rule.Terms.{Terms}
use Rattle.mig_deal.specs.Deal.{DealView, SeatView, IsWithinLimits}
use Rattle.mig_deal.specs.Rule.{terms_of}
use Rattle.mig_deal.proofs.Steps.{draws}
use Rattle.mig_deal.proofs.deal.Deal.draw.Goals as goal

pub fetch_add-number-requires : goal.fetch_add-number-requires
fetch_add-number-requires g c =
    let deal = ap (λ (d : SeatView). d.deal) c.seat.view_is ∙ (c.requires ∙ sym c.self.view_is) in
    let key = c.self.invariant.0 in (
      ap (λ (d : DealView). d.id) deal,
      omega arith,
      draws _ _ _ _ (ap terms_of deal ∙ sym key) c.seat.invariant.1
          (subst (λ (t : Terms). IsWithinLimits t.base t.batches t.seats) (sym key) c.self.invariant.3),
    )
