use Rattle.std.proofs.Common.{sym, subst}
use Rattle.mig_in_place.specs.Answer.{IsInPlaceAnswer}
use Rattle.mig_in_place.specs.Session.{InPlaceLoad, StandsFor}
use Rattle.mig_apart.proofs.Free.{strict_law}
use Rattle.mig_uses.proofs.straight.verdict_of.Goals as goal

pub returns : goal.returns
returns g c = λ given uuid first texts free.
    let s = c.args.load.now in
    let m = g.M.GuestTarget.image c.args.memory.now in
    let strict : StandsFor given uuid first texts m s.load = strict_law given uuid first texts m s c.table-table.ensures.image c.requires free in
    subst (λ (l : InPlaceLoad). IsInPlaceAnswer given uuid first texts m l.rounds c.verdict.result) c.load.ensures
    (c.verdict.ensures.answer m given uuid first texts (subst (λ (l : InPlaceLoad). StandsFor given uuid first texts m l) (sym c.load.ensures) strict))
