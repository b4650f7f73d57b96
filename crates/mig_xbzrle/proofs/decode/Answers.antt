use Rattle.std.proofs.Common.{List, length, refl, subst}
use Rattle.mig_xbzrle.specs.Delta.{Run, IsPageAfter}
use Rattle.mig_xbzrle.proofs.Fronts.{faultless, one_list}
use Rattle.mig_xbzrle.proofs.decode.Goals as goal

pub returns-in_err-judge-clause-lawful : goal.returns-in_err-judge-clause-lawful
returns-in_err-judge-clause-lawful c runs spelled lawful =
    absurd (faultless (length c.args.page.now) c.args.delta.now runs _ spelled lawful c.in_err-judge.ensures.fault)

pub returns-clause-lawful : goal.returns-clause-lawful
returns-clause-lawful c runs spelled lawful =
    let a = c.apply.ensures in
    let P : List Run → Type 0 = λ z. IsPageAfter c.args.page.now z c.apply.new.page in
    (refl, subst P (one_list c.args.delta.now a.0 runs a.1 spelled) a.3)
