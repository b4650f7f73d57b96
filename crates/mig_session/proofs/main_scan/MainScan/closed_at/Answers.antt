use Rattle.std.proofs.Common.{sym, subst}
use Rattle.mig_session.specs.Scan.{MainScan, ScansMain, main_so_far}
use Rattle.mig_session.proofs.main_scan.MainScan.closed_at.Goals as goal

pub returns : goal.returns
returns g c = λ given text scans.
    let sc = subst (λ (s : MainScan). ScansMain given text s) (sym c.self.view_is) scans in
    c.closed_at.ensures given (main_so_far text sc.dropped) sc.stands
