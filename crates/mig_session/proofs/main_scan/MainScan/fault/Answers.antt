use Rattle.std.proofs.Common.{◌∙◌, ap, sym, subst}
use Rattle.mig_answer.specs.Status.{fault_of}
use Rattle.mig_session.specs.Scan.{MainScan, ScansMain, main_so_far}
use Rattle.mig_session.proofs.main_scan.MainScan.fault.Goals as goal

pub returns : goal.returns
returns g c = λ given text scans.
    let sc = subst (λ (s : MainScan). ScansMain given text s) (sym c.self.view_is) scans in
    (c.state.result, c.state.ensures given (main_so_far text sc.dropped) sc.stands, c.fault_of.ensures ∙ ap fault_of c.stream_end.ensures)
