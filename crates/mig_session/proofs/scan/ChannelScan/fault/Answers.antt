use Rattle.std.proofs.Common.{◌∙◌, sym, ap, subst}
use Rattle.mig_answer.specs.Status.{fault_of}
use Rattle.mig_session.specs.Scan.{Scan, Scans}
use Rattle.mig_session.proofs.Scanning.{says_of, fault_says}
use Rattle.mig_session.proofs.scan.ChannelScan.fault.Goals as goal

pub returns : goal.returns
returns g c = λ given text scans.
    let i = c.self.inside in
    let s : Scan = record { reader = i.reader; rounds = i.rounds } in
    let sc : Scans given text s = subst (λ (x : Scan). Scans given text x) (sym c.self.view_is) scans in
    fault_says given text s c.state.result c.fault_of.result (says_of given text s c.state.result c.state.ensures.reading sc)
    (c.fault_of.ensures ∙ ap fault_of c.channel_end.ensures)
