use Rattle.std.proofs.Common.{sym, subst}
use Rattle.mig_session.specs.Scan.{Scan, Scans}
use Rattle.mig_session.proofs.Scanning.{valid_says}
use Rattle.mig_session.proofs.scan.ChannelScan.valid_up_to.Goals as goal

pub returns : goal.returns
returns g c = λ given text scans.
    let i = c.self.inside in
    let s : Scan = record { reader = i.reader; rounds = i.rounds } in
    valid_says given text s c.valid_up_to.result c.valid_up_to.ensures (subst (λ (x : Scan). Scans given text x) (sym c.self.view_is) scans)
