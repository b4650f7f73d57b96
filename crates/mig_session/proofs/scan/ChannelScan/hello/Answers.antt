use Rattle.std.proofs.Common.{◌∙◌, sym, subst}
use Rattle.mig_session.specs.Scan.{Scan, Scans}
use Rattle.mig_session.proofs.Scanning.{says_of, hello_says}
use Rattle.mig_session.proofs.scan.ChannelScan.hello.Goals as goal

pub returns : goal.returns
returns g c = λ given text reading size scans is.
    let i = c.self.inside in
    let s : Scan = record { reader = i.reader; rounds = i.rounds } in
    let sc : Scans given text s = subst (λ (x : Scan). Scans given text x) (sym c.self.view_is) scans in
    c.hello_id.ensures.value
    ∙ hello_says given text s c.state-state.result reading size (says_of given text s c.state-state.result c.state-state.ensures.reading sc) is
