use Rattle.std.proofs.Common.{◌∙◌, sym, subst}
use Rattle.mig_session.specs.Scan.{Scan, Scans}
use Rattle.mig_session.proofs.Scanning.{says_of, first_whole, first_end}
use Rattle.mig_session.proofs.scan.ChannelScan.first_status.Goals as goal

pub returns-then-self-ne0 : goal.returns-then-self-ne0
returns-then-self-ne0 g c = λ given text reading size scans is.
    let i = c.self.inside in
    let s : Scan = record { reader = i.reader; rounds = i.rounds } in
    let sc : Scans given text s = subst (λ (x : Scan). Scans given text x) (sym c.self.view_is) scans in
    first_whole given text s c.state.result reading size (says_of given text s c.state.result c.state.ensures.reading sc) is c.if-self-ne0.true

pub returns-else-self-ne0 : goal.returns-else-self-ne0
returns-else-self-ne0 g c = λ given text reading size scans is.
    let i = c.self.inside in
    let s : Scan = record { reader = i.reader; rounds = i.rounds } in
    let sc : Scans given text s = subst (λ (x : Scan). Scans given text x) (sym c.self.view_is) scans in
    c.channel_end-end.ensures
    ∙ first_end given text s c.state.result reading size (says_of given text s c.state.result c.state.ensures.reading sc) is c.if-self-ne0.false
