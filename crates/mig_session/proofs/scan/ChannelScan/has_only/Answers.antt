use Rattle.std.proofs.Common.{◌≡◌, ◌∙◌, Some, None, refl, sym, ap, subst, arith}
use Rattle.mig_answer.specs.Status.{fault_of}
use Rattle.mig_session.specs.Scan.{Scan, Scans}
use Rattle.mig_session.proofs.Scanning.{says_of, only_says}
use Rattle.mig_session.proofs.scan.ChannelScan.has_only.Goals as goal

pub returns-then-self-rounds : goal.returns-then-self-rounds
returns-then-self-rounds g c = λ given text reading size scans is.
    let i = c.self.inside in
    let s : Scan = record { reader = i.reader; rounds = i.rounds } in
    let sc : Scans given text s = subst (λ (x : Scan). Scans given text x) (sym c.self.view_is) scans in
    let told = only_says given text s c.state-state.result reading c.args.rounds size
    (says_of given text s c.state-state.result c.state-state.ensures.reading sc) is
    (omega (arith, c.requires)) in (
      λ no. absurd cc,
      λ only. absurd (c.if-self-rounds.true (told.1 only).0),
    )

pub returns-in-None : goal.returns-in-None
returns-in-None g c = λ given text reading size scans is.
    let i = c.self.inside in
    let s : Scan = record { reader = i.reader; rounds = i.rounds } in
    let sc : Scans given text s = subst (λ (x : Scan). Scans given text x) (sym c.self.view_is) scans in
    let told = only_says given text s c.state-state.result reading c.args.rounds size
    (says_of given text s c.state-state.result c.state-state.ensures.reading sc) is
    (omega (arith, c.requires)) in
    let fault = c.fault_of.ensures ∙ ap fault_of c.channel_end.ensures in (
      λ yes. told.0 (c.if-self-rounds.false, sym fault ∙ c.in-None.is),
      λ only. refl,
    )

pub returns-in-Some : goal.returns-in-Some
returns-in-Some g c = λ given text reading size scans is.
    let i = c.self.inside in
    let s : Scan = record { reader = i.reader; rounds = i.rounds } in
    let sc : Scans given text s = subst (λ (x : Scan). Scans given text x) (sym c.self.view_is) scans in
    let told = only_says given text s c.state-state.result reading c.args.rounds size
    (says_of given text s c.state-state.result c.state-state.ensures.reading sc) is
    (omega (arith, c.requires)) in
    let fault = c.fault_of.ensures ∙ ap fault_of c.channel_end.ensures in (
      λ no. absurd cc,
      λ only. absurd (let bad : Some c.in-Some.field-0 ≡ None = sym c.in-Some.is ∙ fault ∙ (told.1 only).1 in cc),
    )
