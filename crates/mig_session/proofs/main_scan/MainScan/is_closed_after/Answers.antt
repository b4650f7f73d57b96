use Rattle.std.proofs.Common.{◌∙◌, sym, subst, arith}
use Rattle.mig_load_types.specs.Settings.{main_of}
use Rattle.mig_session.specs.Scan.{MainScan, ScansMain}
use Rattle.mig_session.proofs.MainScanning.{closed_told}
use Rattle.mig_session.proofs.main_scan.MainScan.is_closed_after.Goals as goal

pub returns-then-self-rounds : goal.returns-then-self-rounds
returns-then-self-rounds g c = λ given text reading size scans is.
    let i = c.self.inside in
    let s : MainScan = record { reader = i.reader; rounds = i.rounds } in
    let sc = subst (λ (s : MainScan). ScansMain (main_of given) text s) (sym c.self.view_is) scans in
    let told = closed_told given text s c.state-state.result reading c.args.rounds size c.state-state.ensures sc is (omega (arith, c.requires)) in (
      λ no. absurd cc,
      λ closed. absurd (c.if-self-rounds.true (told.1 closed).0),
    )

pub returns : goal.returns
returns g c = λ given text reading size scans is.
    let i = c.self.inside in
    let s : MainScan = record { reader = i.reader; rounds = i.rounds } in
    let sc = subst (λ (s : MainScan). ScansMain (main_of given) text s) (sym c.self.view_is) scans in
    let told = closed_told given text s c.state-state.result reading c.args.rounds size c.state-state.ensures sc is (omega (arith, c.requires)) in (
      λ yes. told.0 (c.if-self-rounds.false, sym c.stream_end.ensures ∙ c.is_clean.ensures.0 yes),
      λ closed. c.is_clean.ensures.1 (c.stream_end.ensures ∙ (told.1 closed).1),
    )
