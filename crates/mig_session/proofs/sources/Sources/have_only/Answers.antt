use Rattle.std.proofs.Common.{◌≡◌, Bool, true, false, List, subst}
use Rattle.std.specs.Prelude.{◌↔◌}
use Rattle.std.specs.List.{AllZip}
use Rattle.mig_session.specs.Scan.{SaysMain, IsClosedAfter, Scan, TellsOnly}
use Rattle.mig_session.specs.Sources.{FedSources}
use Rattle.mig_session.specs.Session.{TellAllIn}
use Rattle.mig_session.proofs.FedSources.{all_in_closed, all_in_open}
use Rattle.mig_session.proofs.sources.Sources.have_only.Goals as goal

pub returns-then-is_closed_after : goal.returns-then-is_closed_after
returns-then-is_closed_after g c =
    let k = c.args.rounds in
    let s : FedSources = record { main = c.self.inside.main; channels = c.self.inside.channels.items } in
    let told = c.have_only.ensures in
    subst (λ (x : FedSources). TellAllIn k x c.have_only.result) c.self.view_is
    (all_in_closed k s told.0 c.have_only.result
    (subst (λ (b : Bool). SaysMain s.main (λ reading. b ≡ true ↔ IsClosedAfter k reading)) c.if-is_closed_after.true c.is_closed_after.ensures)
    (subst (λ (l : List Scan). AllZip (TellsOnly k) l told.0) c.deref.ensures.value told.1) told.2)

pub returns-else-is_closed_after : goal.returns-else-is_closed_after
returns-else-is_closed_after g c =
    let k = c.args.rounds in
    let s : FedSources = record { main = c.self.inside.main; channels = c.self.inside.channels.items } in
    subst (λ (x : FedSources). TellAllIn k x false) c.self.view_is
    (all_in_open k s (subst (λ (b : Bool). SaysMain s.main
    (λ reading. b ≡ true ↔ IsClosedAfter k reading)) c.if-is_closed_after.false c.is_closed_after.ensures))
