use Rattle.std.proofs.Common.{◌∙◌, ap, subst, List, Option, ℕ}
use Rattle.std.specs.List.{AllZip}
use Rattle.mig_mem.specs.First.{first_some}
use Rattle.mig_answer.specs.declared.status.Status.{Status}
use Rattle.mig_answer.specs.MultiLoad.{main_standing, repeated_hello, sources_verdicts}
use Rattle.mig_answer.specs.Told.{standings}
use Rattle.mig_session.specs.Scan.{Scan, TellsFirstStatus, TellsHello}
use Rattle.mig_session.specs.Sources.{FedSources, TellsFirst}
use Rattle.mig_session.proofs.FedSources.{tells_first}
use Rattle.mig_session.proofs.sources.Sources.first_verdict.Goals as goal

pub returns-clause-told : goal.returns-clause-told
returns-clause-told g c =
    let statuses : List Status = c.look_at_statuses.new.statuses.items in
    let hellos : List (Option ℕ) = c.look_at_hellos.new.hellos.items in
    subst (λ (s : FedSources). TellsFirst s c.sources_verdict.result) c.self.view_is
    (tells_first (record { main = c.self.inside.main; channels = c.self.inside.channels.items }) c.first_status-main.result
    statuses hellos c.repeated_id.result c.sources_verdict.result
    c.first_status-main.ensures
    (subst (λ (l : List Scan). AllZip TellsFirstStatus l statuses) c.deref.ensures.value c.look_at_statuses.ensures.told)
    (subst (λ (l : List Scan). AllZip TellsHello l hellos) c.deref-2.ensures.value c.look_at_hellos.ensures.told)
    (c.repeated_id.ensures ∙ ap repeated_hello c.deref-4.ensures.value)
    (c.sources_verdict.ensures
    ∙ ap (λ (l : List Status). first_some (sources_verdicts 0 (main_standing c.first_status-main.result)
    (standings l) c.repeated_id.result)) c.deref-3.ensures.value))
