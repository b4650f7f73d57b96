use Rattle.std.proofs.Common.{ℕ, ◌≡◌, List, Option, map, ap, ◌∙◌}
use Rattle.mig_packet.specs.Lent.{fields}
use Rattle.mig_mem.specs.First.{first_some}
use Rattle.mig_answer.specs.declared.status.Status.{Status}
use Rattle.mig_answer.specs.declared.verdict.Verdict.{Verdict}
use Rattle.mig_answer.specs.MultiLoad.{main_standing, sources_verdicts}
use Rattle.mig_answer.specs.Told.{standings}
use Rattle.mig_relay.specs.Relayed.{repeated_at}
use Rattle.mig_relay.proofs.GoingThrough.{all_go_on}
use Rattle.mig_relay.proofs.RelayLoads.{is_told_at}
use Rattle.mig_relay.proofs.relayed.verdict_at_round.Goals as goal

pub returns-in_err-statuses-clause-continues : goal.returns-in_err-statuses-clause-continues
returns-in_err-statuses-clause-continues g c = all_go_on c.args.collector.now

pub returns-clause-told : goal.returns-clause-told
returns-clause-told g c = λ l loading is.
    let statuses = c.take_of_all.new.statuses.items in
    let gone = c.in_ok-take_of_all.ensures.ok c.args.round loading.are_at in
    let first : List Status → Option ℕ → Option Verdict = λ ss o. first_some (sources_verdicts c.args.round (main_standing c.args.main) (standings ss) o) in
    let told : c.sources_verdict.result ≡ first statuses (repeated_at c.args.round c.take_of_all.new.collector) =
    c.sources_verdict.ensures ∙ ap (λ (ss : List Status). first ss c.repeated_at-repeated.result) c.deref.ensures.value
    ∙ ap (first statuses) c.repeated_at-repeated.ensures in
    is_told_at l c.args.round c.args.places.now.items c.take_of_all.new.places.items c.args.collector.now c.take_of_all.new.collector c.args.main statuses
    (map fields c.take_of_all.new.gathered) c.sources_verdict.result loading c.take_of_all.ensures.continues gone is told
