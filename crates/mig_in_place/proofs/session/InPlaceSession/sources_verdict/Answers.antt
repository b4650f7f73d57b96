use Rattle.std.proofs.Common.{ℕ, ◌∙◌, List, Option, sym, ap, subst}
use Rattle.std.specs.List.{AllZip}
use Rattle.mig_mem.specs.First.{first_some}
use Rattle.mig_answer.specs.declared.status.Status.{Status}
use Rattle.mig_answer.specs.MultiLoad.{main_standing, repeated_hello, sources_verdicts}
use Rattle.mig_answer.specs.Told.{standings}
use Rattle.mig_in_place.specs.Sources.{KeptChannel, TellsChannelStatus, TellsHello}
use Rattle.mig_in_place.specs.Session.{InPlaceLoad, Loads, TellsVerdict}
use Rattle.mig_in_place.proofs.Told.{told_is, tells_verdict}
use Rattle.mig_in_place.proofs.session.InPlaceSession.sources_verdict.Goals as goal

pub returns-clause-told : goal.returns-clause-told
returns-clause-told g c = λ f memory loads.
    let i = c.self.inside in
    let s : InPlaceLoad =
    record {
      table = i.table;
      sources = record { main = i.main; channels = i.channels.items };
      round = i.round;
      rounds = i.rounds;
      base = i.base;
      named = i.named;
      verdict = i.verdict;
    } in
    let statuses : List Status = c.look_at_statuses.new.statuses.items in
    let hellos : List (Option ℕ) = c.look_at_hellos.new.hellos.items in
    let mine : Loads f memory s = subst (λ (x : InPlaceLoad). Loads f memory x) (sym c.self.view_is) loads in
    subst (λ (x : InPlaceLoad). TellsVerdict c.sources_verdict.result f x.rounds) c.self.view_is
    (tells_verdict f memory s c.sources_verdict.result mine
    (told_is f memory s mine c.status.result statuses hellos c.repeated_id-repeated.result c.sources_verdict.result
    c.status.ensures.tells
    (subst (λ (l : List KeptChannel). AllZip TellsChannelStatus l statuses) c.deref.ensures.value c.look_at_statuses.ensures.told)
    (subst (λ (l : List KeptChannel). AllZip TellsHello l hellos) c.deref-2.ensures.value c.look_at_hellos.ensures.told)
    (c.repeated_id-repeated.ensures ∙ ap repeated_hello c.deref-3.ensures.value)
    (c.sources_verdict.ensures
    ∙ ap (λ (l : List Status). first_some (sources_verdicts i.rounds (main_standing c.status.result)
    (standings l) c.repeated_id-repeated.result)) c.deref-4.ensures.value)))
