use Rattle.std.proofs.Common.{◌≡◌, ◌∙◌, Some, sym, subst}
use Rattle.mig_in_place.specs.Session.{InPlaceLoad, Loads, TellsVerdict}
use Rattle.mig_in_place.proofs.Told.{verdict_stands, none_is_due}
use Rattle.mig_in_place.proofs.session.InPlaceSession.tell.Goals as goal

pub returns-in-Some-clause-told : goal.returns-in-Some-clause-told
returns-in-Some-clause-told g c = λ _ f memory loads.
    let i = c.self.inside in
    let s : InPlaceLoad =
    record {
      table = i.table;
      sources = record { main = i.main; channels = i.channels.items };
      round = i.round;
      rounds = i.rounds;
      base = i.base;
      named = i.named;
      verdict = i.verdict;
    } in
    let same : s ≡ c.args.self.now = c.self.view_is ∙ c.sources_verdict.ensures.same in
    verdict_stands f memory s c.in-Some.verdict (subst (λ (x : InPlaceLoad). Loads f memory x) (sym same) loads)
    (subst (λ (x : InPlaceLoad). TellsVerdict (Some c.in-Some.verdict) f x.rounds) (sym same) (c.in-Some.ensures.told f memory loads))

pub returns-in-None-clause-due : goal.returns-in-None-clause-due
returns-in-None-clause-due g c = λ _ f memory loads. none_is_due f c.args.self.now.rounds (c.in-None.ensures.told f memory loads)
