use Rattle.std.proofs.Common.{◌≡◌, ◌∙◌, Some, None, ap, subst, sym, inl, inr}
use Rattle.mig_answer.specs.declared.verdict.Verdict.TheVariants.{Running, Done}
use Rattle.mig_session.specs.Session.{Fed, LoadSession, TellAllIn, session, rounds_loaded}
use Rattle.mig_session.proofs.Sessions.{keeps_runs, target_running, all_in_running, all_in_done}
use Rattle.mig_session.proofs.session.Session.has_all_rounds.Goals as goal

pub returns-in-Some-clause-all : goal.returns-in-Some-clause-all
returns-in-Some-clause-all g c = λ t given uuid texts stands.
    let some : c.args.self.now.sources ≡ Some c.in-Some.fed = ap (λ (x : LoadSession). x.sources) (sym c.self.view_is) ∙ c.in-Some.is in
    (all_in_running given uuid texts c.args.self.now c.in-Some.fed c.have_only.result c.rounds_now.result some stands
    (c.rounds_now.ensures.value ∙ ap rounds_loaded (sym (target_running c.self.inside.load c.self.inside.over
    (c.self.invariant.is_not_over (λ none. absurd (let bad : Some c.in-Some.fed ≡ None = sym c.in-Some.is ∙ none in cc)))))
    ∙ ap (λ (x : LoadSession). rounds_loaded x.target) c.self.view_is) (subst (λ
    (x : Fed). TellAllIn c.rounds_now.result x.read c.have_only.result) c.fed.view_is c.have_only.ensures)).0 t

pub returns-in-Some-clause-exact : goal.returns-in-Some-clause-exact
returns-in-Some-clause-exact g c = λ running given uuid texts stands all.
    let some : c.args.self.now.sources ≡ Some c.in-Some.fed = ap (λ (x : LoadSession). x.sources) (sym c.self.view_is) ∙ c.in-Some.is in
    (all_in_running given uuid texts c.args.self.now c.in-Some.fed c.have_only.result c.rounds_now.result some stands
    (c.rounds_now.ensures.value ∙ ap rounds_loaded (sym (target_running c.self.inside.load c.self.inside.over
    (c.self.invariant.is_not_over (λ none. absurd (let bad : Some c.in-Some.fed ≡ None = sym c.in-Some.is ∙ none in cc)))))
    ∙ ap (λ (x : LoadSession). rounds_loaded x.target) c.self.view_is) (subst (λ
    (x : Fed). TellAllIn c.rounds_now.result x.read c.have_only.result) c.fed.view_is c.have_only.ensures)).1 all

pub returns-in-Some-clause-done : goal.returns-in-Some-clause-done
returns-in-Some-clause-done g c = λ done.
    let i = c.self.inside in
    let s : LoadSession = session i.settings i.uuid i.counts i.places i.sources i.load i.over i.verdict in
    let runs : s.verdict ≡ Running = keeps_runs s c.in-Some.fed c.self.invariant c.in-Some.is in
    absurd (let bad : Done ≡ Running = sym done ∙ ap (λ (x : LoadSession). x.verdict) (sym c.self.view_is) ∙ runs in cc)

pub returns-in-Some-clause-failed : goal.returns-in-Some-clause-failed
returns-in-Some-clause-failed g c = λ t.
    let i = c.self.inside in
    let s : LoadSession = session i.settings i.uuid i.counts i.places i.sources i.load i.over i.verdict in
    inl (ap (λ (x : LoadSession). x.verdict) (sym c.self.view_is) ∙ keeps_runs s c.in-Some.fed c.self.invariant c.in-Some.is)

pub returns-in-None-clause-all : goal.returns-in-None-clause-all
returns-in-None-clause-all g c = λ t given uuid texts stands.
    all_in_done given uuid texts c.args.self.now stands (ap (λ (x : LoadSession). x.verdict) (sym c.self.view_is) ∙ c.is_done.ensures.0 t)

pub returns-in-None-clause-exact : goal.returns-in-None-clause-exact
returns-in-None-clause-exact g c = λ running given uuid texts stands all.
    absurd (c.self.invariant.is_open (ap (λ (x : LoadSession). x.verdict) c.self.view_is ∙ running) c.in-None.is)

pub returns-in-None-clause-done : goal.returns-in-None-clause-done
returns-in-None-clause-done g c = λ done. c.is_done.ensures.1 (ap (λ (x : LoadSession). x.verdict) c.self.view_is ∙ done)

pub returns-in-None-clause-failed : goal.returns-in-None-clause-failed
returns-in-None-clause-failed g c = λ t. inr (ap (λ (x : LoadSession). x.verdict) (sym c.self.view_is) ∙ c.is_done.ensures.0 t)
