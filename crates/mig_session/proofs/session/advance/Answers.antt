use Rattle.std.proofs.Common.{Option, Some, refl, subst, sym}
use Rattle.mig_session.specs.Sources.{FedSources, Holds}
use Rattle.mig_session.specs.Loading.{RoundLoad, TakesOrWaits}
use Rattle.mig_session.specs.Session.{Fed}
use Rattle.mig_session.specs.Advancing.{IsReady}
use Rattle.mig_session.proofs.FedSources.{on_err}
use Rattle.mig_session.proofs.Advances.{ran_on, waited_on}
use Rattle.mig_session.proofs.session.advance.Goals as goal

pub returns-in_err-pump-in-Some-clause-err : goal.returns-in_err-pump-in-Some-clause-err
returns-in_err-pump-in-Some-clause-err g c = on_err c.from_residual.result (λ f ready counted.
    let now : IsReady f (record { read = c.fed.inside.sources; waiting = c.fed.inside.waiting }) c.args.load.now =
    subst (λ (x : Fed). IsReady f x c.args.load.now) (sym c.fed.view_is) ready in
    c.in_err-pump-in-Some.ensures.err f (subst (λ (o : Option RoundLoad). TakesOrWaits f c.fed.inside.waiting o) c.in-Some.is now.takes) counted)

pub returns-in_ok-pump-in-Some-clause-ok : goal.returns-in_ok-pump-in-Some-clause-ok
returns-in_ok-pump-in-Some-clause-ok g c = λ f ready counted.
    let i = c.fed.inside in
    let now : IsReady f (record { read = i.sources; waiting = i.waiting }) c.args.load.now =
    subst (λ (x : Fed). IsReady f x c.args.load.now) (sym c.fed.view_is) ready in
    ran_on f (record { read = i.sources; waiting = c.pump.new.waiting })
    (Some c.pump.new.load) c.pump.new.load c.verdict.result now.is_of_session.is_page_size refl
    c.verdict.ensures now.holds
    (c.in_ok-pump-in-Some.ensures.ok f (subst (λ (o : Option RoundLoad). TakesOrWaits f i.waiting o) c.in-Some.is now.takes) counted)

pub returns-in-None-clause-ok : goal.returns-in-None-clause-ok
returns-in-None-clause-ok g c = λ f ready counted.
    let i = c.fed.inside in
    let now : IsReady f (record { read = i.sources; waiting = i.waiting }) c.args.load.now =
    subst (λ (x : Fed). IsReady f x c.args.load.now) (sym c.fed.view_is) ready in
    let none = now.has_none c.in-None.is in
    waited_on f (record { read = c.verdict_without_table.new.sources; waiting = i.waiting }) c.args.load.now c.verdict_without_table.result c.in-None.is
    (subst (λ (s : FedSources). Holds f.given f.uuid f.texts s) (sym c.verdict_without_table.ensures.same) now.holds)
    (subst (λ (o : Option RoundLoad). TakesOrWaits f i.waiting o) c.in-None.is now.takes) none
    (c.verdict_without_table.ensures.told f now.is_of_session.is_page_size now.holds none)
