use Rattle.std.proofs.Common.{◌≡◌, ◌∙◌, Some, None, ap, sym}
use Rattle.mig_session.specs.Session.{LoadSession, session, rounds_loaded, missing_in, HasMissing}
use Rattle.mig_session.proofs.Sessions.{as_read, no_places_read, missing_read}
use Rattle.mig_session.proofs.session.Session.missing.Goals as goal

pub returns-in-Some-clause-stands : goal.returns-in-Some-clause-stands
returns-in-Some-clause-stands g c = λ given uuid texts stands.
    let i = c.self.inside in
    let s : LoadSession = session i.settings i.uuid i.counts i.places i.sources i.load i.over i.verdict in
    let told : c.missing_of.result ≡ missing_in c.args.self.now.target = c.missing_of.ensures ∙ ap (λ (x : LoadSession). missing_in x.target) c.self.view_is in
    as_read given uuid texts c.args.self.now s
    (λ read. HasMissing given uuid read (rounds_loaded c.args.self.now.target) c.missing_of.result) c.self.view_is c.self.invariant stands
    (missing_read given uuid texts c.args.self.now c.missing_of.result stands told)

pub returns-in-Some-clause-lacking : goal.returns-in-Some-clause-lacking
returns-in-Some-clause-lacking g c = λ given uuid texts lacks.
    let some : c.args.self.now.places ≡ Some c.in-Some.field-0 = ap (λ (x : LoadSession). x.places) (sym c.self.view_is) ∙ c.in-Some.is in
    absurd (let bad : Some c.in-Some.field-0 ≡ None = sym some ∙ lacks.has_no_places in cc)

pub returns-in-None-clause-stands : goal.returns-in-None-clause-stands
returns-in-None-clause-stands g c = λ given uuid texts stands. absurd
    (no_places_read given uuid texts c.args.self.now stands (ap (λ (x : LoadSession). x.places) (sym c.self.view_is) ∙ c.in-None.is))
