use Rattle.std.proofs.Common.{◌≡◌, ◌∙◌, ℕ, Option, Some, None, ap, subst, sym}
use Rattle.mig_stream.specs.Reader.{HasClosedAt}
use Rattle.mig_load_types.specs.Settings.{main_of}
use Rattle.mig_session.specs.Session.{LoadSession, session}
use Rattle.mig_session.proofs.Sessions.{as_read, closed_still, places_read, no_places_read}
use Rattle.mig_session.proofs.session.Session.closed_at.Goals as goal

pub returns-in-Some-clause-stands : goal.returns-in-Some-clause-stands
returns-in-Some-clause-stands g c = λ given uuid texts stands.
    let i = c.self.inside in
    let s : LoadSession = session i.settings i.uuid i.counts i.places i.sources i.load i.over i.verdict in
    let some : c.args.self.now.places ≡ Some c.in-Some.places = ap (λ (x : LoadSession). x.places) (sym c.self.view_is) ∙ c.in-Some.is in
    as_read given uuid texts c.args.self.now s (λ read. HasClosedAt (main_of given) read.main.bytes c.closed_at.result) c.self.view_is c.self.invariant stands
    (subst (λ (o : Option ℕ). HasClosedAt (main_of given) stands.read.main.bytes o) (sym c.closed_at.ensures)
    (places_read given uuid texts c.args.self.now c.in-Some.places stands some).closed)

pub returns-in-Some-clause-lacking : goal.returns-in-Some-clause-lacking
returns-in-Some-clause-lacking g c = λ given uuid texts lacks.
    let some : c.args.self.now.places ≡ Some c.in-Some.places = ap (λ (x : LoadSession). x.places) (sym c.self.view_is) ∙ c.in-Some.is in
    absurd (let bad : Some c.in-Some.places ≡ None = sym some ∙ lacks.has_no_places in cc)

pub returns-in-None-clause-stands : goal.returns-in-None-clause-stands
returns-in-None-clause-stands g c = λ given uuid texts stands. absurd
    (no_places_read given uuid texts c.args.self.now stands (ap (λ (x : LoadSession). x.places) (sym c.self.view_is) ∙ c.in-None.is))

pub returns-in-Some-clause-closed : goal.returns-in-Some-clause-closed
returns-in-Some-clause-closed g c =
    let some : c.args.self.now.places ≡ Some c.in-Some.places = ap (λ (x : LoadSession). x.places) (sym c.self.view_is) ∙ c.in-Some.is in
    closed_still c.args.self.now c.closed_at.result c.in-Some.places some c.closed_at.ensures
