use Rattle.std.proofs.Common.{inl, inr}
use Rattle.std.proofs.lemmas.Bool.{cases_Bool}
use Rattle.mig_mem.specs.Image.{Image}
use Rattle.mig_in_place.specs.Session.{Loads}
use Rattle.mig_in_place.proofs.Advancing.{never_twice}
use Rattle.mig_in_place.proofs.session.InPlaceSession.next_round.Goals as goal

pub returns-clause-stands : goal.returns-clause-stands
returns-clause-stands g c = λ f judged.
    let later : Image = g.M.GuestTarget.image c.advance.new.memory in
    let on : Loads f later c.advance.new.self = c.advance.ensures.loads f judged.loads judged.is_due judged.passes in
    elim (cases_Bool c.tell.result) [
      | inl t ↦ c.tell.ensures.told t f later on
      | inr none ↦ absurd (never_twice f later c.advance.new.self on c.advance.ensures.open (c.tell.ensures.due none f later on))
    ]
