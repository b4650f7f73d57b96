use Rattle.mig_in_place.proofs.pumping.has_turn.Goals as goal

pub returns-then-has_room-clause-none : goal.returns-then-has_room-clause-none
returns-then-has_room-clause-none g c = λ none room. c.takes.ensures.none none
