use Rattle.std.proofs.Common.{◌≡◌, ◌++◌, ◌∷◌, [], List, ap, subst}
use Rattle.std.specs.Prelude.{OnOk}
use Rattle.mig_mem.specs.declared.place.Place.{Place}
use Rattle.mig_mem.specs.PlaceSet.{PlaceSet}
use Rattle.mig_send.specs.DealtRounds.{DealtRound}
use Rattle.mig_uses.specs.Migration.{HasArrived}
use Rattle.mig_uses.proofs.migration.begin.Goals as goal

pub returns-clause-sent : goal.returns-clause-sent
returns-clause-sent g c =
    subst (λ (marked : List Place). OnOk c.send_round.result ((rounds : List DealtRound) → HasArrived c.args.arrived.now c.args.sender.now rounds
    → (round : DealtRound) × (round.snapshot ≡ record { image = c.args.memory.now; dirty = marked })
    × HasArrived c.send_round.new.arrived c.send_round.new.sender (rounds ++ round ∷ [])))
    (ap (λ (d : PlaceSet). d.marked) c.in_ok-none.ensures) c.send_round.ensures.sent
