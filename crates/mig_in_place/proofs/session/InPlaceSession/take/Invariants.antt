use Rattle.std.proofs.Common.{◌≡◌, ◌+◌, ◌-◌, ◌^◌, length}
use Rattle.mig_in_place.proofs.Turns.{TakenSoFar}
use Rattle.mig_in_place.proofs.session.InPlaceSession.take.Given as goal

abbrev pub invariant-rounds : goal.invariant-rounds
invariant-rounds g l = TakenSoFar l.source l.piece l.taken (g.M.GuestTarget.image l.fn.memory) l.fn.self (g.M.GuestTarget.image l.memory) l.self
    × (g.M.GuestTarget.kept l.memory ≡ g.M.GuestTarget.kept l.fn.memory)

abbrev pub decreases-rounds : goal.decreases-rounds
decreases-rounds g l = (length l.piece - l.taken) + (2 ^ 63 - l.self.rounds)
