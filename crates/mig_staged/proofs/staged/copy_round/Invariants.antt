use Rattle.mig_staged.proofs.Staging.{HasCopied}
use Rattle.mig_staged.proofs.staged.copy_round.Given as goal

abbrev pub invariant-loop : goal.invariant-loop
invariant-loop g l = HasCopied l.named l.from (g.M.GuestTarget.image l.fn.memory) (g.M.GuestTarget.image l.memory) l.next l.counter
