use Rattle.mig_send.specs.MultiSending.{texts_of}
use Rattle.mig_uses.proofs.Arriving.{HaveSoFar}
use Rattle.mig_uses.proofs.migration.append_all.Given as goal

abbrev pub invariant-loop-i : goal.invariant-loop-i
invariant-loop-i g l = HaveSoFar (texts_of l.fn.texts.items) (texts_of l.rest) l.i (texts_of l.texts.items)
