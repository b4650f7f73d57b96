use Rattle.mig_stream.proofs.Walking.{HasWalked}
use Rattle.mig_stream.proofs.writer.StreamWriter.put_pages.Given as goal

abbrev pub invariant-loop : goal.invariant-loop
invariant-loop g l = HasWalked l.dirty (g.G.GuestPages.image l.image) l.fn.self l.self l.from l.counter
