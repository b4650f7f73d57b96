use Rattle.mig_mem.specs.Place.{place_at}
use Rattle.mig_mem.proofs.Walks.{HasWalked}
use Rattle.mig_mem.proofs.dirty.Dirty.first_from.Given as goal

abbrev pub invariant-loop-block : goal.invariant-loop-block
invariant-loop-block g l = HasWalked l.self l.fn.from (place_at l.block l.page)
