use Rattle.std.proofs.Common.{◌≡◌, take}
use Rattle.mig_assemble.specs.Target.{pages_of_round}
use Rattle.mig_assemble.specs.Arrivals.{HasCome}
use Rattle.mig_assemble.specs.AtOnce.{came_at_once, packets_of, LieEach}
use Rattle.mig_assemble.proofs.judge.arrive.Given as goal

abbrev pub invariant-loop-packet : goal.invariant-loop-packet
invariant-loop-packet g l = record {
  came : HasCome l.fn.arrivals.seen.table (came_at_once (pages_of_round l.round) (take l.packet-index l.packets)) l.arrivals;
  placed : packets_of l.placed.items ≡ take l.packet-index l.packets;
  lie : LieEach l.fn.arrivals.seen.table l.placed.items;
}
