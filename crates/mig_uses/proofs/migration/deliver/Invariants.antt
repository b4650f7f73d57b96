use Rattle.std.proofs.Common.{◌≡◌, List, length}
use Rattle.mig_send.specs.DealtRounds.{DealtRound}
use Rattle.mig_send.specs.MultiSending.{KeepsCounts}
use Rattle.mig_uses.specs.Migration.{HasArrived}
use Rattle.mig_uses.proofs.migration.deliver.Given as goal

abbrev pub invariant-loop-channel : goal.invariant-loop-channel
invariant-loop-channel g l = record {
  arrived : (rounds : List DealtRound) → HasArrived l.fn.arrived l.fn.sender rounds → HasArrived l.arrived l.sender rounds;
  counts : KeepsCounts l.fn.sender l.sender;
  channels : length l.arrived.channels.items ≡ length l.fn.arrived.channels.items;
}
