use Rattle.std.proofs.Common.{◌-◌, length}
use Rattle.mig_stream.specs.Machine.{Command, command, IsCommand}
use Rattle.mig_mapped.proofs.FrontSteps.{SoFar}
use Rattle.mig_mapped.proofs.front.commands_len.Given as goal

abbrev pub invariant-loop-command : goal.invariant-loop-command
invariant-loop-command l = SoFar Command command IsCommand l.bytes l.len

abbrev pub decreases-loop-command : goal.decreases-loop-command
decreases-loop-command l = length l.bytes - l.len
