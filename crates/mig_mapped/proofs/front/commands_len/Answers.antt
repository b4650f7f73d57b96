use Rattle.std.proofs.Common.{List, ℕ, subst}
use Rattle.mig_stream.specs.Machine.{Command, command, IsCommand}
use Rattle.mig_mapped.specs.FrontParts.{Begins}
use Rattle.mig_mapped.proofs.FrontFields.{to_end}
use Rattle.mig_mapped.proofs.FrontSteps.{more_so_far}
use Rattle.mig_mapped.proofs.front.commands_len.Goals as goal

pub loop-command-preserved : goal.loop-command-preserved
loop-command-preserved c =
    more_so_far Command command IsCommand c.args.bytes.now c.loop-command.len c.in-Some.command c.loop-command.invariant
    (subst (λ (l : List ℕ). Begins Command command IsCommand l c.in-Some.command) (to_end c.args.bytes.now c.loop-command.len) c.in-Some.ensures.found)
