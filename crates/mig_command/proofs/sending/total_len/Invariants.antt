use Rattle.std.proofs.Common.{◌≡◌, ◌^◌, ◌-◌, min, take, length}
use Rattle.std.specs.Prelude.{sum_by}
use Rattle.mig_send.specs.MultiSending.{texts_of}
use Rattle.mig_command.proofs.sending.total_len.Given as goal

abbrev pub invariant-loop-text : goal.invariant-loop-text
invariant-loop-text g l = l.total ≡ min (sum_by length (take l.text-index (texts_of l.channels))) (2 ^ 64 - 1)
