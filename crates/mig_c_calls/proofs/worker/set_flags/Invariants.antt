use Rattle.std.proofs.Common.{◌≡◌, take}
use Rattle.mig_c_calls.specs.Heads.{flags_of}
use Rattle.mig_c_calls.proofs.worker.set_flags.Given as goal

abbrev pub invariant-loop-i : goal.invariant-loop-i
invariant-loop-i l = take l.i l.flags ≡ flags_of (take l.i l.bytes)
