use Rattle.std.proofs.Common.{◌≡◌, take}
use Rattle.std.specs.Prelude.{zip}
use Rattle.mig_send.specs.Heads.{zeros_at, others_at}
use Rattle.mig_send.proofs.packed.put_flagged.Given as goal

abbrev pub invariant-loop-i : goal.invariant-loop-i
invariant-loop-i g l = record {
  normal : l.others.items ≡ others_at l.table.page_size (take l.i (zip l.pages l.zeros));
  zero : l.blank.items ≡ zeros_at l.table.page_size (take l.i (zip l.pages l.zeros));
}
