use Rattle.std.proofs.Common.{◌≡◌, ◌+◌, drop}
use Rattle.mig_assemble.specs.Sorted.{first_gap}
use Rattle.mig_assemble.proofs.numbers.first_gap.Given as goal

abbrev pub invariant-loop-number : goal.invariant-loop-number
invariant-loop-number l = record {
  next : l.next ≡ l.base + l.number-index;
  rest : first_gap l.next (drop l.number-index l.numbers) ≡ first_gap l.base l.numbers;
}
