use Rattle.std.proofs.Common.{◌≡◌, ◌∷◌, drop}
use Rattle.mig_assemble.specs.Sorted.{first_pair}
use Rattle.mig_assemble.proofs.numbers.first_pair.Given as goal

abbrev pub invariant-loop-number : goal.invariant-loop-number
invariant-loop-number l = first_pair (l.last ∷ drop l.number-index l.rest) ≡ first_pair l.numbers
