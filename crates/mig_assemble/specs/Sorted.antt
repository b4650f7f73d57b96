-- Numbers in ascending order, and searches in them.
use Rattle.std.specs.Prelude.{ℕ, ◌+◌, ◌==◌, List, [], ◌∷◌, Option, Some, None, if◌then◌else◌, nat_lt, nat_eq}
use Rattle.std.specs.List.{filter}
use Rattle.std.specs.Option.{option_map, option_or}
use Rattle.mig_mem.specs.First.{first_some}
use Rattle.mig_assemble.specs.declared.fault.RoundFault.{RoundFault}
use Rattle.mig_assemble.specs.declared.fault.RoundFault.TheVariants.{Foreign, Doubled, Missing}
use Rattle.mig_assemble.specs.Judging.{least, twice, absent}

-- the first of two neighbours that are equal
abbrev pub first_pair : List ℕ → Option ℕ
first_pair [] = None
first_pair (m ∷ []) = None
first_pair (m ∷ (n ∷ ns)) = if m == n then Some m else first_pair (n ∷ ns)

-- the number that was expected where the numbers first aren't consecutive from a number on
abbrev pub first_gap : ℕ → List ℕ → Option ℕ
first_gap next [] = None
first_gap next (n ∷ ns) = if n == next then first_gap (next + 1) ns else Some next

-- why the numbers of a round's packets, in any order, aren't consecutive from the base on
abbrev pub number_refusal : ℕ → List ℕ → Option RoundFault
number_refusal base ns = first_some (
    option_map Foreign (least nat_lt (filter (λ n. nat_lt n base) ns)) ∷
    option_map Doubled (least nat_lt (twice nat_eq ns)) ∷
    option_map Missing (least nat_lt (absent base ns)) ∷ [])

-- `number_refusal` of numbers in ascending order, by their neighbours
abbrev pub sorted_refusal : ℕ → List ℕ → Option RoundFault
sorted_refusal base [] = None
sorted_refusal base (n ∷ ns) =
    if nat_lt n base then Some (Foreign n) else
    option_or (option_map Doubled (first_pair (n ∷ ns))) (option_map Missing (first_gap base (n ∷ ns)))
