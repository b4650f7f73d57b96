-- The first of some answers.
use Rattle.std.specs.Prelude.{Bool, if◌then◌else◌, List, [], ◌∷◌, Option, None, Some}
use Rattle.std.specs.Option.{option_or}

-- the first answer that is there
abbrev pub first_some : {X : Type 0} → List (Option X) → Option X
first_some [] = None
first_some (o ∷ os) = option_or o (first_some os)

-- the value of the first test that holds
abbrev pub first_of : {X : Type 0} → List (Bool × X) → Option X
first_of [] = None
first_of (test ∷ tests) = if test.0 then Some test.1 else first_of tests
