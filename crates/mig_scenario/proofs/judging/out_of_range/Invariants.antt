use Rattle.std.proofs.Common.{◌≡◌, ◌+◌, suc, not, map, drop}
use Rattle.std.specs.Prelude.{position}
use Rattle.std.specs.Option.{option_map}
use Rattle.mig_scenario.specs.Scenario.{is_within, first_line}
use Rattle.mig_scenario.specs.Seen.{seen}
use Rattle.mig_scenario.proofs.judging.out_of_range.Given as goal

abbrev pub invariant-loop-i : goal.invariant-loop-i
invariant-loop-i g l =
    option_map (λ j. l.i + suc j) (position (λ x. not (is_within l.table x)) (map seen (drop l.i l.lines)))
    ≡ first_line (λ x. not (is_within l.table x)) (map seen l.lines)
