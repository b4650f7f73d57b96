use Rattle.std.proofs.Common.{◌≡◌}
use Rattle.std.specs.List.{All}
use Rattle.mig_rows.proofs.judge.gathered.Given as goal

abbrev pub invariant-loop-packet : goal.invariant-loop-packet
invariant-loop-packet l = All (λ p. p.page_size ≡ l.page_size) l.gathered
