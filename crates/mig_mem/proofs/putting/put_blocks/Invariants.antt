use Rattle.std.specs.Borrow.{MutBor}
use Rattle.std.proofs.Common.{ℕ, List}
use Rattle.mig_mem.proofs.BytePuts.{DoneTo}
use Rattle.mig_mem.proofs.putting.put_blocks.Given as goal

abbrev pub invariant-loop-b : goal.invariant-loop-b
invariant-loop-b g l = DoneTo (λ (x : MutBor (List ℕ)). x.now) l.size l.b l.fn.blocks l.blocks l.pages
