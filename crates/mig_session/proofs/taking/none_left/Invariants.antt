use Rattle.std.proofs.Common.{ℕ, ◌≡◌, ◌<◌}
use Rattle.mig_answer.specs.declared.verdict.Verdict.TheVariants.{Running}
use Rattle.mig_sources.specs.declared.source.Source.TheVariants as source
use Rattle.mig_sources.specs.Sources.{counts_in}
use Rattle.mig_session.specs.Loading.{Feeding, Takes, IsDone}
use Rattle.mig_session.proofs.taking.none_left.Given as goal

abbrev pub invariant-loop-j : goal.invariant-loop-j
invariant-loop-j g l = l.load.load.verdict ≡ Running → (f : Feeding) (takes : Takes f l.waiting l.load) → l.counts ≡ counts_in f.texts
    → (i : ℕ) → i < l.j → IsDone l.load.load.rounds f takes.taken (source.Channel i)
