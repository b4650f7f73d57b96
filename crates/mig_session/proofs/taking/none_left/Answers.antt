use Rattle.std.proofs.Common.{ℕ, ◌≡◌, arith, inl, inr, subst}
use Rattle.std.proofs.lemmas.Bool.{cases_lt}
use Rattle.mig_sources.specs.declared.source.Source.TheVariants as source
use Rattle.mig_session.specs.Loading.{IsDone}
use Rattle.mig_session.proofs.Settling.{counted_at, channel_there, done_all, channel_few}
use Rattle.mig_session.proofs.taking.none_left.Goals as goal

pub loop-j-preserved : goal.loop-j-preserved
loop-j-preserved g c = λ running f takes counted i below. elim (cases_lt i c.loop-j.j) [
  | inl lt ↦ c.loop-j.invariant running f takes counted i lt
  | inr le ↦
      let same : c.loop-j.j ≡ i = omega (arith, le, below) in
      subst (λ (n : ℕ). IsDone c.args.load.now.load.rounds f takes.taken (source.Channel n)) same
      (c.is_left-in-loop-j.ensures c.if-is_left-2.false running f takes
      (counted_at f.texts (source.Channel c.loop-j.j) c.args.counts.now c.of-in-loop-j.result counted
      (channel_there f.texts c.args.counts.now c.loop-j.j counted (omega (arith, c.loop-j-test.true, c.channels-j-end.ensures))) c.of-in-loop-j.ensures))
]

pub returns : goal.returns
returns g c = λ yes running f takes counted.
    done_all f c.args.load.now.load.rounds takes.taken
    (c.is_left.ensures c.if-is_left.false running f takes (counted_at f.texts source.Main c.args.counts.now c.of.result counted tt c.of.ensures))
    (λ j there. c.loop-j.invariant running f takes counted j (let few = channel_few f.texts c.args.counts.now j counted there in omega
    (arith, few, c.loop-j-test.false, c.channels-j-end.ensures)))
