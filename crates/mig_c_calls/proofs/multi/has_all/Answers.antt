use Rattle.std.proofs.Common.{refl, arith}
use Rattle.mig_mem.specs.Place.{IsPlace}
use Rattle.mig_c_calls.proofs.Places.{place_there, all_taken}
use Rattle.mig_c_calls.proofs.multi.has_all.Goals as goal

pub returns-then-not-holds : goal.returns-then-not-holds
returns-then-not-holds c = (
  λ no. absurd cc,
  λ all. c.if-not-holds.ensures.1 (place_there
      (IsPlace c.args.table.now) c.args.places.now c.loop-named.named-index _ c.place_of.result (omega (arith, c.loop-named-test.true)) c.place_of.ensures all),
)

pub returns : goal.returns
returns c = (
  λ _. all_taken (IsPlace c.args.table.now) c.args.places.now c.loop-named.named-index (omega (arith, c.loop-named-test.false)) c.loop-named.invariant,
  λ _. refl,
)
