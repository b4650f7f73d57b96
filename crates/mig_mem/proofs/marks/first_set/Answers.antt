use Rattle.std.proofs.Common.{◌≤◌, ◌/◌, ◌%◌, ◌*◌, arith, inl, inr}
use Rattle.std.proofs.lemmas.Bool.{cases_lt}
use Rattle.mig_mem.proofs.Bits.{unset_past, unset_word, first_in_word}
use Rattle.mig_mem.proofs.marks.first_set.Goals as goal

pub returns-then-first-words-clause-none : goal.returns-then-first-words-clause-none
returns-then-first-words-clause-none c = λ q lo. unset_past c.args.words.now q (omega arith)

pub returns-in-Some-clause-some : goal.returns-in-Some-clause-some
returns-in-Some-clause-some c =
    first_in_word c.args.words.now c.args.from (c.args.from / 64) (c.args.from % 64) c.in-Some.bit
    (omega arith) c.in-Some.ensures.some (omega arith) (λ q lo hi. absurd (omega arith))

pub loop-i-init : goal.loop-i-init
loop-i-init c = record {
  past = omega arith;
  none = λ q lo hi. unset_word c.args.words.now (c.args.from / 64) (c.args.from % 64) q c.in_default.ensures.none (omega arith) (omega arith);
}

pub returns-in-Some-lowest_bit-clause-some : goal.returns-in-Some-lowest_bit-clause-some
returns-in-Some-lowest_bit-clause-some c =
    let past : c.args.from ≤ c.loop-i.i * 64 = c.loop-i.invariant.past in
    first_in_word c.args.words.now c.args.from c.loop-i.i 0 c.in-Some-lowest_bit.bit
    (omega arith) c.in-Some-lowest_bit.ensures.some (omega arith) (λ q lo hi. c.loop-i.invariant.none q lo (omega arith))

pub loop-i-preserved : goal.loop-i-preserved
loop-i-preserved c =
    let past : c.args.from ≤ c.loop-i.i * 64 = c.loop-i.invariant.past in record {
      past = omega arith;
      none = λ q lo hi. elim (cases_lt q (c.loop-i.i * 64)) [
        | inl before ↦ c.loop-i.invariant.none q lo before
        | inr at ↦ unset_word c.args.words.now c.loop-i.i 0 q c.in_default-lowest_bit.ensures.none (omega arith) (omega arith)
      ];
    }

pub returns-clause-none : goal.returns-clause-none
returns-clause-none c = λ q lo. elim (cases_lt q (c.loop-i.i * 64)) [
  | inl before ↦ c.loop-i.invariant.none q lo before
  | inr past ↦ unset_past c.args.words.now q (omega arith)
]
