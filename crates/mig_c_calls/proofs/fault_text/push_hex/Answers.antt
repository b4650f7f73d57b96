use Rattle.std.proofs.Common.{arith, refl, sym, ap, ◌∙◌, ◌≡◌, ◌+◌, ◌-◌, ◌^◌, ◌<◌, ◌≤◌, ◌/◌, ◌%◌, ◌++◌, ◌∷◌, false, ℕ, suc, zero, length, drop, slice_set}
use Rattle.std.proofs.Common.{length-drop}
use lib.ListN.{length-set}
use lib.Seq.{take_all}
use Rattle.std.specs.Fmt.{digits_onto, digit_glyph}
use Rattle.std.proofs.DigitsParse.{digits_onto-nil, digits_onto_last, digits_onto_step, drop-set-cons}
use Rattle.mig_c_calls.proofs.fault_text.push_hex.Goals as goal

-- a number of several digits has one less without its last
one_place_fewer : (k n : ℕ) → 16 ≤ n → n < 16 ^ k → (2 ≤ k) × (n / 16 < 16 ^ (k - 1))
one_place_fewer zero n more small = absurd (omega arith)
one_place_fewer (suc zero) n more small = absurd (omega arith)
one_place_fewer (suc (suc k)) n more small =
    let left : suc (suc k) - 1 ≡ suc k = omega arith in
    (omega arith, rw left (omega arith))

pub loop-rest-init : goal.loop-rest-init
loop-rest-init c = (omega arith, omega arith, omega (arith, c.ranges.n.fits), refl, digits_onto-nil 16 false c.args.n)

pub loop-rest-preserved : goal.loop-rest-preserved
loop-rest-preserved c =
    let l = c.loop-rest in
    let fewer = one_place_fewer l.from l.rest c.loop-rest-test.true l.invariant.2 in
    let left : 48 + (l.from - 1) ≡ 48 + l.from - 1 = omega (arith, fewer.0) in
    let written = drop-set-cons l.digits l.from _ _ (omega (arith, fewer.0)) (omega (arith, l.invariant.1, l.invariant.3)) c.hex_digit.ensures in (
      omega (arith, fewer.0),
      omega (arith, l.invariant.1),
      fewer.1,
      length-set l.digits (l.from - 1) c.hex_digit.result ∙ l.invariant.3,
      rw left (ap (digits_onto (48 + l.from - 1) 16 false (l.rest / 16)) written
          ∙ sym (digits_onto_step 16 false l.rest (drop l.from l.digits) (48 + l.from) (omega arith) (omega (arith, c.loop-rest-test.true))) ∙ l.invariant.4),
    )

pub overflow_sub-from-2 : goal.overflow_sub-from-2
overflow_sub-from-2 c = c.loop-rest.invariant.0

pub returns-clause-items : goal.returns-clause-items
returns-clause-items c =
    let l = c.loop-rest in
    let now = slice_set l.digits (l.from - 1) c.hex_digit-2.result in
    let long : length now ≡ 16 = length-set l.digits (l.from - 1) c.hex_digit-2.result ∙ l.invariant.3 in
    let written = drop-set-cons l.digits l.from _ _ l.invariant.0 (omega (arith, l.invariant.1, l.invariant.3)) c.hex_digit-2.ensures in
    let one : l.rest ≡ l.rest % 16 = omega (arith, c.loop-rest-test.false) in
    let whole = take_all (16 - (l.from - 1)) (drop (l.from - 1) now) (omega (arith, long, length-drop (l.from - 1) now)) in
    c.push.ensures.items
    ∙ ap (λ digits. c.args.text.now.items ++ digits)
    (whole ∙ written ∙ ap (λ digit. digit_glyph false digit ∷ drop l.from l.digits) one
    ∙ sym (digits_onto_last 16 false l.rest (drop l.from l.digits) (48 + l.from) (omega arith) (omega (arith, c.loop-rest-test.false))) ∙ l.invariant.4)
