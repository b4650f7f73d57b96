use Rattle.std.proofs.Common.{◌≡◌, true, get_or, length, take, Some, sym, ap, ◌∙◌, subst, arith}
use Rattle.std.specs.Char.{is_ascii_digit}
use Rattle.std.specs.Str.Parse.{AllDigits, digits_value}
use Rattle.std.proofs.lemmas.Bool.{eqb-false}
use Rattle.std.proofs.lemmas.List.{take_all}
use Rattle.mig_scenario.proofs.Numbers.{room, digit_below, one_digit_more, number_of_digits}
use Rattle.mig_scenario.proofs.line.number.Goals as goal

pub overflow_mul-value : goal.overflow_mul-value
overflow_mul-value c =
    let l = c.loop-digit in
    omega (arith, room c.args.word.now l.digit-index c.loop-digit-test.true (omega arith) l.invariant.digits)

pub overflow_add-value : goal.overflow_add-value
overflow_add-value c =
    let byte = get_or c.args.word.now c.loop-digit.digit-index 0 in
    let is : is_ascii_digit byte ≡ true = sym c.is_ascii_digit.ensures.value ∙ c.if-not-is_ascii_digit.false in
    let l = c.loop-digit in
    omega (arith, digit_below byte is, room c.args.word.now l.digit-index c.loop-digit-test.true (omega arith) l.invariant.digits)

pub loop-digit-preserved : goal.loop-digit-preserved
loop-digit-preserved c =
    let byte = get_or c.args.word.now c.loop-digit.digit-index 0 in
    let is : is_ascii_digit byte ≡ true = sym c.is_ascii_digit.ensures.value ∙ c.if-not-is_ascii_digit.false in
    let more = one_digit_more c.args.word.now c.loop-digit.digit-index c.loop-digit-test.true c.loop-digit.invariant.digits is in
    record { digits = more.0; value = omega (arith, more.1) }

pub returns : goal.returns
returns c =
    let word = c.args.word.now in
    let all : take c.loop-digit.digit-index word ≡ word = take_all c.loop-digit.digit-index word (omega arith) in
    let digits : AllDigits 10 word = subst (λ w. AllDigits 10 w) all c.loop-digit.invariant.digits in
    let value : c.loop-digit.value ≡ digits_value 10 word = c.loop-digit.invariant.value ∙ ap (λ w. digits_value 10 w) all in
    let some = eqb-false (length word) 0 (sym c.is_empty.ensures ∙ c.if-is_empty.false) in
    ap Some value ∙ sym (number_of_digits word (omega arith) (omega arith) digits)
