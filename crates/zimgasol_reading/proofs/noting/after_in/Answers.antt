use Rattle.std.proofs.Common.{◌≡◌, ◌≤◌, ◌-◌, ◌++◌, length, drop, sym, ap, ◌∙◌, arith}
use Rattle.std.proofs.Math.Nat.{min-eq_left}
use Rattle.std.proofs.lemmas.List.{length-append}
use Rattle.zimgasol_reading.proofs.SeenAfter.{drop_both}
use Rattle.zimgasol_reading.proofs.noting.after_in.Goals as goal

pub returns : goal.returns
returns c = λ text is le within.
    let piece = c.args.piece.now in
    let few : c.saturating_sub.result ≤ length piece =
    omega (arith, c.saturating_sub.ensures, is, le, within, length-append text piece) in
    let from : c.min-from.result ≡ c.args.valid - length text =
    c.min-from.ensures ∙ min-eq_left few ∙ c.saturating_sub.ensures ∙ ap (λ n. c.args.valid - n) is in
    c.split_at.ensures.back ∙ ap (λ n. drop n piece) from ∙ sym (drop_both text piece c.args.valid (omega (arith, le, is)))
