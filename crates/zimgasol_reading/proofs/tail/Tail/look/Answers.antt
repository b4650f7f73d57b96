use Rattle.std.proofs.Common.{rules, ℕ, ◌≡◌, ◌<◌, ◌+◌, ◌^◌, ◌∙◌, List, ◌++◌, length, replicate, sym, ap, refl, arith}
use Rattle.std.proofs.lemmas.List.{length-append, nil_from_length}
use Rattle.zimgasol_reading.specs.TailSeen.{IsWindow}
use Rattle.zimgasol_reading.specs.declared.tail.Tail.{Tail}
use Rattle.zimgasol_reading.proofs.TailLooked.{length-seen, looked, looked_zeros}
use Rattle.zimgasol_reading.proofs.tail.Tail.look.Goals as goal

pub returns-then-is_empty-clause-seen : goal.returns-then-is_empty-clause-seen
returns-then-is_empty-clause-seen c = λ text small seen.
    let old : Tail = c.args.self.now in
    let new : Tail = record { is_checked = old.is_checked; first = c.first_of-self.result; window = old.window; zeros = c.saturating_add-self.result } in
    let none : length c.split_zeros.result.0.now ≡ 0 = search rules in
    looked_zeros text c.args.piece.now c.split_zeros.result.0.now c.split_zeros.result.1.now old new small seen c.split_zeros.ensures.split
    (nil_from_length c.split_zeros.result.0.now none) c.split_zeros.ensures.zeros refl (c.first_of-self.ensures text seen.has_first) refl (search rules)

pub returns-clause-seen : goal.returns-clause-seen
returns-clause-seen c = λ text small seen.
    let old : Tail = c.args.self.now in
    let piece : List ℕ = c.args.piece.now in
    let bytes : List ℕ = c.split_zeros.result.0.now in
    let zeros : List ℕ = c.split_zeros.result.1.now in
    let new : Tail = record { is_checked = old.is_checked; first = c.first_of-self.result; window = c.take.new.self; zeros = length zeros } in
    let count : length text + length piece < 2 ^ 63 = omega (arith, small, length-append text piece) in
    let parts : length piece ≡ length bytes + length zeros = ap (λ (l : List ℕ). length l) c.split_zeros.ensures.split ∙ length-append bytes zeros in
    let were : List ℕ = seen.before ++ replicate old.zeros 0 in
    let before : length were ≡ length text = sym (ap (λ (l : List ℕ). length l) seen.is_text) in
    let after : length (were ++ bytes) < 2 ^ 63 = omega (arith, count, parts, before, length-append were bytes) in
    let zeroed : IsWindow were c.take_zeros.new.self =
    c.in_ok-take_zeros.ensures seen.before (omega (arith, count, length-seen text old seen)) seen.has_window in
    looked text piece bytes zeros old new seen c.split_zeros.ensures.split c.split_zeros.ensures.zeros refl (c.first_of-self.ensures text seen.has_first)
    (c.in_ok-take.ensures were after zeroed) refl
