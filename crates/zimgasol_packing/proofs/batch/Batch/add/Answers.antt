use Rattle.std.proofs.Common.{◌≡◌, ◌++◌, List, ℕ, true, false, refl, ap, sym, ◌∙◌}
use Rattle.mig_zero.specs.Zero.{is_zero}
use Rattle.mig_zero.proofs.Zeros.{zero_test}
use Rattle.zimgasol_packing.proofs.Steps.{zero_added, normal_added}
use Rattle.zimgasol_packing.proofs.batch.Batch.add.Goals as goal

pub returns-then-is_zero-clause-pages : goal.returns-then-is_zero-clause-pages
returns-then-is_zero-clause-pages c = λ size pages page at content had.
    let z : is_zero page.content ≡ true =
    ap (λ (l : List ℕ). is_zero l) content ∙ sym (zero_test c.args.content.now c.is_zero.result c.is_zero.ensures) ∙ c.if-is_zero.true in
    zero_added size c.args.offset c.args.self.now _ pages page z at refl refl c.in_ok-push.ensures.items had

pub returns-clause-pages : goal.returns-clause-pages
returns-clause-pages c = λ size pages page at content had.
    let z : is_zero page.content ≡ false =
    ap (λ (l : List ℕ). is_zero l) content ∙ sym (zero_test c.args.content.now c.is_zero.result c.is_zero.ensures) ∙ c.if-is_zero.false in
    normal_added size c.args.offset c.args.self.now _ pages page z at c.in_ok-push-2.ensures.items
    (c.in_ok-extend_from_slice.ensures.items ∙ ap (λ (l : List ℕ). c.args.self.now.contents.items ++ l) (sym content)) refl had
