use Rattle.std.proofs.Common.{◌≡◌, ◌∙◌, ◌++◌, ◌*◌, ◌<◌, ◌^◌, ◌∷◌, [], ℕ, Bool, List, true, false, not, length, take, get_or, sym, ap, arith}
use Rattle.std.specs.Prelude.{zip}
use Rattle.std.proofs.lemmas.List.{take_all}
use Rattle.std.proofs.lemmas.Slice.Zip.{length-zip, get_or-zip}
use Rattle.mig_send.specs.Heads.{zeros_at, others_at}
use Rattle.mig_send.proofs.Packing.{page_offset_fits}
use Rattle.mig_send.proofs.Heads.{flag_passes, flag_fails}
use Rattle.mig_send.proofs.packed.put_flagged.Goals as goal

pub overflow_mul-offset : goal.overflow_mul-offset
overflow_mul-offset g c =
    let fits : get_or c.args.pages.now c.loop-i.i 0 * c.page_size-page_size.result < 2 ^ 64 =
    rw c.page_size-page_size.ensures (page_offset_fits c.args.table.now c.args.block c.args.pages.now c.loop-i.i c.requires.table
    c.requires.places c.loop-i-test.true) in
    omega (arith, fits)

pub loop-i-preserved-then-zeros-i : goal.loop-i-preserved-then-zeros-i
loop-i-preserved-then-zeros-i g c =
    let i = c.loop-i.i in
    let size = c.args.table.now.page_size in
    let pages : List (ℕ × Bool) = zip c.args.pages.now c.args.zeros.now in
    let page : ℕ = get_or c.args.pages.now i 0 in
    let flag : Bool = get_or c.args.zeros.now i false in
    let below : i < length c.args.zeros.now = omega (arith, c.loop-i-test.true, c.requires.zeros) in
    let within : i < length pages = (let e = length-zip c.args.pages.now c.args.zeros.now in omega (arith, e, c.loop-i-test.true, below)) in
    let is : get_or pages i (0, false) ≡ (page, flag) = get_or-zip c.args.pages.now c.args.zeros.now i (0, false) c.loop-i-test.true below in
    let zero : flag ≡ true = c.if-zeros-i.true in
    record {
      normal = c.loop-i.invariant.normal ∙ sym (flag_fails (λ p. not p.1) size pages i page flag within is (ap not zero));
      zero = c.in_ok-push.ensures.items ∙ ap (λ (l : List ℕ). l ++ (page * c.page_size-page_size.result) ∷ []) c.loop-i.invariant.zero
          ∙ ap (λ (k : ℕ). zeros_at size (take i pages) ++ (page * k) ∷ []) c.page_size-page_size.ensures
          ∙ sym (flag_passes (λ p. p.1) size pages i page flag within is zero);
    }

pub loop-i-preserved : goal.loop-i-preserved
loop-i-preserved g c =
    let i = c.loop-i.i in
    let size = c.args.table.now.page_size in
    let pages : List (ℕ × Bool) = zip c.args.pages.now c.args.zeros.now in
    let page : ℕ = get_or c.args.pages.now i 0 in
    let flag : Bool = get_or c.args.zeros.now i false in
    let below : i < length c.args.zeros.now = omega (arith, c.loop-i-test.true, c.requires.zeros) in
    let within : i < length pages = (let e = length-zip c.args.pages.now c.args.zeros.now in omega (arith, e, c.loop-i-test.true, below)) in
    let is : get_or pages i (0, false) ≡ (page, flag) = get_or-zip c.args.pages.now c.args.zeros.now i (0, false) c.loop-i-test.true below in
    let other : flag ≡ false = c.if-zeros-i.false in
    record {
      normal = c.in_ok-push-2.ensures.items ∙ ap (λ (l : List ℕ). l ++ (page * c.page_size-page_size.result) ∷ []) c.loop-i.invariant.normal
          ∙ ap (λ (k : ℕ). others_at size (take i pages) ++ (page * k) ∷ []) c.page_size-page_size.ensures
          ∙ sym (flag_passes (λ p. not p.1) size pages i page flag within is (ap not other));
      zero = c.loop-i.invariant.zero ∙ sym (flag_fails (λ p. p.1) size pages i page flag within is other);
    }

pub returns-clause-normal : goal.returns-clause-normal
returns-clause-normal g c =
    let pages : List (ℕ × Bool) = zip c.args.pages.now c.args.zeros.now in
    c.loop-i.invariant.normal ∙ ap (others_at c.args.table.now.page_size)
    (take_all c.loop-i.i pages (let e = length-zip c.args.pages.now c.args.zeros.now in omega (arith, e, c.loop-i-test.false)))

pub returns-clause-zero : goal.returns-clause-zero
returns-clause-zero g c =
    let pages : List (ℕ × Bool) = zip c.args.pages.now c.args.zeros.now in
    c.loop-i.invariant.zero ∙ ap (zeros_at c.args.table.now.page_size)
    (take_all c.loop-i.i pages (let e = length-zip c.args.pages.now c.args.zeros.now in omega (arith, e, c.loop-i-test.false)))
