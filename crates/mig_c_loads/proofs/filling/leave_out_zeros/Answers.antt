use Rattle.std.proofs.Common.{ℕ, ◌≡◌, ◌+◌, ◌<◌, ◌∙◌, length, get_or, refl, sym, arith, rules}
use Rattle.mig_c_loads.specs.declared.claimed_pages.ClaimedPages.{ClaimedPages}
use Rattle.mig_c_loads.proofs.LeftOut.{left_more, left_as_it_is}
use Rattle.mig_c_loads.proofs.filling.leave_out_zeros.Goals.{then-has, else-has}
use Rattle.mig_c_loads.proofs.filling.leave_out_zeros.Goals as goal

pub zeros-preserved : goal.zeros-preserved
zeros-preserved c =
    let all : ClaimedPages = c.args.seen.now in
    let page : ℕ = get_or all.pages (all.normal + c.zeros.i) 0 in
    elim c.if-has.branch [
      | then-has w ↦
          let long : length all.pages ≡ 128 = search rules in
          let few = c.zeros.invariant.few in
          let room : all.normal + c.zeros.left < length all.pages = omega (arith, long, few, c.requires, c.zeros-test.true) in
          rw (w.seen-is, w.left-is)
          (left_more c.args.filled.now c.args.block all all c.zeros.seen c.zeros.left c.zeros.i page
          (all.normal + c.zeros.left) c.zeros.invariant refl refl room (sym c.has.ensures ∙ w.if-has.true))
      | else-has w ↦
          rw (w.seen-is, w.left-is)
          (left_as_it_is c.args.filled.now c.args.block all all c.zeros.seen c.zeros.left c.zeros.i page c.zeros.invariant refl
          (sym c.has.ensures ∙ w.if-has.false))
    ]
