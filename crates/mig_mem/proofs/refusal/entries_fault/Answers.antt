use Rattle.std.proofs.Common.{ℕ, ◌≡◌, ◌∙◌, sym, length, map, take, arith, below_more, None, Some}
use Rattle.mig_mem.specs.RamTable.{entry_block}
use Rattle.mig_mem.specs.Refusal.{block_refusal, entry_refusal}
use Rattle.mig_mem.proofs.Lists.{first_some-at, first_some-none}
use Rattle.mig_mem.proofs.Refusals.{entry_judged}
use Rattle.mig_mem.proofs.refusal.entries_fault.Goals as goal

pub returns-in-Some : goal.returns-in-Some
returns-in-Some g c =
    let list = c.args.list.now in
    let judged = entry_judged list c.loop-i.i c.index-list-i.result c.loop-i-test.true c.index-list-i.is in
    let judged_now : block_refusal (map entry_block (take c.loop-i.i list))
    (record { id = c.index-list-i.result.0.items; pages = c.index-list-i.result.1 }) ≡ Some c.in-Some.fault =
    rw c.deref.ensures.value at (sym c.block_fault.ensures ∙ c.in-Some.is) in
    sym (first_some-at (entry_refusal (map entry_block list)) 0 (length list) c.loop-i.i (omega arith) (omega arith)
    (λ k _ lt. c.loop-i.invariant k lt) c.in-Some.fault
    (judged ∙ judged_now))

pub loop-i-preserved : goal.loop-i-preserved
loop-i-preserved g c =
    let list = c.args.list.now in
    let judged = entry_judged list c.loop-i.i c.index-list-i.result c.loop-i-test.true c.index-list-i.is in
    let judged_now : block_refusal (map entry_block (take c.loop-i.i list))
    (record { id = c.index-list-i.result.0.items; pages = c.index-list-i.result.1 }) ≡ None =
    rw c.deref.ensures.value at (sym c.block_fault.ensures ∙ c.in_default.is) in
    below_more (λ (k : ℕ). entry_refusal (map entry_block list) k ≡ None) c.loop-i.i c.loop-i.invariant (judged ∙ judged_now)

pub returns : goal.returns
returns g c =
    let list = c.args.list.now in
    sym (first_some-none (entry_refusal (map entry_block list)) 0 (length list) (λ k _ lt. c.loop-i.invariant k (omega arith)))
