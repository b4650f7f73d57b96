use Rattle.std.proofs.Common.{length, arith}
use Rattle.mig_xbzrle.proofs.Fronts.{faultless}
use Rattle.mig_xbzrle.proofs.Turns.{not_empty, turn, fault_first, apply_turn}
use Rattle.mig_xbzrle.proofs.apply.Goals as goal

pub returns-in_default : goal.returns-in_default
returns-in_default c =
    let i = c.runs.invariant in
    let some = not_empty _ (length c.runs.rest.now) c.is_empty.ensures c.runs-test.true in
    let first = fault_first (length c.runs.page) c.args.delta.now i.0 c.runs.rest.now c.runs.from _ c.in_default.field-0
    i.1 i.2 c.saturating_sub.ensures some c.in_default.ensures in
    absurd (faultless (length c.runs.page) c.args.delta.now c.requires.0 c.in_default.field-0 c.requires.1 (rw c.runs.auto.page c.requires.2) first)

pub overflow_add-from : goal.overflow_add-from
overflow_add-from c =
    let i = c.runs.invariant in
    let w = (turn (length c.runs.page) c.args.delta.now i.0 c.runs.rest.now c.runs.from _ _ _ i.1 i.2 c.saturating_sub.ensures c.in-Ok.ensures).within in
    omega (arith, w)

pub write-requires : goal.write-requires
write-requires c =
    let i = c.runs.invariant in
    let w = (turn (length c.runs.page) c.args.delta.now i.0 c.runs.rest.now c.runs.from _ _ _ i.1 i.2 c.saturating_sub.ensures c.in-Ok.ensures).within in
    omega (arith, w)

pub overflow_add-from-in-runs-2 : goal.overflow_add-from-in-runs-2
overflow_add-from-in-runs-2 c =
    let i = c.runs.invariant in
    let w = (turn (length c.runs.page) c.args.delta.now i.0 c.runs.rest.now c.runs.from _ _ _ i.1 i.2 c.saturating_sub.ensures c.in-Ok.ensures).within in
    omega (arith, w)

pub runs-smaller : goal.runs-smaller
runs-smaller c =
    let i = c.runs.invariant in
    (turn (length c.runs.page) c.args.delta.now i.0 c.runs.rest.now c.runs.from _ _ _ i.1 i.2 c.saturating_sub.ensures c.in-Ok.ensures).shorter

pub runs-preserved : goal.runs-preserved
runs-preserved c =
    let i = c.runs.invariant in
    apply_turn c.args.page.now c.runs.page c.write.new.page c.args.delta.now i.0 c.runs.rest.now c.runs.from _ _ _
    i.1 i.2 i.3 c.saturating_sub.ensures c.in-Ok.ensures c.write.ensures
