use Rattle.std.proofs.Common.{arith}
use Rattle.mig_xbzrle.proofs.Turns.{turn}
use Rattle.mig_xbzrle.proofs.judge.Goals as goal

pub overflow_add-from : goal.overflow_add-from
overflow_add-from c =
    let i = c.runs.invariant in
    let w = (turn c.args.size c.args.delta.now i.0 c.runs.rest.now c.runs.from _ _ _ i.1 i.2 c.saturating_sub.ensures c.in_ok-run.ensures).within in
    omega (arith, w)

pub overflow_add-from-in-runs : goal.overflow_add-from-in-runs
overflow_add-from-in-runs c =
    let i = c.runs.invariant in
    let w = (turn c.args.size c.args.delta.now i.0 c.runs.rest.now c.runs.from _ _ _ i.1 i.2 c.saturating_sub.ensures c.in_ok-run.ensures).within in
    omega (arith, w)

pub runs-smaller : goal.runs-smaller
runs-smaller c =
    let i = c.runs.invariant in
    (turn c.args.size c.args.delta.now i.0 c.runs.rest.now c.runs.from _ _ _ i.1 i.2 c.saturating_sub.ensures c.in_ok-run.ensures).shorter

pub runs-preserved : goal.runs-preserved
runs-preserved c =
    let i = c.runs.invariant in
    let t = turn c.args.size c.args.delta.now i.0 c.runs.rest.now c.runs.from _ _ _ i.1 i.2 c.saturating_sub.ensures c.in_ok-run.ensures in
    (_, t.front, t.reaches)
