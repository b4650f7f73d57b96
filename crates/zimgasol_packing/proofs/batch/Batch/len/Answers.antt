use Rattle.std.proofs.Common.{rules, ◌≡◌, length, arith}
use Rattle.zimgasol_packing.proofs.Steps.{pages_counted}
use Rattle.zimgasol_packing.proofs.batch.Batch.len.Goals as goal

pub returns : goal.returns
returns c = λ size pages has low.
    let a : c.len.result ≡ length c.args.self.now.normal.items = search rules in
    let b : c.len-2.result ≡ length c.args.self.now.zeros.items = search rules in
    omega (arith, a, b, c.saturating_add.ensures, pages_counted size c.args.self.now pages has, low)
