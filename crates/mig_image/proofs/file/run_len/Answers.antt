use Rattle.std.proofs.Common.{ℕ, ◌≤◌, List, length, arith}
use Rattle.mig_image.proofs.Runs.{of_kind, rest_after, zeros_after}
use Rattle.mig_image.proofs.file.run_len.Goals as goal

pub loop-page-preserved : goal.loop-page-preserved
loop-page-preserved c =
    let bytes : List ℕ = c.args.bytes.now in
    let rest : List ℕ = c.loop-page.rest.now in
    let page : List ℕ = c.split_at.result.0.now in
    let after : List ℕ = c.split_at.result.1.now in
    let within = c.loop-page.invariant.0 in
    let fits : c.min.result ≤ length rest = omega (arith, c.min.ensures) in
    let both = rest_after bytes rest after c.min.result within fits c.loop-page.invariant.1 c.split_at.ensures.back in (
      both.0,
      both.1,
      λ zeros. zeros_after bytes rest page after c.min.result within fits c.loop-page.invariant.1 c.split_at.ensures.front c.split_at.ensures.back
          (c.loop-page.invariant.2 zeros) (c.is_zero.ensures.0 (of_kind c.is_zero.result c.args.of_zeros c.if-is_zero-of_zeros.false zeros)),
    )
