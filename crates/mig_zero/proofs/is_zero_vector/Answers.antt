use Rattle.std.proofs.Common.{ℕ, ◌==◌, not, ap, sym, ◌∙◌, arith, w8}
use Rattle.std.proofs.lemmas.Bool.{eqb-true}
use Rattle.std.proofs.lemmas.Simd.{bitmask_splat, length-chunk}
use lib.Lanes.{chunk}
use Rattle.mig_zero.proofs.Vectors.{zero_from_empty_mask, empty_mask_from_zero}
use Rattle.mig_zero.proofs.is_zero_vector.Goals as goal

pub returns : goal.returns
returns c =
    let xs = c.args.bytes.now in
    let at = c.args.at in
    let mask = bitmask_splat w8 (λ a b. not (a == b)) (chunk at 64 xs) 64 0 (length-chunk at 64 xs c.requires) (omega arith) in (
      (λ yes. zero_from_empty_mask xs at 64 c.requires (sym mask ∙ eqb-true _ 0 yes)),
      (λ all. ap (λ (m : ℕ). m == 0) (mask ∙ empty_mask_from_zero xs at 64 c.requires all)),
    )
