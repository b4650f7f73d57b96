use Rattle.std.proofs.Common.{◌≡◌, ◌*◌, ◌/◌, length, sym, rules}
use Rattle.std.proofs.lemmas.List.Elements.{All-drop, All-same}
use Rattle.mig_zero.specs.Zero.{IsZero}
use Rattle.mig_zero.proofs.Blocks.{zero_from_blocks, blocks_from_zero}
use Rattle.mig_zero.proofs.is_zero.Goals as goal

pub returns-then-are_zero_blocks : goal.returns-then-are_zero_blocks
returns-then-are_zero_blocks c =
    let xs = c.args.bytes.now in
    let n = length xs / 256 in
    let cut = c.as_chunks.ensures in (
      (λ yes. zero_from_blocks 256 n xs (All-same IsZero _ _ (sym cut.front)
          (c.are_zero_blocks.ensures.0 c.if-are_zero_blocks.true)) (All-same (λ b. b ≡ 0) _ _ (sym cut.back) (c.is_zero_plain.ensures.0 yes))),
      (λ all. c.is_zero_plain.ensures.1 (All-same (λ b. b ≡ 0) _ _ cut.back (All-drop (λ b. b ≡ 0) (n * 256) xs all))),
    )

pub returns-else-are_zero_blocks : goal.returns-else-are_zero_blocks
returns-else-are_zero_blocks c =
    let xs = c.args.bytes.now in (
      (λ yes. absurd (search rules)),
      (λ all. c.are_zero_blocks.ensures.1 (All-same IsZero _ _ c.as_chunks.ensures.front (blocks_from_zero 256 (length xs / 256) xs all))),
    )
