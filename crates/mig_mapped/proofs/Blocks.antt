-- The blocks of a list by their numbers.
use Rattle.std.proofs.Common.{ℕ, ◌≡◌, ◌+◌, ◌<◌, List, [], ◌∷◌, ◌++◌, length, map, get_or, sym, ap, ◌∙◌, arith}
use Rattle.std.proofs.lemmas.List.{get_or_default, get_or-map, get_or_append_left, get_or-append-add}
use Rattle.mig_mem.specs.RamTable.{block}
use Rattle.mig_mapped.specs.Block.{MappedBlock, ram_block, mapped_block}

-- the RAM block with a number
pub block_mapped : (blocks : List MappedBlock) (i : ℕ) → i < length blocks → block (map ram_block blocks) i ≡ ram_block (mapped_block blocks i)
block_mapped blocks i lt = get_or-map ram_block blocks i _ _ lt

-- the block that is looked up
pub block_is : (blocks : List MappedBlock) (i : ℕ) (x : MappedBlock) → i < length blocks → x ≡ get_or blocks i x → mapped_block blocks i ≡ x
block_is blocks i x lt e = get_or_default blocks i (record { id = []; pages = 0; bitmap = []; pages_at = 0 }) x lt ∙ sym e

-- the blocks before the last one
pub before_last : (blocks : List MappedBlock) (b : MappedBlock) (i : ℕ) → i < length blocks → mapped_block (blocks ++ b ∷ []) i ≡ mapped_block blocks i
before_last blocks b i lt = get_or_append_left blocks (b ∷ []) _ i lt

-- and the last one
pub the_last : (blocks : List MappedBlock) (b : MappedBlock) (i : ℕ) → i ≡ length blocks → mapped_block (blocks ++ b ∷ []) i ≡ b
the_last blocks b i e =
    let at : i ≡ length blocks + 0 = omega arith in
    ap (λ (n : ℕ). mapped_block (blocks ++ b ∷ []) n) at ∙ get_or-append-add blocks (b ∷ []) 0 _
