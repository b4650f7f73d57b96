use Rattle.std.proofs.Common.{◌≡◌, ◌∙◌, ℕ, false, length, sym, ap, arith}
use Rattle.std.specs.Str.{bytes_eq}
use Rattle.std.proofs.lemmas.Bool.{false≢true, not-true}
use Rattle.std.proofs.lemmas.Slice.Eq.{bytes_eq-Decides}
use Rattle.mig_mem.specs.RamTable.{Block, RamTable, block}
use Rattle.mig_mapped.proofs.load.is_next_own.Goals as goal
use Rattle.mig_mapped.proofs.load.is_next_own.Goals.{then-block-len-via-then-block-len, then-block-len-via-else-block-len+then-ne}

pub returns-then-block-len : goal.returns-then-block-len
returns-then-block-len g c =
    let table : RamTable = (g.M.GuestTarget.image c.args.memory.now).table in (
      λ t. absurd (false≢true t),
      λ own. elim c.then-block-len.branch [
        | then-block-len-via-then-block-len w ↦
            absurd (omega (
              arith,
              own.has_room,
              w.if-block-len.true,
              c.len.ensures.value,
              c.len-block.ensures,
              ap (λ (t : RamTable). length t.blocks) c.table-table.ensures.value,
            ))
        | then-block-len-via-else-block-len+then-ne w ↦
            let same : w.id.result.now ≡ w.id_in.result.now =
            w.id.ensures.value ∙ ap (λ (t : RamTable). (block t.blocks c.len-block.result).id) c.table-table.ensures.value
            ∙ ap (λ (k : ℕ). (block table.blocks k).id) c.len-block.ensures ∙ ap (λ (b : Block). b.id) own.same_block ∙ sym w.id_in.ensures in
            let fails : bytes_eq w.id.result.now w.id_in.result.now ≡ false = not-true _ (sym w.ne.ensures ∙ w.if-ne.true) in
            absurd (false≢true (sym fails ∙ (bytes_eq-Decides w.id.result.now w.id_in.result.now).1 same))
      ],
    )
