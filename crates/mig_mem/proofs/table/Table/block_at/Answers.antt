use Rattle.std.proofs.Common.{◌≡◌, ◌∙◌, sym, arith}
use Rattle.std.proofs.lemmas.Slice.Eq.{bytes_eq-Decides}
use Rattle.mig_mem.proofs.Blocks.{block_found}
use Rattle.mig_mem.proofs.table.Table.block_at.Goals as goal

pub returns-then-eq : goal.returns-then-eq
returns-then-eq g c =
    let i = c.in_ok-i.field-0.now.block in
    let same : c.id.result.now ≡ c.args.id.now = (bytes_eq-Decides c.id.result.now c.args.id.now).0 (sym c.eq.ensures ∙ c.if-eq.true) in
    block_found c.args.self.now i c.args.id.now c.len.ensures.table (omega (arith, c.len.ensures.value)) (sym c.id.ensures.value ∙ same)
