use Rattle.std.proofs.Common.{ℕ, List, ◌≡◌, ◌∙◌, [], arith, sym, ap, true}
use Rattle.std.specs.Str.{bytes_eq}
use Rattle.mig_mem.specs.RamTable.{Block, block}
use Rattle.mig_mem.proofs.Lists.{position_at, position_past}
use Rattle.mig_mem.proofs.table.Table.find_in_turn.Goals as goal

pub returns-then-eq : goal.returns-then-eq
returns-then-eq g c =
    let test : bytes_eq (block c.args.self.now.blocks c.loop-i.i).id c.args.id.now ≡ true =
    ap (λ (l : List ℕ). bytes_eq l c.args.id.now) (sym c.id.ensures.value) ∙ sym c.eq.ensures ∙ c.if-eq.true in
    sym (position_at (λ (b : Block). bytes_eq b.id c.args.id.now) c.args.self.now.blocks c.loop-i.i
    (record { id = []; pages = 0 }) (omega (arith, c.len-i-end.ensures.value)) c.loop-i.invariant test)

pub returns : goal.returns
returns g c =
    sym (position_past (λ (b : Block). bytes_eq b.id c.args.id.now) c.args.self.now.blocks c.loop-i.i
    (record { id = []; pages = 0 }) (omega (arith, c.len-i-end.ensures.value)) c.loop-i.invariant)
