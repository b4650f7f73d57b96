use Rattle.std.proofs.Common.{ℕ, ◌≡◌, ◌+◌, ◌++◌, ◌∙◌, List, length, set, ap, arith}
use Rattle.std.proofs.lemmas.List.{with_items_is, set-append_right}
use Rattle.mig_mem.proofs.parts.append_with.Goals as goal

pub returns-clause-items : goal.returns-clause-items
returns-clause-items g c =
    let old = c.args.kept.now in
    let new = c.write_item.new.items in
    let is : new ≡ set (old.items ++ c.args.more.now) (c.len.result + c.args.offset) c.args.item =
    c.write_item.ensures ∙ ap (λ (l : List g.row.T.Denot). set l (c.len.result + c.args.offset) c.args.item)
    (c.deref_mut.ensures.value ∙ c.append.ensures.items) in
    let len : length new ≡ c.append.new.kept.len = c.write_item.auto.items ∙ c.deref_mut.ensures.len in
    with_items_is c.append.new.kept new len ∙ is
    ∙ set-append_right old.items c.args.more.now c.len.result (c.len.result + c.args.offset) c.args.item (omega (arith, old.ok.0, c.len.ensures)) (omega arith)
    ∙ ap (λ (i : ℕ). old.items ++ set c.args.more.now i c.args.item) (omega arith)
