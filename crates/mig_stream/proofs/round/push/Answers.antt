use Rattle.std.proofs.Common.{◌≡◌, ◌++◌, ◌∷◌, [], sym, ap, subst, ◌∙◌}
use Rattle.mig_stream.specs.Kept.{records_after, AreHeldAfter}
use Rattle.mig_stream.proofs.Keeping.{records_push, held_push}
use Rattle.mig_stream.proofs.round.push.Goals as goal

pub returns-clause-held : goal.returns-clause-held
returns-clause-held g c =
    let is : c.push_reserved.new.self.items ≡ c.args.records.now.items ++ c.args.item ∷ [] = c.push_reserved.ensures.items
    ∙ ap (λ l. l ++ c.args.item ∷ []) c.make_room.ensures.items in
    subst (λ l. AreHeldAfter [] l) (sym is) (held_push [] c.args.records.now.items c.args.item c.requires.records c.requires.item)

pub returns-clause-ok : goal.returns-clause-ok
returns-clause-ok g c =
    let is : c.push_reserved.new.self.items ≡ c.args.records.now.items ++ c.args.item ∷ [] = c.push_reserved.ensures.items
    ∙ ap (λ l. l ++ c.args.item ∷ []) c.make_room.ensures.items in
    ap (λ l. records_after [] l) is ∙ records_push [] c.args.records.now.items c.args.item
