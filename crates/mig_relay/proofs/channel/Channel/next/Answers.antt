use Rattle.std.proofs.Common.{◌≡◌, sym, ap, ◌∙◌, subst, refl, Bool, List, [], ◌∷◌, ◌++◌}
use Rattle.crossbeam_channel.specs.Claims.{view}
use Rattle.mig_relay.specs.declared.item.Item.{Item}
use Rattle.mig_relay.specs.Ends.{IsCollecting}
use Rattle.mig_relay.proofs.Ends.{lies, collects, takes, is_through}
use Rattle.mig_relay.proofs.channel.Channel.next.Goals as goal

pub returns-then-self-clause-ok : goal.returns-then-self-clause-ok
returns-then-self-clause-ok g c = (refl, is_through _ _ _ _ _ _ _ _ c.self.view_is c.self.invariant.1 c.if-self.true)

pub item_of-requires-clause-lies : goal.item_of-requires-clause-lies
item_of-requires-clause-lies g c =
    lies c.self.inside.page_size c.self.inside.waiting c.self.inside.text.now c.self.inside.items.items c.self.inside.over
    (view c.self.inside.pass) c.pop-message.result c.self.invariant.1 c.pop-message.ensures.next

pub invariant_of-self-2 : goal.invariant_of-self-2
invariant_of-self-2 g c =
    let e : c.push_reserved.new.self.items ≡ c.self.inside.items.items ++ c.item_of.result ∷ [] =
    c.push_reserved.ensures.items ∙ ap (λ (l : List Item). l ++ c.item_of.result ∷ []) c.reserve.ensures.items in (
      c.pop-message.ensures.seat.0,
      subst (λ (q : List Item × Bool). IsCollecting c.self.inside.page_size c.self.inside.waiting c.self.inside.text.now q.0 q.1 (view c.pop-message.new.pass))
          (λ i. (sym e i, sym c.is_stop-self-inside.ensures i))
          (collects _ _ _ _ _ (view c.self.inside.pass) _ _ _ c.self.invariant.1 c.pop-message.ensures.next
          c.pop-message.ensures.popped c.item_of.ensures.piece c.item_of.ensures.page_size),
    )

pub returns-clause-ok : goal.returns-clause-ok
returns-clause-ok g c =
    takes (view c.self.inside.pass) (view c.pop-message.new.pass) _ _ _ _ c.self.view_is c.pop-message.ensures.seat.1
    c.pop-message.ensures.next c.pop-message.ensures.popped
