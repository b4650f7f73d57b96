use Rattle.std.proofs.Common.{◌≡◌, ◌++◌, ◌∙◌, length, sym, ap, subst, map, refl, arith}
use Rattle.std.specs.Prelude.{reverse}
use Rattle.std.specs.List.{All}
use Rattle.std.proofs.lemmas.List.{reverse-reverse}
use Rattle.std.proofs.lemmas.List.Elements.{All-push}
use Rattle.mig_deal.specs.Deal.{SeatView, new_seat}
use Rattle.mig_send.specs.declared.workers.Slot.TheVariants.{Waiting}
use Rattle.mig_send.specs.MultiSending.{texts_of}
use Rattle.mig_send.specs.Workers.{IsReady, slot_text}
use Rattle.mig_send.proofs.Gathering.{all_front, all_end, seated_more}
use Rattle.mig_send.proofs.workers.seat_all.Goals as goal

pub texts-init : goal.texts-init
texts-init g c =
    let olds = c.args.channels.now.items in
    let slots = c.args.slots.now in
    let left = c.reverse.new.self.items in
    let none = c.requires.room.0 in
    let long = c.reverse.ensures.len in
    record {
      new = c.requires.new;
      ready = λ i d lt. absurd (omega (arith, lt, ap length none));
      texts = ap texts_of (sym (reverse-reverse olds) ∙ ap reverse (sym c.reverse.ensures.items))
          ∙ ap (λ l. map slot_text l ++ texts_of (reverse left)) (sym none);
      as_many = c.requires.as_many ∙ sym long;
      count = omega (arith, slots.ok.0, ap length none, long);
      room = omega (arith, slots.ok.0, ap length none, long, c.requires.room.1, c.requires.as_many);
      capacity = c.reverse.ensures.capacity;
    }

pub texts-preserved : goal.texts-preserved
texts-preserved g c =
    let before = c.texts.invariant in
    let P = λ (seat : SeatView). seat ≡ new_seat c.args.deal.now in
    let seats = subst (All P) c.in-Some-pop.ensures.items before.new in
    let left = c.pop-in-Some.new.self.items in
    let slot = Waiting c.in-Some-pop.seat c.in-Some.text in
    record {
      new = all_front P left c.in-Some-pop.seat seats;
      ready = subst (All (IsReady c.args.deal.now)) (sym c.put.ensures.items)
          (All-push (IsReady c.args.deal.now) c.texts.slots.items slot before.ready (all_end P left c.in-Some-pop.seat seats));
      texts = seated_more (texts_of c.args.channels.now.items) c.texts.slots.items c.put.new.list.items c.texts.channels.items
          c.pop.new.self.items slot c.in-Some.text
          before.texts c.in-Some.ensures.items c.put.ensures.items refl;
      as_many = omega (arith, before.as_many, c.in-Some.ensures.len, c.in-Some-pop.ensures.len);
      count = omega (arith, before.count, c.in-Some.ensures.len, c.put.ensures.len);
      room = omega (arith, before.room, c.in-Some.ensures.len, c.put.ensures.len, c.put.ensures.capacity);
      capacity = c.in-Some.ensures.capacity ∙ before.capacity;
    }
