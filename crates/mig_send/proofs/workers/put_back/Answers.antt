use Rattle.std.proofs.Common.{◌≡◌, ◌∙◌, [], ◌∷◌, length, sym, ap, subst, arith}
use Rattle.std.specs.Prelude.{reverse}
use Rattle.std.specs.List.{All}
use Rattle.std.proofs.lemmas.List.{reverse-reverse, reverse-append}
use Rattle.std.proofs.lemmas.List.Elements.{All-head, All-tail}
use Rattle.mig_send.specs.Workers.{IsAnswer}
use Rattle.mig_send.proofs.Gathering.{HaveReturned, returned_none, returned_more, returned_all}
use Rattle.mig_send.proofs.workers.put_back.Goals as goal

pub slots-init : goal.slots-init
slots-init g c =
    let slots = c.args.slots.items in
    let back : slots ≡ reverse c.reverse.new.self.items = sym (reverse-reverse slots) ∙ ap reverse (sym c.reverse.ensures.items) in
    let texts = c.args.channels.now in
    let spents = c.args.spents.now in
    record {
      done = subst (All IsAnswer) back c.requires.done;
      returned = returned_none slots c.reverse.new.self.items texts.items spents.items back c.requires.channels.0 c.requires.spents.0;
      room_for_texts = omega (arith, texts.ok.0, ap length c.requires.channels.0, c.requires.channels.1, c.reverse.ensures.len);
      room_for_seats = omega (arith, spents.ok.0, ap length c.requires.spents.0, c.requires.spents.1, c.reverse.ensures.len);
    }

pub slots-preserved : goal.slots-preserved
slots-preserved g c =
    let before = c.slots.invariant in
    let left = c.pop.new.self.items in
    let slot = c.in-Some.slot in
    let answers = subst (All IsAnswer) (ap reverse c.in-Some.ensures.items ∙ reverse-append left (slot ∷ [])) before.done in
    record {
      done = All-tail IsAnswer slot (reverse left) answers;
      returned = returned_more c.args.slots.items left c.slots.channels.items c.put.new.list.items c.slots.spents.items c.put-in-Done.new.list.items
          c.slots.all_made c.both-all_made.result slot c.in-Done.written c.in-Done.is
          (subst (λ l. HaveReturned c.args.slots.items l c.slots.channels.items c.slots.spents.items c.slots.all_made)
          c.in-Some.ensures.items before.returned) c.put.ensures.items c.put-in-Done.ensures.items c.both-all_made.ensures;
      room_for_texts = omega (arith, before.room_for_texts, c.in-Some.ensures.len, c.put.ensures.len, c.put.ensures.capacity);
      room_for_seats = omega (arith, before.room_for_seats, c.in-Some.ensures.len, c.put-in-Done.ensures.len, c.put-in-Done.ensures.capacity);
    }

pub unreachable-requires : goal.unreachable-requires
unreachable-requires g c =
    let left = c.pop.new.self.items in
    let slot = c.in-Some.slot in
    subst IsAnswer c.in-Waiting.is
    (All-head IsAnswer slot (reverse left) (subst (All IsAnswer) (ap reverse c.in-Some.ensures.items ∙ reverse-append left (slot ∷ [])) c.slots.invariant.done))

pub unreachable-requires-in-Running : goal.unreachable-requires-in-Running
unreachable-requires-in-Running g c =
    let left = c.pop.new.self.items in
    let slot = c.in-Some.slot in
    subst IsAnswer c.in-Running.is
    (All-head IsAnswer slot (reverse left) (subst (All IsAnswer) (ap reverse c.in-Some.ensures.items ∙ reverse-append left (slot ∷ [])) c.slots.invariant.done))

pub returns : goal.returns
returns g c =
    let all = returned_all c.args.slots.items c.slots.slots.items c.slots.channels.items c.slots.spents.items c.slots.all_made c.slots.invariant.returned
    (omega (arith, c.slots.slots.ok.0, c.in_default.ensures.cases.0)) in
    record { texts = all.0; spents = all.1; made = all.2 }
