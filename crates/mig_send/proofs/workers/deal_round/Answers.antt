use Rattle.std.proofs.Common.{◌≡◌, length, sym, subst, arith}
use Rattle.std.specs.List.{AllZip}
use Rattle.std.proofs.lemmas.List.{length-map}
use Rattle.std.proofs.lemmas.Slice.Zip.{AllZip-long}
use Rattle.mig_send.specs.Packing.{IsPrefix}
use Rattle.mig_send.specs.MultiSending.{texts_of}
use Rattle.mig_send.specs.Workers.{IsDone, HasSpent}
use Rattle.mig_send.proofs.Gathering.{shared, carried, own_spents, same_texts, all_answers}
use Rattle.mig_send.proofs.workers.deal_round.Goals as goal

pub returns-in_err-slots-clause-prefix : goal.returns-in_err-slots-clause-prefix
returns-in_err-slots-clause-prefix g c = same_texts (texts_of c.args.channels.now.items)

pub returns-in_default-clause-prefix : goal.returns-in_default-clause-prefix
returns-in_default-clause-prefix g c = same_texts (texts_of c.args.channels.now.items)

pub returns-in_default-new-clause-prefix : goal.returns-in_default-new-clause-prefix
returns-in_default-new-clause-prefix g c = same_texts (texts_of c.args.channels.now.items)

pub put_back-made-requires-clause-done : goal.put_back-made-requires-clause-done
put_back-made-requires-clause-done g c =
    let deal = c.in-Ok-new.deal in
    let image = g.M.GuestPages.image c.args.memory.now in
    let olds = texts_of c.args.channels.now.items in
    let done = subst (λ l. AllZip (IsDone deal image c.args.batches.now) l c.run_slots.new.slots.items) c.seat_all.ensures.texts c.run_slots.ensures.done in
    all_answers deal image c.args.batches.now olds c.run_slots.new.slots.items done

pub close-next-requires-clause-own : goal.close-next-requires-clause-own
close-next-requires-clause-own g c =
    let deal = c.in-Ok-new.deal in
    let image = g.M.GuestPages.image c.args.memory.now in
    let olds = texts_of c.args.channels.now.items in
    let done = subst (λ l. AllZip (IsDone deal image c.args.batches.now) l c.run_slots.new.slots.items) c.seat_all.ensures.texts c.run_slots.ensures.done in
    let spents = c.put_back-made.new.spents in
    let are = shared deal image c.args.batches.now olds c.run_slots.new.slots.items spents.items done c.put_back-made.ensures.spents in
    own_spents deal spents.items are.shares are.have_shares

pub close-next-requires-clause-all : goal.close-next-requires-clause-all
close-next-requires-clause-all g c =
    let slots = c.run_slots.new.slots in
    let spents = c.put_back-made.new.spents in
    omega (
      arith,
      AllZip-long HasSpent slots.items spents.items c.put_back-made.ensures.spents,
      spents.ok.0,
      slots.ok.0,
      c.run_slots.ensures.count,
      c.seat_all.ensures.count,
      c.len-count.ensures,
      c.in-Ok-new.ensures.terms.2,
    )

pub returns-clause-prefix : goal.returns-clause-prefix
returns-clause-prefix g c =
    let deal = c.in-Ok-new.deal in
    let image = g.M.GuestPages.image c.args.memory.now in
    let olds = texts_of c.args.channels.now.items in
    let done = subst (λ l. AllZip (IsDone deal image c.args.batches.now) l c.run_slots.new.slots.items) c.seat_all.ensures.texts c.run_slots.ensures.done in
    let are = shared deal image c.args.batches.now olds c.run_slots.new.slots.items c.put_back-made.new.spents.items done c.put_back-made.ensures.spents in
    subst (λ l. AllZip IsPrefix olds l) (sym c.put_back-made.ensures.texts) are.keep_texts

pub returns-clause-ok : goal.returns-clause-ok
returns-clause-ok g c =
    let deal = c.in-Ok-new.deal in
    let image = g.M.GuestPages.image c.args.memory.now in
    let channels = c.args.channels.now in
    let olds = texts_of channels.items in
    let slots = c.run_slots.new.slots in
    let spents = c.put_back-made.new.spents in
    let terms = c.in-Ok-new.ensures.terms in
    let done = subst (λ l. AllZip (IsDone deal image c.args.batches.now) l slots.items) c.seat_all.ensures.texts c.run_slots.ensures.done in
    let are = shared deal image c.args.batches.now olds slots.items spents.items done c.put_back-made.ensures.spents in
    let channels_long = length-map channels.items (λ text. text.items) in
    let seats : deal.seats ≡ length olds = omega (arith, terms.2, c.len-count.ensures, channels.ok.0, channels_long) in
    let long : length spents.items ≡ length olds =
    omega (
      arith,
      AllZip-long HasSpent slots.items spents.items c.put_back-made.ensures.spents,
      slots.ok.0,
      c.run_slots.ensures.count,
      c.seat_all.ensures.count,
      channels.ok.0,
      channels_long,
    ) in
    carried deal image c.args.batches.now olds
    (texts_of c.put_back-made.new.channels.items) slots.items spents.items c.put_back-made.result c.args.base c.close-next.result
    are c.put_back-made.ensures.texts c.put_back-made.ensures.made terms.0 terms.1 seats long c.close-next.ensures.next c.close-next.ensures.once
