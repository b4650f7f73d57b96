use Rattle.std.proofs.Common.{ℕ, ◌≡◌, ◌+◌, ◌∙◌, ap, length, refl, subst, sym, arith}
use Rattle.std.specs.Prelude.{Vec}
use Rattle.std.specs.Arc.{arc_value}
use Rattle.std.proofs.lemmas.List.{length-map}
use Rattle.mig_deal.specs.Deal.{DealView, HasEachOnce, all_drawn, end_of_deal}
use Rattle.mig_send.specs.ChannelWork.{RoundTerms}
use Rattle.mig_send.specs.MultiSending.{MultiSending, texts_of}
use Rattle.mig_send.specs.MultiRound.{OpenMulti, IsOpenMulti, EndsRound, dirty_of}
use Rattle.mig_send.proofs.Counting.{few_batches}
use Rattle.mig_send.proofs.OpenRounds.{ends_round}
use Rattle.mig_send.proofs.multi_round.MultiRound.end_round.Goals as goal

pub overflow_add-sender : goal.overflow_add-sender
overflow_add-sender g c =
    let s = c.self.inside in
    let channels = c.sender.inside.channels in
    let terms = arc_value s.shared in
    omega (
      arith,
      few_batches (record { table = terms.table; marked = dirty_of terms }) s.sender.limit terms.batches c.self.invariant.are_places c.self.invariant.are_cut,
      ap (λ (t : RoundTerms). length t.batches) c.deref.ensures,
      c.len.ensures.value,
      c.sender.invariant.is_set.has_channels.1,
      c.len-2.ensures,
      channels.ok.0,
      length-map channels.items (λ (text : Vec ℕ _). text.items),
    )

pub overflow_add-sender-2 : goal.overflow_add-sender-2
overflow_add-sender-2 g c =
    let s = c.self.inside in
    let channels = c.sender.inside.channels in
    let terms = arc_value s.shared in
    omega (
      arith,
      c.self.invariant.base_fits,
      ap (λ (m : MultiSending). m.base) c.sender.view_is,
      few_batches (record { table = terms.table; marked = dirty_of terms }) s.sender.limit terms.batches c.self.invariant.are_places c.self.invariant.are_cut,
      ap (λ (t : RoundTerms). length t.batches) c.deref.ensures,
      c.len.ensures.value,
      c.sender.invariant.is_set.has_channels.1,
      c.len-2.ensures,
      channels.ok.0,
      length-map channels.items (λ (text : Vec ℕ _). text.items),
    )

pub returns-clause-ok : goal.returns-clause-ok
returns-clause-ok g c =
    let s = c.self.inside in
    let x = c.sender.inside in
    let terms = arc_value s.shared in
    let sender : MultiSending = record {
      main = x.main;
      uuid = x.uuid;
      limit = x.limit;
      channels = texts_of x.channels.items;
      base = x.base;
      rounds = x.rounds;
    } in
    let round : OpenMulti = record { sender = sender; terms = terms; seats = s.seats.items; spents = s.spents.items } in
    let opened : round ≡ record round { sender = s.sender } = ap (λ (m : MultiSending). record round { sender = m }) c.sender.view_is in
    let is : IsOpenMulti round = subst IsOpenMulti (sym opened) c.self.invariant in
    let all : length round.spents ≡ length round.sender.channels =
    subst (λ (r : OpenMulti). length r.spents ≡ length r.sender.channels) (sym (opened ∙ c.self.view_is)) c.requires.all in
    let deal = ap (λ (t : RoundTerms). t.deal) (c.behind-shared.view_is ∙ c.deref-2.ensures) in
    let next = c.end_number-next in
    let end : next.result ≡ end_of_deal terms.deal = subst (λ (d : DealView). next.result ≡ end_of_deal d) deal next.ensures.next in
    let once : HasEachOnce terms.deal.base next.result (all_drawn round.spents) =
    subst (λ (d : DealView). HasEachOnce d.base next.result (all_drawn round.spents)) deal next.ensures.once in
    let base : x.base + (c.len.result + c.len-2.result) ≡ x.base + (length terms.batches + length sender.channels) =
    omega (
      arith,
      ap (λ (t : RoundTerms). length t.batches) c.deref.ensures,
      c.len.ensures.value,
      c.len-2.ensures,
      x.channels.ok.0,
      length-map x.channels.items (λ (text : Vec ℕ _). text.items),
    ) in
    subst (λ (r : OpenMulti). EndsRound r (record sender {
      main = c.flush_part.new.self;
      base = x.base + (c.len.result + c.len-2.result);
      rounds = x.rounds + 1;
    }))
    (opened ∙ c.self.view_is)
    (ends_round round c.flush_part.new.self (x.base + (c.len.result + c.len-2.result)) (x.rounds + 1) next.result is all end once
    c.in-Ok.ensures.table c.in-Ok.ensures.ok base refl)
