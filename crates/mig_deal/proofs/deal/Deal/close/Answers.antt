use Rattle.std.proofs.Common.{◌≡◌, ℕ, ◌+◌, [], List, All, sym, ◌∙◌, ◌<◌, ap, subst, arith, refl, leb}
use Rattle.std.specs.Prelude.{count_by}
use Rattle.std.specs.Slots.{slots_items}
use Rattle.std.proofs.lemmas.List.{nil_from_length}
use Rattle.atomic_table.specs.Table.{Me, Final, Seen}
use Rattle.mig_deal.specs.declared.rule.Terms.{Terms}
use Rattle.mig_deal.specs.declared.rule.Holding.{Holding}
use Rattle.mig_deal.specs.Deal.{DealView, SeatView, HasEachOnce, all_drawn, end_of_deal}
use Rattle.mig_deal.specs.Rule.{terms_of, together, IsDealt}
use Rattle.mig_deal.proofs.Counts.{all_last, all_front}
use Rattle.mig_deal.proofs.Steps.{held_by, spent_last, held_alone, held_together, count_all_drawn, joins, finishes}
use Rattle.mig_deal.proofs.deal.Deal.close.Goals as goal
use Rattle.mig_deal.proofs.deal.Deal.close.Given.{Over}

abbrev IsOf : DealView → SeatView → Type 0
IsOf deal seat = seat.deal ≡ deal

pub loop-next-init : goal.loop-next-init
loop-next-init g c =
    let whole = c.in-Some.ensures.items in
    let seat : SeatView = c.in-Some.last in
    let own = subst (All (IsOf c.args.self)) whole c.requires.own in
    let mine = all_last (IsOf c.args.self) _ _ own in
    let len = c.in-Some.ensures.len in
    let all = c.requires.all in
    let is = c.into_inner-all.ensures.drawn in record {
      same = c.into_inner-all.ensures.deal ∙ ap (λ (g : DealView). g.id) mine;
      free = ap (λ (m : Me (Unit {0}) Holding). m.1) is;
      own = all_front (IsOf c.args.self) _ _ own;
      seats = rw is (omega arith);
      lasts = rw is (spent_last c.args.self seat mine c.into_inner-all.ensures.last);
      numbers = λ test. rw is (let a = held_alone (held_by seat) refl test in
          let b = count_all_drawn test c.pop.new.self.items seat in let e = ap (λ ds. count_by test (all_drawn ds)) whole in omega arith);
    }

pub join_seat-requires : goal.join_seat-requires
join_seat-requires g c =
    let mine = all_last (IsOf c.args.self) _ _ (subst (All (IsOf c.args.self)) c.in-Some-pop.ensures.items c.loop-next.invariant.own) in
    let named = ap (λ (g : DealView). g.id) c.self.view_is in
    let one = c.self.invariant.1 in (
      c.loop-next.invariant.same ∙ sym named,
      c.into_inner-given.ensures.deal ∙ (ap (λ (g : DealView). g.id) mine ∙ sym named),
      ap (λ (m : Me (Unit {0}) Holding). m.1) c.into_inner-given.ensures.drawn,
      omega arith,
      joins _ _ _ _ _,
    )

pub loop-next-preserved : goal.loop-next-preserved
loop-next-preserved g c =
    let before = c.loop-next.invariant in
    let whole = c.in-Some-pop.ensures.items in
    let seat : SeatView = c.in-Some-pop.next in
    let own = subst (All (IsOf c.args.self)) whole before.own in
    let mine = all_last (IsOf c.args.self) _ _ own in
    let len = c.in-Some-pop.ensures.len in
    let taker : Holding = c.loop-next.all.me.0 in
    let is = c.join_seat.ensures.2 ∙ ap (λ (m : Me (Unit {0}) Holding). (together taker m.0, c.loop-next.all.me.1)) c.into_inner-given.ensures.drawn in
    let sum = held_together taker (held_by seat) in record {
      same = c.join_seat.ensures.0 ∙ before.same;
      free = ap (λ (m : Me (Unit {0}) Holding). m.1) is ∙ before.free;
      own = all_front (IsOf c.args.self) _ _ own;
      seats = rw is (let a = before.seats in omega arith);
      lasts = rw is (let a = before.lasts in let b = spent_last c.args.self seat mine c.into_inner-given.ensures.last in
          let e = sum (λ x. leb (c.args.self.base + c.args.self.batches) x) in omega arith);
      numbers = λ test. rw is (let a = held_alone (held_by seat) refl test in
          let b = count_all_drawn test c.pop-in-loop-next.new.self.items seat in let e = ap (λ ds. count_by test (all_drawn ds)) whole in
          let f = before.numbers test in let g = sum test in omega arith);
    }

-- what stands when no spent seat is left
abbrev Ended : DealView → List SeatView → ℕ → Type 0
Ended deal spents next = HasEachOnce deal.base next (all_drawn spents) × (next ≡ end_of_deal deal)

ended : (g : Over) (c : goal.After-free g) → Ended c.args.self c.args.spents.items c.word-next.result
ended g c =
    let key = c.self.invariant.0 ∙ ap terms_of c.self.view_is in
    let none_left = c.in_default-pop.ensures.cases.0 in
    let before = c.loop-next.invariant in
    let limits = c.self.invariant.3 in
    let view = c.self.view_is in
    let taker : Holding = c.loop-next.all.me.0 in
    let terms : Terms = terms_of c.args.self in
    let some_seat : 0 < c.args.self.seats = subst (λ (g : DealView). 0 < g.seats) view limits.2 in
    let end = c.close_with-closed.ensures.values.2 in
    let at = c.word-next.ensures in
    let empty : c.loop-next.spents.items ≡ [] = nil_from_length c.loop-next.spents.items (omega arith) in
    finishes terms c.loop-next.all.id taker _ _ c.word-next.result (all_drawn c.args.spents.items)
    (subst (λ (u : Terms). Final (Seen (IsDealt u) c.loop-next.all.id taker) (slots_items c.close_with-closed.result.words)
    (slots_items c.close_with-closed.result.slots)) key end)
    at
    (let a = before.seats in omega arith)
    (let a = before.seats in let b = before.lasts in omega arith)
    some_seat
    (λ test. let e = before.numbers test in let f = ap (λ ds. count_by test (all_drawn ds)) empty in omega arith)

pub returns-clause-next : goal.returns-clause-next
returns-clause-next g c = (ended g c).1

pub returns-clause-once : goal.returns-clause-once
returns-clause-once g c = (ended g c).0
