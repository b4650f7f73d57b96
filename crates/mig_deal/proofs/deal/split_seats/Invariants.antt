use Rattle.std.proofs.Common.{◌≡◌, ◌-◌, ◌≤◌, [], vec_capacity, replicate}
use Rattle.mig_deal.specs.Rule.{holding, deal_view}
use Rattle.mig_deal.specs.Deal.{new_seat}
use Rattle.mig_deal.proofs.deal.split_seats.Given as goal

-- the seats so far, and what is left of the first
abbrev pub invariant-loop : goal.invariant-loop
invariant-loop g l = record {
  seats : l.list.items ≡ replicate (l.counter - 1) (new_seat (deal_view l.fn.table.shared.table_id l.fn.terms));
  room : l.fn.terms.seats ≤ vec_capacity l.list;
  same : l.rest.table_id ≡ l.fn.first.table_id;
  rest : l.rest.me ≡ (holding l.fn.terms (l.fn.terms.seats - (l.counter - 1)) [] [], []);
}
