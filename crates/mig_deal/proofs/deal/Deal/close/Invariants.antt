use Rattle.std.proofs.Common.{◌≡◌, ℕ, ◌+◌, [], Bool, All, vec_len}
use Rattle.std.specs.Prelude.{count_by}
use Rattle.mig_deal.specs.Deal.{SeatView, all_drawn}
use Rattle.mig_deal.specs.Rule.{numbers_of, last_count, terms_of}
use Rattle.mig_deal.proofs.deal.Deal.close.Given as goal

-- all numbers are with the seat that takes the others in, or with the seats that are left, and each
-- seat taken in has one last number
abbrev pub invariant-loop-next : goal.invariant-loop-next
invariant-loop-next g l = record {
  same : l.all.table_id ≡ l.fn.self.id;
  free : l.all.me.1 ≡ [];
  own : All (λ (s : SeatView). s.deal ≡ l.fn.self) l.spents.items;
  seats : l.all.me.0.seats + vec_len l.spents ≡ l.fn.self.seats;
  lasts : last_count (terms_of l.fn.self) (numbers_of l.all.me.0) ≡ l.all.me.0.seats;
  numbers : (test : ℕ → Bool) → count_by test (numbers_of l.all.me.0) + count_by test (all_drawn l.spents.items) ≡ count_by test (all_drawn l.fn.spents.items);
}

abbrev pub decreases-loop-next : goal.decreases-loop-next
decreases-loop-next g l = goal.left-loop-next g l
