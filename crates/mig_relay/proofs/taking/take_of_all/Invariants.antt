use Rattle.std.proofs.Common.{ℕ, ◌≡◌, ◌≤◌, length}
use Rattle.std.specs.List.{All, AllZip}
use Rattle.mig_relay.specs.Relayed.{Continues, AreAtRound}
use Rattle.mig_relay.proofs.AllGone.{Rest, Gone}
use Rattle.mig_relay.proofs.taking.take_of_all.Given as goal

abbrev pub invariant-loop-j : goal.invariant-loop-j
invariant-loop-j g l = record {
  within : l.j ≤ length l.fn.collector;
  rest : Rest l.j l.fn.places.items l.places.items l.fn.collector l.collector;
  continues : AllZip Continues l.fn.collector l.collector;
  gone : (k : ℕ) → AreAtRound k l.fn.places.items l.fn.collector → Gone k l.j l.places.items l.collector l.statuses.items l.gathered;
  sizes : (page_size : ℕ) → All (λ p. p.source.page_size ≡ page_size) l.fn.collector → All (λ packet. packet.page_size ≡ page_size) l.gathered;
}
