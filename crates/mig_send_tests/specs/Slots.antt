-- The slots of a deal's seats: their content before their workers ran, and afterwards.
use Rattle.std.specs.Prelude.{◌≡◌}
use Rattle.mig_deal.specs.Deal.{DealView}
use Rattle.mig_send_tests.specs.declared.slots.Slot.{Slot}
use Rattle.mig_send_tests.specs.declared.slots.Slot.TheVariants.{Waiting, Running, Done}

-- a seat of the deal waits for its worker
abbrev pub IsWaiting : DealView → Slot → Type 0
IsWaiting deal (Waiting seat) = seat.deal ≡ deal
IsWaiting deal Running = ⊥
IsWaiting deal (Done spent) = ⊥

-- a worker drew until the seat's last number
abbrev pub IsDone : DealView → Slot → Type 0
IsDone deal (Done spent) = spent.deal ≡ deal
IsDone deal (Waiting seat) = ⊥
IsDone deal Running = ⊥
