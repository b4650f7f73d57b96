-- The result of a draw.
use Rattle.std.specs.Prelude.{◌≡◌, ℕ, ◌<◌, ◌≤◌, All}
use Rattle.mig_deal.specs.declared.seat.Drawn.{Drawn}
use Rattle.mig_deal.specs.declared.seat.Drawn.TheVariants.{Work, Last}
use Rattle.mig_deal.specs.Deal.{DealView, SeatView, IsNext, with_number, end_of_work, end_of_deal}

-- the seat has drawn one number more, above all that it drew before and one of the deal's, and all
-- that it drew before was work
pub record HasDrawn (deal : DealView) (before : SeatView) (number : ℕ) (after : SeatView) : Type 0 where
  pub appended : after ≡ with_number before number
  pub next : IsNext deal.base before.drawn number
  pub within : number < end_of_deal deal
  pub was_work : All (λ earlier. earlier < end_of_work deal) before.drawn

-- a draw is work exactly if its number is below the end of work, and else the seat's last
abbrev pub IsDraw : DealView → SeatView → Drawn → Type 0
IsDraw deal before (Work number after) = HasDrawn deal before number after × (number < end_of_work deal)
IsDraw deal before (Last number after) = HasDrawn deal before number after × (end_of_work deal ≤ number)
