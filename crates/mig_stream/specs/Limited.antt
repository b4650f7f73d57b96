-- A limit on the page records that wait: those of a section, or of a round of a main stream.
use Rattle.std.specs.Prelude.{◌≡◌, ◌≢◌, ℕ, ◌≤◌, List, length, Some, None, All}
use Rattle.mig_stream.specs.declared.item.StreamState.TheVariants.{Closed, Bad}
use Rattle.mig_stream.specs.declared.fault.StreamFault.TheVariants.{Waiting}
use Rattle.mig_stream.specs.Progress.{StreamProgress}
use Rattle.mig_stream.specs.Items.{first_fault}
use Rattle.mig_stream.specs.Reading.{Settings, with_waiting, Front, StreamReading, IsReading}
use Rattle.mig_stream.specs.Flushed.{from}

-- No round has more records than the limit, the open one neither.
abbrev pub WaitingIsBounded : Type 0
WaitingIsBounded = (given : Settings) (limit : ℕ) (front : List ℕ) (to : StreamProgress) → given.waiting ≡ Some limit → Front (from given) front to
    → (length to.records ≤ limit) × All (λ round. length round ≤ limit) to.rounds

-- Fault 64 comes only where the open round has as many records as the limit.
abbrev pub FullRoundIsRefused : Type 0
FullRoundIsRefused = (given : Settings) (limit : ℕ) (front item : List ℕ) (to : StreamProgress) → given.waiting ≡ Some limit → Front (from given) front to
    → first_fault to item ≡ Some Waiting → length to.records ≡ limit

-- The limit does nothing but refuse: without fault 64 the reading is the one without a limit.
abbrev pub LimitOnlyRefuses : Type 0
LimitOnlyRefuses = (given : Settings) (text : List ℕ) (reading : StreamReading) → IsReading given text reading → reading.state ≢ Bad Waiting → IsReading (with_waiting None given) text reading

-- A stream that is closed without a limit is read so under each limit that none of its rounds
-- passes.
abbrev pub LimitLetsThrough : Type 0
LimitLetsThrough = (given : Settings) (limit : ℕ) (text : List ℕ) (reading : StreamReading) → given.waiting ≡ Some limit
    → IsReading (with_waiting None given) text reading → reading.state ≡ Closed → All (λ round. length round ≤ limit) reading.rounds → IsReading given text reading
