use Rattle.std.proofs.Common.{ℕ, ◌<◌, ◌+◌, ◌^◌, List, length}
use Rattle.zimgasol_reading.specs.TailSeen.{HasDescriptionAt, HasSeen}
use Rattle.zimgasol_reading.proofs.tail.Tail.whole.Given as goal

-- no description with which the stream ends begins at the bytes so far
abbrev pub invariant-loop-at : goal.invariant-loop-at
invariant-loop-at l = (k : ℕ) (text : List ℕ) → k < l.at → length text < 2 ^ 63 → HasSeen text l.self → ¬ HasDescriptionAt (l.self.window.start + k) text
