-- The first of some bytes, copied to the front of a buffer.
use Rattle.std.specs.Prelude.{◌≡◌, ◌≤◌, ◌<◌, ℕ, List, [], take, length}

-- The first `count` of some bytes that wait are copied to the front of a buffer, as many as there
-- is room for.
pub record ShowsFront (count : ℕ) (out waiting : List ℕ) : Type 0 where
  pub fits : count ≤ length out
  pub within : count ≤ length waiting
  pub has_front : take count out ≡ take count waiting
  pub fills : count < length out → count ≡ length waiting
  pub none : count ≡ 0 → 0 < length out → waiting ≡ []
