-- When a round of several sources is due.
use Rattle.std.specs.Prelude.{ℕ, ◌≡◌, None}
use Rattle.mig_mem.specs.First.{first_some}
use Rattle.mig_answer.specs.Texts.{Readings}
use Rattle.mig_answer.specs.MultiLoad.{main_at, channels_at, hello_ids, repeated_hello, sources_verdicts}

-- a round is due if the sources have no verdict at it: each source has the round, and no hello's id
-- is repeated
abbrev pub IsDue : ℕ → Readings → Type 0
IsDue k readings = first_some (sources_verdicts k (main_at k readings) (channels_at k readings) (repeated_hello (hello_ids readings))) ≡ None
