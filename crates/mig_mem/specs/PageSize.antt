-- The sizes of a guest's page.
use Rattle.std.specs.Prelude.{ℕ, ◌≡◌, ◌⊎◌}

abbrev pub IsPageSize : ℕ → Type 0
IsPageSize size = (size ≡ 4096) ⊎ (size ≡ 8192)
