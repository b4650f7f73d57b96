-- The layout of a scenario's rounds: the page size, and the room of a packet.
use Rattle.std.specs.Prelude.{ℕ, ◌<◌, ◌≤◌}
use Rattle.mig_packet.specs.PageSize.{page_limit}
use Rattle.mig_scenario.specs.declared.layout.Layout.{Layout}
use Rattle.mig_scenario.specs.declared.layout.PageSize.{PageSize}
use Rattle.mig_scenario.specs.declared.layout.PageSize.TheVariants.{Small, Large}

-- the number of bytes of a page
abbrev pub bytes_in : PageSize → ℕ
bytes_in Small = 4096
bytes_in Large = 8192

-- a batch has at least one page, and at most as many as a packet has room for
abbrev pub HasRoom : Layout → Type 0
HasRoom layout = (0 < layout.batch) × (layout.batch ≤ page_limit (bytes_in layout.page_size))
