use Rattle.std.proofs.Common.{ℕ, ◌≡◌, List}
use Rattle.mig_mem.specs.RamTable.{RamTable}
use Rattle.mig_stream.specs.Giving.{GivenSoFar, Gives, left}
use Rattle.mig_load_types.specs.declared.settings.LoadSettings.{LoadSettings}
use Rattle.mig_single_load.specs.LoadInPlace.{settings_for, GaveNext}
use Rattle.mig_single_load.proofs.in_place_state.find_table.Given as goal

abbrev pub invariant-items : goal.invariant-items
invariant-items g l = (given : LoadSettings) (table : RamTable) (text : List ℕ) (so_far : GivenSoFar)
    → Gives (settings_for table given) text so_far l.fn.reader → l.fn.reader.given.page_size ≡ table.page_size
    → GaveNext given table text so_far l.gave l.reader

abbrev pub decreases-items : goal.decreases-items
decreases-items g l = left l.reader
