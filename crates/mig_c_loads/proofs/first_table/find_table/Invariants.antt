use Rattle.std.proofs.Common.{◌≡◌, ◌≤◌, ◌-◌, length, take}
use Rattle.std.specs.Prelude.{IsFalse, false}
use Rattle.mig_stream.specs.Reader.{Stands}
use Rattle.mig_c_loads.specs.FirstTable.{table_settings}
use Rattle.mig_c_loads.proofs.first_table.find_table.Given as goal

abbrev pub invariant-pieces : goal.invariant-pieces
invariant-pieces l = (l.read ≤ length l.bytes)
    × Stands (table_settings l.fn.frame l.page_size) (record { text = take l.read l.bytes; ended = false; taken = 0 }) l.reader
    × IsFalse l.reader.ended × (l.reader.fed ≡ l.read)

abbrev pub decreases-pieces : goal.decreases-pieces
decreases-pieces l = length l.bytes - l.read
