use Rattle.std.proofs.Common.{◌≡◌, ◌++◌, take}
use Rattle.std.specs.List.{flat_map}
use Rattle.mig_stream.specs.Text.{entry}
use Rattle.mig_stream.proofs.opening.put_entries.Given as goal

abbrev pub invariant-loop-i : goal.invariant-loop-i
invariant-loop-i g l = l.text.items ≡ l.fn.text.items ++ flat_map (entry l.table.page_size) (take l.i l.table.blocks)
