use Rattle.std.proofs.Common.{◌↔◌, drop}
use Rattle.serde_json.specs.View.{view, items_view}
use Rattle.zimgasol_reading.specs.Ending.{AreDevices, ListsDevices}
use Rattle.zimgasol_reading.proofs.description.listed.Given as goal

-- those that were seen are devices, so that the list is one of devices if the others are
abbrev pub invariant-loop-entry : goal.invariant-loop-entry
invariant-loop-entry l = ListsDevices (view l.description) ↔ AreDevices (items_view (drop l.entry-index l.entry-items))
