use Rattle.std.proofs.Common.{◌≡◌, ◌++◌, take}
use Rattle.std.specs.List.{flat_map}
use Rattle.mig_stream.specs.Text.{entry}
use Rattle.zimgasol_mapped.proofs.records.Records.put_entries.Given as goal

abbrev pub invariant-loop-block : goal.invariant-loop-block
invariant-loop-block l = record {
  table : l.self.table ≡ l.fn.self.table;
  bytes : l.self.bytes.items ≡ l.fn.self.bytes.items ++ flat_map (entry l.fn.self.table.page_size) (take l.block l.fn.self.table.blocks);
}
