use Rattle.std.proofs.Common.{◌≡◌, ◌≤◌, ◌++◌, ◌-◌}
use Rattle.std.specs.List.{range_with_len}
use Rattle.zimgasol_mapped.specs.Records.{records_bytes, no_content}
use Rattle.zimgasol_mapped.proofs.records.Records.put_zeros.Given as goal

abbrev pub invariant-loop-page : goal.invariant-loop-page
invariant-loop-page l = record {
  table : l.self.table ≡ l.fn.self.table;
  low : l.fn.first ≤ l.page;
  bytes : l.self.bytes.items ≡ l.fn.self.bytes.items ++ records_bytes l.fn.self.table l.fn.block no_content (range_with_len l.fn.first (l.page - l.fn.first));
}
