use Rattle.std.proofs.Common.{◌≡◌}
use Rattle.zimgasol_mapped.proofs.Contents.{HasPut}
use Rattle.zimgasol_mapped.proofs.records.Records.put_pages.Given as goal

abbrev pub invariant-loop-page : goal.invariant-loop-page
invariant-loop-page l = record {
  table : l.self.table ≡ l.fn.self.table;
  size : l.size ≡ l.fn.self.table.page_size;
  has_put : HasPut l.fn.self.table l.fn.block l.fn.first l.fn.contents l.fn.self.bytes.items l.page l.rest l.self.bytes.items;
}
