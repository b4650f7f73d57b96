use Rattle.std.proofs.Common.{None, ◌++◌, ◌∙◌, ap, arith}
use Rattle.mig_mem.specs.RamTable.{RamTable}
use Rattle.mig_mem.specs.Place.{place_at}
use Rattle.mig_stream.specs.Text.{record_bytes}
use Rattle.zimgasol_mapped.specs.Records.{record_of, no_content}
use Rattle.zimgasol_mapped.proofs.Contents.{records_more}
use Rattle.zimgasol_mapped.proofs.records.Records.put_zeros.Goals as goal

pub loop-page-preserved : goal.loop-page-preserved
loop-page-preserved c =
    let same = c.loop-page.invariant.table in
    let bytes = c.loop-page.self.bytes.items in
    record {
      table = c.put.ensures.table ∙ same;
      low = omega (arith, c.loop-page.invariant.low);
      bytes = records_more c.args.self.now.table c.args.block no_content c.args.first c.loop-page.page c.args.self.now.bytes.items
          bytes c.put.new.self.bytes.items c.loop-page.invariant.low c.loop-page.invariant.bytes
          (c.in_ok-put.ensures.bytes
          ∙ ap (λ (t : RamTable). bytes ++ record_bytes t (record_of (place_at c.args.block c.loop-page.page) None)) same);
    }
