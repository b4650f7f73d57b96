use Rattle.std.proofs.Common.{ℕ, List, Some, ◌++◌, ◌∙◌, take, drop, ap, arith}
use Rattle.mig_mem.specs.RamTable.{RamTable}
use Rattle.mig_mem.specs.Place.{place_at}
use Rattle.mig_stream.specs.Text.{record_bytes}
use Rattle.zimgasol_mapped.specs.Records.{record_of}
use Rattle.zimgasol_mapped.proofs.Contents.{put_more}
use Rattle.zimgasol_mapped.proofs.records.Records.put_pages.Goals as goal

pub loop-page-preserved : goal.loop-page-preserved
loop-page-preserved c =
    let table = c.args.self.now.table in
    let same = c.loop-page.invariant.table in
    let size = c.page_size-size.ensures in
    let rest = c.loop-page.rest.now in
    let bytes = c.loop-page.self.bytes.items in
    let place = place_at c.args.block c.loop-page.page in
    record {
      table = c.put.ensures.table ∙ same;
      size = size;
      has_put = put_more table c.args.block c.args.first c.args.contents.now c.args.self.now.bytes.items c.loop-page.page
          rest bytes c.put.new.self.bytes.items c.split_at.result.1.now c.loop-page.invariant.has_put
          (omega (arith, c.if-rest-size.false, size))
          (c.in_ok-put.ensures.bytes
          ∙ ap (λ (t : RamTable). bytes ++ record_bytes t (record_of place (Some c.split_at.result.0.now))) same
          ∙ ap (λ (l : List ℕ). bytes ++ record_bytes table (record_of place (Some l))) (c.split_at.ensures.front ∙ ap (λ n. take n rest) size))
          (c.split_at.ensures.back ∙ ap (λ n. drop n rest) size);
    }
