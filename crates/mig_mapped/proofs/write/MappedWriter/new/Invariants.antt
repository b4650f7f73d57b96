use Rattle.std.proofs.Common.{◌≡◌, ◌<◌, ◌^◌, length}
use Rattle.mig_mapped.proofs.Laid.{AreFirst}
use Rattle.mig_mapped.proofs.write.MappedWriter.new.Given as goal

abbrev pub invariant-loop-i : goal.invariant-loop-i
invariant-loop-i g l = record {
  count : length l.blocks.items ≡ l.i;
  low : l.next < 2 ^ 63;
  first : AreFirst (record { page_size = l.table.page_size; order = l.order }) l.place l.table l.blocks.items l.next;
}
