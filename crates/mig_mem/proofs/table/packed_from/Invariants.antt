use Rattle.std.proofs.Common.{◌≡◌, take, map}
use Rattle.mig_mem.specs.Packed.{span_block, AllWithin}
use Rattle.mig_mem.specs.RamTable.{entry_block}
use Rattle.mig_mem.proofs.table.packed_from.Given as goal

abbrev pub invariant-loop-id : goal.invariant-loop-id
invariant-loop-id g l = record {
  same : map (span_block l.ids.items) l.spans.items ≡ map entry_block (take l.id-index l.list);
  within : AllWithin l.ids.items l.spans.items;
}
