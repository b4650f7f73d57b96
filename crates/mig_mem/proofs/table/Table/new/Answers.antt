use Rattle.std.proofs.Common.{◌≡◌, None}
use Rattle.mig_mem.specs.RamTable.{table_from}
use Rattle.mig_mem.specs.Refusal.{refusal}
use Rattle.mig_mem.proofs.Lawful.{lawful}
use Rattle.mig_mem.proofs.table.Table.new.Goals as goal

pub packed_from-requires : goal.packed_from-requires
packed_from-requires g c = let none : refusal (table_from c.args.page_size c.args.list.items) ≡ None = cc in
    rw c.deref-2.ensures.value (lawful (table_from c.args.page_size c.args.list.items) c.requires none)
