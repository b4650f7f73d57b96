use Rattle.std.proofs.Common.{◌≡◌, ◌*◌, ◌^◌, ◌≤◌, take, map}
use Rattle.mig_mem.specs.RamTable.{total_pages, entry_block}
use Rattle.mig_mem.proofs.refusal.total_pages.Given as goal

abbrev pub invariant-loop-pages : goal.invariant-loop-pages
invariant-loop-pages g l = record {
  sum : l.total ≡ total_pages (map entry_block (take l.pages-index l.list));
  bound : l.total ≤ l.pages-index * 2 ^ 64;
}
