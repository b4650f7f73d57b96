use Rattle.std.proofs.Common.{◌≡◌, ◌≤◌, ◌-◌, ◌++◌, length, map, Some}
use Rattle.std.specs.Prelude.{vec_capacity}
use Rattle.mig_mem.specs.Place.{place_at}
use Rattle.mig_send.specs.Batches.{IsInSet, places_from}
use Rattle.mig_send.proofs.batch.unpacked.Given as goal

abbrev pub invariant-pages : goal.invariant-pages
invariant-pages g l = record {
  has_all : places_from l.dirty.marked (Some l.first) ≡ map (place_at l.first.block) l.pages.items ++ places_from l.dirty.marked l.next;
  is_in_set : IsInSet l.dirty.marked l.next;
  has_few : length l.pages.items ≤ l.limit;
  begins : length l.pages.items ≡ 0 → l.next ≡ Some l.first;
  has_room : l.limit ≤ vec_capacity l.pages;
}

abbrev pub decreases-pages : goal.decreases-pages
decreases-pages g l = l.limit - length l.pages.items
