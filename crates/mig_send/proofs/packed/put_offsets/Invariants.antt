use Rattle.std.proofs.Common.{◌≡◌, map, take}
use Rattle.mig_mem.specs.Place.{place_at}
use Rattle.mig_send.specs.Packing.{normal_offsets, zero_offsets}
use Rattle.mig_send.proofs.packed.put_offsets.Given as goal

abbrev pub invariant-loop-page : goal.invariant-loop-page
invariant-loop-page g l = record {
  normal : l.normal.items ≡ normal_offsets (g.M.GuestPages.image l.memory) (map (place_at l.block) (take l.page-index l.pages));
  zero : l.zero.items ≡ zero_offsets (g.M.GuestPages.image l.memory) (map (place_at l.block) (take l.page-index l.pages));
}
