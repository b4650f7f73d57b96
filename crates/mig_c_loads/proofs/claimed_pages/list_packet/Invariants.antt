use Rattle.std.proofs.Common.{◌≡◌, ◌<◌, ◌/◌, ℕ}
use Rattle.std.specs.Prelude.{get_or}
use Rattle.mig_packet.specs.Packet.{normal_count, zero_count, offset_at}
use Rattle.mig_c_loads.proofs.claimed_pages.list_packet.Given as goal

abbrev pub invariant-pages : goal.invariant-pages
invariant-pages l = record {
  same_block : l.seen.block ≡ l.block;
  normals : l.seen.normal ≡ normal_count l.head.bytes.now;
  zeros : l.seen.zero ≡ zero_count l.head.bytes.now;
  listed : (k : ℕ) → k < l.i → get_or l.seen.pages k 0 ≡ offset_at l.head.bytes.now k / l.page_size;
}
