use Rattle.std.proofs.Common.{◌≡◌}
use Rattle.std.specs.Prelude.{vec_len, vec_capacity}
use Rattle.mig_mem.specs.Lent.{lent_bytes}
use Rattle.mig_packet.specs.Packet.{normal_count}
use Rattle.mig_uses.specs.Straight.{contents_in}
use Rattle.mig_uses.proofs.straight.contents_of.Given as goal

abbrev pub invariant-loop-i : goal.invariant-loop-i
invariant-loop-i g l = record {
  has : lent_bytes l.contents.items ≡ contents_in (g.M.GuestTarget.image l.memory) l.block l.head.bytes.now l.i;
  len : vec_len l.contents ≡ l.i;
  room : vec_capacity l.contents ≡ normal_count l.head.bytes.now;
}
