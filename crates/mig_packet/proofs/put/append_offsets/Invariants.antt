use Rattle.std.proofs.Common.{◌≡◌, ◌≤◌, ◌+◌, ◌*◌, ◌++◌, take}
use Rattle.std.specs.Prelude.{vec_len, vec_capacity}
use Rattle.std.specs.List.{flat_map}
use Rattle.mig_packet.specs.Fields.{be64}
use Rattle.mig_packet.proofs.put.append_offsets.Given as goal

abbrev pub invariant-loop-offset : goal.invariant-loop-offset
invariant-loop-offset g l = record {
  items : l.out.items ≡ l.fn.out.items ++ flat_map be64 (take l.offset-index l.offsets);
  len : vec_len l.out ≡ vec_len l.fn.out + 8 * l.offset-index;
  capacity : vec_capacity l.fn.out ≤ vec_capacity l.out;
}
