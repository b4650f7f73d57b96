use Rattle.std.proofs.Common.{◌≡◌, length, take, drop}
use Rattle.std.specs.Prelude.{vec_len, vec_capacity}
use Rattle.mig_c_loads.proofs.lent.taken_out.Given as goal

abbrev pub invariant-loop-i : goal.invariant-loop-i
invariant-loop-i l = record {
  out : l.list.items ≡ take l.i l.fn.blocks;
  rest : drop l.i l.blocks ≡ drop l.i l.fn.blocks;
  count : length l.blocks ≡ length l.fn.blocks;
  len : vec_len l.list ≡ l.i;
  room : vec_capacity l.list ≡ length l.fn.blocks;
}
