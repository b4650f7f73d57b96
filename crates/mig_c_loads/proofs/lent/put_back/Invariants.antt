use Rattle.std.proofs.Common.{◌≡◌, length, take, drop}
use Rattle.mig_c_loads.proofs.lent.put_back.Given as goal

abbrev pub invariant-loop-i : goal.invariant-loop-i
invariant-loop-i l = record {
  put : take l.i l.blocks ≡ take l.i l.fn.list;
  rest : drop l.i l.list ≡ drop l.i l.fn.list;
  count : length l.list ≡ length l.fn.list;
  room : length l.blocks ≡ length l.fn.blocks;
}
