use Rattle.std.proofs.Common.{◌≡◌, ℕ, List, length}
use Rattle.zimgasol_packing.specs.Packing.{HaveTexts, syncs_to}
use Rattle.zimgasol_packing.proofs.channels.put_syncs.Given as goal

abbrev pub invariant-loop-channel : goal.invariant-loop-channel
invariant-loop-channel g l = record {
  len : length l.channels.items ≡ length l.fn.channels.items;
  put : (texts : ℕ → List ℕ) → HaveTexts g.F.Write.contents l.fn.channels.items texts
      → HaveTexts g.F.Write.contents l.channels.items (syncs_to texts l.fn.page_size l.fn.number l.channel);
}
