use Rattle.std.proofs.Common.{◌≡◌, ◌<◌, [], length}
use Rattle.zimgasol_packing.specs.Packing.{HaveTexts, hellos_to}
use Rattle.zimgasol_packing.proofs.channels.put_hellos.Given as goal

abbrev pub invariant-loop-channel : goal.invariant-loop-channel
invariant-loop-channel g l = record {
  len : length l.channels.items ≡ length l.fn.channels.items;
  uuid : 0 < l.channel → length l.fn.uuid ≡ 16;
  put : HaveTexts g.F.Write.contents l.fn.channels.items (λ _. []) → HaveTexts g.F.Write.contents l.channels.items (hellos_to l.fn.uuid l.channel);
}
