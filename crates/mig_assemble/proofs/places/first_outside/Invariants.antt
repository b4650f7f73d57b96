use Rattle.std.proofs.Common.{ℕ, ◌≡◌, ◌<◌, get_or, false}
use Rattle.mig_packet.specs.PacketHead.{offsets_in}
use Rattle.mig_assemble.specs.Judging.{is_outside}
use Rattle.mig_assemble.proofs.places.first_outside.Given as goal

abbrev pub invariant-loop-i : goal.invariant-loop-i
invariant-loop-i l = (k : ℕ) → k < l.i → is_outside l.head.page_size l.pages (get_or (offsets_in l.head.bytes.now) k 0) ≡ false
