use Rattle.std.proofs.Common.{◌≡◌, take}
use Rattle.mig_packet.specs.Waiting.{room_after}
use Rattle.mig_packet.proofs.round.Packets.room_after.Given as goal

abbrev pub invariant-loop-text : goal.invariant-loop-text
invariant-loop-text g l = l.room ≡ room_after l.fn.waiting (take l.text-index l.text-items)
