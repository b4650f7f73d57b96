use Rattle.std.proofs.Common.{◌≡◌, map}
use Rattle.std.specs.List.{range_with_len}
use Rattle.mig_packet.specs.Hello.{written_hello}
use Rattle.mig_send.specs.MultiSending.{texts_of}
use Rattle.mig_send.proofs.multi.hellos.Given as goal

abbrev pub invariant-channels : goal.invariant-channels
invariant-channels g l = texts_of l.texts.items ≡ map (written_hello l.uuid) (range_with_len 0 l.id)
