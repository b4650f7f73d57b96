use Rattle.std.proofs.Common.{◌≡◌, ◌≤◌, take, vec_len, vec_capacity}
use Rattle.std.specs.List.{AllZip}
use Rattle.mig_session.specs.Scan.{TellsHello}
use Rattle.mig_session.proofs.sources.look_at_hellos.Given as goal

abbrev pub invariant-loop-channel : goal.invariant-loop-channel
invariant-loop-channel g l = record {
  told : AllZip TellsHello (take l.channel-index l.channels) l.hellos.items;
  count : vec_len l.hellos ≡ l.channel-index;
  room : vec_capacity l.fn.hellos ≤ vec_capacity l.hellos;
}
