use Rattle.std.proofs.Common.{◌≡◌, ◌≤◌, take, vec_len, vec_capacity}
use Rattle.std.specs.List.{AllZip}
use Rattle.mig_session.specs.Scan.{TellsFirstStatus}
use Rattle.mig_session.proofs.sources.look_at_statuses.Given as goal

abbrev pub invariant-loop-channel : goal.invariant-loop-channel
invariant-loop-channel g l = record {
  told : AllZip TellsFirstStatus (take l.channel-index l.channels) l.statuses.items;
  count : vec_len l.statuses ≡ l.channel-index;
  room : vec_capacity l.fn.statuses ≤ vec_capacity l.statuses;
}
