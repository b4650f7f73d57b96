use Rattle.std.proofs.Common.{◌≡◌, ◌≤◌, replicate, vec_len, vec_capacity}
use Rattle.std.specs.List.{AllZip}
use Rattle.mig_answer.specs.Texts.{no_text}
use Rattle.mig_session.specs.Scan.{Scans}
use Rattle.mig_session.proofs.sources.no_channels.Given as goal
use Rattle.mig_load_types.specs.Settings.{channel_of}

abbrev pub invariant-loop : goal.invariant-loop
invariant-loop g l = record {
  scans : AllZip (Scans (channel_of l.settings l.uuid l.channels)) (replicate l.counter no_text) l.scans.items;
  count : vec_len l.scans ≡ l.counter;
  room : l.channels ≤ vec_capacity l.scans;
}
