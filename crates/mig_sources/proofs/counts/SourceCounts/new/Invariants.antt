use Rattle.std.proofs.Common.{◌≡◌, ◌≤◌, replicate, vec_len, vec_capacity}
use Rattle.mig_sources.specs.Sources.{no_count}
use Rattle.mig_sources.proofs.counts.SourceCounts.new.Given as goal

abbrev pub invariant-loop : goal.invariant-loop
invariant-loop g l = record {
  items : l.counts.items ≡ replicate l.counter no_count;
  count : vec_len l.counts ≡ l.counter;
  room : l.channels ≤ vec_capacity l.counts;
}
