use Rattle.std.proofs.Common.{ℕ, ◌≡◌, ◌≤◌, ◌<◌, length, get_or}
use Rattle.mig_sources.specs.Sources.{no_count}
use Rattle.mig_command.proofs.loading.feed_files.Given as goal

abbrev pub invariant-loop-channel : goal.invariant-loop-channel
invariant-loop-channel g l = record {
  len : length l.session.counts.channels ≡ l.request.channels;
  fresh : (j : ℕ) → l.channel ≤ j → j < l.request.channels → get_or l.session.counts.channels j no_count ≡ no_count;
}
