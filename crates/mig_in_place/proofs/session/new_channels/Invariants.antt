use Rattle.std.proofs.Common.{◌≡◌, ◌≤◌, map, replicate, vec_len, vec_capacity}
use Rattle.std.specs.List.{AllZip}
use Rattle.mig_mem.specs.RamTable.{RamTable}
use Rattle.mig_packet.specs.Paging.{none_given}
use Rattle.mig_load_types.specs.Settings.{channel_of}
use Rattle.mig_answer.specs.Texts.{Text, no_text}
use Rattle.mig_sources.specs.Sources.{no_count}
use Rattle.mig_in_place.specs.Sources.{KeptChannel, HoldsChannel, channel_count}
use Rattle.mig_in_place.proofs.session.new_channels.Given as goal

abbrev pub invariant-loop : goal.invariant-loop
invariant-loop g l = record {
  holds : (table : RamTable) → AllZip (λ (text : Text) (c : KeptChannel). HoldsChannel
      (channel_of l.settings l.uuid l.channels) table 0 text (none_given (channel_of l.settings l.uuid l.channels)) c)
      (replicate l.counter no_text) l.made.items;
  counts : map channel_count l.made.items ≡ replicate l.counter no_count;
  count : vec_len l.made ≡ l.counter;
  room : l.channels ≤ vec_capacity l.made;
}
