use Rattle.std.proofs.Common.{◌≡◌, map, take}
use Rattle.mig_scenario.specs.Guest.{played}
use Rattle.mig_scenario.specs.Playing.{AreLike}
use Rattle.mig_scenario.specs.KeptGuest.{Holds}
use Rattle.mig_scenario.specs.Seen.{seen}
use Rattle.mig_scenario.proofs.guest.play.Given as goal

abbrev pub invariant-loop-line : goal.invariant-loop-line
invariant-loop-line g l = record {
  holds : Holds l.guest (played l.table (map seen (take l.line-index l.lines)));
  table : l.guest.image.table ≡ l.table;
  like : AreLike l.fn.senders l.guest.senders;
}
