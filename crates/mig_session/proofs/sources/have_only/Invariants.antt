use Rattle.std.proofs.Common.{◌≡◌, Bool, List, take}
use Rattle.std.specs.List.{AllZip, list_all}
use Rattle.mig_session.specs.Scan.{TellsOnly}
use Rattle.mig_session.proofs.sources.have_only.Given as goal

abbrev pub invariant-loop-channel : goal.invariant-loop-channel
invariant-loop-channel g l = record {
  told : (told : List Bool) × AllZip (TellsOnly l.rounds) (take l.channel-index l.channels) told × (l.all ≡ list_all (λ t. t) told);
}
