use Rattle.std.proofs.Common.{◌∙◌, ◌+◌, ◌++◌, ◌∷◌, [], Bool, sym, take}
use Rattle.std.specs.List.{AllZip}
use Rattle.mig_session.specs.Scan.{TellsOnly}
use Rattle.mig_session.proofs.FedSources.{more_true, more_false}
use Rattle.mig_sources.proofs.Zips.{zip_more}
use Rattle.mig_session.proofs.sources.have_only.Goals as goal
use Rattle.mig_session.proofs.sources.have_only.Goals.{then-not-has_only, else-not-has_only}

pub loop-channel-preserved : goal.loop-channel-preserved
loop-channel-preserved g c =
    let so_far = c.loop-channel.invariant.told in
    let t : Bool = c.has_only.result in
    let more : AllZip (TellsOnly c.args.rounds) (take (c.loop-channel.channel-index + 1) c.args.channels.now) (so_far.0 ++ t ∷ []) =
    zip_more (TellsOnly c.args.rounds) c.args.channels.now so_far.0 c.loop-channel.channel-index c.channel-item.result t c.loop-channel-test.true
    (sym c.channel-item.is) so_far.1 c.has_only.ensures in
    record {
      told = (
        so_far.0 ++ t ∷ [],
        more,
        elim c.if-not-has_only.branch [
          | then-not-has_only w ↦ w.all-is ∙ sym (more_false so_far.0 t w.if-not-has_only.true)
          | else-not-has_only w ↦ w.all-is ∙ so_far.2 ∙ sym (more_true so_far.0 t w.if-not-has_only.false)
        ],
      );
    }
