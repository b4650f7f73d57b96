use Rattle.std.proofs.Common.{sym, subst}
use Rattle.mig_in_place.specs.Sources.{KeptMain, StandsAt}
use Rattle.mig_in_place.proofs.Mains.{fed}
use Rattle.mig_in_place.proofs.main_stream.MainStream.feed.Goals as goal

pub returns-clause-stands : goal.returns-clause-stands
returns-clause-stands g c = λ given k text stands.
    fed given k text c.args.piece.now c.self.inside.reader c.feed.new.self c.self.inside.is_whole c.in_ok-feed.ensures.stands
    (subst (λ (m : KeptMain). StandsAt given k text m) (sym c.self.view_is) stands)
