use Rattle.std.proofs.Common.{sym, subst}
use Rattle.mig_in_place.specs.Sources.{KeptMain, StandsAt}
use Rattle.mig_in_place.proofs.Mains.{ended}
use Rattle.mig_in_place.proofs.main_stream.MainStream.end.Goals as goal

pub returns-clause-stands : goal.returns-clause-stands
returns-clause-stands g c = λ given k text stands.
    ended given k text c.self.inside.reader c.end.new.self c.self.inside.is_whole c.end.ensures.stands
    (subst (λ (m : KeptMain). StandsAt given k text m) (sym c.self.view_is) stands)
