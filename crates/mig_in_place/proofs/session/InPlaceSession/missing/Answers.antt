use Rattle.std.proofs.Common.{◌≡◌, ◌∙◌, not, length, ap}
use Rattle.mig_mem.specs.PlaceSet.{PlaceSet, places_where}
use Rattle.mig_mem.specs.Place.{has_place}
use Rattle.mig_in_place.specs.Session.{InPlaceLoad}
use Rattle.mig_answer.specs.Rounds.{places_in_rounds}
use Rattle.mig_assemble.specs.NamedPlaces.{left_out}
use Rattle.mig_assemble.proofs.Naming.{missing_is}
use Rattle.mig_in_place.proofs.session.InPlaceSession.missing.Goals as goal

pub returns-clause-told : goal.returns-clause-told
returns-clause-told g c = λ memory given uuid first texts stands.
    let i = c.self.inside in
    let named : i.named ≡ c.args.self.now.named = ap (λ (x : InPlaceLoad). x.named) c.self.view_is in
    let has = stands.has_named in
    record {
      readings = has.readings;
      are_readings = has.are_readings;
      is_count = λ own.
          c.lacking.ensures.value
          ∙ ap (λ (s : PlaceSet). length (places_where s.table (λ p. not (has_place s.marked p)))) named
          ∙ missing_is first.table (places_in_rounds first.table c.args.self.now.rounds has.readings) c.args.self.now.named (has.has_places own);
    }

pub returns-clause-value : goal.returns-clause-value
returns-clause-value g c =
    let i = c.self.inside in
    c.lacking.ensures.value ∙ ap (λ (x : InPlaceLoad). left_out x.named.table x.named.marked) c.self.view_is
