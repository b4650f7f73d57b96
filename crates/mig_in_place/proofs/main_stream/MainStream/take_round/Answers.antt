use Rattle.std.proofs.Common.{◌≡◌, ◌∙◌, Bool, false, sym, ap, subst}
use Rattle.mig_in_place.specs.Sources.{KeptMain, StandsAt}
use Rattle.mig_in_place.proofs.Mains.{kept, taken_stands, taken_last, taken_round, taken_places}
use Rattle.mig_in_place.proofs.main_stream.MainStream.take_round.Goals as goal

pub returns-clause-stands : goal.returns-clause-stands
returns-clause-stands g c = λ given k text stands.
    let i = c.self.inside in
    let before : StandsAt given k text (kept i.reader false) =
    subst (λ (b : Bool). StandsAt given k text (kept i.reader b)) c.if-self.false
    (subst (λ (m : KeptMain). StandsAt given k text m) (sym c.self.view_is) stands) in
    subst (λ (b : Bool). StandsAt given k text (kept c.take_round.new.self b)) (sym c.is_some-self-inside.ensures)
    (taken_stands c.in-Ok.round i.reader c.take_round.new.self c.in-Ok.ensures.none c.in-Ok.ensures.stands given k text before)

pub returns-clause-last : goal.returns-clause-last
returns-clause-last g c =
    let e : c.args.self.now ≡ kept c.self.inside.reader false = sym c.self.view_is ∙ ap (λ (b : Bool). kept c.self.inside.reader b) c.if-self.false in
    taken_last c.in-Ok.round c.self.inside.reader c.args.self.now e c.in-Ok.ensures.last

pub returns-clause-round : goal.returns-clause-round
returns-clause-round g c =
    let e : c.args.self.now ≡ kept c.self.inside.reader false = sym c.self.view_is ∙ ap (λ (b : Bool). kept c.self.inside.reader b) c.if-self.false in
    taken_round c.in-Ok.round c.self.inside.reader c.args.self.now e c.in-Ok.ensures.round

pub returns-clause-places : goal.returns-clause-places
returns-clause-places g c =
    let e : c.args.self.now ≡ kept c.self.inside.reader false = sym c.self.view_is ∙ ap (λ (b : Bool). kept c.self.inside.reader b) c.if-self.false in
    taken_places c.in-Ok.round c.self.inside.reader c.args.self.now e c.in-Ok.ensures.places
