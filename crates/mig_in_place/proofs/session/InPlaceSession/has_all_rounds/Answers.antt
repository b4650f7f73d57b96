use Rattle.std.proofs.Common.{◌≡◌, ◌∙◌, sym, ap, subst}
use Rattle.mig_answer.specs.declared.verdict.Verdict.{Verdict}
use Rattle.mig_answer.specs.declared.verdict.Verdict.TheVariants.{Running, Done}
use Rattle.mig_in_place.specs.Answer.{IsInPlaceAnswer}
use Rattle.mig_in_place.specs.Session.{InPlaceLoad, Loading}
use Rattle.mig_in_place.proofs.Takes.{loads_of}
use Rattle.mig_in_place.proofs.AllIn.{done_has_all}
use Rattle.mig_in_place.proofs.session.InPlaceSession.has_all_rounds.Goals as goal

pub returns-in-Running-clause-all : goal.returns-in-Running-clause-all
returns-in-Running-clause-all g c = λ t memory is_memory given uuid first texts stands.
    let f : Loading = record { given = given; uuid = uuid; first = first; texts = texts } in
    let running : c.args.self.now.verdict ≡ Running = ap (λ (x : InPlaceLoad). x.verdict) (sym c.self.view_is) ∙ c.in-Running.is in
    c.lacks_ends.ensures.all t f memory (loads_of f memory c.args.self.now running stands)

pub returns-in-Done-clause-all : goal.returns-in-Done-clause-all
returns-in-Done-clause-all g c = λ t memory is_memory given uuid first texts stands.
    let done : c.args.self.now.verdict ≡ Done = ap (λ (x : InPlaceLoad). x.verdict) (sym c.self.view_is) ∙ c.in-Done.is in
    done_has_all given uuid first texts memory c.args.self.now.rounds stands.is_table stands.is_image is_memory
    (subst (λ (v : Verdict). IsInPlaceAnswer given uuid first texts memory c.args.self.now.rounds v) done stands.is_answer)

pub returns-in-Running-clause-more : goal.returns-in-Running-clause-more
returns-in-Running-clause-more g c = λ t is_running memory given uuid first texts stands.
    let f : Loading = record { given = given; uuid = uuid; first = first; texts = texts } in
    let running : c.args.self.now.verdict ≡ Running = ap (λ (x : InPlaceLoad). x.verdict) (sym c.self.view_is) ∙ c.in-Running.is in
    c.lacks_ends.ensures.more t f memory (loads_of f memory c.args.self.now running stands)
