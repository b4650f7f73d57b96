use Rattle.std.proofs.Common.{◌≡◌, ◌∙◌, true, false, Option, Some, subst, sym}
use Rattle.mig_session.specs.Loading.{RoundLoad, Feeding, over, TakesOrWaits}
use Rattle.mig_session.specs.Session.{LoadsWith}
use Rattle.mig_session.specs.Advancing.{LoadsAfter}
use Rattle.mig_session.proofs.Advances.{ends_waiting}
use Rattle.mig_session.proofs.Settling.{takes_size, takes_there, settles_over, settles_behind}
use Rattle.mig_session.proofs.session.end_taken.Goals as goal

pub end-requires : goal.end-requires
end-requires g c =
    let f : Feeding = c.requires.0 in
    takes_there f c.args.waiting.now c.in-Some.load c.args.source
    (subst (λ (o : Option RoundLoad). TakesOrWaits f c.args.waiting.now o) c.in-Some.is c.requires.1) c.requires.2

pub returns-then-none_of-clause-ended : goal.returns-then-none_of-clause-ended
returns-then-none_of-clause-ended g c = λ f verdict loads there running.
    let w = c.args.waiting.now in
    let here : LoadsWith f w (Some c.in-Some.load) verdict = subst (λ (o : Option RoundLoad). LoadsWith f w o verdict) c.in-Some.is loads in
    settles_over f w c.in-Some.load c.end.new.self c.args.source (takes_size f w c.in-Some.load here.0.takes) there (c.none_of.ensures.0 c.if-none_of.true)
    (sym here.1 ∙ running) c.end.ensures.ok c.end.ensures.table c.end.ensures.rounds.0 here.0

pub returns-else-none_of-clause-ended : goal.returns-else-none_of-clause-ended
returns-else-none_of-clause-ended g c = λ f verdict loads there running.
    let w = c.args.waiting.now in
    let here : LoadsWith f w (Some c.in-Some.load) verdict = subst (λ (o : Option RoundLoad). LoadsWith f w o verdict) c.in-Some.is loads in
    settles_behind f w c.in-Some.load c.args.source there
    (λ e. let yes : c.none_of.result ≡ true = c.none_of.ensures.1 e in let bad : true ≡ false = sym yes ∙ c.if-none_of.false in absurd cc)
    (sym here.1 ∙ running) here.0

pub returns-in-None-clause-ended : goal.returns-in-None-clause-ended
returns-in-None-clause-ended g c = λ f verdict loads there running.
    subst (λ (o : Option RoundLoad). LoadsAfter (over c.args.source f) c.args.waiting.now o) (sym c.in-None.is)
    (ends_waiting f c.args.waiting.now c.args.source verdict (subst (λ (o : Option RoundLoad). LoadsWith f c.args.waiting.now o verdict) c.in-None.is loads))
