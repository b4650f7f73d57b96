use Rattle.std.proofs.Common.{Option, subst, sym}
use Rattle.mig_session.specs.Sources.{Waits}
use Rattle.mig_session.specs.Loading.{RoundLoad, fed, AllWait, TakesOrWaits}
use Rattle.mig_session.proofs.FedSources.{on_ok}
use Rattle.mig_session.proofs.Advances.{all_pushed}
use Rattle.mig_session.proofs.session.put_any.Goals as goal

pub returns-in-Some-clause-ok : goal.returns-in-Some-clause-ok
returns-in-Some-clause-ok g c = on_ok c.put.result c.put.ensures.ok (λ puts f takes room.
    puts f (subst (λ (o : Option RoundLoad). TakesOrWaits f c.args.waiting.now o) c.in-Some.is takes) room)

pub returns-in-None-clause-ok : goal.returns-in-None-clause-ok
returns-in-None-clause-ok g c = on_ok c.push.result c.push.ensures.ok (λ is f takes room.
    subst (λ (o : Option RoundLoad). TakesOrWaits (fed c.args.source c.args.piece.now f) c.push.new.self o) (sym c.in-None.is)
    (subst (λ (x : Waits). AllWait x (fed c.args.source c.args.piece.now f).texts) (sym is)
    (all_pushed c.args.source c.args.piece.now c.args.waiting.now f.texts room.there
    (subst (λ (o : Option RoundLoad). TakesOrWaits f c.args.waiting.now o) c.in-None.is takes))))
