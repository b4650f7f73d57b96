use Rattle.std.proofs.Common.{ℕ, take, subst}
use Rattle.std.specs.Prelude.{IfOk, OnErr}
use Rattle.mig_sources.specs.Sources.{feed_step}
use Rattle.mig_session.specs.Loading.{RoundLoad, round_load, TakesOn, KeepsAlone}
use Rattle.mig_session.proofs.Rounds.{takes_on, keeps_alone}
use Rattle.mig_session.proofs.loading.RoundLoad.take.Goals as goal

pub returns-clause-ok : goal.returns-clause-ok
returns-clause-ok g c =
    let i = c.self.inside in
    let new : RoundLoad = round_load c.feed_rounds_by.new.self c.feed_rounds_by.new.memory in
    subst (λ (l : RoundLoad). IfOk c.feed_rounds_by.result (λ n. TakesOn (feed_step c.args.source (take n c.args.piece.now)) l new)) c.self.view_is
    (takes_on c.args.source c.args.piece.now (round_load i.load i.memory) new c.feed_rounds_by.result c.feed_rounds_by.ensures.table.0
    c.feed_rounds_by.ensures.ok c.feed_rounds_by.ensures.kept)

pub returns-clause-err : goal.returns-clause-err
returns-clause-err g c =
    let i = c.self.inside in
    let new : RoundLoad = round_load c.feed_rounds_by.new.self c.feed_rounds_by.new.memory in
    subst (λ (l : RoundLoad). OnErr c.feed_rounds_by.result (KeepsAlone (feed_step c.args.source c.args.piece.now) l new)) c.self.view_is
    (keeps_alone (feed_step c.args.source c.args.piece.now) (round_load i.load i.memory) new c.feed_rounds_by.result c.feed_rounds_by.ensures.table.0
    c.feed_rounds_by.ensures.err)
