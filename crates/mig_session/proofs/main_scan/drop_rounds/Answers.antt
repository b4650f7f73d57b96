use Rattle.std.proofs.Common.{refl, sym, ◌∙◌}
use Rattle.mig_session.proofs.MainScanning.{none_dropped, one_dropped, all_dropped, where_some, where_none}
use Rattle.mig_session.proofs.main_scan.drop_rounds.Goals as goal

pub rounds-init : goal.rounds-init
rounds-init g c = none_dropped c.args.reader.now c.args.rounds

pub rounds-preserved-then-is_some : goal.rounds-preserved-then-is_some
rounds-preserved-then-is_some g c =
    one_dropped c.args.reader.now c.rounds.reader c.take_round.new.self c.args.rounds c.rounds.rounds c.counted-rounds.result
    (where_some c.in-Ok.round _ (sym c.is_some.ensures ∙ c.if-is_some.true) c.in-Ok.ensures.stands) (c.counted-rounds.ensures.one refl) c.rounds.invariant

pub returns-else-is_some : goal.returns-else-is_some
returns-else-is_some g c =
    all_dropped c.args.reader.now c.rounds.reader c.take_round.new.self c.args.rounds c.rounds.rounds
    (where_none c.in-Ok.round _ (sym c.is_some.ensures ∙ c.if-is_some.false) c.in-Ok.ensures.none)
    (where_none c.in-Ok.round _ (sym c.is_some.ensures ∙ c.if-is_some.false) c.in-Ok.ensures.last) c.rounds.invariant
