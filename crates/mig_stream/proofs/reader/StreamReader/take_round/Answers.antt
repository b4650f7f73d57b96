use Rattle.std.proofs.Common.{sym, ap}
use Rattle.mig_stream.specs.Reader.{Reader}
use Rattle.mig_stream.proofs.Standing.{taken_each, fewer_each, round_each, places_each, none_each}
use Rattle.mig_stream.proofs.reader.StreamReader.take_round.Goals as goal

pub returns-clause-last : goal.returns-clause-last
returns-clause-last g c =
    none_each _ c.take_round.result c.args.self.now c.self.inside.progress (ap (λ (x : Reader). x.progress) (sym c.self.view_is)) c.take_round.ensures.none

pub returns-clause-round : goal.returns-clause-round
returns-clause-round g c =
    round_each c.take_round.result c.args.self.now c.self.inside.progress c.take_round.new.self (ap (λ (x : Reader). x.progress) (sym c.self.view_is))
    c.take_round.ensures.some c.take_round.ensures.page_size

pub returns-clause-places : goal.returns-clause-places
returns-clause-places g c =
    places_each c.take_round.result c.args.self.now c.self.inside.progress c.take_round.new.self
    (ap (λ (x : Reader). x.progress) (sym c.self.view_is)) c.take_round.ensures.some

pub returns-clause-stands : goal.returns-clause-stands
returns-clause-stands g c =
    taken_each c.take_round.result c.args.self.now _ c.self.inside.progress c.take_round.new.self (ap (λ (x : Reader). x.progress) (sym c.self.view_is))
    (ap (λ (x : Reader). record x { progress = c.take_round.new.self }) c.self.view_is) c.take_round.ensures.some

pub returns-clause-fewer : goal.returns-clause-fewer
returns-clause-fewer g c =
    fewer_each c.take_round.result c.args.self.now _ c.self.inside.progress c.take_round.new.self (ap (λ (x : Reader). x.progress) (sym c.self.view_is))
    (ap (λ (x : Reader). record x { progress = c.take_round.new.self }) c.self.view_is) c.take_round.ensures.some
