use Rattle.std.proofs.Common.{refl}
use Rattle.mig_in_place.proofs.source_reader.SourceReader.turn.Goals as goal

pub take_turn-requires-clause-takes : goal.take_turn-requires-clause-takes
take_turn-requires-clause-takes g c = c.takes.ensures.takes c.if-takes.true (g.M.GuestTarget.image c.args.memory.now)

pub returns-else-takes : goal.returns-else-takes
returns-else-takes g c = record { is_same = refl; takes_none = c.takes.ensures.none c.if-takes.false (g.M.GuestTarget.image c.args.memory.now) }
