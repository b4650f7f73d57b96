use Rattle.std.proofs.Common.{map}
use Rattle.mig_packet.specs.Lent.{fields}
use Rattle.mig_assemble.specs.Judging.{refusal}
use Rattle.mig_assemble.specs.Target.{pages_of_round}
use Rattle.mig_answer.proofs.round.apply.Goals as goal

pub returns-in-Err-clause-refused : goal.returns-in-Err-clause-refused
returns-in-Err-clause-refused g c =
    let target = c.args.target.now in
    c.round_error.ensures.refused target.rounds (refusal target.memory.table target.base (pages_of_round c.args.round.now) (map fields c.args.gathered.now))
    c.rounds-rounds.ensures c.in-Err.ensures.refused
