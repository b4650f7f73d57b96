use Rattle.std.proofs.Common.{◌∙◌, rules}
use Rattle.mig_stream.proofs.Keeping.{round_ended}
use Rattle.mig_stream.proofs.progress.Progress.end_round.Goals as goal

pub invariant_of-self-2 : goal.invariant_of-self-2
invariant_of-self-2 g c = (
  round_ended _ c.self.inside.records _ c.self.inside.rounds.items _ c.self.invariant.0
      (c.replace-records.ensures.after ∙ c.new-none.ensures) (search rules),
  c.self.invariant.1,
)
