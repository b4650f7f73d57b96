use Rattle.std.proofs.Common.{ap, ◌∙◌}
use Rattle.mig_stream.specs.Reading.{state_at}
use Rattle.mig_stream.specs.Reader.{Reader}
use Rattle.mig_stream.proofs.Standing.{state_stands}
use Rattle.mig_stream.proofs.reader.StreamReader.state.Goals as goal

pub returns : goal.returns
returns g c = state_stands c.args.self.now c.state_at.result (c.state_at.ensures ∙ ap (λ (r : Reader). state_at r.ended r.found) c.self.view_is)
