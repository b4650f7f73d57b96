use Rattle.std.proofs.Common.{ap, ◌∙◌}
use Rattle.std.specs.Option.{option_copied}
use Rattle.mig_stream.specs.Progress.{whole_table}
use Rattle.mig_stream.specs.Reader.{Reader}
use Rattle.mig_stream.proofs.Standing.{table_stands}
use Rattle.mig_stream.proofs.reader.StreamReader.table.Goals as goal

pub returns : goal.returns
returns g c = table_stands c.args.self.now (option_copied c.table.result) (c.table.ensures ∙ ap (λ (r : Reader). whole_table r.progress) c.self.view_is)
