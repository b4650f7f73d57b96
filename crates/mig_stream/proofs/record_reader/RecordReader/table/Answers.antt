use Rattle.std.proofs.Common.{ap, refl, ◌∙◌}
use Rattle.mig_stream.specs.Progress.{whole_table}
use Rattle.mig_stream.specs.Giving.{Giver}
use Rattle.mig_stream.proofs.Giver.{table_each}
use Rattle.mig_stream.proofs.record_reader.RecordReader.table.Goals as goal

pub returns-clause-table : goal.returns-clause-table
returns-clause-table g c = table_each c.args.self.now _ _ refl (c.table.ensures ∙ ap (λ (x : Giver). whole_table x.progress) c.self.view_is)
