use Rattle.std.proofs.Common.{subst, sym, ap, ◌∙◌}
use Rattle.mig_stream.specs.Progress.{whole_table}
use Rattle.mig_stream.specs.Reader.{HasTable}
use Rattle.mig_stream.specs.Giving.{Paused}
use Rattle.mig_stream.proofs.Giver.{paused_table}
use Rattle.mig_stream.proofs.record_reader.Pause.table.Goals as goal

pub returns-clause-table : goal.returns-clause-table
returns-clause-table g c given text so_far at =
    subst (λ x. HasTable given text x) (sym (c.table.ensures ∙ ap (λ (p : Paused). whole_table p.progress) c.self.view_is))
    (paused_table given text so_far c.args.self.now at)
