use Rattle.mig_stream.specs.Report.{KeepsItems}
use Rattle.mig_stream.proofs.Writing.{on_err}
use Rattle.mig_stream.proofs.reporting.read_in_place_reporting.Goals as goal

pub returns-in_err-keep-in-Reading-clause-items : goal.returns-in_err-keep-in-Reading-clause-items
returns-in_err-keep-in-Reading-clause-items g c =
    on_err c.from_residual-in_err-keep-in-Reading.result (KeepsItems c.args.report.now c.run_reporting.new.report) c.run_reporting.ensures.kept
