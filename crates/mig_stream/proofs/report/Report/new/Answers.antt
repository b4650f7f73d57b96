use Rattle.std.proofs.Common.{List, [], sym, subst}
use Rattle.mig_stream.specs.Report.{ItemAt, IsReport}
use Rattle.mig_stream.proofs.Reported.{first_report}
use Rattle.mig_stream.proofs.report.Report.new.Goals as goal

pub returns-clause-report : goal.returns-clause-report
returns-clause-report g c given =
    subst (λ (items : List ItemAt). IsReport given [] [] (record { at = 0; items = items })) (sym c.new.ensures.items) (first_report given)
