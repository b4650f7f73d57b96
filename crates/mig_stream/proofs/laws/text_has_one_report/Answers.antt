use Rattle.mig_stream.proofs.Reported.{report_exists, one_report, report_valid, longer_report}
use Rattle.mig_stream.proofs.laws.text_has_one_report.Goals as goal

pub returns-clause-exists : goal.returns-clause-exists
returns-clause-exists c = report_exists

pub returns-clause-one : goal.returns-clause-one
returns-clause-one c = one_report

pub returns-clause-valid : goal.returns-clause-valid
returns-clause-valid c = report_valid

pub returns-clause-longer : goal.returns-clause-longer
returns-clause-longer c = longer_report
