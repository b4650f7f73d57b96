use Rattle.std.proofs.Common.{sym, subst}
use Rattle.mig_stream.specs.Giving.{Giver, Gives}
use Rattle.mig_stream.specs.Report.{Reported, Reports}
use Rattle.mig_stream.proofs.Reported.{ends_report}
use Rattle.mig_stream.proofs.record_reader.RecordReader.read_on_reporting.Goals as goal
use Rattle.mig_stream.proofs.record_reader.RecordReader.read_on_reporting.Goals.{then-is_none+in_ok-read_reporting, else-is_none}

pub returns-clause-page_size : goal.returns-clause-page_size
returns-clause-page_size g c given text so_far h = c.give.ensures.page_size given text so_far (elim c.if-is_none.branch [
  | then-is_none+in_ok-read_reporting w ↦ subst (λ (x : Giver). Gives given text so_far x) (sym w.self-is)
      (w.in_ok-read_reporting.ensures.ok given text so_far h)
  | else-is_none w ↦ subst (λ (x : Giver). Gives given text so_far x) (sym w.self-is) h
])

pub returns-clause-places : goal.returns-clause-places
returns-clause-places g c given text so_far h = c.give.ensures.places given text so_far (elim c.if-is_none.branch [
  | then-is_none+in_ok-read_reporting w ↦ subst (λ (x : Giver). Gives given text so_far x) (sym w.self-is)
      (w.in_ok-read_reporting.ensures.ok given text so_far h)
  | else-is_none w ↦ subst (λ (x : Giver). Gives given text so_far x) (sym w.self-is) h
])

pub returns-clause-report : goal.returns-clause-report
returns-clause-report g c given text so_far cleared h =
    ends_report c.give.result c.give.new.self.given.records given text so_far cleared c.give.new.self c.if-is_none.report c.give.ensures.found
    (c.give.ensures.reports c.if-is_none.report given text so_far cleared (elim c.if-is_none.branch [
      | then-is_none+in_ok-read_reporting w ↦ subst (λ (x : Giver). Reports given text so_far cleared x c.if-is_none.report) (sym w.self-is)
          (subst (λ (x : Reported). Reports given text so_far cleared w.read_reporting.new.self x) (sym w.report-is)
          (w.in_ok-read_reporting.ensures.reports given text so_far cleared h))
      | else-is_none w ↦ subst (λ (x : Giver). Reports given text so_far cleared x c.if-is_none.report) (sym w.self-is)
          (subst (λ (x : Reported). Reports given text so_far cleared c.args.self.now x) (sym w.report-is) h)
    ]))
