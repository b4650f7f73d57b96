use Rattle.std.proofs.Common.{refl, sym, ap, ◌∙◌, subst, ◌+◌, ◌-◌, length}
use Rattle.mig_stream.specs.Reader.{Reader, StepsOn, with_piece}
use Rattle.mig_stream.proofs.Standing.{fed_on, fed_past, unsettled}
use Rattle.mig_stream.proofs.Reported.{reads_on, report_fed, report_past}
use Rattle.mig_stream.proofs.reader.StreamReader.feed_reporting.Goals as goal

pub returns-clause-stands : goal.returns-clause-stands
returns-clause-stands g c =
    subst (λ (x : Reader). StepsOn (with_piece c.args.piece.now) c.args.self.now
    (record x { valid_up_to = c.saturating_sub-self-inside.result; fed = x.fed + length c.args.piece.now })) (sym c.self-2.view_is)
    (fed_on c.args.self.now c.read_on_reporting.new.self c.args.piece.now c.in_ok-left.left c.saturating_sub-self-inside.result
    (c.saturating_sub-self-inside.ensures ∙ ap
    (λ (x : Reader). x.fed + length c.args.piece.now - c.in_ok-left.left) c.self-2.view_is) (c.if-not-is_reading.ensures.reading refl)
    (reads_on _ _ _ _ _ _ _ _ c.in_ok-left.ensures.ok) c.in_ok-left.ensures.same.0 c.in_ok-left.ensures.same.1)

pub returns-then-not-is_reading-clause-stands : goal.returns-then-not-is_reading-clause-stands
returns-then-not-is_reading-clause-stands g c =
    subst (λ (x : Reader). StepsOn (with_piece c.args.piece.now) c.args.self.now (record x { fed = x.fed + length c.args.piece.now })) (sym c.self.view_is)
    (fed_past c.args.self.now c.args.piece.now (c.if-not-is_reading.ensures.other refl))

pub returns-in_err-left-clause-settled : goal.returns-in_err-left-clause-settled
returns-in_err-left-clause-settled g c = λ given so_far s settled.
    absurd (unsettled c.args.self.now (c.if-not-is_reading.ensures.reading refl) given so_far s settled)

pub returns-clause-report : goal.returns-clause-report
returns-clause-report g c given so_far s cleared is =
    let r = c.in_ok-left.ensures.ok in
    report_fed given so_far cleared c.args.self.now c.args.piece.now r.rest c.read_on_reporting.new.self.progress
    c.read_on_reporting.new.self.found c.args.report.now c.read_on_reporting.new.report
    (c.if-not-is_reading.ensures.reading refl) r.reports r.ends s is

pub returns-then-not-is_reading-clause-report : goal.returns-then-not-is_reading-clause-report
returns-then-not-is_reading-clause-report g c given so_far s cleared is =
    report_past given so_far cleared c.args.self.now c.args.piece.now c.args.report.now (c.if-not-is_reading.ensures.other refl) s is
