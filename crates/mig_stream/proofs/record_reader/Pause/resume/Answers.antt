use Rattle.std.proofs.Common.{◌++◌, ◌+◌, ◌-◌, ◌^◌, length, None, refl, ap, ◌∙◌}
use Rattle.std.specs.Prelude.{min}
use Rattle.mig_stream.specs.Giving.{Giver, Paused}
use Rattle.mig_stream.proofs.Giver.{resumed}
use Rattle.mig_stream.proofs.Reported.{reports_resumed}
use Rattle.mig_stream.proofs.record_reader.Pause.resume.Goals as goal

pub returns-clause-gives : goal.returns-clause-gives
returns-clause-gives g c given text so_far at =
    let new : Giver = record {
      progress = c.without_records-progress.result;
      rest = c.self.inside.pending.items ++ c.args.piece.now;
      found = None;
      given = c.no_round-given.result;
      fed = c.saturating_add.result;
    } in
    resumed given text c.args.piece.now so_far c.args.self new (c.without_records-progress.ensures ∙ ap (λ (p : Paused). p.progress) c.self.view_is)
    (ap (λ (p : Paused). p.pending ++ c.args.piece.now) c.self.view_is) refl
    (c.saturating_add.ensures ∙ ap (λ (p : Paused). min (p.fed + length c.args.piece.now) (2 ^ 64 - 1)) c.self.view_is) at

pub returns-clause-reports : goal.returns-clause-reports
returns-clause-reports g c given text so_far cleared report at is =
    reports_resumed given text c.args.piece.now so_far cleared c.args.self _ report
    (c.without_records-progress.ensures ∙ ap (λ (p : Paused). p.progress) c.self.view_is)
    (ap (λ (p : Paused). p.pending ++ c.args.piece.now) c.self.view_is) (returns-clause-gives g c given text so_far at) at is
