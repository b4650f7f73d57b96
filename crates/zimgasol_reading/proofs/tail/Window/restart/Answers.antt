use Rattle.std.proofs.Common.{rules, ℕ, ◌≡◌, ◌++◌, List, ap, ◌∙◌}
use Rattle.zimgasol_reading.specs.TailSeen.{last_of}
use Rattle.zimgasol_reading.specs.declared.tail.Window.{Window}
use Rattle.zimgasol_reading.proofs.TailWindow.{restarted}
use Rattle.zimgasol_reading.proofs.tail.Window.restart.Goals as goal

pub returns : goal.returns
returns c = λ bytes next small is_count same zero at.
    let old : Window = c.args.self.now in
    let piece : List ℕ = c.args.piece.now in
    let new : Window = record {
      alloc = c.args.self.now.alloc;
      len = c.saturating_add-self.result;
      recent = c.in_ok-recent.recent;
      start = c.saturating_sub-self.result;
      kept = c.in_ok-self.field-0;
    } in
    let recent : new.recent.items ≡ last_of 6 (old.recent.items ++ piece) =
    c.in_ok-recent.ensures ∙ ap (λ (l : List ℕ). last_of 6 (l ++ piece)) c.deref.ensures.value in
    let kept : new.kept.items ≡ new.recent.items = search rules in
    restarted bytes next piece old new c.args.count small is_count same zero at (search rules) recent (search rules) kept
