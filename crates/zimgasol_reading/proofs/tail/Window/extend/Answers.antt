use Rattle.std.proofs.Common.{rules, ℕ, ◌≡◌, ◌++◌, ◌-◌, List, length, take, min, refl, ap, ◌∙◌}
use Rattle.std.proofs.lemmas.Slice.{between_from_start}
use Rattle.zimgasol_reading.specs.TailSeen.{last_of, most_kept}
use Rattle.zimgasol_reading.specs.declared.tail.Window.{Window}
use Rattle.zimgasol_reading.proofs.TailWindow.{extended}
use Rattle.zimgasol_reading.proofs.tail.Window.extend.Goals as goal

pub returns : goal.returns
returns c = λ bytes small nonzero at.
    let old : Window = c.args.self.now in
    let piece : List ℕ = c.args.piece.now in
    let new : Window = record {
      alloc = c.args.self.now.alloc;
      len = c.saturating_add-self.result;
      recent = c.in_ok-self.field-0;
      start = c.args.self.now.start;
      kept = c.extend_from_slice.new.self;
    } in
    let recent : new.recent.items ≡ last_of 6 (old.recent.items ++ piece) =
    c.in_ok-self.ensures ∙ ap (λ (l : List ℕ). last_of 6 (l ++ piece)) c.deref.ensures.value in
    let kept : new.kept.items ≡ old.kept.items ++ take (min (most_kept - length old.kept.items) (length piece)) piece = search (rules, between_from_start) in
    extended bytes piece old new small nonzero at (search rules) recent refl kept
