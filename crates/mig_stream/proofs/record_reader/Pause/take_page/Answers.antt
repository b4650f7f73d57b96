use Rattle.std.proofs.Common.{◌∷◌, ◌++◌, [], ℕ, List, refl, sym, ap, subst, ◌∙◌}
use Rattle.std.specs.Prelude.{IfSome}
use Rattle.mig_stream.specs.PageRecord.{page_record}
use Rattle.mig_stream.specs.Reading.{Settings}
use Rattle.mig_stream.specs.Giving.{GivenSoFar, with_more, Paused, PausesAt}
use Rattle.mig_stream.specs.Wanted.{page_due}
use Rattle.mig_stream.proofs.Taken.{took_each}
use Rattle.mig_stream.proofs.record_reader.Pause.take_page.Goals as goal

pub returns : goal.returns
returns g c =
    let content : List ℕ = c.args.content.now in
    let p : Paused = record { progress = c.self.inside.progress; pending = c.self.inside.pending.items; fed = c.self.inside.fed } in
    let q : Paused = record { progress = c.pass_page.new.self; pending = c.self.inside.pending.items; fed = c.saturating_add-self-inside.result } in
    subst (λ (old : Paused). IfSome (page_due old) (λ place. (given : Settings) (text : List ℕ) (so_far : GivenSoFar) → PausesAt given text so_far old
    → PausesAt given (text ++ content) (with_more (page_record place content ∷ []) so_far) q)) c.self.view_is
    (took_each content p q (c.requires.len ∙ sym (ap (λ (x : Paused). x.progress.page_size) c.self.view_is))
    c.self.invariant.has_no_records c.self.invariant.has_no_rounds
    c.pass_page.ensures refl c.saturating_add-self-inside.ensures)
