use Rattle.std.proofs.Common.{◌∙◌, ap, ◌++◌, length, List, ℕ}
use Rattle.std.specs.Prelude.{drop, replicate}
use Rattle.std.proofs.lemmas.List.{drop-replicate}
use Rattle.mig_c_loads.proofs.first_table.filled.Goals as goal

pub returns : goal.returns
returns c = let id = c.args.id.now in
    ap (λ (front : List ℕ). front ++ drop (length id) (replicate 256 0)) c.copy_from_slice.ensures.after
    ∙ ap (λ (back : List ℕ). id ++ back) (drop-replicate (length id) 256 0)
