use Rattle.std.proofs.Common.{ℕ, ◌≡◌, List, ◌++◌, length, take, drop, leb, true, sym, ap, ◌∙◌, append_assoc}
use Rattle.std.proofs.lemmas.Bool.{le-leb}
use Rattle.std.proofs.lemmas.List.{drop-drop}
use Rattle.zimgasol_mapped.specs.Sparse.{raw_format}
use Rattle.zimgasol_mapped.proofs.sparse.set_raw.Goals as goal

pub returns-then-bytes : goal.returns-then-bytes
returns-then-bytes c =
    let old = c.args.bytes.now in
    let long : leb 32 (length old) ≡ true = le-leb 32 (length old) c.if-bytes.true in
    rw long (ap (λ (l : List ℕ). take 28 old ++ (l ++ drop 4 (drop 28 old))) c.copy_from_slice.ensures.after
    ∙ ap (λ (l : List ℕ). take 28 old ++ (raw_format ++ l)) (drop-drop 4 28 old) ∙ sym (append_assoc (take 28 old) raw_format (drop 32 old)))
