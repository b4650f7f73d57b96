use Rattle.std.proofs.Common.{ℕ, ◌++◌, List, length, take, ap, ◌∙◌, arith}
use Rattle.std.proofs.lemmas.List.{with_items_is}
use Rattle.zimgasol_mapped.proofs.Indexed.{part_more}
use Rattle.zimgasol_mapped.proofs.heads.read_more.Goals as goal

pub returns-clause-bytes : goal.returns-clause-bytes
returns-clause-bytes g c = λ all known part.
    let old : List ℕ = c.args.bytes.now.items in
    let n : ℕ = c.in-Ok.read in
    let same = with_items_is c.in_ok-piece.piece c.read_at.new.buffer (c.read_at.ensures.len ∙ c.deref_mut.ensures.len) in
    part_more all old c.read_at.new.buffer c.extend_from_slice.new.self.items c.args.place c.saturating_add-at.result (length c.read_at.new.buffer) n part
    (omega (arith, c.saturating_add-at.ensures, c.len-2.ensures)) (c.read_at.ensures.small all known) (c.in-Ok.ensures.bytes all known)
    (c.in_ok-extend_from_slice.ensures.items ∙ ap (λ (l : List ℕ). old ++ take n l) (c.deref.ensures.value ∙ same))
