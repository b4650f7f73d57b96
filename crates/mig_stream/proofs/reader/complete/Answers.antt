use Rattle.std.proofs.Common.{arith, ◌≡◌, ◌≤◌, ◌+◌, ◌-◌, ◌++◌, ℕ, List, length, take, drop, ap, sym, subst, ◌∙◌}
use Rattle.std.proofs.lemmas.List.{append_assoc, length-append, take-append-drop, take-append-le, length-take}
use Rattle.mig_stream.specs.Items.{size}
use Rattle.mig_stream.proofs.Growing.{fits_on}
use Rattle.mig_stream.proofs.reader.complete.Goals as goal

-- bytes that move from the rest of the piece to those kept
moved : (k : ℕ) (kept rest all : List ℕ) → kept ++ rest ≡ all → kept ++ take k rest ++ drop k rest ≡ all
moved k kept rest all e = append_assoc kept (take k rest) (drop k rest) ∙ ap (λ (x : List ℕ). kept ++ x) (take-append-drop k rest) ∙ e

-- don't change the first ones
front_stays : (old kept more : List ℕ) → take (length old) kept ≡ old → take (length old) (kept ++ more) ≡ old
front_stays old kept more e =
    take-append-le (length old) kept more (omega (arith, length-take (length old) kept, ap (λ (x : List ℕ). length x) e)) ∙ e

pub bytes-preserved : goal.bytes-preserved
bytes-preserved g c =
    let p = c.args.progress.now in
    let kept : List ℕ = c.bytes.pending.items in
    let rest : List ℕ = c.bytes.rest.now in
    let front : List ℕ = c.split_at.result.0.now in
    let sized : c.size-in-bytes.result ≡ size p.page_size p.due kept =
    c.size-in-bytes.ensures.size ∙ ap (λ (x : List ℕ). size p.page_size p.due x) c.deref-in-bytes.ensures.value in
    let grown = c.in_ok-extend_from_slice.ensures.items in (
      rw grown (rw c.split_at.ensures.front (rw c.split_at.ensures.back (moved c.min.result kept rest _ c.bytes.invariant.0))),
      rw grown (fits_on p.page_size p.due kept front c.bytes.invariant.1
          (omega (arith, sized, c.min.ensures, c.split_at.ensures.front_len, c.len-in-bytes.ensures))),
      rw grown (front_stays c.args.pending.now.items kept front c.bytes.invariant.2),
    )
