use Rattle.std.proofs.Common.{◌≡◌, ◌≤◌, List, ℕ, Some, length, take, sym, ap, subst, ◌∙◌}
use Rattle.std.proofs.lemmas.List.{length-take-le}
use Rattle.mig_stream.specs.Kept.{buffers_of_records, content_in, IsHeld}
use Rattle.mig_stream.proofs.Keeping.{held_there, content_there}
use Rattle.mig_stream.proofs.record.content_at.Goals as goal

pub returns-in-Zeros : goal.returns-in-Zeros
returns-in-Zeros g c = ap (λ r. content_in (buffers_of_records c.args.records.now) r) (sym c.in-Zeros.is)
    ∙ content_there c.args.records.now c.args.i _ c.index-records-i.result c.requires.there c.index-records-i.is c.requires.held

pub slice_bounds-result-end : goal.slice_bounds-result-end
slice_bounds-result-end g c =
    let bytes : c.deref-in-Kept.result.now ≡ c.in-Kept.buffer.value.items = c.deref-in-Kept.ensures.value ∙ ap (λ v. v.items) c.deref.ensures in
    let held : IsHeld (buffers_of_records c.args.records.now) c.index-records-i.result =
    held_there c.args.records.now c.args.i c.index-records-i.result c.requires.there c.index-records-i.is c.requires.held in
    let fits : c.in-Kept.end ≤ length c.in-Kept.buffer.value.items = subst (λ r. IsHeld (buffers_of_records c.args.records.now) r) c.in-Kept.is held in
    sym (length-take-le c.in-Kept.end c.deref-in-Kept.result.now (subst (λ (b : List ℕ). c.in-Kept.end ≤ length b) (sym bytes) fits))

pub bytes_after-requires : goal.bytes_after-requires
bytes_after-requires g c =
    subst (λ r. IsHeld (buffers_of_records c.args.records.now) r) c.in-Behind.is
    (held_there c.args.records.now c.args.i c.index-records-i.result c.requires.there c.index-records-i.is c.requires.held)

pub returns-in-Kept : goal.returns-in-Kept
returns-in-Kept g c =
    let bytes : c.deref-in-Kept.result.now ≡ c.in-Kept.buffer.value.items = c.deref-in-Kept.ensures.value ∙ ap (λ v. v.items) c.deref.ensures in
    ap (λ (b : List ℕ). Some (take c.in-Kept.end b)) bytes
    ∙ ap (λ r. content_in (buffers_of_records c.args.records.now) r) (sym c.in-Kept.is)
    ∙ content_there c.args.records.now c.args.i _ c.index-records-i.result c.requires.there c.index-records-i.is c.requires.held

pub returns-in-Behind : goal.returns-in-Behind
returns-in-Behind g c = ap (λ (b : List ℕ). Some b) c.bytes_after.ensures
    ∙ ap (λ r. content_in (buffers_of_records c.args.records.now) r) (sym c.in-Behind.is)
    ∙ content_there c.args.records.now c.args.i _ c.index-records-i.result c.requires.there c.index-records-i.is c.requires.held

pub returns-in-Lent : goal.returns-in-Lent
returns-in-Lent g c = ap (λ r. content_in (buffers_of_records c.args.records.now) r) (sym c.in-Lent.is)
    ∙ content_there c.args.records.now c.args.i _ c.index-records-i.result c.requires.there c.index-records-i.is c.requires.held
