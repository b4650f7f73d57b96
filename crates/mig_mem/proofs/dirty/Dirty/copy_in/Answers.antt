use Rattle.std.proofs.Common.{ℕ, ◌≡◌, ◌<◌, ◌∙◌, List, [], length, get_or, sym, ap, arith}
use Rattle.std.specs.declared.vec.Vec.{Vec}
use Rattle.std.proofs.lemmas.List.{length-map, take_all}
use Rattle.mig_mem.specs.Buffers.{buffers_of}
use Rattle.mig_mem.proofs.Sets.{row_at}
use Rattle.mig_mem.proofs.Skips.{copied_more, copied_counted}
use Rattle.mig_mem.proofs.dirty.Dirty.copy_in.Goals as goal

pub loop-row-preserved : goal.loop-row-preserved
loop-row-preserved g c =
    let words = c.self.inside.words.items in
    let i = c.loop-row.row-index in
    let same = c.deref-row-items.ensures.value in
    let within : i < length words = omega (arith, ap (λ (l : List (Vec ℕ g.row.A.Denot)). length l) same) in
    let lt : i < length (buffers_of words) = omega (arith, length-map words (λ (v : Vec ℕ g.row.A.Denot). v.items)) in
    let is : c.row-item.result ≡ get_or words i c.row-item.result = c.row-item.is
    ∙ ap (λ (l : List (Vec ℕ g.row.A.Denot)). get_or l i c.row-item.result) same in
    let row : c.in_ok-row_in.field-0.items ≡ get_or (buffers_of words) i [] = c.in_ok-row_in.ensures ∙ c.deref.ensures.value
    ∙ sym (row_at words i c.row-item.result within is) in
    ap (λ (l : List (Vec ℕ g.row.B.Denot)). buffers_of l) c.in_ok-push.ensures.items
    ∙ copied_more (buffers_of words) c.loop-row.words.items i c.in_ok-row_in.field-0 lt c.loop-row.invariant row

pub invariant_of-result : goal.invariant_of-result
invariant_of-result g c =
    let words = c.self.inside.words.items in
    let rows = buffers_of words in
    let same = c.deref-row-items.ensures.value in
    let all : buffers_of c.loop-row.words.items ≡ rows =
    c.loop-row.invariant ∙ take_all c.loop-row.row-index rows
    (omega (arith, ap (λ (l : List (Vec ℕ g.row.A.Denot)). length l) same, length-map words (λ (v : Vec ℕ g.row.A.Denot). v.items))) in
    (copied_counted c.self.inside.table c.in_ok-table.table words c.loop-row.words.items c.self.inside.count c.in_ok-table.ensures all c.self.invariant).0

pub returns : goal.returns
returns g c =
    let words = c.self.inside.words.items in
    let rows = buffers_of words in
    let same = c.deref-row-items.ensures.value in
    let all : buffers_of c.loop-row.words.items ≡ rows =
    c.loop-row.invariant ∙ take_all c.loop-row.row-index rows
    (omega (arith, ap (λ (l : List (Vec ℕ g.row.A.Denot)). length l) same, length-map words (λ (v : Vec ℕ g.row.A.Denot). v.items))) in
    (copied_counted c.self.inside.table c.in_ok-table.table words c.loop-row.words.items c.self.inside.count c.in_ok-table.ensures
    all c.self.invariant).1 ∙ c.self.view_is
