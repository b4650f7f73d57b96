use Rattle.std.proofs.Common.{ℕ, ◌≡◌, ◌+◌, ◌/◌, ◌∙◌, ◌++◌, List, [], ◌∷◌, map, replicate, length, sym, ap, arith}
use Rattle.std.specs.List.{range_with_len}
use Rattle.std.specs.declared.vec.Vec.{Vec}
use Rattle.std.proofs.lemmas.List.{map_push}
use Rattle.std.proofs.lemmas.List.FromFn.{map-range_with_len_more}
use Rattle.mig_mem.specs.RamTable.{RamTable, block}
use Rattle.mig_mem.specs.Buffers.{buffers_of}
use Rattle.mig_mem.specs.Marks.{set_in}
use Rattle.mig_mem.proofs.Sets.{no_row, unmarked}
use Rattle.mig_mem.proofs.dirty.Dirty.none.Goals as goal

pub loop-i-init : goal.loop-i-init
loop-i-init g c = ap (λ (l : List (Vec ℕ g.row.A.Denot)). buffers_of l) c.in_ok-words.ensures.items

pub loop-i-preserved : goal.loop-i-preserved
loop-i-preserved g c =
    let table = c.args.table.now in
    let v = c.in_ok-no_words.field-0 in
    let len : c.words_for-len.result ≡ ((block table.blocks c.loop-i.i).pages + 63) / 64 = omega (arith, c.words_for-len.ensures, c.pages.ensures.value) in
    let none : v.items ≡ no_row table c.loop-i.i = c.in_ok-no_words.ensures ∙ ap (λ (n : ℕ). replicate n 0) len in
    ap (λ (l : List (Vec ℕ g.row.A.Denot)). buffers_of l) c.in_ok-push.ensures.items
    ∙ map_push (λ (x : Vec ℕ g.row.A.Denot). x.items) c.loop-i.words.items v
    ∙ ap (λ (l : List (List ℕ)). l ++ v.items ∷ []) c.loop-i.invariant
    ∙ ap (λ (x : List ℕ). map (no_row table) (range_with_len 0 c.loop-i.i) ++ x ∷ []) none
    ∙ sym (map-range_with_len_more (no_row table) 0 c.loop-i.i c.loop-i.i (omega arith))

pub invariant_of-result : goal.invariant_of-result
invariant_of-result g c =
    let table = c.args.table.now in
    let same : c.in_ok-table.table ≡ table = c.in_ok-table.ensures in
    let all : buffers_of c.loop-i.words.items ≡ map (no_row table) (range_with_len 0 (length table.blocks)) =
    c.loop-i.invariant ∙ ap (λ (n : ℕ). map (no_row table) (range_with_len 0 n)) (omega (arith, c.len-i-end.ensures.value)) in
    rw same (unmarked table c.loop-i.words.items c.len-i-end.ensures.table all).0

pub returns : goal.returns
returns g c =
    let table = c.args.table.now in
    let same : c.in_ok-table.table ≡ table = c.in_ok-table.ensures in
    let all : buffers_of c.loop-i.words.items ≡ map (no_row table) (range_with_len 0 (length table.blocks)) =
    c.loop-i.invariant ∙ ap (λ (n : ℕ). map (no_row table) (range_with_len 0 n)) (omega (arith, c.len-i-end.ensures.value)) in
    ap (λ (t : RamTable). set_in t c.loop-i.words.items) same ∙ (unmarked table c.loop-i.words.items c.len-i-end.ensures.table all).1
