use Rattle.std.proofs.Common.{ℕ, ◌≡◌, ◌<◌, ◌∙◌, List, [], length, get_or, replicate, sym, ap, arith}
use Rattle.std.specs.Vec.{with_items}
use Rattle.std.specs.declared.vec.Vec.{Vec}
use Rattle.std.proofs.lemmas.List.{get_or-map, length-map, map-set, with_items_is}
use Rattle.mig_mem.specs.Buffers.{buffers_of}
use Rattle.mig_mem.proofs.Sets.{cleared_none, cleared_more, cleared_all}
use Rattle.mig_mem.proofs.dirty.clear_rows.Goals as goal

pub loop-i-init : goal.loop-i-init
loop-i-init g c = cleared_none (buffers_of c.args.rows.now)

pub loop-i-preserved : goal.loop-i-preserved
loop-i-preserved g c =
    let rows = c.loop-i.rows in
    let i = c.loop-i.i in
    let x = get_or rows i c.index-rows-i.result in
    let v = with_items x c.clear.new.words in
    let held : v.items ≡ c.clear.new.words = with_items_is x c.clear.new.words (c.clear.auto.words ∙ c.deref_mut.ensures.len) in
    let row : get_or (buffers_of rows) i [] ≡ x.items = get_or-map (λ (w : Vec ℕ g.row.A.Denot). w.items) rows i c.index-rows-i.result [] (omega arith) in
    let zero : v.items ≡ replicate (length (get_or (buffers_of rows) i [])) 0 =
    held ∙ c.clear.ensures ∙ ap (λ (l : List ℕ). replicate (length l) 0) (c.deref_mut.ensures.value ∙ sym row) in
    let lt : i < length (buffers_of c.args.rows.now) = omega (arith, length-map c.args.rows.now (λ (w : Vec ℕ g.row.A.Denot). w.items)) in
    rw (map-set (λ (w : Vec ℕ g.row.A.Denot). w.items) rows i v)
    (cleared_more (buffers_of c.args.rows.now) (buffers_of rows) i v.items lt c.loop-i.invariant zero)

pub returns : goal.returns
returns g c =
    cleared_all (buffers_of c.args.rows.now) (buffers_of c.loop-i.rows) c.loop-i.i
    (omega (arith, length-map c.args.rows.now (λ (w : Vec ℕ g.row.A.Denot). w.items))) c.loop-i.invariant
