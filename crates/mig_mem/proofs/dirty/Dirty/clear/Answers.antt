use Rattle.std.proofs.Common.{◌≡◌, ◌∙◌, [], ap}
use Rattle.std.specs.Vec.{with_items}
use Rattle.std.proofs.lemmas.List.{with_items_is}
use Rattle.mig_mem.specs.RamTable.{RamTable}
use Rattle.mig_mem.specs.PlaceSet.{PlaceSet}
use Rattle.mig_mem.specs.Marks.{AreCleared}
use Rattle.mig_mem.specs.Buffers.{buffers_of}
use Rattle.mig_mem.proofs.Sets.{cleared}
use Rattle.mig_mem.proofs.dirty.Dirty.clear.Goals as goal

pub invariant_of-self : goal.invariant_of-self
invariant_of-self g c =
    let words = c.self.inside.words in
    let new = c.clear_rows.new.rows in
    let held : (with_items words new).items ≡ new = with_items_is words new (c.clear_rows.auto.rows ∙ c.deref_mut.ensures.len) in
    let wiped : AreCleared (buffers_of words.items) (buffers_of (with_items words new).items) = rw (held, ← c.deref_mut.ensures.value) c.clear_rows.ensures in
    (cleared c.self.inside.table (buffers_of words.items) (with_items words new).items c.self.invariant.is_table c.self.invariant.has_room wiped).0

pub returns : goal.returns
returns g c =
    let words = c.self.inside.words in
    let new = c.clear_rows.new.rows in
    let held : (with_items words new).items ≡ new = with_items_is words new (c.clear_rows.auto.rows ∙ c.deref_mut.ensures.len) in
    let wiped : AreCleared (buffers_of words.items) (buffers_of (with_items words new).items) = rw (held, ← c.deref_mut.ensures.value) c.clear_rows.ensures in
    (cleared c.self.inside.table (buffers_of words.items) (with_items words new).items c.self.invariant.is_table c.self.invariant.has_room wiped).1
    ∙ ap (λ (t : RamTable). record { table = t; marked = [] }) (ap (λ (s : PlaceSet). s.table) c.self.view_is)
