use Rattle.std.proofs.Common.{◌≡◌, ◌∙◌, sym, ap, true, false}
use Rattle.mig_mem.specs.Place.{IsPlace}
use Rattle.mig_mem.specs.PlaceSet.{PlaceSet, without_place}
use Rattle.mig_mem.proofs.Sets.{marks_at, mark_seen, slice_fewer, marked_absent}
use Rattle.mig_mem.proofs.dirty.Dirty.unmark.Goals as goal

pub returns-then-not-is_set : goal.returns-then-not-is_set
returns-then-not-is_set g c =
    let table = c.self.inside.table in
    let words = c.self.inside.words.items in
    let is : IsPlace table c.args.place = rw (sym (ap (λ (s : PlaceSet). s.table) c.self.view_is)) at c.requires in
    let absent : marks_at words c.args.place ≡ false =
    mark_seen table words c.args.place c.index.result.now c.deref.result.now c.is_set.result c.self.invariant.has_room is
    c.index.ensures c.deref.ensures.value c.is_set.ensures ∙ c.if-not-is_set.true in
    sym c.self.view_is ∙ marked_absent table words c.args.place absent ∙ ap (λ (s : PlaceSet). without_place s c.args.place) c.self.view_is

pub overflow_sub-self : goal.overflow_sub-self
overflow_sub-self g c =
    let table = c.self.inside.table in
    let words = c.self.inside.words.items in
    let is : IsPlace table c.args.place = rw (sym (ap (λ (s : PlaceSet). s.table) c.self.view_is)) at c.requires in
    let there : marks_at words c.args.place ≡ true =
    mark_seen table words c.args.place c.index.result.now c.deref.result.now c.is_set.result c.self.invariant.has_room is
    c.index.ensures c.deref.ensures.value c.is_set.ensures ∙ c.if-not-is_set.false in
    let all = slice_fewer table words c.self.inside.count c.args.place c.index_mut.result.now c.deref_mut.result.now
    c.unset.new.words c.self.invariant is c.index_mut.ensures.value
    c.deref_mut.ensures.value c.deref_mut.ensures.len c.unset.auto.words c.unset.ensures there in
    all.0

pub invariant_of-self : goal.invariant_of-self
invariant_of-self g c =
    let table = c.self.inside.table in
    let words = c.self.inside.words.items in
    let is : IsPlace table c.args.place = rw (sym (ap (λ (s : PlaceSet). s.table) c.self.view_is)) at c.requires in
    let there : marks_at words c.args.place ≡ true =
    mark_seen table words c.args.place c.index.result.now c.deref.result.now c.is_set.result c.self.invariant.has_room is
    c.index.ensures c.deref.ensures.value c.is_set.ensures ∙ c.if-not-is_set.false in
    let all = slice_fewer table words c.self.inside.count c.args.place c.index_mut.result.now c.deref_mut.result.now
    c.unset.new.words c.self.invariant is c.index_mut.ensures.value
    c.deref_mut.ensures.value c.deref_mut.ensures.len c.unset.auto.words c.unset.ensures there in
    all.1.0

pub returns : goal.returns
returns g c =
    let table = c.self.inside.table in
    let words = c.self.inside.words.items in
    let is : IsPlace table c.args.place = rw (sym (ap (λ (s : PlaceSet). s.table) c.self.view_is)) at c.requires in
    let there : marks_at words c.args.place ≡ true =
    mark_seen table words c.args.place c.index.result.now c.deref.result.now c.is_set.result c.self.invariant.has_room is
    c.index.ensures c.deref.ensures.value c.is_set.ensures ∙ c.if-not-is_set.false in
    let all = slice_fewer table words c.self.inside.count c.args.place c.index_mut.result.now c.deref_mut.result.now
    c.unset.new.words c.self.invariant is c.index_mut.ensures.value
    c.deref_mut.ensures.value c.deref_mut.ensures.len c.unset.auto.words c.unset.ensures there in
    all.1.1 ∙ ap (λ (s : PlaceSet). without_place s c.args.place) c.self.view_is
