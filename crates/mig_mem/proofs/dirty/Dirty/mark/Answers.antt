use Rattle.std.proofs.Common.{◌≡◌, ◌∙◌, refl, sym, ap, true, false, arith}
use Rattle.mig_mem.specs.Place.{IsPlace, has_place}
use Rattle.mig_mem.specs.PlaceSet.{PlaceSet, with_place}
use Rattle.mig_mem.proofs.Sets.{marks_at, mark_seen, has_place-where, slice_more, marked_already, count_few}
use Rattle.mig_mem.proofs.dirty.Dirty.mark.Goals as goal

pub returns-then-is_set-clause-set : goal.returns-then-is_set-clause-set
returns-then-is_set-clause-set g c =
    let table = c.self.inside.table in
    let words = c.self.inside.words.items in
    let is : IsPlace table c.args.place = rw (sym (ap (λ (s : PlaceSet). s.table) c.self.view_is)) at c.requires in
    let there : marks_at words c.args.place ≡ true =
    mark_seen table words c.args.place c.index.result.now c.deref.result.now c.is_set.result c.self.invariant.has_room is
    c.index.ensures c.deref.ensures.value c.is_set.ensures ∙ c.if-is_set.true in
    sym c.self.view_is ∙ marked_already table words c.args.place there ∙ ap (λ (s : PlaceSet). with_place s c.args.place) c.self.view_is

pub returns-then-is_set-clause-new : goal.returns-then-is_set-clause-new
returns-then-is_set-clause-new g c =
    let table = c.self.inside.table in
    let words = c.self.inside.words.items in
    let is : IsPlace table c.args.place = rw (sym (ap (λ (s : PlaceSet). s.table) c.self.view_is)) at c.requires in
    let there : marks_at words c.args.place ≡ true =
    mark_seen table words c.args.place c.index.result.now c.deref.result.now c.is_set.result c.self.invariant.has_room is
    c.index.ensures c.deref.ensures.value c.is_set.ensures ∙ c.if-is_set.true in
    let has : has_place c.args.self.now.marked c.args.place ≡ true =
    sym (ap (λ (s : PlaceSet). has_place s.marked c.args.place) c.self.view_is) ∙ has_place-where table (marks_at words) c.args.place is ∙ there in
    rw has refl

pub overflow_add-self : goal.overflow_add-self
overflow_add-self g c = omega (arith, c.self.invariant.counts, count_few c.self.inside.table (marks_at c.self.inside.words.items) c.self.invariant.is_table)

pub invariant_of-self : goal.invariant_of-self
invariant_of-self g c =
    let table = c.self.inside.table in
    let words = c.self.inside.words.items in
    let is : IsPlace table c.args.place = rw (sym (ap (λ (s : PlaceSet). s.table) c.self.view_is)) at c.requires in
    let absent : marks_at words c.args.place ≡ false =
    mark_seen table words c.args.place c.index.result.now c.deref.result.now c.is_set.result c.self.invariant.has_room is
    c.index.ensures c.deref.ensures.value c.is_set.ensures ∙ c.if-is_set.false in
    (slice_more table words c.self.inside.count c.args.place c.index_mut.result.now c.deref_mut.result.now c.set.new.words
    c.self.invariant is c.index_mut.ensures.value
    c.deref_mut.ensures.value c.deref_mut.ensures.len c.set.auto.words c.set.ensures absent).0

pub returns-clause-set : goal.returns-clause-set
returns-clause-set g c =
    let table = c.self.inside.table in
    let words = c.self.inside.words.items in
    let is : IsPlace table c.args.place = rw (sym (ap (λ (s : PlaceSet). s.table) c.self.view_is)) at c.requires in
    let absent : marks_at words c.args.place ≡ false =
    mark_seen table words c.args.place c.index.result.now c.deref.result.now c.is_set.result c.self.invariant.has_room is
    c.index.ensures c.deref.ensures.value c.is_set.ensures ∙ c.if-is_set.false in
    (slice_more table words c.self.inside.count c.args.place c.index_mut.result.now c.deref_mut.result.now c.set.new.words
    c.self.invariant is c.index_mut.ensures.value
    c.deref_mut.ensures.value c.deref_mut.ensures.len c.set.auto.words c.set.ensures absent).1
    ∙ ap (λ (s : PlaceSet). with_place s c.args.place) c.self.view_is

pub returns-clause-new : goal.returns-clause-new
returns-clause-new g c =
    let table = c.self.inside.table in
    let words = c.self.inside.words.items in
    let is : IsPlace table c.args.place = rw (sym (ap (λ (s : PlaceSet). s.table) c.self.view_is)) at c.requires in
    let absent : marks_at words c.args.place ≡ false =
    mark_seen table words c.args.place c.index.result.now c.deref.result.now c.is_set.result c.self.invariant.has_room is
    c.index.ensures c.deref.ensures.value c.is_set.ensures ∙ c.if-is_set.false in
    let has : has_place c.args.self.now.marked c.args.place ≡ false =
    sym (ap (λ (s : PlaceSet). has_place s.marked c.args.place) c.self.view_is) ∙ has_place-where table (marks_at words) c.args.place is ∙ absent in
    rw has refl
