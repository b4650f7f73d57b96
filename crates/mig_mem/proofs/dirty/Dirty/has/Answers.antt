use Rattle.std.proofs.Common.{ℕ, ◌≡◌, ◌∙◌, List, sym, ap, true}
use Rattle.mig_mem.specs.Place.{IsPlace, has_place}
use Rattle.mig_mem.specs.PlaceSet.{PlaceSet}
use Rattle.mig_mem.specs.Marks.{is_set}
use Rattle.mig_mem.proofs.Sets.{marks_at, mark_read, has_place-where, has_place-where_past}
use Rattle.mig_mem.proofs.dirty.Dirty.has.Goals as goal

pub returns-then-holds : goal.returns-then-holds
returns-then-holds g c =
    let table = c.self.inside.table in
    let words = c.self.inside.words.items in
    let is : IsPlace table c.args.place = c.holds.ensures.0 c.if-holds.true in
    c.is_set.ensures ∙ ap (λ (l : List ℕ). is_set l c.args.place.page) c.deref.ensures.value
    ∙ mark_read table words c.args.place c.index.result.now c.self.invariant.has_room is c.index.ensures
    ∙ sym (has_place-where table (marks_at words) c.args.place is) ∙ ap (λ (s : PlaceSet). has_place s.marked c.args.place) c.self.view_is

pub returns-else-holds : goal.returns-else-holds
returns-else-holds g c =
    let table = c.self.inside.table in
    let past : IsPlace table c.args.place → ⊥ = λ is. let t : c.holds.result ≡ true = c.holds.ensures.1 is in absurd (cc (c.if-holds.false)) in
    c.if-holds.false ∙ sym (has_place-where_past table (marks_at c.self.inside.words.items) c.args.place past)
    ∙ ap (λ (s : PlaceSet). has_place s.marked c.args.place) c.self.view_is
