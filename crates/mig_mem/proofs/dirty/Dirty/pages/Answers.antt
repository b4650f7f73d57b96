use Rattle.std.proofs.Common.{◌≡◌, ◌+◌, ◌∙◌, List, length, sym, ap, arith}
use Rattle.std.proofs.lemmas.List.{length_push}
use Rattle.mig_mem.specs.declared.place.Place.{Place}
use Rattle.mig_mem.proofs.Walks.{listed_more, listed_all, found_page}
use Rattle.mig_mem.proofs.dirty.Dirty.pages.Goals as goal

pub overflow_add-from : goal.overflow_add-from
overflow_add-from g c = omega (arith, found_page c.args.self.now _ c.in-Some.place c.count.ensures.set (sym c.first_from.ensures ∙ c.in-Some.is))

pub marks-smaller : goal.marks-smaller
marks-smaller g c =
    let more = listed_more c.args.self.now c.marks.from c.in-Some.place c.marks.places.items c.count.ensures.set c.marks.invariant
    (sym c.first_from.ensures ∙ c.in-Some.is) in
    let long : length c.push.new.self.items ≡ length c.marks.places.items + 1 =
    ap (λ (l : List Place). length l) c.in_ok-push.ensures.items ∙ length_push c.marks.places.items c.in-Some.place in
    omega (arith, more.1)

pub marks-preserved : goal.marks-preserved
marks-preserved g c =
    rw c.in_ok-push.ensures.items (listed_more c.args.self.now c.marks.from c.in-Some.place c.marks.places.items
    c.count.ensures.set c.marks.invariant (sym c.first_from.ensures ∙ c.in-Some.is)).0

pub returns-clause-value : goal.returns-clause-value
returns-clause-value g c = listed_all c.args.self.now c.marks.from c.marks.places.items c.marks.invariant (sym c.first_from.ensures ∙ c.in_default.is)
