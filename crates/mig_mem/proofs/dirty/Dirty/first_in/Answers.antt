use Rattle.std.proofs.Common.{ℕ, ◌≡◌, ◌<◌, ◌∙◌, List, length, sym, ap, arith, inl, inr}
use Rattle.std.proofs.lemmas.Bool.{cases_lt}
use Rattle.mig_mem.specs.RamTable.{block}
use Rattle.mig_mem.specs.Place.{place_at, has_place}
use Rattle.mig_mem.specs.PlaceSet.{PlaceSet}
use Rattle.mig_mem.specs.Marks.{is_set, set_in}
use Rattle.mig_mem.proofs.Sets.{row_short, row_lacks, row_has, marks_at, has_place-where_past}
use Rattle.mig_mem.proofs.dirty.Dirty.first_in.Goals as goal

pub first_set-requires : goal.first_set-requires
first_set-requires g c =
    let lt : c.args.block < length c.self.inside.table.blocks = rw (sym (ap (λ (s : PlaceSet). s.table) c.self.view_is)) at c.requires in
    rw c.deref.ensures.value (row_short c.self.inside.table c.self.inside.words.items c.args.block c.index.result.now
    c.self.invariant.is_table c.self.invariant.has_room lt c.index.ensures)

pub returns-in_err-page-clause-none : goal.returns-in_err-page-clause-none
returns-in_err-page-clause-none g c =
    let lt : c.args.block < length c.self.inside.table.blocks = rw (sym (ap (λ (s : PlaceSet). s.table) c.self.view_is)) at c.requires in
    rw c.from_residual.ensures (λ page lo.
    sym (ap (λ (s : PlaceSet). has_place s.marked (place_at c.args.block page)) c.self.view_is)
    ∙ row_lacks c.self.inside.table c.self.inside.words.items c.args.block page c.index.result.now c.self.invariant.has_room lt c.index.ensures
    (ap (λ (l : List ℕ). is_set l page) (sym c.deref.ensures.value) ∙ c.in_err-page.ensures.none page lo))

pub returns-then-page-pages-clause-none : goal.returns-then-page-pages-clause-none
returns-then-page-pages-clause-none g c =
    let table = c.self.inside.table in
    let lt : c.args.block < length table.blocks = rw (sym (ap (λ (s : PlaceSet). s.table) c.self.view_is)) at c.requires in
    λ page lo.
    sym (ap (λ (s : PlaceSet). has_place s.marked (place_at c.args.block page)) c.self.view_is) ∙ elim (cases_lt page c.in_ok-page.page) [
      | inl before ↦ row_lacks table c.self.inside.words.items c.args.block page c.index.result.now c.self.invariant.has_room lt c.index.ensures
          (ap (λ (l : List ℕ). is_set l page) (sym c.deref.ensures.value) ∙ c.in_ok-page.ensures.some.before page lo before)
      | inr past ↦ has_place-where_past table (marks_at c.self.inside.words.items) (place_at c.args.block page)
          (λ is. let inside : page < (block table.blocks c.args.block).pages = is.has_page in absurd (omega (arith, c.pages.ensures.value)))
    ]

pub returns-clause-some : goal.returns-clause-some
returns-clause-some g c =
    let table = c.self.inside.table in
    let words = c.self.inside.words.items in
    let lt : c.args.block < length table.blocks = rw (sym (ap (λ (s : PlaceSet). s.table) c.self.view_is)) at c.requires in
    let is = c.in_ok-page.ensures.some in
    let same : (page : ℕ) → has_place (set_in table words).marked (place_at c.args.block page) ≡ has_place c.args.self.now.marked (place_at c.args.block page) =
    λ page. ap (λ (s : PlaceSet). has_place s.marked (place_at c.args.block page)) c.self.view_is in
    record {
      low = is.low;
      has = sym (same c.in_ok-page.page) ∙ row_has table words c.args.block c.in_ok-page.page c.index.result.now c.self.invariant.has_room lt c.index.ensures
          (omega (arith, c.pages.ensures.value)) (ap (λ (l : List ℕ). is_set l c.in_ok-page.page) (sym c.deref.ensures.value) ∙ is.set);
      before = λ q lo hi. sym (same q) ∙ row_lacks table words c.args.block q c.index.result.now c.self.invariant.has_room lt c.index.ensures
          (ap (λ (l : List ℕ). is_set l q) (sym c.deref.ensures.value) ∙ is.before q lo hi);
    }
