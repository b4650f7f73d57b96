use Rattle.std.proofs.Common.{ℕ, ◌<◌, List, length, sym, subst}
use Rattle.mig_mem.specs.PlaceSet.{PlaceSet}
use Rattle.mig_mem.specs.Skipping.{IsPastMarks, IsPastPlaces}
use Rattle.mig_mem.proofs.Sets.{row_short}
use Rattle.mig_mem.proofs.Skips.{past_places}
use Rattle.mig_mem.proofs.dirty.Dirty.page_after.Goals as goal

pub page_after-requires : goal.page_after-requires
page_after-requires g c =
    let table = c.self.inside.table in
    let lt : c.args.block < length table.blocks = subst (λ (s : PlaceSet). c.args.block < length s.table.blocks) (sym c.self.view_is) c.requires in
    rw c.deref.ensures.value (row_short table c.self.inside.words.items c.args.block c.index.result.now c.self.invariant.is_table
    c.self.invariant.has_room lt c.index.ensures)

pub returns : goal.returns
returns g c =
    let table = c.self.inside.table in
    let words = c.self.inside.words.items in
    let lt : c.args.block < length table.blocks = subst (λ (s : PlaceSet). c.args.block < length s.table.blocks) (sym c.self.view_is) c.requires in
    let past : IsPastMarks c.index.result.now.items c.args.from c.args.count c.page_after.result =
    subst (λ (l : List ℕ). IsPastMarks l c.args.from c.args.count c.page_after.result) c.deref.ensures.value c.page_after.ensures in
    subst (λ (s : PlaceSet). IsPastPlaces s c.args.block c.args.from c.args.count c.page_after.result) c.self.view_is
    (past_places table words c.args.block c.args.from c.args.count c.page_after.result c.index.result.now c.self.invariant.has_room lt c.index.ensures past)
