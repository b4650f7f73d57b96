use Rattle.std.proofs.Common.{ℕ, ◌≡◌, ◌∙◌, List, length, ap, sym, subst}
use Rattle.std.specs.Borrow.{MutBor}
use Rattle.mig_mem.specs.RamTable.{RamTable}
use Rattle.mig_mem.specs.Image.{Image}
use Rattle.mig_mem.specs.Lent.{FitTable, lent_image, mut_lent_bytes}
use Rattle.mig_in_place.specs.Session.{InPlaceLoad}
use Rattle.mig_c_loads.specs.InPlaceSessions.{RefusesPiece}
use Rattle.mig_c_loads.proofs.RoundsFed.{rounds_fed}
use Rattle.mig_c_loads.proofs.held_rounds.feed_blocks.Goals as goal

pub returns-clause-feeds : goal.returns-clause-feeds
returns-clause-feeds c =
    let i = c.memory.inside in
    let before : List (List ℕ) = mut_lent_bytes c.args.blocks.now in
    let after : List (List ℕ) = mut_lent_bytes c.put_back.new.blocks in
    let old : InPlaceLoad = c.args.load.now in
    let new : InPlaceLoad = c.feed_memory-status.new.load in
    let may : RefusesPiece c.args.source (length c.args.piece.now) before 0 old =
    subst (λ (n : ℕ). RefusesPiece c.args.source (length c.args.piece.now) before n old) c.if-status-ne-DONE.false c.refusal-status.ensures in
    let first : c.from_parts-staged.result.kept ≡ lent_image old.table before =
    c.from_parts-staged.ensures.kept ∙ ap (λ (l : List (MutBor (List ℕ))). lent_image c.args.table (mut_lent_bytes l)) c.in-Ok.ensures.out
    ∙ ap (λ (t : RamTable). lent_image t before) c.requires.table in
    let there : lent_image i.table (mut_lent_bytes i.blocks.items) ≡ c.feed_memory-status.new.memory.kept = c.memory.view_is
    ∙ c.into_parts-memory.ensures.memory in
    let own : i.table ≡ new.table =
    ap (λ (m : Image). m.table) there ∙ c.feed_memory-status.ensures.table ∙ ap (λ (m : Image). m.table) first
    ∙ sym c.feed_memory-status.ensures.feeds.same_table in
    let same_list : c.put_back.new.blocks ≡ i.blocks.items = c.put_back.ensures ∙ c.deref_mut.ensures.value in
    let last : c.feed_memory-status.new.memory.kept ≡ lent_image new.table after =
    sym there ∙ ap (λ (t : RamTable). lent_image t (mut_lent_bytes i.blocks.items)) own
    ∙ ap (λ (l : List (MutBor (List ℕ))). lent_image new.table (mut_lent_bytes l)) (sym same_list) in
    let fit : FitTable new.table after =
    subst (λ (t : RamTable). FitTable t after) own
    (subst (λ (l : List (MutBor (List ℕ))). FitTable i.table (mut_lent_bytes l)) (sym same_list) c.memory.invariant) in
    rounds_fed c.args.source c.args.piece.now before after c.feed_memory-status.new.taken c.feed_memory-status.result c.from_parts-staged.result
    c.feed_memory-status.new.memory c.args.round c.into_parts-memory.result.1 old new may first c.from_parts-staged.ensures.parts last
    c.into_parts-memory.ensures.parts fit
    (record {
      feeds = c.feed_memory-status.ensures.feeds;
      keeps = c.feed_memory-status.ensures.keeps;
      still_keeps = c.feed_memory-status.ensures.still_keeps;
    })
