use Rattle.std.proofs.Common.{◌≤◌, [], List, sym, subst}
use Rattle.mig_mem.specs.declared.place.Place.{Place}
use Rattle.mig_mem.specs.RamTable.{RamTable}
use Rattle.mig_send.specs.Batches.{IsBatch, IsFirstBatch, places_from}
use Rattle.mig_packet.specs.PageSize.{page_limit}
use Rattle.mig_send.proofs.PlacesFrom.{walk_begins}
use Rattle.mig_send.proofs.Cutting.{IsCutUpTo, cut_none, cut_more, cut_all, batches_fit}
use Rattle.std.specs.List.{All}
use Rattle.mig_send.proofs.batch.cut.Goals as goal

pub batches-init : goal.batches-init
batches-init g c =
    let marked = c.args.dirty.now.marked in
    let begins = walk_begins marked c.first_from-next.result c.count-count.ensures.set.is_ascending c.first_from-next.ensures in
    record {
      cut = rw c.in_ok-batches.ensures.items (subst (λ (l : List Place). IsCutUpTo c.args.limit marked l []) begins.0 (cut_none c.args.limit marked));
      is_in_set = begins.1;
    }

pub batches-preserved : goal.batches-preserved
batches-preserved g c =
    let marked = c.args.dirty.now.marked in
    let first : IsFirstBatch c.args.limit (places_from marked c.batches.next) c.in_ok-batch.batch (places_from marked c.in_ok-batch.behind) =
    rw c.in-Some.is c.in_ok-batch.ensures.batch in
    record {
      cut =
          rw c.in_ok-push.ensures.items (cut_more c.args.limit marked (places_from marked c.batches.next)
          (places_from marked c.in_ok-batch.behind) c.batches.batches.items c.in_ok-batch.batch c.batches.invariant.cut first);
      is_in_set = c.in_ok-batch.ensures.behind;
    }

pub returns-clause-cut : goal.returns-clause-cut
returns-clause-cut g c = cut_all c.args.limit c.args.dirty.now.marked c.batches.batches.items (rw c.in_default.is at c.batches.invariant.cut)

pub returns-clause-batches : goal.returns-clause-batches
returns-clause-batches g c =
    let marked = c.args.dirty.now.marked in
    let cut = cut_all c.args.limit marked c.batches.batches.items (rw c.in_default.is at c.batches.invariant.cut) in
    let few : c.args.limit ≤ page_limit c.args.dirty.now.table.page_size =
    subst (λ (t : RamTable). c.args.limit ≤ page_limit t.page_size) (sym c.requires.table) c.requires.limit.1 in
    subst (λ (t : RamTable). All (IsBatch t) c.batches.batches.items) c.requires.table
    (batches_fit c.args.dirty.now c.args.limit c.batches.batches.items c.count-count.ensures.set few cut)
