use Rattle.std.proofs.Common.{ℕ, ◌≡◌, ◌≤◌, ◌^◌, ◌∙◌, List, length, get_or, Some, ap, arith}
use Rattle.mig_mem.specs.PlaceSet.{PlaceSet}
use Rattle.mig_send.specs.Work.{no_batch}
use Rattle.mig_send.specs.Batches.{BatchOfPages}
use Rattle.mig_send.specs.Finding.{cut_of, places_of, set_of_work}
use Rattle.mig_send.proofs.Counting.{few_batches}
use Rattle.mig_send.proofs.Walking.{cut_is}
use Rattle.mig_send.proofs.finder.Finder.find.Goals as goal

pub walk_to-walk-requires-clause-index : goal.walk_to-walk-requires-clause-index
walk_to-walk-requires-clause-index g c =
    let terms = c.args.work.now in
    let limit = c.args.self.now.limit in
    let all : cut_of limit c.dirty.result.now.marked ≡ terms.batches =
    ap (λ (s : PlaceSet). cut_of limit s.marked) c.dirty.ensures.value ∙ cut_is limit (places_of terms) terms.batches c.requires.finder.are_cut in
    omega (arith, c.requires.index, ap (λ (l : List BatchOfPages). length l) all)

pub take_batch-batch-requires-clause-at : goal.take_batch-batch-requires-clause-at
take_batch-batch-requires-clause-at g c =
    let terms = c.args.work.now in
    let limit = c.args.self.now.limit in
    let all : cut_of limit c.dirty-2.result.now.marked ≡ terms.batches =
    ap (λ (s : PlaceSet). cut_of limit s.marked) c.dirty-2.ensures.value ∙ cut_is limit (places_of terms) terms.batches c.requires.finder.are_cut in
    omega (arith, c.requires.index, c.walk_to-walk.ensures.at, ap (λ (l : List BatchOfPages). length l) all)

pub take_batch-batch-requires-clause-few : goal.take_batch-batch-requires-clause-few
take_batch-batch-requires-clause-few g c =
    let terms = c.args.work.now in
    let limit = c.args.self.now.limit in
    let few : length terms.batches ≤ 2 ^ 28 =
    few_batches (set_of_work terms) limit terms.batches (rw c.dirty.ensures.value at c.dirty.ensures.set) c.requires.finder.are_cut in
    omega (arith, c.requires.index, c.walk_to-walk.ensures.at)

pub returns-clause-found : goal.returns-clause-found
returns-clause-found g c =
    let terms = c.args.work.now in
    let limit = c.args.self.now.limit in
    let all : cut_of limit c.dirty-2.result.now.marked ≡ terms.batches =
    ap (λ (s : PlaceSet). cut_of limit s.marked) c.dirty-2.ensures.value ∙ cut_is limit (places_of terms) terms.batches c.requires.finder.are_cut in
    ap (λ (b : BatchOfPages). Some b) (c.take_batch-batch.ensures.batch ∙ ap (λ (l : List BatchOfPages). get_or l c.walk_to-walk.result.at no_batch) all
    ∙ ap (λ (n : ℕ). get_or terms.batches n no_batch) c.walk_to-walk.ensures.at)
