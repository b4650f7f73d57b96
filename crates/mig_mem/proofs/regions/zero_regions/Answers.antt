use Rattle.std.proofs.Common.{ℕ, ◌≡◌, ◌<◌, ◌≤◌, ◌+◌, ◌*◌, ◌∙◌, ◌++◌, List, [], ◌∷◌, map, replicate, sym, ap, arith}
use Rattle.std.specs.List.{range_with_len}
use Rattle.std.proofs.lemmas.List.FromFn.{map-range_with_len_more}
use Rattle.std.proofs.lemmas.Grind.{div_ceil_times}
use Rattle.mig_mem.specs.Image.{zero_page}
use Rattle.mig_mem.specs.BlockPages.{BlockPages}
use Rattle.mig_mem.specs.Regions.{zero_region}
use Rattle.mig_mem.proofs.PageSizes.{page_before}
use Rattle.mig_mem.proofs.BlockRegions.{few_pages, fewer_pages}
use Rattle.mig_mem.proofs.regions.zero_regions.Goals as goal

-- a region that is needed begins before the end
begins : (count per n i : ℕ) → n * per < count + per → i < n → i * per < count
begins count per n i under low = (let before : i * per + per ≤ n * per = page_before per n i low in omega arith)

pub overflow_mul-first : goal.overflow_mul-first
overflow_mul-first g c =
    let few : c.args.count ≤ 268435456 = few_pages c.args.size c.args.count c.requires.size c.requires.room in
    let under = (div_ceil_times c.args.count c.args.per c.requires.per).1 in
    let first : c.loop-i.i * c.args.per < c.args.count =
    begins c.args.count c.args.per c.div_ceil-regions_needed.result c.loop-i.i (rw c.div_ceil-regions_needed.ensures under) c.loop-i-test.true in
    omega arith

pub overflow_sub-count : goal.overflow_sub-count
overflow_sub-count g c =
    let under = (div_ceil_times c.args.count c.args.per c.requires.per).1 in
    let first : c.loop-i.i * c.args.per < c.args.count =
    begins c.args.count c.args.per c.div_ceil-regions_needed.result c.loop-i.i (rw c.div_ceil-regions_needed.ensures under) c.loop-i-test.true in
    omega arith

pub zeroed-requires-clause-room : goal.zeroed-requires-clause-room
zeroed-requires-clause-room g c = fewer_pages c.min-pages.result c.args.count c.args.size (omega (arith, c.min-pages.ensures)) c.requires.room

pub loop-i-preserved : goal.loop-i-preserved
loop-i-preserved g c =
    let i = c.loop-i.i in
    let made : c.in_ok-zeroed.field-0 ≡ zero_region c.args.per c.args.size c.args.count i = c.in_ok-zeroed.ensures
    ∙ ap (λ (n : ℕ). record { size = c.args.size; pages = replicate n (zero_page c.args.size) }) c.min-pages.ensures in
    c.in_ok-push.ensures.items
    ∙ ap (λ (l : List BlockPages). l ++ c.in_ok-zeroed.field-0 ∷ []) c.loop-i.invariant
    ∙ ap (λ (x : BlockPages). map (zero_region c.args.per c.args.size c.args.count) (range_with_len 0 i) ++ x ∷ []) made
    ∙ sym (map-range_with_len_more (zero_region c.args.per c.args.size c.args.count) 0 i i (omega arith))

pub returns : goal.returns
returns g c =
    let all : c.loop-i.i ≡ c.div_ceil-regions_needed.result = omega arith in
    c.loop-i.invariant ∙ ap (λ (n : ℕ). map (zero_region c.args.per c.args.size c.args.count) (range_with_len 0 n)) (all ∙ c.div_ceil-regions_needed.ensures)
