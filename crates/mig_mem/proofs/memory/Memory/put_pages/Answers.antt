use Rattle.std.proofs.Common.{ℕ, ◌≡◌, ◌<◌, ◌∙◌, List, length, map, sym, ap, subst, arith}
use Rattle.std.specs.List.{All}
use Rattle.std.proofs.lemmas.List.{with_items_is, get_or_default}
use Rattle.mig_mem.specs.Image.{Image}
use Rattle.mig_mem.specs.Round.{with_round}
use Rattle.mig_mem.specs.BlockPages.{BlockPages, no_pages}
use Rattle.mig_mem.specs.Buffers.{pages_of_block, image_in}
use Rattle.mig_mem.specs.Puts.{HasPageSize, PutsPages, round_page}
use Rattle.mig_mem.proofs.RegionPuts.{blocks_held, blocks_image}
use Rattle.mig_mem.proofs.memory.Memory.put_pages.Goals as goal

pub put_in_blocks-requires-clause-sizes : goal.put_in_blocks-requires-clause-sizes
put_in_blocks-requires-clause-sizes g c κs within =
    let table = c.self.inside.table in
    let blocks : List BlockPages = c.self.inside.blocks.items in
    let same : c.args.self.now.table.page_size ≡ table.page_size = sym (ap (λ (m : Image). m.table.page_size) c.self.view_is) in
    rw c.deref_mut.ensures.value (λ k d lt.
    let size : (pages_of_block blocks k).size ≡ table.page_size = (c.self.invariant.has_pages k (omega (arith, c.self.invariant.same_count, lt))).same_size in
    let is = get_or_default blocks k d no_pages lt in
    subst (λ (s : ℕ). All (HasPageSize s) c.args.pages.now) (same ∙ sym size ∙ sym (ap (λ (b : BlockPages). b.size) is)) c.requires.sizes)

pub invariant_of-self : goal.invariant_of-self
invariant_of-self g c =
    let table = c.self.inside.table in
    let blocks : List BlockPages = c.self.inside.blocks.items in
    let new : List BlockPages = c.put_in_blocks.new.blocks in
    let len : length new ≡ c.self.inside.blocks.len = c.put_in_blocks.auto.blocks ∙ c.deref_mut.ensures.len in
    let long : length new ≡ length blocks = c.put_in_blocks.auto.blocks ∙ ap (λ (l : List BlockPages). length l) c.deref_mut.ensures.value in
    let same : c.args.self.now.table.page_size ≡ table.page_size = sym (ap (λ (m : Image). m.table.page_size) c.self.view_is) in
    let sizes : All (HasPageSize table.page_size) c.args.pages.now = subst (λ (s : ℕ). All (HasPageSize s) c.args.pages.now) same c.requires.sizes in
    let own : (k : ℕ) → k < length blocks → PutsPages (pages_of_block blocks k).size k 0 (pages_of_block blocks k)
    (pages_of_block new k) c.args.pages.now = rw (← c.deref_mut.ensures.value) c.put_in_blocks.ensures in
    let puts : (k : ℕ) → k < length blocks → PutsPages table.page_size k 0 (pages_of_block blocks k) (pages_of_block new k) c.args.pages.now = λ k lt.
    subst (λ (s : ℕ). PutsPages s k 0 (pages_of_block blocks k) (pages_of_block new k) c.args.pages.now)
    (c.self.invariant.has_pages k (omega (arith, c.self.invariant.same_count, lt))).same_size (own k lt) in
    rw (with_items_is c.self.inside.blocks new len) (blocks_held table blocks new c.args.pages.now c.self.invariant sizes long puts)

pub returns : goal.returns
returns g c =
    let table = c.self.inside.table in
    let blocks : List BlockPages = c.self.inside.blocks.items in
    let new : List BlockPages = c.put_in_blocks.new.blocks in
    let len : length new ≡ c.self.inside.blocks.len = c.put_in_blocks.auto.blocks ∙ c.deref_mut.ensures.len in
    let own : (k : ℕ) → k < length blocks → PutsPages (pages_of_block blocks k).size k 0 (pages_of_block blocks k)
    (pages_of_block new k) c.args.pages.now = rw (← c.deref_mut.ensures.value) c.put_in_blocks.ensures in
    let puts : (k : ℕ) → k < length blocks → PutsPages table.page_size k 0 (pages_of_block blocks k) (pages_of_block new k) c.args.pages.now = λ k lt.
    subst (λ (s : ℕ). PutsPages s k 0 (pages_of_block blocks k) (pages_of_block new k) c.args.pages.now)
    (c.self.invariant.has_pages k (omega (arith, c.self.invariant.same_count, lt))).same_size (own k lt) in
    ap (λ (l : List BlockPages). image_in table l) (with_items_is c.self.inside.blocks new len)
    ∙ blocks_image table blocks new c.args.pages.now c.self.invariant puts
    ∙ ap (λ (m : Image). with_round m (map (round_page m.table.page_size) c.args.pages.now)) c.self.view_is
