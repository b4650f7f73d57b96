-- What the packet of a batch says: where its pages lie, and that they are the batch's.
use Rattle.std.proofs.Common.{ℕ, ◌≡◌, ◌+◌, ◌*◌, ◌<◌, ◌/◌, ◌%◌, List, [], ◌∷◌, ◌++◌, length, map, get_or, refl, sym, ap, ◌∙◌, arith, Option, Some, true, not}
use Rattle.std.proofs.Common.{subst}
use Rattle.std.specs.Prelude.{◌==◌}
use Rattle.std.specs.Option.{unwrap_or}
use Rattle.std.specs.List.{All}
use Rattle.std.proofs.Math.Nat.{mul-div_cancel}
use Rattle.std.proofs.lemmas.Bool.{and_parts, eqb-true}
use Rattle.std.proofs.lemmas.Nat.{mod-mul-add}
use Rattle.std.proofs.lemmas.List.{map-id}
use Rattle.std.proofs.lemmas.List.Elements.{All-map, All-append, All-filter, All-weaker, filter_passes}
use Rattle.mig_mem.specs.declared.place.Place.{Place}
use Rattle.mig_mem.specs.RamTable.{IsTable, block, block_of}
use Rattle.mig_mem.specs.Place.{IsPlace, place_at}
use Rattle.mig_mem.specs.Image.{Page, Image, IsImage, content_at, pages_of, zero_page}
use Rattle.mig_mem.specs.Round.{round_of}
use Rattle.mig_mem.proofs.Blocks.{block_found}
use Rattle.mig_mem.proofs.Members.{map-map, map_agree, All-any}
use Rattle.mig_mem.proofs.PageSizes.{page_size_some}
use Rattle.mig_mem.proofs.Rounds.{image_round}
use Rattle.mig_zero.specs.Zero.{is_zero}
use Rattle.mig_packet.specs.Packet.{NormalPage}
use Rattle.mig_send.specs.Batches.{BatchOfPages, IsBatch, batch_places}
use Rattle.mig_send.specs.Packing.{normals_of, zeros_of, offsets_of}
use Rattle.mig_send.specs.ReadBack.{batch_fields}
use Rattle.mig_send.proofs.Packing.{batch_block}
use Rattle.mig_assemble.specs.Judging.{offsets, page_in, pages_in, packet_pages}
use Rattle.mig_assemble.specs.Lawful.{IsPageOffset}
use Rattle.mig_assemble.proofs.Bags.{SameBag}
use Rattle.mig_answer.proofs.DealtBags.{bag_both}

-- ---- offsets and pages

page_back : (size page : ℕ) → 0 < size → (page * size) / size ≡ page
page_back size page some = mul-div_cancel page some

page_exact : (size page : ℕ) → 0 < size → (page * size) % size ≡ 0
page_exact size page some = let e : page * size ≡ page * size + 0 = omega arith in ap (λ (n : ℕ). n % size) e ∙ mod-mul-add page size 0 some

same_page : (x : Page) (place : Place) (content : List ℕ) → place ≡ x.place → content ≡ x.content → record { place = place; content = content } ≡ x
same_page x place content e f = ap (λ (p : Place). record { place = p; content = content }) e ∙ ap (λ (c : List ℕ). record { place = x.place; content = c }) f

-- bytes that are zeros are a page of zeros of their length
zeros_are : (bytes : List ℕ) → is_zero bytes ≡ true → zero_page (length bytes) ≡ bytes
zeros_are [] h = refl
zeros_are (b ∷ bytes) h =
    let both = and_parts (b == 0) (is_zero bytes) h in
    ap (λ (l : List ℕ). 0 ∷ l) (zeros_are bytes both.1) ∙ ap (λ (n : ℕ). n ∷ bytes) (sym (eqb-true b 0 both.0))

-- ---- the packet of a batch

abbrev to_normal : ℕ → Page → NormalPage
to_normal size page = record { offset = page.place.page * size; content = page.content }

abbrev to_offset : ℕ → Page → ℕ
to_offset size page = page.place.page * size

-- what is known of each page of a batch
record IsOwn (m : Image) (batch : BatchOfPages) (x : Page) : Type 0 where
  has_block : x.place.block ≡ batch.block
  has_place : IsPlace m.table x.place
  has_size : length x.content ≡ m.table.page_size

own_pages : (m : Image) (batch : BatchOfPages) → IsImage m → IsBatch m.table batch → All (IsOwn m batch) (round_of m (batch_places batch))
unfolding pages_of
own_pages m batch image is =
    let page : Place → Page = λ p. record { place = p; content = content_at m p } in
    let round = image_round m (batch_places batch) image is.has_places in
    let blocks : All (λ (x : Page). x.place.block ≡ batch.block) (round_of m (batch_places batch)) =
    All-map (λ (x : Page). x.place.block ≡ batch.block) page (batch_places batch)
    (All-map (λ (p : Place). p.block ≡ batch.block) (place_at batch.block) batch.pages
    (All-any (λ (n : ℕ). (place_at batch.block n).block ≡ batch.block) (λ _. refl) batch.pages)) in
    λ k d lt. record { has_block = blocks k d lt; has_place = round.has_places k d lt; has_size = round.has_sizes k d lt }

module _ (m : Image) (batch : BatchOfPages) (number : ℕ) (table : IsTable m.table) (image : IsImage m) (is : IsBatch m.table batch) where
  some : 0 < m.table.page_size
  some = page_size_some m.table.page_size table.has_page_size

  named : block_of m.table.blocks (block m.table.blocks batch.block).id ≡ Some batch.block
  named = block_found m.table batch.block (block m.table.blocks batch.block).id table (batch_block m.table batch is) refl

  place_back : (x : Page) → IsOwn m batch x → place_at batch.block ((x.place.page * m.table.page_size) / m.table.page_size) ≡ x.place
  place_back x own =
      ap (λ (n : ℕ). place_at batch.block n) (page_back m.table.page_size x.place.page some)
      ∙ ap (λ (b : ℕ). place_at b x.place.page) (sym own.has_block)

  -- each of its offsets is a page's in its block
  right_offset : (x : Page) → IsOwn m batch x → IsPageOffset m.table (block m.table.blocks batch.block).id (x.place.page * m.table.page_size)
  right_offset x own = record {
    block = batch.block;
    has_id = named;
    begins_page = page_exact m.table.page_size x.place.page some;
    is_place = subst (λ (p : Place). IsPlace m.table p) (sym (place_back x own)) own.has_place;
  }

  pub batch_offsets : All (IsPageOffset m.table (batch_fields m batch number).id) (offsets (batch_fields m batch number))
  batch_offsets =
      let round : List Page = round_of m (batch_places batch) in
      let size : ℕ = m.table.page_size in
      let P : ℕ → Type 0 = IsPageOffset m.table (block m.table.blocks batch.block).id in
      let all : All (λ (x : Page). P (x.place.page * size)) round =
      All-weaker (IsOwn m batch) (λ (x : Page). P (x.place.page * size)) right_offset round (own_pages m batch image is) in
      All-append P (map (λ (page : NormalPage). page.offset) (batch_fields m batch number).normal) (batch_fields m batch number).zero
      (All-map P (λ (page : NormalPage). page.offset) (batch_fields m batch number).normal
      (All-map (λ (page : NormalPage). P page.offset) (to_normal size) (normals_of round)
      (All-filter (λ page. not (is_zero page.content)) (λ (x : Page). P (x.place.page * size)) round all)))
      (All-map P (to_offset size) (zeros_of round) (All-filter (λ page. is_zero page.content) (λ (x : Page). P (x.place.page * size)) round all))

  normal_back : (xs : List Page) → All (IsOwn m batch) xs
      → map (λ (page : NormalPage). page_in m.table batch.block page.offset page.content) (map (to_normal m.table.page_size) xs) ≡ xs
  normal_back xs own =
      let back : Page → Page = λ x. page_in m.table batch.block (x.place.page * m.table.page_size) x.content in
      map-map (λ (page : NormalPage). page_in m.table batch.block page.offset page.content) (to_normal m.table.page_size) xs
      ∙ map_agree back (λ x. x) xs (All-weaker (IsOwn m batch) (λ x. back x ≡ x)
      (λ x has. same_page x (place_at batch.block ((x.place.page * m.table.page_size) / m.table.page_size)) x.content (place_back x has) refl) xs own)
      ∙ map-id xs

  zeros_back : (xs : List Page) → All (IsOwn m batch) xs → All (λ x. is_zero x.content ≡ true) xs
      → map (λ offset. page_in m.table batch.block offset (zero_page m.table.page_size)) (offsets_of m.table.page_size xs) ≡ xs
  zeros_back xs own zeros =
      let size : ℕ = m.table.page_size in
      let back : Page → Page = λ x. page_in m.table batch.block (x.place.page * size) (zero_page size) in
      map-map (λ (offset : ℕ). page_in m.table batch.block offset (zero_page size)) (to_offset size) xs
      ∙ map_agree back (λ x. x) xs (λ k d lt.
      let x : Page = get_or xs k d in
      let has : IsOwn m batch x = own k d lt in
      same_page x (place_at batch.block ((x.place.page * size) / size)) (zero_page size) (place_back x has)
      (ap (λ (n : ℕ). zero_page n) (sym has.has_size) ∙ zeros_are x.content (zeros k d lt)))
      ∙ map-id xs

  -- the pages that it brings are those that aren't zeros, and then those that are
  pub batch_pages_are : packet_pages m.table (batch_fields m batch number) ≡ normals_of
      (round_of m (batch_places batch)) ++ zeros_of (round_of m (batch_places batch))
  batch_pages_are =
      let round : List Page = round_of m (batch_places batch) in
      let size : ℕ = m.table.page_size in
      let own = own_pages m batch image is in
      let normal : List Page = map (λ (page : NormalPage). page_in m.table batch.block page.offset page.content) (map (to_normal size) (normals_of round)) in
      let zeros : List Page = map (λ (offset : ℕ). page_in m.table batch.block offset (zero_page size)) (offsets_of size (zeros_of round)) in
      ap (λ (o : Option ℕ). pages_in m.table (batch_fields m batch number) (unwrap_or o 0)) named
      ∙ ap (λ (l : List Page). l ++ zeros) (normal_back (normals_of round) (All-filter (λ page. not (is_zero page.content)) (IsOwn m batch) round own))
      ∙ ap (λ (l : List Page). normals_of round ++ l)
      (zeros_back (zeros_of round) (All-filter (λ page. is_zero page.content) (IsOwn m batch) round own) (filter_passes (λ page. is_zero page.content) round))

  -- they are the batch's pages, in some order
  pub batch_pages : SameBag (packet_pages m.table (batch_fields m batch number)) (round_of m (batch_places batch))
  batch_pages = subst (λ (l : List Page). SameBag l (round_of m (batch_places batch))) (sym batch_pages_are)
      (bag_both (λ (page : Page). is_zero page.content) (round_of m (batch_places batch)))
