-- The pages of a batch as the packet holds them.
use Rattle.std.proofs.Common.{ℕ, ◌≡◌, ◌<◌, ◌≤◌, ◌+◌, ◌-◌, ◌*◌, ◌/◌, ◌^◌, List, [], ◌∷◌, ◌++◌, length, map, get_or, take}
use Rattle.std.proofs.Common.{drop, refl, sym, ap, ◌∙◌, inl, inr, arith, zero, suc, Bool, true, false, not, subst}
use Rattle.std.specs.Prelude.{◌≢◌, IsFalse, nat_le, ◌&&◌, nat_lt, slice_range}
use Rattle.std.specs.List.{filter, All, AllPairs, range_with_len, list_all}
use Rattle.std.proofs.Math.Nat.{mul-div_cancel, mul-lt-mul_of_pos_right}
use Rattle.std.proofs.Math.Seq.{take-append_seam, drop-append-add}
use Rattle.std.proofs.lemmas.Nat.{mul-lt}
use Rattle.std.proofs.lemmas.Bool.{cases_Bool, and_parts, leb-true}
use Rattle.std.proofs.lemmas.List.{append-nil, length-append, length-map, get_or-map, take_more, map_push}
use Rattle.std.proofs.lemmas.List.FromFn.{fill_by_all}
use Rattle.std.proofs.lemmas.List.Elements.{All-head, All-tail, All-nil, All-cons, All-append, All-map, All-filter, All-weaker, filter-append, filter_passes}
use Rattle.std.proofs.lemmas.List.Filters.{length-filter_both}
use Rattle.std.proofs.lemmas.List.Kept.{AllPairs-cons, AllPairs-filter}
use Rattle.mig_mem.specs.declared.place.Place.{Place}
use Rattle.mig_mem.specs.RamTable.{RamTable, IsTable, block, is_id, is_printable}
use Rattle.mig_mem.specs.Place.{place_at, IsPlace}
use Rattle.mig_mem.specs.Image.{Page, Image, IsImage, content_at, pages_of}
use Rattle.mig_mem.specs.Round.{round_of}
use Rattle.mig_mem.proofs.Members.{All-range}
use Rattle.mig_mem.proofs.Blocks.{block_room, block_id_length}
use Rattle.mig_mem.proofs.PageSizes.{page_size_some, page_size_small}
use Rattle.mig_mem.proofs.Images.{content_size}
use Rattle.mig_zero.specs.Zero.{is_zero}
use Rattle.mig_packet.specs.PageSize.{IsPageSize, page_limit}
use Rattle.mig_packet.specs.Written.{normal_pages, written_head, IsWritable}
use Rattle.mig_packet.specs.Packet.{NormalPage}
use Rattle.mig_send.specs.Batches.{BatchOfPages, batch_places, IsBatch}
use Rattle.mig_send.specs.Packing.{normals_of, zeros_of, offsets_of, contents_of, IsPacked, packed_of, normal_offsets, zero_offsets, contents_at, packet_at}

-- ---- a page more

abbrev page_at : Image → Place → Page
page_at m p = record { place = p; content = content_at m p }

round-push : (m : Image) (ps : List Place) (p : Place) → round_of m (ps ++ p ∷ []) ≡ round_of m ps ++ page_at m p ∷ []
unfolding pages_of
round-push m ps p = map_push (page_at m) ps p

-- the offsets of the pages of a block that pass a test
abbrev pub passing : (List ℕ → Bool) → Image → ℕ → List ℕ → List ℕ
passing test m b pages = offsets_of m.table.page_size (filter (λ page. test page.content) (round_of m (map (place_at b) pages)))

passing-push : (test : List ℕ → Bool) (m : Image) (b : ℕ) (pages : List ℕ) (n : ℕ)
    → passing test m b (pages ++ n ∷ []) ≡ passing test m b pages
    ++ offsets_of m.table.page_size (filter (λ page. test page.content) (page_at m (place_at b n) ∷ []))
passing-push test m b pages n =
    let f : Page → Bool = λ page. test page.content in
    let o : Page → ℕ = λ page. page.place.page * m.table.page_size in
    ap (λ (l : List Place). map o (filter f (round_of m l))) (map_push (place_at b) pages n)
    ∙ ap (λ (l : List Page). map o (filter f l)) (round-push m (map (place_at b) pages) (place_at b n))
    ∙ ap (λ (l : List Page). map o l) (filter-append f (round_of m (map (place_at b) pages)) (page_at m (place_at b n) ∷ []))
    ∙ map-append (filter f (round_of m (map (place_at b) pages))) (filter f (page_at m (place_at b n) ∷ []))
  where
    map-append : (xs ys : List Page) → offsets_of m.table.page_size (xs ++ ys) ≡ offsets_of m.table.page_size xs ++ offsets_of m.table.page_size ys
    map-append [] ys = refl
    map-append (x ∷ xs) ys = ap (λ (l : List ℕ). (x.place.page * m.table.page_size) ∷ l) (map-append xs ys)

-- no pages have no offsets
pub none_passing : (test : List ℕ → Bool) (m : Image) (b : ℕ) → [] ≡ passing test m b []
unfolding pages_of
none_passing test m b = refl

-- the first i + 1 pages give the offset of page i after those of the first i, if it passes the test
pub passes_too : (test : List ℕ → Bool) (m : Image) (b : ℕ) (pages : List ℕ) (i : ℕ) → i < length pages
    → test (content_at m (place_at b (get_or pages i 0))) ≡ true
    → passing test m b (take (i + 1) pages) ≡ passing test m b (take i pages) ++ (get_or pages i 0 * m.table.page_size) ∷ []
passes_too test m b pages i lt t =
    let f : Page → Bool = λ page. test page.content in
    let n : ℕ = get_or pages i 0 in
    ap (passing test m b) (take_more pages i 0 lt) ∙ passing-push test m b (take i pages) n ∙ rw t refl

-- the first i + 1 pages give the same offsets as the first i, if page i fails the test
pub passes_not : (test : List ℕ → Bool) (m : Image) (b : ℕ) (pages : List ℕ) (i : ℕ) → i < length pages
    → test (content_at m (place_at b (get_or pages i 0))) ≡ false
    → passing test m b (take (i + 1) pages) ≡ passing test m b (take i pages)
passes_not test m b pages i lt t =
    let n : ℕ = get_or pages i 0 in
    ap (passing test m b) (take_more pages i 0 lt) ∙ passing-push test m b (take i pages) n ∙ rw t (append-nil (passing test m b (take i pages)))

-- ---- the contents, by their offsets

-- the contents at the offsets of the pages that pass a test are the contents of those pages
pub contents_back : (test : List ℕ → Bool) (m : Image) (b : ℕ) (pages : List ℕ) → 0 < m.table.page_size
    → contents_at m b (passing test m b pages)
    ≡ contents_of (filter (λ page. test page.content) (round_of m (map (place_at b) pages)))
unfolding pages_of
contents_back test m b [] some = refl
contents_back test m b (n ∷ pages) some = elim (cases_Bool (test (content_at m (place_at b n)))) [
  | inl t ↦
      let back : n * m.table.page_size / m.table.page_size ≡ n = mul-div_cancel n some in
      rw t (ap (λ (k : ℕ). content_at m (place_at b k) ++ contents_at m b (passing test m b pages)) back
      ∙ ap (λ (l : List ℕ). content_at m (place_at b n) ++ l) (contents_back test m b pages some))
  | inr t ↦ rw t (contents_back test m b pages some)
]

-- ---- pages of one size, one after another

abbrev HasSize : ℕ → Page → Type 0
HasSize size page = length page.content ≡ size

contents_length : (size : ℕ) (pages : List Page) → All (HasSize size) pages → length (contents_of pages) ≡ length pages * size
contents_length size [] sizes = omega arith
contents_length size (x ∷ pages) sizes =
    let here : length x.content ≡ size = All-head (HasSize size) x pages sizes in
    let others : length (contents_of pages) ≡ length pages * size = contents_length size pages (All-tail (HasSize size) x pages sizes) in
    let one : suc (length pages) * size ≡ size + length pages * size = grind arith in
    omega (arith, here, others, one, length-append x.content (contents_of pages))

content_slice : (size : ℕ) (pages : List Page) (i : ℕ) (d : Page) → All (HasSize size) pages → i < length pages
    → slice_range (contents_of pages) (i * size) (i * size + size) ≡ (get_or pages i d).content
content_slice size [] i d sizes lt = absurd (omega arith)
content_slice size (x ∷ pages) zero d sizes lt =
    let here : length x.content ≡ size = All-head (HasSize size) x pages sizes in
    let none : zero * size ≡ 0 = omega arith in
    let long : (zero * size + size) - zero * size ≡ length x.content = omega (arith, here, none) in
    ap (λ (n : ℕ). take n (drop (zero * size) (x.content ++ contents_of pages))) long
    ∙ ap (λ (n : ℕ). take (length x.content) (drop n (x.content ++ contents_of pages))) none
    ∙ take-append_seam x.content (contents_of pages)
content_slice size (x ∷ pages) (suc i) d sizes lt =
    let here : length x.content ≡ size = All-head (HasSize size) x pages sizes in
    let far : suc i * size ≡ length x.content + i * size = grind (arith, here) in
    let long : (suc i * size + size) - suc i * size ≡ (i * size + size) - i * size = omega arith in
    ap (λ (n : ℕ). take n (drop (suc i * size) (x.content ++ contents_of pages))) long
    ∙ ap (λ (n : ℕ). take ((i * size + size) - i * size) (drop n (x.content ++ contents_of pages))) far
    ∙ ap (λ (l : List ℕ). take ((i * size + size) - i * size) l) (drop-append-add x.content (contents_of pages) (i * size))
    ∙ content_slice size pages i d (All-tail (HasSize size) x pages sizes) (omega arith)

-- what holds of the contents holds of the packet's normal pages
normal_pages_have : (size : ℕ) (pages : List Page) (offsets : List ℕ) (P : List ℕ → Type 0) → All (HasSize size) pages → length offsets ≡ length pages
    → All (λ page. P page.content) pages
    → All (λ page. P page.content) (normal_pages size offsets (contents_of pages))
normal_pages_have size pages offsets P sizes long all =
    let f : ℕ → NormalPage = λ i. record { offset = get_or offsets i 0; content = slice_range (contents_of pages) (i * size) (i * size + size) } in
    let none : Page = record { place = place_at 0 0; content = [] } in
    All-map (λ page. P page.content) f (range_with_len 0 (length offsets))
    (All-range (λ i. P (slice_range (contents_of pages) (i * size) (i * size + size))) 0 (length offsets) (λ i from to.
    let lt : i < length pages = omega (arith, long) in
    subst P (sym (content_slice size pages i none sizes lt)) (all i none lt)))

-- ---- the pages of a batch

places_have : (P : Page → Type 0) (m : Image) (ps : List Place) → All (λ p. P (page_at m p)) ps → All P (round_of m ps)
unfolding pages_of
places_have P m ps all = All-map P (page_at m) ps all

round-length : (m : Image) (ps : List Place) → length (round_of m ps) ≡ length ps
unfolding pages_of
round-length m ps = length-map ps (page_at m)

pairs_map : {X Y : Type 0} (R : Y → Y → Type 0) (f : X → Y) (xs : List X) → AllPairs (λ a b. R (f a) (f b)) xs → AllPairs R (map f xs)
pairs_map R f [] pairs = λ i j d before within. absurd (omega arith)
pairs_map {X} R f (x ∷ xs) pairs =
    AllPairs-cons R (f x) (map f xs) (All-map (R (f x)) f xs (λ k d lt. pairs 0 (suc k) d (omega arith) (omega arith)))
    (pairs_map R f xs (λ i j d before within. pairs (suc i) (suc j) d (omega arith) (omega arith)))

abbrev IsBelow : ℕ → Page → Page → Type 0
IsBelow size x y = x.place.page * size < y.place.page * size

round_ascends : (m : Image) (b : ℕ) (pages : List ℕ) → 0 < m.table.page_size → AllPairs (λ i j. i < j) pages
    → AllPairs (IsBelow m.table.page_size) (round_of m (map (place_at b) pages))
unfolding pages_of
round_ascends m b pages some pairs =
    pairs_map (IsBelow m.table.page_size) (page_at m) (map (place_at b) pages)
    (pairs_map (λ p q. IsBelow m.table.page_size (page_at m p) (page_at m q)) (place_at b) pages
    (λ i j d before within. mul-lt-mul_of_pos_right {m = get_or pages i d} {n = get_or pages j d} {k = m.table.page_size} (pairs i j d before within) some))

offsets_ascend : (test : List ℕ → Bool) (m : Image) (b : ℕ) (pages : List ℕ) → 0 < m.table.page_size → AllPairs (λ i j. i < j) pages
    → AllPairs (λ i j. i < j) (passing test m b pages)
offsets_ascend test m b pages some pairs =
    let round : List Page = round_of m (map (place_at b) pages) in
    pairs_map (λ i j. i < j) (λ page. page.place.page * m.table.page_size) (filter (λ page. test page.content) round)
    (AllPairs-filter (IsBelow m.table.page_size) (λ page. test page.content) round (round_ascends m b pages some pairs))

-- an offset in a block fits its field
offset_fits : (table : RamTable) (p : Place) → IsTable table → IsPlace table p → p.page * table.page_size < 2 ^ 64
offset_fits table p is at =
    let room : (block table.blocks p.block).pages * table.page_size ≤ 2 ^ 40 = block_room table p.block is at.has_block in
    let lt : p.page < (block table.blocks p.block).pages = at.has_page in
    let below : p.page * table.page_size ≤ (block table.blocks p.block).pages * table.page_size = grind (arith, lt) in
    omega (arith, room, below)

-- where a page of a lawful table is in its block, in bytes, fits in 64 bits
pub page_offset_fits : (table : RamTable) (b : ℕ) (pages : List ℕ) (i : ℕ) → IsTable table → All (IsPlace table) (map (place_at b) pages) → i < length pages
    → get_or pages i 0 * table.page_size < 2 ^ 64
page_offset_fits table b pages i is all lt = offset_fits table (place_at b (get_or pages i 0)) is (of_map pages i all lt)
  where
    of_map : (pages : List ℕ) (i : ℕ) → All (IsPlace table) (map (place_at b) pages) → i < length pages → IsPlace table (place_at b (get_or pages i 0))
    of_map [] i all lt = absurd (omega arith)
    of_map (n ∷ pages) zero all lt = All-head (IsPlace table) (place_at b n) (map (place_at b) pages) all
    of_map (n ∷ pages) (suc i) all lt = of_map pages i (All-tail (IsPlace table) (place_at b n) (map (place_at b) pages) all) (omega arith)

offsets_fit : (test : List ℕ → Bool) (m : Image) (b : ℕ) (pages : List ℕ) → IsTable m.table → All (IsPlace m.table) (map (place_at b) pages)
    → All (λ offset. offset < 2 ^ 64) (passing test m b pages)
offsets_fit test m b pages is all =
    let P : Page → Type 0 = λ page. page.place.page * m.table.page_size < 2 ^ 64 in
    let round : List Page = round_of m (map (place_at b) pages) in
    All-map (λ offset. offset < 2 ^ 64) (λ page. page.place.page * m.table.page_size) (filter (λ page. test page.content) round)
    (All-filter (λ page. test page.content) P round
    (places_have P m (map (place_at b) pages)
    (All-weaker (IsPlace m.table) (λ p. P (page_at m p)) (λ p at. offset_fits m.table p is at) (map (place_at b) pages) all)))

-- an id has no byte 0
no_zero : (id : List ℕ) → list_all is_printable id ≡ true → All (λ byte. byte ≢ 0) id
no_zero [] h = All-nil (λ byte. byte ≢ 0)
no_zero (x ∷ id) h =
    let both = and_parts (is_printable x) (list_all is_printable id) h in
    let low = and_parts (nat_le 0x20 x) (nat_le x 0x7E) both.0 in
    let le : 0x20 ≤ x = leb-true 0x20 x low.0 in
    All-cons (λ byte. byte ≢ 0) x id (λ e. absurd (omega (arith, le, e))) (no_zero id both.1)

whole_id : (id : List ℕ) → is_id id ≡ true → All (λ byte. byte ≢ 0) id
unfolding is_id
whole_id id h = no_zero id (and_parts (nat_lt 0 (length id) && nat_le (length id) 255) (list_all is_printable id) h).1

-- ---- the packet of a batch

-- there are as many pages of both kinds as in the batch
pub kinds_length : (m : Image) (b : ℕ) (pages : List ℕ)
    → length (normal_offsets m (map (place_at b) pages)) + length (zero_offsets m (map (place_at b) pages)) ≡ length pages
kinds_length m b pages =
    let round : List Page = round_of m (map (place_at b) pages) in
    let offset : Page → ℕ = λ page. page.place.page * m.table.page_size in
    omega (
      arith,
      length-map (normals_of round) offset,
      length-map (zeros_of round) offset,
      length-filter_both (λ page. is_zero page.content) (λ page. not (is_zero page.content)) (λ page. refl) round,
      round-length m (map (place_at b) pages),
      length-map pages (place_at b),
    )

-- a batch's block is one of the table's
pub batch_block : (table : RamTable) (batch : BatchOfPages) → IsBatch table batch → batch.block < length table.blocks
batch_block table batch is = block_of_places batch.block batch.pages is.has_places is.has_some
  where
    block_of_places : (b : ℕ) (pages : List ℕ) → All (IsPlace table) (map (place_at b) pages) → 0 < length pages → b < length table.blocks
    block_of_places b [] all some = absurd (omega arith)
    block_of_places b (n ∷ pages) all some = (All-head (IsPlace table) (place_at b n) (map (place_at b) pages) all).has_block

-- the pages that aren't zeros have the size of a page
batch_sizes : (m : Image) (batch : BatchOfPages) → IsImage m → IsBatch m.table batch
    → All (HasSize m.table.page_size) (normals_of (round_of m (batch_places batch)))
batch_sizes m batch image is_batch =
    All-filter (λ page. not (is_zero page.content)) (HasSize m.table.page_size) (round_of m (batch_places batch))
    (places_have (HasSize m.table.page_size) m (batch_places batch)
    (All-weaker (IsPlace m.table) (λ p. HasSize m.table.page_size (page_at m p)) (λ p at. content_size m p image at) (batch_places batch) is_batch.has_places))

-- its packet can be written
pub batch_writable : (m : Image) (batch : BatchOfPages) (number : ℕ) → IsTable m.table → IsImage m → IsBatch m.table batch → number < 2 ^ 64
    → IsWritable m.table.page_size number (block m.table.blocks batch.block).id (offsets_of m.table.page_size (normals_of (round_of m (batch_places batch))))
    (contents_of (normals_of (round_of m (batch_places batch)))) (offsets_of m.table.page_size (zeros_of (round_of m (batch_places batch))))
batch_writable m batch number is image is_batch fits =
    let table : RamTable = m.table in
    let b : ℕ = batch.block in
    let pages : List ℕ = batch.pages in
    let round : List Page = round_of m (batch_places batch) in
    let normals : List Page = normals_of round in
    let count = kinds_length m b pages in
    let long : length (offsets_of table.page_size normals) ≡ length normals = length-map normals (λ page. page.place.page * table.page_size) in
    let in_table : b < length table.blocks = batch_block table batch is_batch in
    record {
      has_page_size = is.has_page_size;
      has_number = fits;
      has_offsets = All-append (λ offset. offset < 2 ^ 64) (offsets_of table.page_size normals) (offsets_of table.page_size (zeros_of round))
          (offsets_fit (λ c. not (is_zero c)) m b pages is is_batch.has_places) (offsets_fit is_zero m b pages is is_batch.has_places);
      has_few = omega (arith, count, is_batch.has_few);
      has_contents = contents_length table.page_size normals (batch_sizes m batch image is_batch) ∙ ap (λ (n : ℕ). n * table.page_size) (sym long);
      has_short_id = (block_id_length table b is in_table).1;
      has_whole_id = whole_id (block table.blocks b).id (is.has_ids b (record { id = []; pages = 0 }) in_table);
    }

-- a batch's packet is written with at least one page and no zeros as a normal page, and pages of
-- each kind ascend
pub is_packed : (m : Image) (batch : BatchOfPages) (number : ℕ) → IsTable m.table → IsImage m → IsBatch m.table batch → number < 2 ^ 64
    → IsPacked (packed_of m batch number)
is_packed m batch number is image is_batch fits =
    let table : RamTable = m.table in
    let b : ℕ = batch.block in
    let pages : List ℕ = batch.pages in
    let some : 0 < table.page_size = page_size_some table.page_size is.has_page_size in
    let round : List Page = round_of m (batch_places batch) in
    let normals : List Page = normals_of round in
    let long : length (offsets_of table.page_size normals) ≡ length normals = length-map normals (λ page. page.place.page * table.page_size) in
    let no_zeros : All (λ page. not (is_zero page.content) ≡ true) normals = filter_passes (λ page. not (is_zero page.content)) round in
    record {
      id = (block table.blocks b).id;
      normal = offsets_of table.page_size normals;
      contents = contents_of normals;
      zero = offsets_of table.page_size (zeros_of round);
      is_writable = batch_writable m batch number is image is_batch fits;
      has_bytes = refl;
      has_some = omega (arith, kinds_length m b pages, is_batch.has_some);
      no_zeros = normal_pages_have table.page_size normals (offsets_of table.page_size normals) (λ c. IsFalse (is_zero c))
          (batch_sizes m batch image is_batch) long
          (All-weaker (λ page. not (is_zero page.content) ≡ true) (λ page. IsFalse (is_zero page.content))
          (λ page h. is_false (is_zero page.content) h) normals no_zeros);
      normal_ascends = offsets_ascend (λ c. not (is_zero c)) m b pages some is_batch.is_ascending;
      zero_ascends = offsets_ascend is_zero m b pages some is_batch.is_ascending;
    }
  where
    is_false : (t : Bool) → not t ≡ true → IsFalse t
    is_false true h = absurd cc
    is_false false h = refl

-- the normal pages of the packet are these, each at its offset and with its content
abbrev pub at_offset : ℕ → Page → NormalPage
at_offset size page = record { offset = page.place.page * size; content = page.content }

-- the normal pages at a batch's normal offsets are its pages that aren't zeros, with their contents
pub normal_pages_are : (m : Image) (batch : BatchOfPages) → IsImage m → IsBatch m.table batch → (normals : List Page)
    → normals ≡ normals_of (round_of m (batch_places batch))
    → normal_pages m.table.page_size (offsets_of m.table.page_size normals) (contents_of normals) ≡ map (at_offset m.table.page_size) normals
normal_pages_are m batch image is_batch normals is =
    let size = m.table.page_size in
    let offset : Page → ℕ = λ page. page.place.page * size in
    let offsets = offsets_of size normals in
    let read : ℕ → NormalPage = λ i. record { offset = get_or offsets i 0; content = slice_range (contents_of normals) (i * size) (i * size + size) } in
    let none : Page = record { place = place_at 0 0; content = [] } in
    let sizes : All (HasSize size) normals = subst (All (HasSize size)) (sym is) (batch_sizes m batch image is_batch) in
    let long : length (map (at_offset size) normals) ≡ length offsets = length-map normals (at_offset size) ∙ sym (length-map normals offset) in
    sym (fill_by_all read (map (at_offset size) normals) (length offsets) (at_offset size none) long
    (λ k lt.
    let within : k < length normals = omega (arith, lt, length-map normals offset) in
    get_or-map (at_offset size) normals k none (at_offset size none) within
    ∙ page_same (offset (get_or normals k none)) (get_or offsets k 0) (get_or normals k none).content
    (slice_range (contents_of normals) (k * size) (k * size + size))
    (sym (get_or-map offset normals k none 0 within)) (sym (content_slice size normals k none sizes within))))
  where
    page_same : (i j : ℕ) (x y : List ℕ) → i ≡ j → x ≡ y → ◌≡◌ {A = NormalPage} (record { offset = i; content = x }) (record { offset = j; content = y })
    page_same i j x y offset content = cc

-- a packet's sizes are far below what their types hold
pub packet_small : (size normals : ℕ) → IsPageSize size → normals ≤ page_limit size → (page_limit size ≤ 128) × (normals * size < 2 ^ 21)
packet_small size normals is few =
    let limit : page_limit size ≤ 128 = elim is [ inl e ↦ rw e (omega arith) | inr e ↦ rw e (omega arith) ] in
    let small : size ≤ 8192 = page_size_small size is in
    let product : normals * size < 129 * 8193 = mul-lt normals size 129 8193 (omega (arith, limit, few)) (omega (arith, small)) in
    (limit, omega (arith, product))

-- the packet at the offsets of a batch's pages is that of the batch
pub packet_is : (m : Image) (batch : BatchOfPages) (number : ℕ) (normal zeros : List ℕ) → 0 < m.table.page_size
    → normal ≡ normal_offsets m (batch_places batch) → zeros ≡ zero_offsets m (batch_places batch)
    → packet_at m batch.block number normal zeros ≡ (packed_of m batch number).bytes
packet_is m batch number normal zeros some normal-is zeros-is =
    let n : List ℕ = normal_offsets m (batch_places batch) in
    let z : List ℕ = zero_offsets m (batch_places batch) in
    ap (λ (l : List ℕ). packet_at m batch.block number l zeros) normal-is ∙ ap (λ (l : List ℕ). packet_at m batch.block number n l) zeros-is
    ∙ ap (λ (l : List ℕ). written_head m.table.page_size number false (block m.table.blocks batch.block).id n z ++ l)
    (contents_back (λ c. not (is_zero c)) m batch.block batch.pages some)

-- the packet that was appended to no bytes is the packed packet
pub made : (m : Image) (batch : BatchOfPages) (number size : ℕ) (none bytes : List ℕ) → size ≡ m.table.page_size → none ≡ []
    → bytes ≡ none ++ (packed_of m batch number).bytes → record { page_size = size; number = number; bytes = bytes } ≡ packed_of m batch number
made m batch number size none bytes size-is empty bytes-is =
    ap (λ (k : ℕ). record { page_size = k; number = number; bytes = bytes }) size-is
    ∙ ap (λ (l : List ℕ). record { page_size = m.table.page_size; number = number; bytes = l })
    (bytes-is ∙ ap (λ (l : List ℕ). l ++ (packed_of m batch number).bytes) empty)

-- both kinds of pages have room in a packet
pub few_kinds : (m : Image) (batch : BatchOfPages) (normal zeros : List ℕ) → IsBatch m.table batch → normal ≡ normal_offsets m (batch_places batch)
    → zeros ≡ zero_offsets m (batch_places batch)
    → length normal + length zeros ≤ page_limit m.table.page_size
few_kinds m batch normal zeros is normal-is zeros-is =
    omega (arith, is.has_few, kinds_length m batch.block batch.pages, ap (λ (l : List ℕ). length l) normal-is, ap (λ (l : List ℕ). length l) zeros-is)
