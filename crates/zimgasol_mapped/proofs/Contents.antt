-- Records of consecutive pages of a block, put one after another.
use Rattle.std.proofs.Common.{ℕ, ◌≡◌, ◌+◌, ◌-◌, ◌*◌, ◌≤◌, List, [], ◌∷◌, ◌++◌, length, take, drop, sym, ap, ◌∙◌, arith, append_assoc, Option, Some}
use Rattle.std.proofs.lemmas.List.{append-nil, drop-drop, length-drop}
use Rattle.std.proofs.lemmas.Grind.{flat_map-append}
use Rattle.std.specs.List.{flat_map, range_with_len}
use Rattle.mig_mem.specs.RamTable.{RamTable}
use Rattle.mig_mem.specs.Place.{place_at}
use Rattle.mig_mem.proofs.Counts.{range-append}
use Rattle.mig_stream.specs.Text.{record_bytes}
use Rattle.zimgasol_mapped.specs.Records.{record_of, records_bytes, part_of}

-- the record of one page more
pub records_more : (table : RamTable) (b : ℕ) (content : ℕ → Option (List ℕ)) (first page : ℕ) (old bytes new : List ℕ) → first ≤ page
    → bytes ≡ old ++ records_bytes table b content (range_with_len first (page - first))
    → new ≡ bytes ++ record_bytes table (record_of (place_at b page) (content page))
    → new ≡ old ++ records_bytes table b content (range_with_len first (page + 1 - first))
records_more table b content first page old bytes new low is more =
    let f : ℕ → List ℕ = λ q. record_bytes table (record_of (place_at b q) (content q)) in
    let n : page + 1 - first ≡ (page - first) + 1 = omega (arith, low) in
    let at : first + (page - first) ≡ page = omega (arith, low) in
    let cut : range_with_len first (page + 1 - first) ≡ range_with_len first (page - first) ++ page ∷ [] =
    ap (λ m. range_with_len first m) n ∙ range-append first (page - first) 1 ∙ ap (λ m. range_with_len first (page - first) ++ m ∷ []) at in
    let one : flat_map f (page ∷ []) ≡ f page = append-nil (f page) in
    let all : records_bytes table b content (range_with_len first (page + 1 - first))
    ≡ records_bytes table b content (range_with_len first (page - first)) ++ f page =
    ap (λ (l : List ℕ). flat_map f l) cut ∙ flat_map-append f (range_with_len first (page - first)) (page ∷ [])
    ∙ ap (λ (l : List ℕ). flat_map f (range_with_len first (page - first)) ++ l) one in
    more ∙ ap (λ (l : List ℕ). l ++ f page) is
    ∙ append_assoc old (records_bytes table b content (range_with_len first (page - first))) (f page)
    ∙ ap (λ (l : List ℕ). old ++ l) (sym all)

-- Records of the pages from `first` on, up to `page`, were put of these contents, of which the rest
-- is left.
pub record HasPut (table : RamTable) (b first : ℕ) (contents old : List ℕ) (page : ℕ) (rest bytes : List ℕ) : Type 0 where
  pub low : first ≤ page
  pub fits : (page - first) * table.page_size ≤ length contents
  pub is_rest : rest ≡ drop ((page - first) * table.page_size) contents
  pub has_bytes : bytes ≡ old ++ records_bytes table b (part_of table.page_size contents first) (range_with_len first (page - first))

-- a page more
pub put_more : (table : RamTable) (b first : ℕ) (contents old : List ℕ) (page : ℕ) (rest bytes new after : List ℕ)
    → HasPut table b first contents old page rest bytes → table.page_size ≤ length rest
    → new ≡ bytes ++ record_bytes table (record_of (place_at b page) (Some (take table.page_size rest)))
    → after ≡ drop table.page_size rest → HasPut table b first contents old (page + 1) after new
put_more table b first contents old page rest bytes new after h long more is =
    let size : ℕ = table.page_size in
    let n : page + 1 - first ≡ (page - first) + 1 = omega (arith, h.low) in
    let next : (page + 1 - first) * size ≡ (page - first) * size + size = ap (λ m. m * size) n ∙ grind arith in
    let left : length rest ≡ length contents - (page - first) * size = ap (λ (l : List ℕ). length l) h.is_rest ∙ length-drop ((page - first) * size) contents in
    let same : (page - first) * size + size - (page - first) * size ≡ size = omega arith in
    let content : part_of size contents first page ≡ Some (take size rest) =
    ap (λ m. Some (take m (drop ((page - first) * size) contents))) same ∙ ap (λ (l : List ℕ). Some (take size l)) (sym h.is_rest) in
    record {
      low = omega (arith, h.low);
      fits = omega (arith, next, left, long, h.fits);
      is_rest = is ∙ ap (λ (l : List ℕ). drop size l) h.is_rest ∙ drop-drop size ((page - first) * size) contents ∙ ap (λ m. drop m contents) (sym next);
      has_bytes = records_more table b (part_of size contents first) first page old bytes new h.low h.has_bytes
          (more ∙ ap (λ (o : Option (List ℕ)). bytes ++ record_bytes table (record_of (place_at b page) o)) (sym content));
    }
