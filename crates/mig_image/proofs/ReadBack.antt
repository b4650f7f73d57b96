-- A memory's file is read back: its parts are the pages, in the order of their places.
use Rattle.std.proofs.Common.{ℕ, ◌≡◌, ◌+◌, ◌*◌, ◌<◌, ◌≤◌, List, [], ◌∷◌, ◌++◌, length, get_or, map, take, drop, refl, sym, ap, ◌∙◌, inl, inr, arith, zero, suc}
use Rattle.std.proofs.Common.{Option, Some, None}
use Rattle.std.specs.Prelude.{◌==◌}
use Rattle.std.specs.List.{range_with_len, flat_map, All}
use Rattle.std.specs.Option.{unwrap_or}
use Rattle.std.proofs.Math.Nat.{add-mul}
use Rattle.std.proofs.Math.Seq.{take-append_seam, drop-append-add, take-add, take-length}
use Rattle.std.proofs.lemmas.Bool.{cases_Bool, cond-true, cond-false, eqb-true}
use Rattle.std.proofs.lemmas.List.{map-append, get_or-map, get_or_default, length-append, drop-drop}
use Rattle.std.proofs.lemmas.List.Elements.{All-head, All-tail, All-weaker}
use Rattle.std.proofs.lemmas.List.Folds.{flat_map-map, Any-from_list_any}
use Rattle.std.proofs.lemmas.List.FromFn.{get_or-range_with_len}
use Rattle.std.proofs.lemmas.List.Sums.{sum_by_more}
use Rattle.mig_mem.specs.declared.place.Place.{Place}
use Rattle.mig_mem.specs.RamTable.{RamTable, Block, block, total_pages}
use Rattle.mig_mem.specs.Place.{IsPlace, place_at, place_eq, block_places, places}
use Rattle.mig_mem.specs.Parts.{part_at}
use Rattle.mig_mem.specs.Image.{Image, IsImage, content_at}
use Rattle.mig_mem.proofs.Members.{map-map}
use Rattle.mig_mem.proofs.PlaceOrder.{place_eq-true}
use Rattle.mig_mem.proofs.TablePlaces.{all_places, has_place-places}
use Rattle.mig_mem.proofs.Sets.{length-places}
use Rattle.mig_mem.proofs.Images.{image_agree, image_is, content_size, content_at-image_of}
use Rattle.mig_image.specs.File.{image_bytes, pages_before, file_len, file_image, ImageIsReadBack, FileIsWrittenBack}
use Rattle.mig_image.proofs.FirstPages.{is_read}
use Rattle.mig_image.proofs.Written.{range_more, flat_map_one}

-- ---- the places are numbered as their pages stand in the file

range_shifted : (a b n : ℕ) → map (λ i. a + i) (range_with_len b n) ≡ range_with_len (a + b) n
range_shifted a b zero = refl
range_shifted a b (suc n) = ap (λ (l : List ℕ). (a + b) ∷ l) (range_shifted a (b + 1) n ∙ ap (λ (k : ℕ). range_with_len k n) (omega arith))

range_joined : (a n k : ℕ) → range_with_len a n ++ range_with_len (a + n) k ≡ range_with_len a (n + k)
range_joined a zero k = let start : a + 0 ≡ a = omega arith in let len : k ≡ 0 + k = omega arith in
    ap (λ (i : ℕ). range_with_len i k) start ∙ ap (range_with_len a) len
range_joined a (suc n) k =
    let start : a + suc n ≡ a + 1 + n = omega arith in
    let len : suc (n + k) ≡ suc n + k = omega arith in
    ap (λ (l : List ℕ). a ∷ l) (ap (λ (i : ℕ). range_with_len (a + 1) n ++ range_with_len i k) start ∙ range_joined (a + 1) n k) ∙ ap (range_with_len a) len

first_places : List Block → ℕ → List Place
first_places blocks n = flat_map (block_places blocks) (range_with_len 0 n)

block_numbers : (blocks : List Block) (i : ℕ)
    → map (pages_before blocks) (block_places blocks i) ≡ range_with_len (total_pages (take i blocks)) (block blocks i).pages
block_numbers blocks i =
    let before : ℕ = total_pages (take i blocks) in
    map-map (pages_before blocks) (place_at i) (range_with_len 0 (block blocks i).pages) ∙ range_shifted before 0 (block blocks i).pages
    ∙ ap (λ (k : ℕ). range_with_len k (block blocks i).pages) (omega arith)

first_numbers : (blocks : List Block) (n : ℕ) → n ≤ length blocks
    → map (pages_before blocks) (first_places blocks n) ≡ range_with_len 0 (total_pages (take n blocks))
unfolding first_places
first_numbers blocks zero le = refl
first_numbers blocks (suc n) le =
    let before : ℕ = total_pages (take n blocks) in
    let pages : ℕ = (block blocks n).pages in
    let sum : total_pages (take (n + 1) blocks) ≡ before + pages =
    sum_by_more (λ (b : Block). b.pages) blocks n (record { id = []; pages = 0 }) (omega (arith, le)) in
    let next : n + 1 ≡ suc n = omega arith in
    ap (λ (k : ℕ). map (pages_before blocks) (first_places blocks k)) (sym next)
    ∙ ap (λ (l : List ℕ). map (pages_before blocks) (flat_map (block_places blocks) l)) (range_more n)
    ∙ ap (map (pages_before blocks)) (flat_map_one (block_places blocks) (range_with_len 0 n) n)
    ∙ map-append (pages_before blocks) (first_places blocks n) (block_places blocks n)
    ∙ ap (λ (l : List ℕ). l ++ map (pages_before blocks) (block_places blocks n)) (first_numbers blocks n (omega (arith, le)))
    ∙ ap (λ (l : List ℕ). range_with_len 0 before ++ l) (block_numbers blocks n ∙ ap (λ (k : ℕ). range_with_len k pages) (omega arith))
    ∙ range_joined 0 before pages
    ∙ ap (range_with_len 0) (sym sum)
    ∙ ap (λ (k : ℕ). range_with_len 0 (total_pages (take k blocks))) next

-- the places of a table, in their order, have as many pages before them as 0, 1, 2 and so on
pub place_numbers : (table : RamTable) → map (pages_before table.blocks) (places table) ≡ range_with_len 0 (total_pages table.blocks)
unfolding places first_places
place_numbers table =
    first_numbers table.blocks (length table.blocks) (omega arith) ∙ ap (λ (l : List Block). range_with_len 0 (total_pages l)) (take-length table.blocks)

-- ---- the parts of the file

sizes_joined : {X : Type 0} (f : X → List ℕ) (size : ℕ) (xs : List X) → All (λ x. length (f x) ≡ size) xs → length (flat_map f xs) ≡ length xs * size
sizes_joined f size [] all = omega arith
sizes_joined {X} f size (x ∷ xs) all =
    length-append (f x) (flat_map f xs)
    ∙ (let here = All-head (λ (y : X). length (f y) ≡ size) x xs all in
    let rest = sizes_joined f size xs (All-tail (λ (y : X). length (f y) ≡ size) x xs all) in
    let sum = add-mul 1 (length xs) size in omega (arith, here, rest, sum))

part_joined : {X : Type 0} (f : X → List ℕ) (size : ℕ) (xs : List X) (i : ℕ) (d : X) → All (λ x. length (f x) ≡ size) xs
    → i < length xs → part_at size (flat_map f xs) i ≡ f (get_or xs i d)
part_joined f size [] i d all lt = absurd (omega arith)
part_joined {X} f size (x ∷ xs) zero d all lt =
    let here = All-head (λ (y : X). length (f y) ≡ size) x xs all in
    let start : 0 * size ≡ 0 = omega arith in
    ap (λ (k : ℕ). take size (drop k (f x ++ flat_map f xs))) start
    ∙ ap (λ (k : ℕ). take k (f x ++ flat_map f xs)) (sym here) ∙ take-append_seam (f x) (flat_map f xs)
part_joined {X} f size (x ∷ xs) (suc i) d all lt =
    let here = All-head (λ (y : X). length (f y) ≡ size) x xs all in
    let start : suc i * size ≡ length (f x) + i * size = (let sum = add-mul 1 i size in omega (arith, here, sum)) in
    ap (λ (k : ℕ). take size (drop k (f x ++ flat_map f xs))) start
    ∙ ap (take size) (drop-append-add (f x) (flat_map f xs) (i * size))
    ∙ part_joined f size xs i d (All-tail (λ (y : X). length (f y) ≡ size) x xs all) (omega (arith, lt))

flat_map_agree : {X A : Type 0} (f g : X → List A) (xs : List X) → All (λ x. f x ≡ g x) xs → flat_map f xs ≡ flat_map g xs
flat_map_agree f g [] all = refl
flat_map_agree {X} {A} f g (x ∷ xs) all =
    ap (λ (l : List A). l ++ flat_map f xs) (All-head (λ (y : X). f y ≡ g y) x xs all)
    ∙ ap (λ (l : List A). g x ++ l) (flat_map_agree f g xs (All-tail (λ (y : X). f y ≡ g y) x xs all))

parts_are_whole : (size a n : ℕ) (bytes : List ℕ) → flat_map (part_at size bytes) (range_with_len a n) ≡ take (n * size) (drop (a * size) bytes)
parts_are_whole size a zero bytes = let none : 0 ≡ 0 * size = omega arith in ap (λ (k : ℕ). take k (drop (a * size) bytes)) none
parts_are_whole size a (suc n) bytes =
    let left : List ℕ = drop (a * size) bytes in
    let next : (a + 1) * size ≡ a * size + size = (let sum = add-mul a 1 size in omega (arith, sum)) in
    let len : size + n * size ≡ suc n * size = (let sum = add-mul 1 n size in omega (arith, sum)) in
    ap (λ (l : List ℕ). part_at size bytes a ++ l)
    (parts_are_whole size (a + 1) n bytes ∙ ap (λ (k : ℕ). take (n * size) (drop k bytes)) next ∙ ap (take (n * size)) (sym (drop-drop size (a * size) bytes)))
    ∙ sym (take-add size (n * size) left) ∙ ap (λ (k : ℕ). take k left) len

-- ---- the laws

sizes : (m : Image) → IsImage m → All (λ p. length (content_at m p) ≡ m.table.page_size) (places m.table)
sizes m is = All-weaker (IsPlace m.table) (λ p. length (content_at m p) ≡ m.table.page_size) (λ p at. content_size m p is at)
    (places m.table) (all_places m.table)

-- a place of the table is in the list of places where its page stands in the file
place_found : (table : RamTable) (p : Place) → IsPlace table p
    → (pages_before table.blocks p < length (places table)) × (get_or (places table) (pages_before table.blocks p) p ≡ p)
place_found table p at =
    let ps : List Place = places table in
    let some = Any-from_list_any (λ q. place_eq q p) ps (has_place-places table p at) in
    let found : get_or ps some.0 some.1 ≡ p = some.3 ∙ place_eq-true some.1 p some.4 in
    let number : pages_before table.blocks p ≡ some.0 =
    ap (pages_before table.blocks) (sym found) ∙ sym (get_or-map (pages_before table.blocks) ps some.0 some.1 0 some.2)
    ∙ ap (λ (l : List ℕ). get_or l some.0 0) (place_numbers table)
    ∙ get_or-range_with_len 0 (total_pages table.blocks) some.0 0 (let lt = some.2 in let len = length-places table in omega (arith, lt, len)) ∙ omega arith in
    (let lt = some.2 in omega (arith, number, lt), ap (λ (i : ℕ). get_or ps i p) number ∙ get_or_default ps some.0 p some.1 some.2 ∙ found)

-- the bytes that are written of a memory are read as that memory
pub image_is_read_back : ImageIsReadBack
image_is_read_back m is =
    let table : RamTable = m.table in
    let bytes : List ℕ = image_bytes m in
    let len : length bytes ≡ file_len table = sizes_joined (content_at m) table.page_size (places table) (sizes m is)
    ∙ ap (λ (k : ℕ). k * table.page_size) (length-places table) in
    sym (is_read table bytes m len (image_is m is ∙ image_agree table (content_at m) (λ p. part_at table.page_size bytes (pages_before table.blocks p)) (λ p at.
    let found = place_found table p at in
    sym (part_joined (content_at m) table.page_size (places table) (pages_before table.blocks p) p (sizes m is) found.0 ∙ ap (content_at m) found.1))))

-- a memory that was read of a file's bytes is written as these bytes
pub file_is_written_back : FileIsWrittenBack
file_is_written_back table bytes m read = elim (cases_Bool (length bytes == file_len table)) [
  | inr f ↦ (let none : None ≡ Some m = sym (cond-false (length bytes == file_len table) (Some (file_image table bytes)) None f) ∙ read in absurd cc)
  | inl t ↦
      let len : length bytes ≡ file_len table = eqb-true (length bytes) (file_len table) t in
      let is : file_image table bytes ≡ m =
      ap (λ (o : Option Image). unwrap_or o m) (sym (cond-true (length bytes == file_len table) (Some (file_image table bytes)) None t) ∙ read) in
      let size : ℕ = table.page_size in
      let start : 0 * size ≡ 0 = omega arith in
      let part : Place → List ℕ = λ p. part_at size bytes (pages_before table.blocks p) in
      ap image_bytes (sym is)
      ∙ flat_map_agree (content_at (file_image table bytes)) part (places table)
      (All-weaker (IsPlace table) (λ p. content_at (file_image table bytes) p ≡ part p)
      (λ p at. content_at-image_of table part p at) (places table) (all_places table))
      ∙ sym (flat_map-map (part_at size bytes) (pages_before table.blocks) (places table))
      ∙ ap (flat_map (part_at size bytes)) (place_numbers table)
      ∙ parts_are_whole size 0 (total_pages table.blocks) bytes
      ∙ ap (λ (k : ℕ). take (file_len table) (drop k bytes)) start
      ∙ ap (λ (k : ℕ). take k bytes) (sym len) ∙ take-length bytes
]
