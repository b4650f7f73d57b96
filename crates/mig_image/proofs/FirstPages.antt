-- A memory of which the first pages were read.
use Rattle.std.proofs.Common.{ℕ, ◌≡◌, ◌≢◌, ◌+◌, ◌*◌, ◌<◌, ◌≤◌, List, [], ◌∷◌, length, take, drop, replicate, refl, sym, ap, subst, ◌∙◌, inl, inr, arith, Bool}
use Rattle.std.proofs.Common.{true, false, cond, ◌&&◌, All, Some, None}
use Rattle.std.specs.Prelude.{nat_lt, ◌==◌, ◌⊎◌}
use Rattle.std.proofs.lemmas.Bool.{cases_Bool, cond-true, cond-false, and_parts, and_from, eqb-true, eq-eqb, ltb-true, lt-ltb, le-ltb, cases_lt}
use Rattle.std.proofs.Math.Nat.{mul-le-mul_right, add-mul}
use Rattle.std.proofs.lemmas.List.{drop-drop, length-drop}
use Rattle.std.proofs.lemmas.List.Elements.{All-head, All-tail}
use Rattle.std.proofs.lemmas.List.Sums.{sum_by_more, sum_by_more_le}
use Rattle.mig_mem.specs.declared.place.Place.{Place}
use Rattle.mig_mem.specs.RamTable.{RamTable, Block, block, total_pages}
use Rattle.mig_mem.specs.Place.{place_at}
use Rattle.mig_mem.specs.Parts.{part_at}
use Rattle.mig_mem.specs.Image.{Image, IsImage, image_of, content_at, with_page, zero_page}
use Rattle.mig_mem.proofs.PlaceOrder.{same_place}
use Rattle.mig_mem.proofs.Images.{image_agree, image_is, with_page-image_of, content_at-image_of}
use Rattle.mig_image.specs.File.{pages_before, file_len, file_image, memory_in, with_block}

-- the content of a place after the first pages of a block were read
abbrev pub paged : Image → ℕ → List ℕ → ℕ → Place → List ℕ
paged m b bytes n p = cond (p.block == b && nat_lt p.page n) (part_at m.table.page_size bytes p.page) (content_at m p)

abbrev pub first_pages : Image → ℕ → List ℕ → ℕ → Image
first_pages m b bytes n = image_of m.table (paged m b bytes n)

-- the content of a place after the first blocks were read
abbrev pub blocked : RamTable → List ℕ → ℕ → Place → List ℕ
blocked table bytes n p = cond (nat_lt p.block n) (part_at table.page_size bytes (pages_before table.blocks p)) (zero_page table.page_size)

abbrev pub first_blocks : RamTable → List ℕ → ℕ → Image
first_blocks table bytes n = image_of table (blocked table bytes n)

-- ---- the pages of a block

read_page : (m : Image) (b : ℕ) (bytes : List ℕ) (n : ℕ) (p : Place) → p.block ≡ b → p.page < n → paged m b bytes n p ≡ part_at m.table.page_size bytes p.page
read_page m b bytes n p here below =
    cond-true (p.block == b && nat_lt p.page n) (part_at m.table.page_size bytes p.page) (content_at m p)
    (and_from (p.block == b) (nat_lt p.page n) (eq-eqb p.block b here) (lt-ltb p.page n below))

unread_page : (m : Image) (b : ℕ) (bytes : List ℕ) (n : ℕ) (p : Place) → (p.block ≡ b → p.page < n → ⊥) → paged m b bytes n p ≡ content_at m p
unread_page m b bytes n p none = elim (cases_Bool (p.block == b && nat_lt p.page n)) [
  | inl t ↦ (let both = and_parts (p.block == b) (nat_lt p.page n) t in absurd (none (eqb-true p.block b both.0) (ltb-true p.page n both.1)))
  | inr f ↦ cond-false (p.block == b && nat_lt p.page n) (part_at m.table.page_size bytes p.page) (content_at m p) f
]

is_read_or_not : (b n : ℕ) (p : Place) → ((p.block ≡ b) × (p.page < n)) ⊎ (p.block ≡ b → p.page < n → ⊥)
is_read_or_not b n p = elim (cases_Bool (p.block == b && nat_lt p.page n)) [
  | inl t ↦ (let both = and_parts (p.block == b) (nat_lt p.page n) t in inl (eqb-true p.block b both.0, ltb-true p.page n both.1))
  | inr f ↦ inr (λ here below. let t = and_from (p.block == b) (nat_lt p.page n) (eq-eqb p.block b here)
      (lt-ltb p.page n below) in let e : true ≡ false = sym t ∙ f in absurd cc)
]

-- a memory with no page of a block read yet is as it was
pub no_page : (m : Image) (b : ℕ) (bytes : List ℕ) → IsImage m → m ≡ first_pages m b bytes 0
no_page m b bytes is = image_is m is ∙ image_agree m.table (content_at m) (paged m b bytes 0)
    (λ p at. sym (unread_page m b bytes 0 p (λ here below. omega (arith, below))))

-- with page n read from its part of the bytes, the first n + 1 pages of a block are read
pub one_page_more : (m : Image) (b n : ℕ) (bytes x : List ℕ) → x ≡ part_at m.table.page_size bytes n
    → with_page (first_pages m b bytes n) (place_at b n) x ≡ first_pages m b bytes (n + 1)
one_page_more m b n bytes x is =
    with_page-image_of m.table (paged m b bytes n) (paged m b bytes (n + 1)) (place_at b n) x
    (is ∙ sym (read_page m b bytes (n + 1) (place_at b n) refl (omega arith)))
    (λ q at other. elim (is_read_or_not b n q) [
      | inl both ↦ read_page m b bytes n q both.0 both.1 ∙ sym (read_page m b bytes (n + 1) q both.0 (let l = both.1 in omega (arith, l)))
      | inr none ↦ unread_page m b bytes n q none ∙ sym (unread_page m b bytes (n + 1) q (λ here below. elim (cases_lt q.page n) [
        | inl lt ↦ none here lt
        | inr ge ↦ (let page : q.page ≡ n = omega (arith, below, ge) in other (same_place q (place_at b n) here page))
      ]))
    ])

-- with all pages of a block read, the memory has the block that stands at the bytes' beginning
pub all_pages : (m : Image) (b n : ℕ) (bytes : List ℕ) → n ≡ (block m.table.blocks b).pages → first_pages m b bytes n ≡ with_block m b bytes
all_pages m b n bytes count = image_agree m.table (paged m b bytes n)
    (λ p. cond (p.block == b) (part_at m.table.page_size bytes p.page) (content_at m p)) (λ p at. elim (cases_Bool (p.block == b)) [
      | inl t ↦ (let here : p.block ≡ b = eqb-true p.block b t in
          let below : p.page < n = subst (λ (k : ℕ). p.page < k) (ap (λ (i : ℕ). (block m.table.blocks i).pages) here ∙ sym count) at.has_page in
          read_page m b bytes n p here below ∙ sym (cond-true (p.block == b) (part_at m.table.page_size bytes p.page) (content_at m p) t))
      | inr f ↦ unread_page m b bytes n p (λ here below. let t = eq-eqb p.block b here in let e : true ≡ false = sym t ∙ f in absurd cc)
          ∙ sym (cond-false (p.block == b) (part_at m.table.page_size bytes p.page) (content_at m p) f)
    ])

-- ---- the blocks

is_in : (table : RamTable) (bytes : List ℕ) (n : ℕ) (p : Place) → p.block < n
    → blocked table bytes n p ≡ part_at table.page_size bytes (pages_before table.blocks p)
is_in table bytes n p lt = cond-true (nat_lt p.block n) (part_at table.page_size bytes (pages_before table.blocks p))
    (zero_page table.page_size) (lt-ltb p.block n lt)

same_side : (b i : ℕ) → b ≢ i → nat_lt b i ≡ nat_lt b (i + 1)
same_side b i other = elim (cases_lt b i) [
  | inl lt ↦ lt-ltb b i lt ∙ sym (lt-ltb b (i + 1) (omega (arith, lt)))
  | inr ge ↦ elim (cases_lt b (i + 1)) [
    | inl lt ↦ absurd (other (omega (arith, lt, ge)))
    | inr past ↦ le-ltb b i ge ∙ sym (le-ltb b (i + 1) past)
  ]
]

-- bytes that are each zero are as many zeros
pub zeros_are : (xs : List ℕ) → All (λ b. b ≡ 0) xs → xs ≡ replicate (length xs) 0
zeros_are [] all = refl
zeros_are (x ∷ xs) all =
    ap (λ (y : ℕ). y ∷ xs) (All-head (λ b. b ≡ 0) x xs all) ∙ ap (λ (ys : List ℕ). 0 ∷ ys) (zeros_are xs (All-tail (λ b. b ≡ 0) x xs all))

-- of a file's bytes there are at least a block's own from where the block stands
pub room_for_block : (table : RamTable) (bytes : List ℕ) (i : ℕ) → i < length table.blocks → length bytes ≡ file_len table
    → (block table.blocks i).pages * table.page_size ≤ length (drop (total_pages (take i table.blocks) * table.page_size) bytes)
room_for_block table bytes i lt len =
    let before : ℕ = total_pages (take i table.blocks) in
    let le = sum_by_more_le (λ (b : Block). b.pages) table.blocks i (record { id = []; pages = 0 }) lt in
    let scaled : (before + (block table.blocks i).pages) * table.page_size ≤ total_pages table.blocks * table.page_size = mul-le-mul_right table.page_size le in
    omega (arith, scaled, len, length-drop (before * table.page_size) bytes, add-mul before (block table.blocks i).pages table.page_size)

-- a block stands in the file behind those before it
part_behind : (size from n : ℕ) (bytes : List ℕ) → part_at size (drop (from * size) bytes) n ≡ part_at size bytes (from + n)
part_behind size from n bytes =
    ap (λ (l : List ℕ). take size l) (drop-drop (n * size) (from * size) bytes ∙ ap (λ (k : ℕ). drop k bytes) (sym (add-mul from n size)))

-- with block i read from where it stands in the file, the first i + 1 blocks are read
pub one_block_more : (table : RamTable) (bytes : List ℕ) (i : ℕ)
    → with_block (first_blocks table bytes i) i (drop (total_pages (take i table.blocks) * table.page_size) bytes) ≡ first_blocks table bytes (i + 1)
one_block_more table bytes i =
    let m : Image = first_blocks table bytes i in
    let left : List ℕ = drop (total_pages (take i table.blocks) * table.page_size) bytes in
    image_agree table (λ p. cond (p.block == i) (part_at table.page_size left p.page) (content_at m p))
    (blocked table bytes (i + 1)) (λ p at. elim (cases_Bool (p.block == i)) [
      | inl t ↦ (let here : p.block ≡ i = eqb-true p.block i t in
          cond-true (p.block == i) (part_at table.page_size left p.page) (content_at m p) t
          ∙ part_behind table.page_size (total_pages (take i table.blocks)) p.page bytes
          ∙ ap (λ (b : ℕ). part_at table.page_size bytes (total_pages (take b table.blocks) + p.page)) (sym here)
          ∙ sym (is_in table bytes (i + 1) p (omega (arith, here))))
      | inr f ↦ (let other : p.block ≢ i = (λ here. let t = eq-eqb p.block i here in let e : true ≡ false = sym t ∙ f in absurd cc) in
          cond-false (p.block == i) (part_at table.page_size left p.page) (content_at m p) f ∙ content_at-image_of table (blocked table bytes i) p at
          ∙ ap (λ (b : Bool). cond b (part_at table.page_size bytes (pages_before table.blocks p)) (zero_page table.page_size)) (same_side p.block i other))
    ])

-- with all blocks read, the memory is that of the file's bytes
pub all_blocks : (table : RamTable) (bytes : List ℕ) (n : ℕ) → n ≡ length table.blocks → first_blocks table bytes n ≡ file_image table bytes
all_blocks table bytes n count = image_agree table (blocked table bytes n)
    (λ p. part_at table.page_size bytes (pages_before table.blocks p)) (λ p at. is_in table bytes n p (let lt = at.has_block in omega (arith, lt, count)))

-- if there are as many bytes as a table's file has, they are read as the memory of that file
pub is_read : (table : RamTable) (bytes : List ℕ) (m : Image) → length bytes ≡ file_len table → m ≡ file_image table bytes → Some m ≡ memory_in table bytes
is_read table bytes m len is =
    ap (λ (x : Image). Some x) is ∙ sym (cond-true (length bytes == file_len table) (Some (file_image table bytes)) None
    (eq-eqb (length bytes) (file_len table) len))

-- where what is left begins
pub left_more : (size n : ℕ) (bytes left : List ℕ) → left ≡ drop (n * size) bytes → drop size left ≡ drop ((n + 1) * size) bytes
left_more size n bytes left is =
    ap (λ (l : List ℕ). drop size l) is ∙ drop-drop size (n * size) bytes ∙ ap (λ (k : ℕ). drop k bytes) (let e = add-mul n 1 size in omega (arith, e))

-- what is left after block i's bytes is what stands in the file from block i + 1 on
pub block_more : (table : RamTable) (bytes left rest : List ℕ) (i : ℕ) → i < length table.blocks
    → left ≡ drop (total_pages (take i table.blocks) * table.page_size) bytes
    → rest ≡ drop ((block table.blocks i).pages * table.page_size) left → rest ≡ drop (total_pages (take (i + 1) table.blocks) * table.page_size) bytes
block_more table bytes left rest i lt from is =
    let size : ℕ = table.page_size in
    let before : ℕ = total_pages (take i table.blocks) in
    let pages : ℕ = (block table.blocks i).pages in
    let sum : total_pages (take (i + 1) table.blocks) ≡ before + pages =
    sum_by_more (λ (b : Block). b.pages) table.blocks i (record { id = []; pages = 0 }) lt in
    is ∙ ap (λ (l : List ℕ). drop (pages * size) l) from ∙ drop-drop (pages * size) (before * size) bytes
    ∙ ap (λ (k : ℕ). drop k bytes) (sym (add-mul before pages size)) ∙ ap (λ (k : ℕ). drop (k * size) bytes) (sym sum)
