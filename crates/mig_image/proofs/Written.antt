-- A memory's file of which the first pages were written.
use Rattle.std.proofs.Common.{ℕ, ◌≡◌, ◌+◌, List, [], ◌∷◌, ◌++◌, map, sym, ap, ◌∙◌, arith, subst, Option, Some, None, Result, Ok, Err, length, append-nil}
use Rattle.std.specs.List.{range_with_len, flat_map}
use Rattle.std.specs.Option.{unwrap_or}
use Rattle.std.specs.Result.{OnOk}
use Rattle.std.specs.Io.KnownBytes.{Appends, append_known}
use Rattle.std.proofs.KnownBytes.{Appends-trans}
use Rattle.std.proofs.lemmas.List.{map-id}
use Rattle.std.proofs.lemmas.List.Concat.{flat_map-append}
use Rattle.std.proofs.lemmas.List.FromFn.{map-range_with_len_more}
use Rattle.mig_mem.specs.declared.place.Place.{Place}
use Rattle.mig_mem.specs.Place.{place_at, block_places, places}
use Rattle.mig_mem.specs.Image.{Image, content, content_at}
use Rattle.mig_image.specs.File.{block_bytes, image_bytes}

-- the bytes of the first pages of a block
abbrev pub first_pages_bytes : Image → ℕ → ℕ → List ℕ
first_pages_bytes m b n = flat_map (content_at m) (map (place_at b) (range_with_len 0 n))

-- the bytes of the first blocks
abbrev pub first_blocks_bytes : Image → ℕ → List ℕ
first_blocks_bytes m n = flat_map (content_at m) (flat_map (block_places m.table.blocks) (range_with_len 0 n))

-- what is made of a list with one element more is what was made before, and then of the element
pub flat_map_one : {X A : Type 0} (f : X → List A) (xs : List X) (x : X) → flat_map f (xs ++ x ∷ []) ≡ flat_map f xs ++ f x
flat_map_one f xs x = flat_map-append f xs (x ∷ []) ∙ ap (λ l. flat_map f xs ++ l) (append-nil (f x))

-- ---- one more of them

-- the bytes of a block's first n + 1 pages are those of its first n, and then page n's content
pub one_more_page : (m : Image) (b n : ℕ) → first_pages_bytes m b (n + 1) ≡ first_pages_bytes m b n ++ content_at m (place_at b n)
one_more_page m b n =
    ap (flat_map (content_at m)) (map-range_with_len_more (place_at b) 0 n n (omega arith))
    ∙ flat_map_one (content_at m) (map (place_at b) (range_with_len 0 n)) (place_at b n)

-- the numbers below n + 1 are those below n, and then n
pub range_more : (n : ℕ) → range_with_len 0 (n + 1) ≡ range_with_len 0 n ++ n ∷ []
range_more n = sym (map-id (range_with_len 0 (n + 1))) ∙ map-range_with_len_more (λ i. i) 0 n n (omega arith)
    ∙ ap (λ l. l ++ n ∷ []) (map-id (range_with_len 0 n))

-- the bytes of the first n + 1 blocks are those of the first n, and then those of block n
pub one_more_block : (m : Image) (n : ℕ) → first_blocks_bytes m (n + 1) ≡ first_blocks_bytes m n ++ block_bytes m n
one_more_block m n =
    let places : ℕ → List Place = block_places m.table.blocks in
    ap (λ (l : List ℕ). flat_map (content_at m) (flat_map places l)) (range_more n)
    ∙ ap (flat_map (content_at m)) (flat_map_one places (range_with_len 0 n) n)
    ∙ flat_map-append (content_at m) (flat_map places (range_with_len 0 n)) (places n)

-- once page n's content is written after a block's first n pages, its first n + 1 are written
pub page_written : (m : Image) (b n : ℕ) (bytes : List ℕ) (x y z : Option (List ℕ)) → Some bytes ≡ content m (place_at b n)
    → Appends x y (first_pages_bytes m b n) → Appends y z bytes → Appends x z (first_pages_bytes m b (n + 1))
page_written m b n bytes x y z is before here =
    let joined : first_pages_bytes m b n ++ bytes ≡ first_pages_bytes m b (n + 1) =
    ap (λ l. first_pages_bytes m b n ++ l) (ap (λ (o : Option (List ℕ)). unwrap_or o []) is) ∙ sym (one_more_page m b n) in
    subst (Appends x z) joined (Appends-trans x y z (first_pages_bytes m b n) bytes before here)

-- once block n's bytes are written after those of the first n, the first n + 1 are written
pub block_written : (m : Image) (n : ℕ) (x y z : Option (List ℕ)) → Appends x y (first_blocks_bytes m n)
    → Appends y z (block_bytes m n) → Appends x z (first_blocks_bytes m (n + 1))
block_written m n x y z before here = subst (Appends x z) (sym (one_more_block m n))
    (Appends-trans x y z (first_blocks_bytes m n) (block_bytes m n) before here)

-- ---- a writer and its buffer

-- what was collected is written
all_written : (a b c : Option (List ℕ)) (buffer all : List ℕ) → Appends a (append_known b buffer) all → Appends b c buffer → Appends a c all
all_written None b c buffer all p q = tt
all_written (Some x) None c buffer all p q = absurd p
all_written (Some x) (Some y) None buffer all p q = absurd q
all_written (Some x) (Some y) (Some z) buffer all p q = q ∙ p

-- once all blocks are in the file or the buffer, writing the buffer out writes the memory's file
pub image_written : {T E : Type 0} (m : Image) (n : ℕ) (r : Result T E) (a b c : Option (List ℕ)) (buffer : List ℕ) → n ≡ length m.table.blocks
    → Appends a (append_known b buffer) (first_blocks_bytes m n) → OnOk r (Appends b c buffer) → OnOk r (Appends a c (image_bytes m))
unfolding places
image_written m n (Err e) a b c buffer all before last = tt
image_written m n (Ok x) a b c buffer all before last =
    subst (λ (k : ℕ). Appends a c (first_blocks_bytes m k)) all (all_written a b c buffer (first_blocks_bytes m n) before last)
