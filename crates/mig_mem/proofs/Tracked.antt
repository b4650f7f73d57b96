-- With faithful tracking the memory after the rounds is the last image.
use Rattle.std.proofs.Common.{ℕ, ◌≡◌, List, [], ◌∷◌, sym, ap, ◌∙◌, inl, inr, Option, true}
use Rattle.std.specs.Prelude.{Contains, bytes_eq}
use Rattle.std.specs.Option.{option_map_or}
use Rattle.std.proofs.lemmas.Bool.{cases_Bool}
use Rattle.std.proofs.lemmas.List.Elements.{All-head, All-tail}
use Rattle.std.proofs.lemmas.List.Folds.{list_any_at}
use Rattle.std.proofs.lemmas.Slice.Eq.{bytes_eq-Decides}
use Rattle.std.proofs.lemmas.Map.Views.{Contains-from_any}
use Rattle.mig_mem.specs.declared.place.Place.{Place}
use Rattle.mig_mem.specs.RamTable.{RamTable}
use Rattle.mig_mem.specs.Place.{place_eq, has_place, IsPlace}
use Rattle.mig_mem.specs.Image.{Page, Image, IsImage, content_at, image_of, zero_image, zero_page}
use Rattle.mig_mem.specs.Round.{round_of, last_at, all_pages, after}
use Rattle.mig_mem.specs.Tracking.{Snapshot, HasChanges, IsFaithful, last_image, rounds_of, AreImagesOf}
use Rattle.mig_mem.proofs.Images.{image_agree, image_is, content_at-image_of}
use Rattle.mig_mem.proofs.PlaceOrder.{place_eq-from, place_eq-true}
use Rattle.mig_mem.proofs.Rounds.{last_at-append, last_at-nil, last_at-round, last_at-round_none, map_or-or}

-- an element of a list of places is a place that the list has
pub has_from_contains : (ps : List Place) (p : Place) → Contains ps p → has_place ps p ≡ true
has_from_contains ps p h = list_any_at (λ q. place_eq q p) ps h.0 p h.1 (place_eq-from _ p h.2)

-- a place that a list has is one of its elements
pub contains_from_has : (ps : List Place) (p : Place) → has_place ps p ≡ true → Contains ps p
contains_from_has ps p h = Contains-from_any {eq = λ x y. place_eq y x} (λ x y e. sym (place_eq-true y x e)) p ps h

-- a round with all changes leaves the image
one_round : (before : Image) (s : Snapshot) → HasChanges before s → (p : Place) → IsPlace s.image.table p
    → option_map_or (λ (x : Page). x.content) (last_at p (round_of s.image s.dirty)) (content_at before p) ≡ content_at s.image p
one_round before s changes p is = elim (cases_Bool (has_place s.dirty p)) [
  | inl t ↦ ap (λ (o : Option Page). option_map_or (λ (x : Page). x.content) o (content_at before p)) (last_at-round s.image p s.dirty t)
  | inr n ↦ ap (λ (o : Option Page). option_map_or (λ (x : Page). x.content) o (content_at before p)) (last_at-round_none s.image p s.dirty n)
      ∙ elim (cases_Bool (bytes_eq (content_at s.image p) (content_at before p))) [
        | inl t ↦ sym ((bytes_eq-Decides (content_at s.image p) (content_at before p)).0 t)
        | inr f ↦
            let dirty : has_place s.dirty p ≡ true = has_from_contains s.dirty p (changes p is (λ same.
            let t : bytes_eq (content_at s.image p) (content_at before p) ≡ true =
            (bytes_eq-Decides (content_at s.image p) (content_at before p)).1 same in absurd cc)) in absurd cc
      ]
]

-- round by round
follows : (table : RamTable) (before : Image) (ss : List Snapshot) → AreImagesOf table ss → IsFaithful before ss → (p : Place) → IsPlace table p
    → option_map_or (λ (x : Page). x.content) (last_at p (all_pages (rounds_of ss))) (content_at before p) ≡ content_at (last_image before ss) p
follows table before [] all faithful p is = ap (λ (o : Option Page). option_map_or (λ (x : Page). x.content) o (content_at before p)) (last_at-nil p)
follows table before (s ∷ ss) all faithful p is =
    let here = All-head (λ (x : Snapshot). IsImage x.image × (x.image.table ≡ table)) s ss all in
    let at : IsPlace s.image.table p = rw here.1 is in
    ap (λ (o : Option Page). option_map_or (λ (x : Page). x.content) o (content_at before p))
    (last_at-append p (round_of s.image s.dirty) (all_pages (rounds_of ss)))
    ∙ map_or-or (last_at p (all_pages (rounds_of ss))) (last_at p (round_of s.image s.dirty)) (content_at before p)
    ∙ ap (λ (c : List ℕ). option_map_or (λ (x : Page). x.content) (last_at p (all_pages (rounds_of ss))) c) (one_round before s faithful.0 p at)
    ∙ follows table s.image ss (All-tail (λ (x : Snapshot). IsImage x.image × (x.image.table ≡ table)) s ss all) faithful.1 p is

-- the last image is one of the table
last_is : (table : RamTable) (before : Image) (ss : List Snapshot) → AreImagesOf table ss → before ≡ image_of table (content_at before)
    → last_image before ss ≡ image_of table (content_at (last_image before ss))
last_is table before [] all is = is
last_is table before (s ∷ ss) all is =
    let here = All-head (λ (x : Snapshot). IsImage x.image × (x.image.table ≡ table)) s ss all in
    last_is table s.image ss (All-tail (λ (x : Snapshot). IsImage x.image × (x.image.table ≡ table)) s ss all)
    (image_is s.image here.0 ∙ ap (λ (t : RamTable). image_of t (content_at s.image)) here.1)

-- WITH FAITHFUL TRACKING from zeros on, the memory after the rounds is the last image.
pub tracked : (table : RamTable) (ss : List Snapshot) → AreImagesOf table ss → IsFaithful (zero_image table) ss
    → after table (rounds_of ss) ≡ last_image (zero_image table) ss
tracked table ss all faithful =
    let zero : Place → List ℕ = λ _. zero_page table.page_size in
    image_agree table (λ p. option_map_or (λ (x : Page). x.content) (last_at p (all_pages (rounds_of ss)))
    (zero_page table.page_size)) (content_at (last_image (zero_image table) ss))
    (λ p is.
    ap (λ (c : List ℕ). option_map_or (λ (x : Page). x.content) (last_at p (all_pages (rounds_of ss))) c) (sym (content_at-image_of table zero p is))
    ∙ follows table (zero_image table) ss all faithful p is)
    ∙ sym (last_is table (zero_image table) ss all (image_agree table zero (content_at (zero_image table)) (λ p is. sym (content_at-image_of table zero p is))))
