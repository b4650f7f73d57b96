-- A memory that is made from a function of the place.
use Rattle.std.proofs.Common.{ℕ, ◌≡◌, ◌≢◌, List, [], ◌∷◌, length, map, refl, sym, ap, ◌∙◌, inl, inr, arith, get_or, Option, Some, None, Bool, true, false, cond}
use Rattle.std.specs.List.{find, All}
use Rattle.std.specs.Option.{option_map, unwrap_or}
use Rattle.std.proofs.lemmas.Bool.{cases_Bool, cond-true, cond-false, or_cases}
use Rattle.std.proofs.lemmas.List.{map-id, length-map, get_or-map}
use Rattle.std.proofs.lemmas.List.Elements.{All-map, All-weaker, All-head, All-tail}
use Rattle.mig_mem.specs.declared.place.Place.{Place}
use Rattle.mig_mem.specs.RamTable.{RamTable}
use Rattle.mig_mem.specs.Place.{place_eq, place_lt, has_place, IsPlace, places}
use Rattle.mig_mem.specs.Image.{Page, Image, IsImage, content, content_at, pages_of, image_of, with_page}
use Rattle.mig_mem.proofs.Members.{InOrder, map-map, map_agree, find-map}
use Rattle.mig_mem.proofs.PlaceOrder.{place_eq-true, place_eq-from, place_lt-ne}
use Rattle.mig_mem.proofs.TablePlaces.{all_places, has_place-places, place_from_has, places_order, find_place, find_no_place}

abbrev page : (Place → List ℕ) → Place → Page
page f p = record { place = p; content = f p }

-- each place has its content
pub content-image_of : (table : RamTable) (f : Place → List ℕ) (p : Place) → IsPlace table p → content (image_of table f) p ≡ Some (f p)
unfolding content pages_of
content-image_of table f p is =
    let found : find (λ (q : Place). place_eq q p) (places table) ≡ Some p = find_place p (places table) (has_place-places table p is) in
    ap (λ (o : Option Page). option_map (λ (x : Page). x.content) o)
    (find-map (λ (x : Page). place_eq x.place p) (page f) (places table) ∙ ap (λ (o : Option Place). option_map (page f) o) found)

-- past the table there is nothing
pub content_past : (table : RamTable) (f : Place → List ℕ) (p : Place) → (IsPlace table p → ⊥) → content (image_of table f) p ≡ None
unfolding content pages_of
content_past table f p past =
    let no : has_place (places table) p ≡ false =
    elim (cases_Bool (has_place (places table) p)) [ inl t ↦ absurd (past (place_from_has table p t)) | inr f ↦ f ] in
    ap (λ (o : Option Page). option_map (λ (x : Page). x.content) o)
    (find-map (λ (x : Page). place_eq x.place p) (page f) (places table) ∙ ap (λ (o : Option Place). option_map (page f) o) (find_no_place p (places table) no))

-- a page of the image that a function gives has the content that the function gives
pub content_at-image_of : (table : RamTable) (f : Place → List ℕ) (p : Place) → IsPlace table p → content_at (image_of table f) p ≡ f p
content_at-image_of table f p is = ap (λ (o : Option (List ℕ)). unwrap_or o []) (content-image_of table f p is)

-- two functions that agree at each place make one memory
pub image_agree : (table : RamTable) (f g : Place → List ℕ) → ((p : Place) → IsPlace table p → f p ≡ g p) → image_of table f ≡ image_of table g
unfolding pages_of
image_agree table f g same =
    ap (λ (l : List Page). record { table = table; pages = l })
    (map_agree (page f) (page g) (places table)
    (All-weaker (IsPlace table) (λ p. page f p ≡ page g p)
    (λ p is. ap (λ (c : List ℕ). record { place = p; content = c }) (same p is)) (places table) (all_places table)))

-- one place is written
pub with_page-image_of : (table : RamTable) (f g : Place → List ℕ) (p : Place) (x : List ℕ) → x ≡ g p
    → ((q : Place) → IsPlace table q → q ≢ p → f q ≡ g q) → with_page (image_of table f) p x ≡ image_of table g
with_page-image_of table f g p x here others =
    image_agree table (λ q. cond (place_eq q p) x (content_at (image_of table f) q)) g (λ q is. elim (cases_Bool (place_eq q p)) [
      | inl t ↦ cond-true (place_eq q p) x (content_at (image_of table f) q) t ∙ here ∙ ap g (sym (place_eq-true q p t))
      | inr n ↦ cond-false (place_eq q p) x (content_at (image_of table f) q) n ∙ content_at-image_of table f q is
          ∙ others q is (λ e. let t : place_eq q p ≡ true = place_eq-from q p e in absurd cc)
    ])

-- what such a function makes is a memory
pub image_from : (table : RamTable) (f : Place → List ℕ) → ((p : Place) → IsPlace table p → length (f p) ≡ table.page_size) → IsImage (image_of table f)
unfolding pages_of
image_from table f sizes = record {
  has_places = map-map (λ (x : Page). x.place) (page f) (places table) ∙ map-id (places table);
  has_sizes = All-map (λ x. length x.content ≡ table.page_size) (page f) (places table)
      (All-weaker (IsPlace table) (λ p. length (f p) ≡ table.page_size) sizes (places table) (all_places table));
}

-- ---- each memory is made so, of its own contents

look : List Page → Place → List ℕ
look xs p = unwrap_or (option_map (λ x. x.content) (find (λ x. place_eq x.place p) xs)) []

looked_up : (xs : List Page) → InOrder place_lt (map (λ (x : Page). x.place) xs) → map (λ (x : Page). page (look xs) x.place) xs ≡ xs
unfolding look
looked_up [] h = refl
looked_up (x ∷ xs) h =
    let t : place_eq x.place x.place ≡ true = place_eq-from x.place x.place refl in
    let here : page (look (x ∷ xs)) x.place ≡ x = rw t refl in
    let rest : map (λ (y : Page). page (look (x ∷ xs)) y.place) xs ≡ map (λ (y : Page). page (look xs) y.place) xs =
    map_agree (λ (y : Page). page (look (x ∷ xs)) y.place) (λ (y : Page). page (look xs) y.place) xs
    (λ k d lt.
    let before = h.0 k x.place (omega (arith, length-map xs (λ (y : Page). y.place))) in
    let n : place_eq x.place (get_or xs k d).place ≡ false =
    place_lt-ne x.place (get_or xs k d).place (rw (get_or-map (λ (y : Page). y.place) xs k d x.place lt) at before) in
    rw n refl) in
    ap (λ (y : Page). y ∷ map (λ (z : Page). page (look (x ∷ xs)) z.place) xs) here ∙ ap (λ (l : List Page). x ∷ l) (rest ∙ looked_up xs h.1)

-- an image is the one that its contents make of its table
pub image_is : (m : Image) → IsImage m → m ≡ image_of m.table (content_at m)
unfolding content pages_of look
image_is m is =
    let order : InOrder place_lt (map (λ (x : Page). x.place) m.pages) = rw is.has_places (places_order m.table) in
    ap (λ (l : List Page). record { table = m.table; pages = l })
    (sym (looked_up m.pages order) ∙ sym (map-map (page (look m.pages)) (λ (x : Page). x.place) m.pages)
    ∙ ap (λ (ps : List Place). map (page (look m.pages)) ps) is.has_places)

look_size : (size : ℕ) (xs : List Page) (p : Place) → All (λ x. length x.content ≡ size) xs
    → has_place (map (λ (x : Page). x.place) xs) p ≡ true → length (look xs p) ≡ size
unfolding look
look_size size [] p sizes h = absurd cc
look_size size (x ∷ xs) p sizes h =
    elim (cases_Bool (place_eq x.place p)) [
      | inl t ↦ rw t (All-head (λ (y : Page). length y.content ≡ size) x xs sizes)
      | inr n ↦ rw n (look_size size xs p (All-tail (λ (y : Page). length y.content ≡ size) x xs sizes)
          (elim (or_cases (place_eq x.place p) (has_place (map (λ (y : Page). y.place) xs) p) h) [ inl t ↦ absurd cc | inr t ↦ t ]))
    ]

-- what a memory holds at a place of its table has the page size
pub content_size : (m : Image) (p : Place) → IsImage m → IsPlace m.table p → length (content_at m p) ≡ m.table.page_size
unfolding content look
content_size m p is at = look_size m.table.page_size m.pages p is.has_sizes
    (ap (λ (ps : List Place). has_place ps p) is.has_places ∙ has_place-places m.table p at)

-- what a memory holds, and that it holds nothing past its table
pub content_some : (m : Image) (p : Place) → IsImage m → IsPlace m.table p → content m p ≡ Some (content_at m p)
content_some m p is at = ap (λ (i : Image). content i p) (image_is m is) ∙ content-image_of m.table (content_at m) p at

-- a place outside of the table has no content
pub content_none : (m : Image) (p : Place) → IsImage m → (IsPlace m.table p → ⊥) → content m p ≡ None
content_none m p is past = ap (λ (i : Image). content i p) (image_is m is) ∙ content_past m.table (content_at m) p past

-- what is answered for a place that a table was found to lack, or to have
pub answer_none : (m : Image) (table : RamTable) (p : Place) (has : Bool) → IsImage m → table ≡ m.table
    → (IsPlace table p → has ≡ true) → has ≡ false → None ≡ content m p
answer_none m table p has is same there lacks = sym (content_none m p is (λ at. let found : has ≡ true = there (rw same at) in absurd cc))

-- the content of a page of the table is answered, and has the page's size
pub answer_some : (m : Image) (table : RamTable) (p : Place) (bytes : List ℕ) → IsImage m → table ≡ m.table → IsPlace table p → bytes ≡ content_at m p
    → (Some bytes ≡ content m p) × (length bytes ≡ m.table.page_size)
answer_some m table p bytes is same at e =
    let here : IsPlace m.table p = rw same at at in
    (ap (λ (l : List ℕ). Some l) e ∙ sym (content_some m p is here), ap (λ (l : List ℕ). length l) e ∙ content_size m p is here)
