-- Pages that were written change no place but their own.
use Rattle.std.proofs.Common.{◌≡◌, ◌||◌, Bool, true, false, List, [], ◌∷◌, Option, refl, ap, ◌∙◌, inl, inr}
use Rattle.std.specs.List.{All}
use Rattle.std.specs.Option.{option_map_or}
use Rattle.std.proofs.lemmas.Bool.{cases_Bool}
use Rattle.std.proofs.lemmas.List.Elements.{All-head, All-tail}
use Rattle.mig_mem.specs.declared.place.Place.{Place}
use Rattle.mig_mem.specs.Place.{has_place, place_eq}
use Rattle.mig_mem.specs.Image.{Page, Image, content_at}
use Rattle.mig_mem.specs.Round.{with_round, last_at}
use Rattle.mig_mem.proofs.Images.{content_at-image_of}
use Rattle.mig_mem.proofs.PlaceOrder.{place_eq-true}
use Rattle.mig_assemble.specs.Judging.{places_of}
use Rattle.mig_assemble.proofs.Arriving.{last_none}
use Rattle.mig_in_place.specs.Answer.{HoldsElsewhere}

none_there : (test : Place → Bool) (pages : List Page) (p : Place) → All (λ page. test page.place ≡ true) pages → test p ≡ false
    → has_place (places_of pages) p ≡ false
none_there test [] p all not_p = refl
none_there test (x ∷ pages) p all not_p = elim (cases_Bool (place_eq x.place p)) [
  | inl same ↦
      let here : test x.place ≡ true = All-head (λ (page : Page). test page.place ≡ true) x pages all in
      let there : test x.place ≡ test p = ap test (place_eq-true x.place p same) in absurd cc
  | inr other ↦ ap (λ (b : Bool). b || has_place (places_of pages) p) other
      ∙ none_there test pages p (All-tail (λ (page : Page). test page.place ≡ true) x pages all) not_p
]

-- a memory that some pages were written into, each of a place that may be written
pub stays_elsewhere : (test : Place → Bool) (IsOpen : Place → Type 0) (kept memory : Image) (written : List Page)
    → memory ≡ with_round kept written → ((p : Place) → test p ≡ true → IsOpen p)
    → All (λ page. test page.place ≡ true) written → HoldsElsewhere kept IsOpen memory
stays_elsewhere test IsOpen kept memory written is open_ all = record {
  same_table = ap (λ (m : Image). m.table) is;
  elsewhere = λ p is_place unnamed.
      let not_p : test p ≡ false = (elim (cases_Bool (test p)) [
        | inl t ↦ absurd (unnamed (open_ p t))
        | inr f ↦ f
      ]) in
      ap (λ (m : Image). content_at m p) is
      ∙ content_at-image_of kept.table (λ (q : Place). option_map_or (λ (x : Page). x.content) (last_at q written) (content_at kept q)) p is_place
      ∙ ap (λ (o : Option Page). option_map_or (λ (x : Page). x.content) o (content_at kept p)) (last_none p written (none_there test written p all not_p));
}
