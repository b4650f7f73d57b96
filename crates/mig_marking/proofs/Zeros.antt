-- A memory that was zeros, before and after a page is written.
use Rattle.std.proofs.Common.{◌≡◌, ◌||◌, ◌&&◌, not, Bool, true, false, cond, List, [], ℕ, refl, sym, ap, subst, ◌∙◌, inl, inr}
use Rattle.std.proofs.lemmas.Bool.{cases_Bool, or_parts, cond-true, cond-false}
use Rattle.mig_mem.specs.declared.place.Place.{Place}
use Rattle.mig_mem.specs.RamTable.{RamTable}
use Rattle.mig_mem.specs.Place.{place_eq, has_place, IsPlace}
use Rattle.mig_mem.specs.PlaceSet.{PlaceSet, places_where, with_place, without_place}
use Rattle.mig_mem.specs.Image.{Image, IsImage, content_at, with_page, zero_page, zero_image}
use Rattle.mig_mem.proofs.Images.{image_agree, image_is, content_at-image_of}
use Rattle.mig_mem.proofs.PlaceOrder.{place_eq-true}
use Rattle.mig_mem.proofs.Sets.{has_place-where}
use Rattle.mig_marking.specs.Fresh.{AreZeros}

content_put : (m : Image) (p q : Place) (bytes : List ℕ) → IsPlace m.table q → content_at (with_page m p bytes) q ≡ cond (place_eq q p) bytes (content_at m q)
content_put m p q bytes is = content_at-image_of m.table (λ r. cond (place_eq r p) bytes (content_at m r)) q is

-- whether a place is in a changed set
has_changed : (m : Image) (w : PlaceSet) (f : Place → Bool) (q : Place) → w.table ≡ m.table → IsPlace m.table q → has_place (places_where w.table f) q ≡ f q
has_changed m w f q same is = has_place-where w.table f q (subst (λ (t : RamTable). IsPlace t q) (sym same) is)

-- in a memory of zeros, with nothing marked as written, each unmarked page is zeros
pub zeros_at_first : (m : Image) (w : PlaceSet) → m ≡ zero_image m.table → w ≡ record { table = m.table; marked = [] } → AreZeros m w
zeros_at_first m w zeros none = record {
  same_table = ap (λ (s : PlaceSet). s.table) none;
  are_zeros = λ p is _. ap (λ (x : Image). content_at x p) zeros ∙ content_at-image_of m.table (λ _. zero_page m.table.page_size) p is;
}

-- a content was written, and its page marked
pub zeros_elsewhere : (m : Image) (w : PlaceSet) (p : Place) (bytes : List ℕ) → AreZeros m w → AreZeros (with_page m p bytes) (with_place w p)
zeros_elsewhere m w p bytes are = record {
  same_table = are.same_table;
  are_zeros = λ q is none.
      let parts = or_parts (place_eq q p) (has_place w.marked q)
      (sym (has_changed m w (λ r. place_eq r p || has_place w.marked r) q are.same_table is) ∙ none) in
      content_put m p q bytes is ∙ cond-false (place_eq q p) bytes (content_at m q) parts.0 ∙ are.are_zeros q is parts.1;
}

-- a page was cleared, and its mark taken away
pub zeros_again : (m : Image) (w : PlaceSet) (p : Place) → AreZeros m w → AreZeros (with_page m p (zero_page m.table.page_size)) (without_place w p)
zeros_again m w p are = record {
  same_table = are.same_table;
  are_zeros = λ q is none.
      let changed : (has_place w.marked q && not (place_eq q p)) ≡ false =
      sym (has_changed m w (λ r. has_place w.marked r && not (place_eq r p)) q are.same_table is) ∙ none in
      let content = content_put m p q (zero_page m.table.page_size) is in
      elim (cases_Bool (place_eq q p)) [
        | inl t ↦ content ∙ cond-true (place_eq q p) (zero_page m.table.page_size) (content_at m q) t
        | inr n ↦
            let unmarked : has_place w.marked q ≡ false = and_true (has_place w.marked q) (rw n at changed) in
            content ∙ cond-false (place_eq q p) (zero_page m.table.page_size) (content_at m q) n ∙ are.are_zeros q is unmarked
      ];
}
  where
    and_true : (b : Bool) → (b && true) ≡ false → b ≡ false
    and_true true e = e
    and_true false e = refl

-- a page that isn't marked is zeros already
pub zeros_already : (m : Image) (w : PlaceSet) (p : Place) → AreZeros m w → IsImage m → IsPlace m.table p
    → has_place w.marked p ≡ false → m ≡ with_page m p (zero_page m.table.page_size)
zeros_already m w p are is_image is none =
    image_is m is_image
    ∙ image_agree m.table (content_at m) (λ q. cond (place_eq q p) (zero_page m.table.page_size) (content_at m q)) (λ q here. elim (cases_Bool (place_eq q p)) [
      | inl t ↦ ap (content_at m) (place_eq-true q p t) ∙ are.are_zeros p is none
          ∙ sym (cond-true (place_eq q p) (zero_page m.table.page_size) (content_at m q) t)
      | inr n ↦ sym (cond-false (place_eq q p) (zero_page m.table.page_size) (content_at m q) n)
    ])
