-- If no place differs, two memories are one.
use Rattle.std.proofs.Common.{◌≡◌, sym, ap, ◌∙◌, inl, inr, None, true, false}
use Rattle.std.specs.Prelude.{not, find, bytes_eq}
use Rattle.std.proofs.lemmas.Slice.Eq.{bytes_eq-Decides}
use Rattle.std.proofs.lemmas.Bool.{cases_Bool}
use Rattle.mig_mem.specs.declared.place.Place.{Place}
use Rattle.mig_mem.specs.RamTable.{RamTable}
use Rattle.mig_mem.specs.Place.{places}
use Rattle.mig_mem.specs.Image.{Image, IsImage, content_at, image_of, differs}
use Rattle.mig_mem.proofs.Images.{image_agree, image_is}
use Rattle.mig_mem.proofs.TablePlaces.{has_place-places}
use Rattle.mig_mem.proofs.Walks.{All-has}
use Rattle.mig_answer.proofs.Statuses.{find_none}

same_content : (a b : Image) (p : Place) → differs a b p ≡ false → content_at a p ≡ content_at b p
same_content a b p e = elim (cases_Bool (bytes_eq (content_at a p) (content_at b p))) [
  | inl t ↦ (bytes_eq-Decides (content_at a p) (content_at b p)).0 t
  | inr f ↦ let other : differs a b p ≡ true = ap not f in absurd cc
]

-- two memories of one table that differ at none of its places are equal
pub same_from_none : (a b : Image) → IsImage a → IsImage b → a.table ≡ b.table → find (differs a b) (places a.table) ≡ None → a ≡ b
same_from_none a b is_a is_b same none =
    let all = find_none (differs a b) (places a.table) none in
    image_is a is_a
    ∙ (image_agree a.table (content_at a) (content_at b)
    (λ p at. same_content a b p (All-has (λ q. differs a b q ≡ false) p (places a.table) all (has_place-places a.table p at)))
    ∙ (ap (λ (t : RamTable). image_of t (content_at b)) same ∙ sym (image_is b is_b)))
