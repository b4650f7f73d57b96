-- What a memory that marks its pages stands for, before and after a page is written.
use Rattle.std.proofs.Common.{ℕ, zero, suc, ◌≡◌, ◌+◌, ◌<◌, ◌^◌, ◌||◌, Bool, true, false, cond, List, length, replicate, refl, sym, ap, subst, ◌∙◌, inl, inr}
use Rattle.std.proofs.Common.{arith}
use Rattle.std.specs.List.{All}
use Rattle.std.proofs.lemmas.Bool.{cases_Bool, cond-true, cond-false}
use Rattle.std.proofs.lemmas.List.{length-map}
use Rattle.std.proofs.lemmas.List.Elements.{All-nil, All-cons}
use Rattle.mig_mem.specs.declared.place.Place.{Place}
use Rattle.mig_mem.specs.RamTable.{RamTable}
use Rattle.mig_mem.specs.Place.{place_eq, has_place, IsPlace, places}
use Rattle.mig_mem.specs.PlaceSet.{places_where, with_place}
use Rattle.mig_mem.specs.Image.{IsImage, content_at, with_page}
use Rattle.mig_mem.proofs.Images.{image_from, image_agree, content_size, content_at-image_of}
use Rattle.mig_mem.proofs.Sets.{has_place-where, has_place-where_past}
use Rattle.mig_mem.proofs.TablePlaces.{has_place-places, place_from_has}
use Rattle.mig_marking.specs.Marking.{Marked, IsMarked, unwritten, seen}

-- a place of a set of a table's places is the table's
pub place_where : (table : RamTable) (f : Place → Bool) (p : Place) → has_place (places_where table f) p ≡ true → IsPlace table p
place_where table f p has = elim (cases_Bool (has_place (places table) p)) [
  | inl t ↦ place_from_has table p t
  | inr n ↦ absurd (
      let none : has_place (places_where table f) p ≡ false =
      has_place-where_past table f p (λ is. absurd (let clash : true ≡ false = sym (has_place-places table p is) ∙ n in cc)) in
      let clash : true ≡ false = sym has ∙ none in cc)
]

-- what is seen of a place
abbrev pub seen_at : Marked → Place → List ℕ
seen_at m p = cond (has_place m.written.marked p) (content_at m.memory p) (unwritten (content_at m.memory p))

cond_length : (b : Bool) (content : List ℕ) → length (cond b content (unwritten content)) ≡ length content
cond_length true content = refl
cond_length false content = length-map content (λ byte. byte + 2 ^ 8)

-- what is seen of a memory has a page's size at each place, if the memory has
pub seen_image : (m : Marked) → IsImage m.memory → IsImage (seen m)
seen_image m is = image_from m.memory.table (seen_at m)
    (λ p here. cond_length (has_place m.written.marked p) (content_at m.memory p) ∙ content_size m.memory p is here)

-- ---- a page more

abbrev pub put : Marked → Place → List ℕ → Marked
put m p bytes = record { memory = with_page m.memory p bytes; written = with_place m.written p }

content_put : (m : Marked) (p q : Place) (bytes : List ℕ) → IsPlace m.memory.table q
    → content_at (with_page m.memory p bytes) q ≡ cond (place_eq q p) bytes (content_at m.memory q)
content_put m p q bytes is = content_at-image_of m.memory.table (λ r. cond (place_eq r p) bytes (content_at m.memory r)) q is

has_put : (m : Marked) (p q : Place) → m.written.table ≡ m.memory.table → IsPlace m.memory.table q
    → has_place (with_place m.written p).marked q ≡ (place_eq q p || has_place m.written.marked q)
has_put m p q same is = has_place-where m.written.table (λ r. place_eq r p || has_place m.written.marked r) q
    (subst (λ (t : RamTable). IsPlace t q) (sym same) is)

-- a marked memory is one still after bytes are written at a place, which is then marked
pub marked_put : (m : Marked) (p : Place) (bytes : List ℕ) → IsMarked m → All (λ (byte : ℕ). byte < 2 ^ 8) bytes → IsMarked (put m p bytes)
marked_put m p bytes is are = record {
  same_table = is.same_table;
  has_bytes = λ q has.
      let here : IsPlace m.memory.table q = subst (λ (t : RamTable). IsPlace t q) is.same_table
      (place_where m.written.table (λ r. place_eq r p || has_place m.written.marked r) q has) in
      let marks : (place_eq q p || has_place m.written.marked q) ≡ true = sym (has_put m p q is.same_table here) ∙ has in
      subst (All (λ (byte : ℕ). byte < 2 ^ 8)) (sym (content_put m p q bytes here)) (elim (cases_Bool (place_eq q p)) [
        | inl t ↦ rw t are
        | inr n ↦ rw n (is.has_bytes q (let there : (false || has_place m.written.marked q) ≡ true = rw n at marks in there))
      ]);
}

-- writing a page and marking it changes what is seen just as it changes the memory
pub seen_put : (m : Marked) (p : Place) (bytes : List ℕ) → IsMarked m → seen (put m p bytes) ≡ with_page (seen m) p bytes
seen_put m p bytes is = image_agree m.memory.table (seen_at (put m p bytes)) (λ q. cond (place_eq q p) bytes (content_at (seen m) q)) (λ q here.
    let before : content_at (seen m) q ≡ seen_at m q = content_at-image_of m.memory.table (seen_at m) q here in
    let content = content_put m p q bytes here in
    let has = has_put m p q is.same_table here in
    elim (cases_Bool (place_eq q p)) [
      | inl t ↦
          let mine : content_at (with_page m.memory p bytes) q ≡ bytes = content ∙ cond-true (place_eq q p) bytes (content_at m.memory q) t in
          let marks : has_place (with_place m.written p).marked q ≡ true = has ∙ (rw t refl) in
          cond-true (has_place (with_place m.written p).marked q) (content_at (with_page m.memory p bytes) q)
          (unwritten (content_at (with_page m.memory p bytes) q)) marks
          ∙ mine ∙ sym (cond-true (place_eq q p) bytes (content_at (seen m) q) t)
      | inr n ↦
          let mine : content_at (with_page m.memory p bytes) q ≡ content_at m.memory q = content ∙ cond-false (place_eq q p) bytes (content_at m.memory q) n in
          let marks : has_place (with_place m.written p).marked q ≡ has_place m.written.marked q = has ∙ (rw n refl) in
          ap (λ (b : Bool). cond b (content_at (with_page m.memory p bytes) q) (unwritten (content_at (with_page m.memory p bytes) q))) marks
          ∙ ap (λ (x : List ℕ). cond (has_place m.written.marked q) x (unwritten x)) mine
          ∙ sym before ∙ sym (cond-false (place_eq q p) bytes (content_at (seen m) q) n)
    ])

-- zeros are bytes
pub zeros_are_bytes : (n : ℕ) → All (λ (byte : ℕ). byte < 2 ^ 8) (replicate n 0)
zeros_are_bytes zero = All-nil (λ (byte : ℕ). byte < 2 ^ 8)
zeros_are_bytes (suc n) = All-cons (λ (byte : ℕ). byte < 2 ^ 8) 0 (replicate n 0) (omega arith) (zeros_are_bytes n)
