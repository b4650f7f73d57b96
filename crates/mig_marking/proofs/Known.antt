-- What is seen of a marked memory says which pages were written, and what they hold.
use Rattle.std.proofs.Common.{ℕ, ◌≡◌, ◌+◌, ◌<◌, ◌^◌, ◌||◌, Bool, true, false, cond, List, [], ◌∷◌, length, map, Option, Some, None, refl, sym, ap, subst, ◌∙◌}
use Rattle.std.proofs.Common.{inl, inr, arith}
use Rattle.std.specs.List.{All}
use Rattle.std.specs.Option.{option_map_or, option_or}
use Rattle.std.proofs.lemmas.Bool.{cases_Bool, or_left, or_right, cond-true, cond-false}
use Rattle.std.proofs.lemmas.List.Elements.{All-head, All-tail}
use Rattle.mig_mem.specs.declared.place.Place.{Place}
use Rattle.mig_mem.specs.RamTable.{RamTable}
use Rattle.mig_mem.specs.Place.{place_eq, has_place, IsPlace}
use Rattle.mig_mem.specs.PlaceSet.{PlaceSet, places_where}
use Rattle.mig_mem.specs.Image.{Image, Page, IsImage, content_at, image_of}
use Rattle.mig_mem.specs.Round.{last_at, with_round}
use Rattle.mig_mem.proofs.Images.{image_agree, image_is, content_size, content_at-image_of}
use Rattle.mig_mem.proofs.PageSizes.{page_size_some}
use Rattle.mig_mem.proofs.Rounds.{last_at-cons, last_at-nil}
use Rattle.mig_marking.specs.Marking.{Marked, IsMarked, IsPageOfBytes, unwritten, seen, WrittenIsSeen}
use Rattle.mig_marking.proofs.Ascending.{set_is}
use Rattle.mig_marking.proofs.Marks.{seen_at}

-- ---- what stands for an unwritten page

-- numbers that are no bytes are no page of bytes
clash : (a b : List ℕ) → a ≡ unwritten b → All (λ (byte : ℕ). byte < 2 ^ 8) a → 0 < length a → true ≡ false
clash [] b e all some = absurd (omega arith)
clash (x ∷ xs) [] e all some = absurd cc
clash (x ∷ xs) (y ∷ ys) e all some =
    let low : x < 2 ^ 8 = All-head (λ (byte : ℕ). byte < 2 ^ 8) x xs all in
    let high : x ≡ y + 2 ^ 8 = cc in
    absurd (omega arith)

same_unwritten : (a b : List ℕ) → unwritten a ≡ unwritten b → a ≡ b
same_unwritten [] [] e = refl
same_unwritten [] (y ∷ ys) e = absurd cc
same_unwritten (x ∷ xs) [] e = absurd cc
same_unwritten (x ∷ xs) (y ∷ ys) e =
    let heads : x + 2 ^ 8 ≡ y + 2 ^ 8 = cc in
    let same : x ≡ y = omega arith in
    let tails : unwritten xs ≡ unwritten ys = cc in
    ap (λ (n : ℕ). n ∷ xs) same ∙ ap (λ (l : List ℕ). y ∷ l) (same_unwritten xs ys tails)

-- ---- the last page at a place

abbrev pub places_of : List Page → List Place
places_of pages = map (λ x. x.place) pages

last_cons : (P : Page → Type 0) (p : Place) (y : Page) (ys : List Page) (x : Page) (o : Option Page) → last_at p ys ≡ o → All P (y ∷ ys)
    → option_or (last_at p ys) (cond (place_eq y.place p) (Some y) None) ≡ Some x
    → ((z : Page) → All P ys → last_at p ys ≡ Some z → P z × (has_place (places_of ys) p ≡ true))
    → P x × (has_place (places_of (y ∷ ys)) p ≡ true)
last_cons P p y ys x (Some z) is all e rest =
    let found : P z × (has_place (places_of ys) p ≡ true) = rest z (All-tail P y ys all) is in
    let same : z ≡ x = (let h : option_or (Some z) (cond (place_eq y.place p) (Some y) None) ≡ Some x =
    ap (λ (o : Option Page). option_or o (cond (place_eq y.place p) (Some y) None)) (sym is) ∙ e in cc) in
    (subst P same found.0, or_right (place_eq y.place p) (has_place (places_of ys) p) found.1)
last_cons P p y ys x None is all e rest =
    let h : cond (place_eq y.place p) (Some y) None ≡ Some x = ap (λ (o : Option Page). option_or o (cond (place_eq y.place p) (Some y) None)) (sym is) ∙ e in
    elim (cases_Bool (place_eq y.place p)) [
      | inl t ↦ let same : y ≡ x = (let k : Some y ≡ Some x = sym (cond-true (place_eq y.place p) (Some y) None t) ∙ h in cc) in
          (subst P same (All-head P y ys all), or_left (place_eq y.place p) (has_place (places_of ys) p) t)
      | inr n ↦ absurd (let k : None ≡ Some x = sym (cond-false (place_eq y.place p) (Some y) None n) ∙ h in cc)
    ]

none_cons : (p : Place) (y : Page) (ys : List Page) (o : Option Page) → last_at p ys ≡ o
    → option_or (last_at p ys) (cond (place_eq y.place p) (Some y) None) ≡ None → (last_at p ys ≡ None → has_place (places_of ys) p ≡ false)
    → has_place (places_of (y ∷ ys)) p ≡ false
none_cons p y ys (Some z) is e rest = absurd
    (let h : option_or (Some z) (cond (place_eq y.place p) (Some y) None) ≡ None =
    ap (λ (o : Option Page). option_or o (cond (place_eq y.place p) (Some y) None)) (sym is) ∙ e in cc)
none_cons p y ys None is e rest =
    let h : cond (place_eq y.place p) (Some y) None ≡ None = ap (λ (o : Option Page). option_or o (cond (place_eq y.place p) (Some y) None)) (sym is) ∙ e in
    elim (cases_Bool (place_eq y.place p)) [
      | inl t ↦ absurd (let k : Some y ≡ None = sym (cond-true (place_eq y.place p) (Some y) None t) ∙ h in cc)
      | inr n ↦ rw n (rest is)
    ]

-- what the last page at a place is: one of the pages, or none
pub last_is : (P : Page → Type 0) (p : Place) (pages : List Page) (x : Page) → All P pages → last_at p pages ≡ Some x
    → P x × (has_place (places_of pages) p ≡ true)
last_is P p [] x all e = absurd (let none = sym (last_at-nil p) ∙ e in cc)
last_is P p (y ∷ ys) x all e = last_cons P p y ys x (last_at p ys) refl all (sym (last_at-cons p y ys) ∙ e) (last_is P p ys)

-- if no page at a place is the last, none of the pages is at that place
pub last_none : (p : Place) (pages : List Page) → last_at p pages ≡ None → has_place (places_of pages) p ≡ false
last_none p [] e = refl
last_none p (y ∷ ys) e = none_cons p y ys (last_at p ys) refl (sym (last_at-cons p y ys) ∙ e) (last_none p ys)

-- ---- one place

-- what became of a place: its content, and whether it is marked
pub record Became (before after : Marked) (pages : List Page) (p : Place) : Type 0 where
  pub has : has_place after.written.marked p ≡ (has_place before.written.marked p || has_place (places_of pages) p)
  pub content : content_at after.memory p ≡ option_map_or (λ x. x.content) (last_at p pages) (content_at before.memory p)

-- its last page says what it is
pub by_page : (before after : Marked) (pages : List Page) (p : Place) (x : Page) → has_place (places_of pages) p ≡ true → last_at p pages ≡ Some x
    → 0 < length x.content → All (λ (byte : ℕ). byte < 2 ^ 8) x.content → seen_at after p ≡ x.content → Became before after pages p
by_page before after pages p x has last some are is =
    elim (cases_Bool (has_place after.written.marked p)) [
      | inl t ↦ record {
        has = t ∙ sym (or_right (has_place before.written.marked p) (has_place (places_of pages) p) has);
        content = sym (cond-true (has_place after.written.marked p) (content_at after.memory p) (unwritten (content_at after.memory p)) t) ∙ is
            ∙ ap (λ (o : Option Page). option_map_or (λ (y : Page). y.content) o (content_at before.memory p)) (sym last);
      }
      | inr n ↦ absurd (let e : true ≡ false = clash x.content (content_at after.memory p)
          (sym is ∙ cond-false (has_place after.written.marked p) (content_at after.memory p) (unwritten (content_at after.memory p)) n) are some in cc)
    ]

-- with no page of it, it is what it was
pub by_none : (before after : Marked) (pages : List Page) (p : Place) → IsMarked before → IsMarked after
    → has_place (places_of pages) p ≡ false → last_at p pages ≡ None
    → 0 < length (content_at before.memory p) → 0 < length (content_at after.memory p) → seen_at after p ≡ seen_at before p → Became before after pages p
by_none before after pages p was is has last some_before some_after same =
    let a = content_at after.memory p in
    let b = content_at before.memory p in
    let ha = has_place after.written.marked p in
    let hb = has_place before.written.marked p in
    let kept : b ≡ option_map_or (λ (y : Page). y.content) (last_at p pages) b =
    ap (λ (o : Option Page). option_map_or (λ (y : Page). y.content) o b) (sym last) in
    elim (cases_Bool ha) [
      | inl t ↦ elim (cases_Bool hb) [
        | inl u ↦ record {
          has = t ∙ sym (or_left hb (has_place (places_of pages) p) u);
          content = sym (cond-true ha a (unwritten a) t) ∙ same ∙ cond-true hb b (unwritten b) u ∙ kept;
        }
        | inr v ↦ absurd (let e : true ≡ false =
            clash a b (sym (cond-true ha a (unwritten a) t) ∙ same ∙ cond-false hb b (unwritten b) v) (is.has_bytes p t) some_after in cc)
      ]
      | inr n ↦ elim (cases_Bool hb) [
        | inl u ↦ absurd (let e : true ≡ false =
            clash b a (sym (cond-true hb b (unwritten b) u) ∙ sym same ∙ cond-false ha a (unwritten a) n) (was.has_bytes p u) some_before in cc)
        | inr v ↦ record {
          has = n ∙ sym (rw (v, has) refl);
          content = same_unwritten a b (sym (cond-false ha a (unwritten a) n) ∙ same ∙ cond-false hb b (unwritten b) v) ∙ kept;
        }
      ]
    ]

-- ---- the whole memory

seen_table : (before after : Marked) (pages : List Page) → seen after ≡ with_round (seen before) pages → after.memory.table ≡ before.memory.table
seen_table before after pages e = ap (λ (i : Image). i.table) e

-- what is seen of a place after the pages
seen_after : (before after : Marked) (pages : List Page) (p : Place) → seen after ≡ with_round (seen before) pages → IsPlace before.memory.table p
    → seen_at after p ≡ option_map_or (λ x. x.content) (last_at p pages) (seen_at before p)
seen_after before after pages p e here =
    let there : IsPlace after.memory.table p = subst (λ (t : RamTable). IsPlace t p) (sym (seen_table before after pages e)) here in
    sym (content_at-image_of after.memory.table (seen_at after) p there)
    ∙ ap (λ (i : Image). content_at i p) e
    ∙ content_at-image_of before.memory.table (λ q. option_map_or (λ (x : Page). x.content) (last_at q pages) (content_at (seen before) q)) p here
    ∙ ap (λ (c : List ℕ). option_map_or (λ (x : Page). x.content) (last_at p pages) c) (content_at-image_of before.memory.table (seen_at before) p here)

became_by : (before after : Marked) (pages : List Page) → IsMarked before → IsMarked after → IsImage before.memory
    → IsImage after.memory → 0 < before.memory.table.page_size
    → All (IsPageOfBytes before.memory.table.page_size) pages → seen after ≡ with_round (seen before) pages
    → (p : Place) → IsPlace before.memory.table p → (o : Option Page) → last_at p pages ≡ o → Became before after pages p
became_by before after pages was is image_before image_after some are e p here (Some x) last =
    let it = last_is (IsPageOfBytes before.memory.table.page_size) p pages x are last in
    let size : length x.content ≡ before.memory.table.page_size = it.0.has_size in
    by_page before after pages p x it.1 last (omega arith) it.0.has_bytes
    (seen_after before after pages p e here ∙ ap (λ (o : Option Page). option_map_or (λ (y : Page). y.content) o (seen_at before p)) last)
became_by before after pages was is image_before image_after some are e p here None last =
    let there : IsPlace after.memory.table p = subst (λ (t : RamTable). IsPlace t p) (sym (seen_table before after pages e)) here in
    let size_before : length (content_at before.memory p) ≡ before.memory.table.page_size = content_size before.memory p image_before here in
    let size_after : length (content_at after.memory p) ≡ after.memory.table.page_size = content_size after.memory p image_after there in
    let sizes : after.memory.table.page_size ≡ before.memory.table.page_size = ap (λ (t : RamTable). t.page_size) (seen_table before after pages e) in
    by_none before after pages p was is (last_none p pages last) last (omega arith) (omega arith)
    (seen_after before after pages p e here ∙ ap (λ (o : Option Page). option_map_or (λ (y : Page). y.content) o (seen_at before p)) last)

-- if the seen memory changes by some pages, each place was written before or by a page of them,
-- and holds what its last page says, or what it held
pub became : (before after : Marked) (pages : List Page) → IsMarked before → IsMarked after → IsImage before.memory
    → IsImage after.memory → 0 < before.memory.table.page_size
    → All (IsPageOfBytes before.memory.table.page_size) pages → seen after ≡ with_round (seen before) pages
    → (p : Place) → IsPlace before.memory.table p → Became before after pages p
became before after pages was is image_before image_after some are e p here =
    became_by before after pages was is image_before image_after some are e p here (last_at p pages) refl

-- a marked memory is known by its memory and the places that it has
marked_is : (m : Marked) (memory : Image) (written : PlaceSet) → m.memory ≡ memory → m.written ≡ written → m ≡ record { memory = memory; written = written }
marked_is m memory written e f = ap (λ (i : Image). record { memory = i; written = m.written }) e
    ∙ ap (λ (s : PlaceSet). record { memory = memory; written = s }) f

set_of : (s : PlaceSet) (table : RamTable) (marked : List Place) → s.table ≡ table → s.marked ≡ marked → s ≡ record { table = table; marked = marked }
set_of s table marked e f = ap (λ (t : RamTable). record { table = t; marked = s.marked }) e ∙ ap (λ (l : List Place). record { table = table; marked = l }) f

-- if the seen memory changes by pages of bytes, the memory has these pages written,
-- and marks just them and what was marked before
pub written_is_seen : WrittenIsSeen
written_is_seen before after pages was is image_before image_after set are e =
    let same = seen_table before after pages e in
    let tables : after.written.table ≡ before.memory.table = is.same_table ∙ same in
    let some : 0 < before.memory.table.page_size =
    subst (λ (t : RamTable). 0 < t.page_size) tables (page_size_some after.written.table.page_size set.has_table.has_page_size) in
    let all = became before after pages was is image_before image_after some are e in
    let test : Place → Bool = λ p. has_place before.written.marked p || has_place (places_of pages) p in
    let memory : after.memory ≡ with_round before.memory pages =
    image_is after.memory image_after
    ∙ ap (λ (t : RamTable). image_of t (content_at after.memory)) same
    ∙ image_agree before.memory.table (content_at after.memory)
    (λ p. option_map_or (λ (x : Page). x.content) (last_at p pages) (content_at before.memory p)) (λ p here. (all p here).content) in
    let marked : after.written.marked ≡ places_where before.memory.table test =
    set_is after.written test set (λ p here. (all p (subst (λ (t : RamTable). IsPlace t p) tables here)).has)
    ∙ ap (λ (t : RamTable). places_where t test) tables in
    marked_is after (with_round before.memory pages) (record { table = before.memory.table; marked = places_where before.memory.table test }) memory
    (set_of after.written before.memory.table (places_where before.memory.table test) tables marked)
