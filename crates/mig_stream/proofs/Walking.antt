-- A walk over the dirty places that writes a page at each.
use Rattle.std.proofs.Common.{◌≡◌, ◌+◌, ◌<◌, ◌≤◌, ℕ, Bool, List, [], ◌∷◌, ◌++◌, length, take, Option, Some, None, sym, ap, subst, ◌∙◌, arith}
use Rattle.std.specs.Prelude.{not, IsSome}
use Rattle.std.specs.List.{find}
use Rattle.std.proofs.lemmas.List.{length-take, length_push}
use Rattle.mig_mem.specs.declared.place.Place.{Place}
use Rattle.mig_mem.specs.Place.{place_at, place_lt, IsPlace}
use Rattle.mig_mem.specs.PlaceSet.{PlaceSet, IsPlaceSet}
use Rattle.mig_mem.specs.Image.{Page, Image, content_at, pages_of}
use Rattle.mig_mem.specs.Round.{round_of}
use Rattle.mig_mem.proofs.Walks.{HasListed, listed_none, listed_more, listed_all, found_place, All-has}
use Rattle.mig_stream.specs.Writer.{Writer, with_pages, KeepsFront}
use Rattle.mig_stream.proofs.Writing.{with_no_pages, with_pages-push, round_of-push, KeepsFront-pages}

-- the pages at the first i dirty places are written, and the walk goes on at a place after them
pub record HasWalked (dirty : PlaceSet) (image : Image) (old now : Writer) (from : Place) (i : ℕ) : Type 0 where
  pub few : i ≤ length dirty.marked
  pub listed : HasListed dirty from (take i dirty.marked)
  pub wrote : now ≡ with_pages old (round_of image (take i dirty.marked))

-- before the first step no page was written
pub walked_none : (dirty : PlaceSet) (image : Image) (w : Writer) → HasWalked dirty image w w (place_at 0 0) 0
unfolding pages_of
walked_none dirty image w = record { few = omega arith; listed = listed_none dirty; wrote = with_no_pages w }

-- if no dirty page is left, all of them were written
pub walked_all : (dirty : PlaceSet) (image : Image) (old now : Writer) (from : Place) (i : ℕ) → HasWalked dirty image old now from i
    → find (λ q. not (place_lt q from)) dirty.marked ≡ None → now ≡ with_pages old (round_of image dirty.marked)
walked_all dirty image old now from i h none =
    h.wrote ∙ ap (λ (ps : List Place). with_pages old (round_of image ps)) (listed_all dirty from (take i dirty.marked) h.listed none)

-- what is none isn't there
pub no_place_missing : {X : Type 0} (o : Option X) (P : Type 0) → o ≡ None → (P → IsSome o) → P → ⊥
no_place_missing None P is there here = absurd (let wrong = there here in cc)
no_place_missing (Some x) P is there here = absurd cc

-- what is found is a place of the table
pub found_in_table : (dirty : PlaceSet) (f : Place → Bool) (p : Place) → IsPlaceSet dirty → find f dirty.marked ≡ Some p → IsPlace dirty.table p
found_in_table dirty f p is h = All-has (IsPlace dirty.table) p dirty.marked is.is_within (found_place f p dirty.marked h)

-- the next dirty page is written after those before it
pub walked_more : (dirty : PlaceSet) (image : Image) (old mid now : Writer) (from p : Place) (i : ℕ) → IsPlaceSet dirty → HasWalked dirty image old mid from i
    → find (λ q. not (place_lt q from)) dirty.marked ≡ Some p → now ≡ with_pages mid (record { place = p; content = content_at image p } ∷ [])
    → HasWalked dirty image old now (place_at p.block (p.page + 1)) (i + 1)
walked_more dirty image old mid now from p i is h some step =
    let front : List Place = take i dirty.marked in
    let more = listed_more dirty from p front is h.listed some in
    let long : length front ≡ i = omega (arith, length-take i dirty.marked, h.few) in
    let lt : i < length dirty.marked = omega (arith, more.1) in
    let longer : length (front ++ p ∷ []) ≡ i + 1 = omega (arith, length_push front p) in
    let next : front ++ p ∷ [] ≡ take (i + 1) dirty.marked = more.0.front ∙ ap (λ (n : ℕ). take n dirty.marked) longer in
    let x : Page = record { place = p; content = content_at image p } in
    record {
      few = omega arith;
      listed = subst (λ (ps : List Place). HasListed dirty (place_at p.block (p.page + 1)) ps) next more.0;
      wrote = step ∙ ap (λ (w : Writer). with_pages w (x ∷ [])) h.wrote ∙ with_pages-push old (round_of image front) x
          ∙ ap (λ (pages : List Page). with_pages old pages) (sym (round_of-push image front p))
          ∙ ap (λ (ps : List Place). with_pages old (round_of image ps)) next;
    }

-- a walk keeps the front of the stream
pub walked_front : (dirty : PlaceSet) (image : Image) (old mid now : Writer) (from : Place) (i : ℕ) → HasWalked dirty image old mid from i
    → KeepsFront mid now → KeepsFront old now
walked_front dirty image old mid now from i h keeps = KeepsFront-pages old mid now (round_of image (take i dirty.marked)) h.wrote keeps
