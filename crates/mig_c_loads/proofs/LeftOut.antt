-- Pages of zeros are left out of what C sees, one after another.
use Rattle.std.proofs.Common.{ℕ, zero, suc, ◌≡◌, ◌+◌, ◌<◌, ◌≤◌, Bool, true, false, cond, List, [], ◌∷◌, ◌++◌, length, map, set, get_or, refl, sym, ap, ◌∙◌}
use Rattle.std.proofs.Common.{arith}
use Rattle.std.specs.List.{filter, range_with_len}
use Rattle.std.proofs.lemmas.List.{append-nil, get_or-set_same, get_or-set_other, length-set}
use Rattle.std.proofs.lemmas.List.FromFn.{map-range_with_len_more, filter_of_map_range_with_len_more}
use Rattle.mig_mem.specs.Place.{has_place, place_at}
use Rattle.mig_mem.specs.PlaceSet.{PlaceSet}
use Rattle.mig_c_loads.specs.declared.claimed_pages.ClaimedPages.{ClaimedPages}

-- some numbers of a list, from the nth on
abbrev pub numbers : List ℕ → ℕ → ℕ → List ℕ
numbers pages n count = map (λ k. get_or pages (n + k) 0) (range_with_len 0 count)

-- whether a page may hold something else than zeros
abbrev pub holds_more : PlaceSet → ℕ → ℕ → Bool
holds_more filled b page = has_place filled.marked (place_at b page)

same_map : (f g : ℕ → ℕ) (a n : ℕ) → ((i : ℕ) → i < a + n → f i ≡ g i) → map f (range_with_len a n) ≡ map g (range_with_len a n)
same_map f g a zero same = refl
same_map f g a (suc n) same =
    ap (λ (y : ℕ). y ∷ map f (range_with_len (a + 1) n)) (same a (omega arith))
    ∙ ap (λ (ys : List ℕ). g a ∷ ys) (same_map f g (a + 1) n (λ i below. same i (omega (arith, below))))

-- Of the first i pages of zeros those are left that may hold something else, and the rest stays.
pub record HasLeft (filled : PlaceSet) (b : ℕ) (first all now : ClaimedPages) (left i : ℕ) : Type 0 where
  pub same : all ≡ first
  pub few : left ≤ i
  pub same_length : length now.pages ≡ length all.pages
  pub same_block : now.block ≡ all.block
  pub same_normal : now.normal ≡ all.normal
  pub normals : (k : ℕ) → k < all.normal → get_or now.pages k 0 ≡ get_or all.pages k 0
  pub zeros : numbers now.pages all.normal left ≡ filter (holds_more filled b) (numbers all.pages all.normal i)

-- the next page of zeros holds something else
pub left_more : (filled : PlaceSet) (b : ℕ) (first all now : ClaimedPages) (left i page at : ℕ)
    → HasLeft filled b first all now left i → page ≡ get_or all.pages (all.normal + i) 0
    → at ≡ all.normal + left → at < length all.pages → holds_more filled b page ≡ true
    → HasLeft filled b first all (record now { pages = set now.pages at page }) (left + 1) (i + 1)
left_more filled b first all now left i page at h is at_is room holds =
    let few = h.few in
    let n : ℕ = all.normal in
    let pages : List ℕ = set now.pages at page in
    let before : numbers pages n left ≡ numbers now.pages n left =
    same_map (λ k. get_or pages (n + k) 0) (λ k. get_or now.pages (n + k) 0) 0 left (λ k below.
    get_or-set_other now.pages at (n + k) page 0 (λ e. absurd (omega (arith, below, at_is, e)))) in
    let here : get_or pages (n + left) 0 ≡ page = ap (λ (j : ℕ). get_or pages j 0) (sym at_is)
    ∙ get_or-set_same now.pages at page 0 (let e = h.same_length in omega (arith, room, e)) in
    let passes : holds_more filled b (get_or all.pages (n + i) 0) ≡ true = ap (λ (j : ℕ). holds_more filled b j) (sym is) ∙ holds in
    record {
      same = h.same;
      few = omega (arith, few);
      same_length = length-set now.pages at page ∙ h.same_length;
      same_block = h.same_block;
      same_normal = h.same_normal;
      normals = λ k below. get_or-set_other now.pages at k page 0 (λ e. absurd (omega (arith, below, at_is, e))) ∙ h.normals k below;
      zeros =
          map-range_with_len_more (λ k. get_or pages (n + k) 0) 0 left left (omega arith)
          ∙ ap (λ (l : List ℕ). l ++ get_or pages (n + left) 0 ∷ []) (before ∙ h.zeros)
          ∙ ap (λ (j : ℕ). filter (holds_more filled b) (numbers all.pages n i) ++ j ∷ []) (here ∙ is)
          ∙ ap (λ (x : Bool). filter (holds_more filled b) (numbers all.pages n i) ++ cond x (get_or all.pages (n + i) 0 ∷ []) []) (sym passes)
          ∙ sym (filter_of_map_range_with_len_more (holds_more filled b) (λ k. get_or all.pages (n + k) 0) 0 i i (omega arith));
    }

-- it doesn't
pub left_as_it_is : (filled : PlaceSet) (b : ℕ) (first all now : ClaimedPages) (left i page : ℕ)
    → HasLeft filled b first all now left i → page ≡ get_or all.pages (all.normal + i) 0
    → holds_more filled b page ≡ false → HasLeft filled b first all now left (i + 1)
left_as_it_is filled b first all now left i page h is none =
    let few = h.few in
    let n : ℕ = all.normal in
    let fails : holds_more filled b (get_or all.pages (n + i) 0) ≡ false = ap (λ (j : ℕ). holds_more filled b j) (sym is) ∙ none in
    record {
      same = h.same;
      few = omega (arith, few);
      same_length = h.same_length;
      same_block = h.same_block;
      same_normal = h.same_normal;
      normals = h.normals;
      zeros =
          h.zeros ∙ sym (append-nil (filter (holds_more filled b) (numbers all.pages n i)))
          ∙ ap (λ (x : Bool). filter (holds_more filled b) (numbers all.pages n i) ++ cond x (get_or all.pages (n + i) 0 ∷ []) []) (sym fails)
          ∙ sym (filter_of_map_range_with_len_more (holds_more filled b) (λ k. get_or all.pages (n + k) 0) 0 i i (omega arith));
    }
