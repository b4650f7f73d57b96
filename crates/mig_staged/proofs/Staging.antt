-- A memory with the pages of an open round beside it, as pages are written, kept and dropped.
use Rattle.std.proofs.Common.{ℕ, ◌≡◌, ◌+◌, ◌<◌, ◌≤◌, ◌||◌, not, Bool, true, false, cond, List, [], ◌∷◌, ◌++◌, length, take, refl, sym, ap, subst, ◌∙◌, inl, inr}
use Rattle.std.proofs.Common.{Option, Some, None, arith}
use Rattle.std.specs.Prelude.{IsTrue}
use Rattle.std.specs.List.{find}
use Rattle.std.specs.Option.{option_map_or}
use Rattle.std.proofs.lemmas.Bool.{cases_Bool, cond-true, cond-false}
use Rattle.std.proofs.lemmas.List.{map-append, length-take, length_push}
use Rattle.mig_mem.specs.declared.place.Place.{Place}
use Rattle.mig_mem.specs.RamTable.{RamTable}
use Rattle.mig_mem.specs.Place.{place_at, place_eq, place_lt, has_place, IsPlace}
use Rattle.mig_mem.specs.PlaceSet.{PlaceSet, IsPlaceSet, with_place}
use Rattle.mig_mem.specs.Image.{Page, Image, IsImage, content_at, image_of, pages_of, with_page, zero_page, zero_image}
use Rattle.mig_mem.specs.Round.{last_at, round_of, with_round}
use Rattle.mig_mem.proofs.Images.{image_agree, image_is, image_from, content_size, content_at-image_of}
use Rattle.mig_mem.proofs.Rounds.{last_at-round, last_at-round_none, with_page-more, onto-nil}
use Rattle.mig_mem.proofs.Sets.{has_place-where}
use Rattle.mig_mem.proofs.Walks.{HasListed, listed_none, listed_more, listed_all, found_place, All-has}
use Rattle.mig_marking.specs.Fresh.{AreZeros}
use Rattle.mig_marking.proofs.Zeros.{zeros_at_first, zeros_elsewhere}
use Rattle.mig_staged.specs.Staged.{Staging, IsStaging, IsFresh, staged}

-- ---- what it shows of a place

-- the content of a round's page at a place, or else another
round_at : (open_ : Image) (ps : List Place) (p : Place) (other : List ℕ)
    → option_map_or (λ (x : Page). x.content) (last_at p (round_of open_ ps)) other ≡ cond (has_place ps p) (content_at open_ p) other
round_at open_ ps p other = elim (cases_Bool (has_place ps p)) [
  | inl t ↦ ap (λ (o : Option Page). option_map_or (λ (x : Page). x.content) o other) (last_at-round open_ p ps t)
      ∙ sym (cond-true (has_place ps p) (content_at open_ p) other t)
  | inr n ↦ ap (λ (o : Option Page). option_map_or (λ (x : Page). x.content) o other) (last_at-round_none open_ p ps n)
      ∙ sym (cond-false (has_place ps p) (content_at open_ p) other n)
]

-- a page of the open round, or else the memory's
pub staged_at : (s : Staging) (p : Place) → IsPlace s.kept.table p
    → content_at (staged s) p ≡ cond (has_place s.named.marked p) (content_at s.apart p) (content_at s.kept p)
staged_at s p is =
    content_at-image_of s.kept.table (λ q. option_map_or (λ (x : Page). x.content) (last_at q (round_of s.apart s.named.marked)) (content_at s.kept q)) p is
    ∙ round_at s.apart s.named.marked p (content_at s.kept p)

-- it is a memory
pub staged_image : (s : Staging) → IsStaging s → IsImage s.kept → IsImage s.apart → IsImage (staged s)
staged_image s is kept open_ = image_from s.kept.table
    (λ q. option_map_or (λ (x : Page). x.content) (last_at q (round_of s.apart s.named.marked)) (content_at s.kept q))
    (λ q here. ap (λ (l : List ℕ). length l) (round_at s.apart s.named.marked q (content_at s.kept q)) ∙ elim (cases_Bool (has_place s.named.marked q)) [
      | inl t ↦ ap (λ (l : List ℕ). length l) (cond-true (has_place s.named.marked q) (content_at s.apart q) (content_at s.kept q) t)
          ∙ content_size s.apart q open_ (subst (λ (t : RamTable). IsPlace t q) (sym is.same_apart) here)
          ∙ ap (λ (t : RamTable). t.page_size) is.same_apart
      | inr n ↦ ap (λ (l : List ℕ). length l) (cond-false (has_place s.named.marked q) (content_at s.apart q) (content_at s.kept q) n)
          ∙ content_size s.kept q kept here
    ])

-- without an open round it is the memory
pub none_staged : (s : Staging) → IsImage s.kept → s.named.marked ≡ [] → staged s ≡ s.kept
unfolding pages_of
none_staged s is none = ap (λ (ps : List Place). with_round s.kept (round_of s.apart ps)) none ∙ onto-nil s.kept is

-- ---- a page is written

-- with a page more in the open round
abbrev pub put : Staging → Place → List ℕ → Staging
put s p bytes = record s { apart = with_page s.apart p bytes; named = with_place s.named p }

content_put : (m : Image) (p q : Place) (bytes : List ℕ) → IsPlace m.table q → content_at (with_page m p bytes) q ≡ cond (place_eq q p) bytes (content_at m q)
content_put m p q bytes is = content_at-image_of m.table (λ r. cond (place_eq r p) bytes (content_at m r)) q is

-- what is shown changes as the memory would
pub staged_put : (s : Staging) (p : Place) (bytes : List ℕ) → IsStaging s → staged (put s p bytes) ≡ with_page (staged s) p bytes
staged_put s p bytes is = image_agree s.kept.table
    (λ q. option_map_or (λ (x : Page). x.content) (last_at q (round_of (with_page s.apart p bytes) (with_place s.named p).marked)) (content_at s.kept q))
    (λ q. cond (place_eq q p) bytes (content_at (staged s) q))
    (λ q here.
    let in_open : IsPlace s.apart.table q = subst (λ (t : RamTable). IsPlace t q) (sym is.same_apart) here in
    let in_named : IsPlace s.named.table q = subst (λ (t : RamTable). IsPlace t q) (sym is.are_zeros.same_table) in_open in
    let has : has_place (with_place s.named p).marked q ≡ (place_eq q p || has_place s.named.marked q) =
    has_place-where s.named.table (λ r. place_eq r p || has_place s.named.marked r) q in_named in
    round_at (with_page s.apart p bytes) (with_place s.named p).marked q (content_at s.kept q)
    ∙ ap (λ (b : Bool). cond b (content_at (with_page s.apart p bytes) q) (content_at s.kept q)) has
    ∙ ap (λ (l : List ℕ). cond (place_eq q p || has_place s.named.marked q) l (content_at s.kept q)) (content_put s.apart p q bytes in_open)
    ∙ both (place_eq q p) (has_place s.named.marked q) bytes (content_at s.apart q) (content_at s.kept q)
    ∙ ap (λ (l : List ℕ). cond (place_eq q p) bytes l) (sym (staged_at s q here)))
  where
    both : (a b : Bool) (x y z : List ℕ) → cond (a || b) (cond a x y) z ≡ cond a x (cond b y z)
    both true b x y z = refl
    both false b x y z = refl

-- all stays of one table, and no other page is kept apart
pub put_stays : (s : Staging) (p : Place) (bytes : List ℕ) → IsStaging s → IsStaging (put s p bytes)
put_stays s p bytes is = record {
  same_apart = is.same_apart;
  are_zeros = zeros_elsewhere s.apart s.named p bytes is.are_zeros;
  fresh = is.fresh;
}

-- ---- the round is kept

-- a page more is copied into the memory
pub copied_more : (kept open_ memory new : Image) (ps : List Place) (p : Place) → memory ≡ with_round kept (round_of open_ ps)
    → new ≡ with_page memory p (content_at open_ p) → new ≡ with_round kept (round_of open_ (ps ++ p ∷ []))
unfolding pages_of
copied_more kept open_ memory new ps p is step =
    step ∙ ap (λ (m : Image). with_page m p (content_at open_ p)) is
    ∙ with_page-more kept.table (content_at kept) (round_of open_ ps) (record { place = p; content = content_at open_ p })
    ∙ ap (λ (l : List Page). with_round kept l) (sym (map-append (λ (q : Place). record { place = q; content = content_at open_ q }) ps (p ∷ [])))

-- ---- the walk over the pages of the open round

-- the first i pages of the open round are copied, and the walk goes on at a place after them
pub record HasCopied (named : PlaceSet) (open_ kept now : Image) (from : Place) (i : ℕ) : Type 0 where
  pub few : i ≤ length named.marked
  pub listed : HasListed named from (take i named.marked)
  pub has_pages : now ≡ with_round kept (round_of open_ (take i named.marked))

-- before the first step no page is copied
pub copied_none : (named : PlaceSet) (open_ kept : Image) → IsImage kept → HasCopied named open_ kept kept (place_at 0 0) 0
unfolding pages_of
copied_none named open_ kept is = record { few = omega arith; listed = listed_none named; has_pages = sym (onto-nil kept is) }

-- if no page is left, all of them were copied
pub copied_all : (named : PlaceSet) (open_ kept now : Image) (from : Place) (i : ℕ) → HasCopied named open_ kept now from i
    → find (λ q. not (place_lt q from)) named.marked ≡ None → now ≡ with_round kept (round_of open_ named.marked)
copied_all named open_ kept now from i h none =
    h.has_pages ∙ ap (λ (ps : List Place). with_round kept (round_of open_ ps)) (listed_all named from (take i named.marked) h.listed none)

-- the place that the walk finds is the table's
pub found_there : (named : PlaceSet) (f : Place → Bool) (p : Place) → IsPlaceSet named → find f named.marked ≡ Some p → IsPlace named.table p
found_there named f p is h = All-has (IsPlace named.table) p named.marked is.is_within (found_place f p named.marked h)

-- the next page is copied after those before it
pub copied_next : (named : PlaceSet) (open_ kept mid now : Image) (from p : Place) (i : ℕ) → IsPlaceSet named → HasCopied named open_ kept mid from i
    → find (λ q. not (place_lt q from)) named.marked ≡ Some p → now ≡ with_page mid p (content_at open_ p)
    → HasCopied named open_ kept now (place_at p.block (p.page + 1)) (i + 1)
copied_next named open_ kept mid now from p i is h some step =
    let front : List Place = take i named.marked in
    let more = listed_more named from p front is h.listed some in
    let long : length front ≡ i = omega (arith, length-take i named.marked, h.few) in
    let lt : i < length named.marked = omega (arith, more.1) in
    let longer : length (front ++ p ∷ []) ≡ i + 1 = omega (arith, length_push front p) in
    let next : front ++ p ∷ [] ≡ take (i + 1) named.marked = more.0.front ∙ ap (λ (n : ℕ). take n named.marked) longer in
    record {
      few = omega arith;
      listed = subst (λ (ps : List Place). HasListed named (place_at p.block (p.page + 1)) ps) next more.0;
      has_pages = copied_more kept open_ mid now front p h.has_pages step
          ∙ ap (λ (ps : List Place). with_round kept (round_of open_ ps)) next;
    }

-- what is copied changes no table
pub copied_table : (named : PlaceSet) (apart kept now : Image) (from : Place) (i : ℕ) → HasCopied named apart kept now from i → now.table ≡ kept.table
copied_table named apart kept now from i h = ap (λ (m : Image). m.table) h.has_pages

-- ---- the first round

-- the pages of the first round of a memory of zeros are what it shows
pub fresh_shows : (s : Staging) → IsStaging s → IsFresh s → IsImage s.apart → staged s ≡ s.apart
fresh_shows s is fresh image =
    image_agree s.kept.table
    (λ q. option_map_or (λ (x : Page). x.content) (last_at q (round_of s.apart s.named.marked)) (content_at s.kept q))
    (content_at s.apart)
    (λ q here. round_at s.apart s.named.marked q (content_at s.kept q) ∙ elim (cases_Bool (has_place s.named.marked q)) [
      | inl t ↦ cond-true (has_place s.named.marked q) (content_at s.apart q) (content_at s.kept q) t
      | inr n ↦ cond-false (has_place s.named.marked q) (content_at s.apart q) (content_at s.kept q) n
          ∙ ap (λ (m : Image). content_at m q) fresh
          ∙ content_at-image_of s.kept.table (λ _. zero_page s.kept.table.page_size) q here
          ∙ ap (λ (t : RamTable). zero_page t.page_size) (sym is.same_apart)
          ∙ sym (is.are_zeros.are_zeros q (subst (λ (t : RamTable). IsPlace t q) (sym is.same_apart) here) n)
    ])
    ∙ ap (λ (t : RamTable). image_of t (content_at s.apart)) (sym is.same_apart)
    ∙ sym (image_is s.apart image)

-- ---- without an open round

-- a memory apart that holds no page of a round is zeros
pub zeros_apart : (apart : Image) (named : PlaceSet) → AreZeros apart named → IsImage apart → named.marked ≡ [] → apart ≡ zero_image apart.table
zeros_apart apart named are image none =
    image_is apart image ∙ image_agree apart.table (content_at apart) (λ _. zero_page apart.table.page_size) (λ p is.
    are.are_zeros p is (ap (λ (ps : List Place). has_place ps p) none))

-- zeros apart, and no page that is named, are a memory without an open round
pub closed_staging : (s : Staging) → s.apart ≡ zero_image s.kept.table → s.named ≡ record { table = s.kept.table; marked = [] }
    → (IsTrue s.is_fresh → IsFresh s) → IsStaging s
closed_staging s apart named fresh =
    let same : s.apart.table ≡ s.kept.table = ap (λ (m : Image). m.table) apart in
    record {
      same_apart = same;
      are_zeros = zeros_at_first s.apart s.named (apart ∙ ap (λ (t : RamTable). zero_image t) (sym same))
          (named ∙ ap (λ (t : RamTable). record { table = t; marked = [] }) (sym same));
      fresh = fresh;
    }
