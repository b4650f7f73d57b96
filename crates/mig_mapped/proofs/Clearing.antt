-- Pages set to zeros one after another, where their bits aren't set.
use Rattle.std.proofs.Common.{ℕ, ◌≡◌, ◌+◌, ◌==◌, ◌&&◌, Bool, true, false, cond, List, refl, sym, ap, ◌∙◌, inl, inr, arith}
use Rattle.std.specs.Prelude.{not, nat_lt}
use Rattle.std.proofs.lemmas.Bool.{cases_Bool, cases_order, cond-false, cond-true, lt-ltb, le-ltb, and_left, and_right, eq-eqb, eqb-true}
use Rattle.mig_mem.specs.declared.place.Place.{Place}
use Rattle.mig_mem.specs.Place.{place_at}
use Rattle.mig_mem.specs.Image.{Image, IsImage, content_at, zero_page, with_page}
use Rattle.mig_mem.proofs.PlaceOrder.{same_place}
use Rattle.mig_mem.proofs.Images.{image_agree, image_is, with_page-image_of}
use Rattle.mig_mapped.specs.declared.settings.MappedSettings.{MappedSettings}
use Rattle.mig_mapped.specs.Bitmap.{is_set}
use Rattle.mig_mapped.specs.Block.{MappedBlock}
use Rattle.mig_mapped.specs.Load.{cleared}

-- a page is among the first pages of the block, and its bit isn't set
abbrev is_cleared : MappedSettings → MappedBlock → ℕ → ℕ → Place → Bool
is_cleared given b number upto p = p.block == number && (nat_lt p.page upto && not (is_set given.order b.bitmap p.page))

abbrev cleared_at : MappedSettings → MappedBlock → ℕ → ℕ → Image → Place → List ℕ
cleared_at given b number upto m p = cond (is_cleared given b number upto p) (zero_page m.table.page_size) (content_at m p)

-- before the first page nothing has changed
pub none_cleared : (given : MappedSettings) (b : MappedBlock) (number : ℕ) (m : Image) → IsImage m → m ≡ cleared given b number 0 m
none_cleared given b number m is =
    image_is m is ∙ image_agree m.table (content_at m) (cleared_at given b number 0 m) (λ p place.
    sym (cond-false _ _ _ (and_right _ _ (and_left _ _ (le-ltb p.page 0 (omega arith))))))

-- a page other than this one is cleared after it exactly if it was before
same_cleared : (given : MappedSettings) (b : MappedBlock) (number page : ℕ) (p : Place)
    → ((p.block ≡ number) → (p.page ≡ page) → is_set given.order b.bitmap page ≡ true)
    → is_cleared given b number page p ≡ is_cleared given b number (page + 1) p
same_cleared given b number page p set = elim (cases_Bool (p.block == number)) [
  | inr other ↦ and_left _ _ other ∙ sym (and_left _ _ other)
  | inl in_block ↦ elim (cases_order p.page page) [
    | inr (inl before) ↦ ap (λ (t : Bool). p.block == number && (t && not (is_set given.order b.bitmap p.page)))
        (lt-ltb _ _ before ∙ sym (lt-ltb p.page (page + 1) (omega arith)))
    | inr (inr after) ↦ ap (λ (t : Bool). p.block == number && (t && not (is_set given.order b.bitmap p.page)))
        (le-ltb p.page page (omega arith) ∙ sym (le-ltb p.page (page + 1) (omega arith)))
    | inl same ↦
        let is : is_set given.order b.bitmap p.page ≡ true = ap (is_set given.order b.bitmap) same ∙ set (eqb-true _ _ in_block) same in
        let no : (upto : ℕ) → is_cleared given b number upto p ≡ false = λ upto. and_right _ _ (and_right _ _ (ap not is)) in
        no page ∙ sym (no (page + 1))
  ]
]

-- a page whose bit is set stays
pub set_stays : (given : MappedSettings) (b : MappedBlock) (number page : ℕ) (m : Image) → is_set given.order b.bitmap page ≡ true
    → cleared given b number page m ≡ cleared given b number (page + 1) m
set_stays given b number page m set =
    image_agree m.table (cleared_at given b number page m) (cleared_at given b number (page + 1) m) (λ p place.
    ap (λ (t : Bool). cond t (zero_page m.table.page_size) (content_at m p)) (same_cleared given b number page p (λ _ _. set)))

-- one whose bit isn't set becomes zeros
pub one_cleared : (given : MappedSettings) (b : MappedBlock) (number page : ℕ) (m : Image) → is_set given.order b.bitmap page ≡ false
    → with_page (cleared given b number page m) (place_at number page) (zero_page m.table.page_size) ≡ cleared given b number (page + 1) m
one_cleared given b number page m unset =
    let p : Place = place_at number page in
    let last : nat_lt page (page + 1) ≡ true = lt-ltb page (page + 1) (omega arith) in
    let test : is_cleared given b number (page + 1) p ≡ true =
    ap (λ (t : Bool). t && (nat_lt page (page + 1) && not (is_set given.order b.bitmap page))) (eq-eqb number number refl)
    ∙ ap (λ (t : Bool). t && not (is_set given.order b.bitmap page)) last ∙ ap not unset in
    with_page-image_of m.table (cleared_at given b number page m) (cleared_at given b number (page + 1) m) p (zero_page m.table.page_size)
    (sym (cond-true _ _ _ test)) (λ q place ne.
    ap (λ (t : Bool). cond t (zero_page m.table.page_size) (content_at m q))
    (same_cleared given b number page q (λ e f. absurd (ne (same_place q p e f)))))
