-- Items at their bytes, and those that are parts of page records.
use Rattle.std.proofs.Common.{◌≡◌, ◌≢◌, ℕ, ◌+◌, List, [], ◌∷◌, ◌++◌, length, Option, None, refl, sym, ap, subst, ◌∙◌, append_assoc, arith}
use Rattle.std.specs.List.{concat}
use Rattle.std.proofs.lemmas.List.{append-nil, length-append}
use Rattle.std.proofs.lemmas.List.Folds.{concat-append}
use Rattle.mig_stream.specs.declared.item.Due.TheVariants.{Nothing}
use Rattle.mig_stream.specs.declared.report.ItemKind.{ItemKind}
use Rattle.mig_stream.specs.Progress.{StreamProgress}
use Rattle.mig_stream.specs.Items.{size, first_fault, after}
use Rattle.mig_stream.specs.Reading.{AreFaultless, after_all}
use Rattle.mig_stream.specs.Report.{kind_of, ItemAt, item_at, items_at}
use Rattle.mig_stream.specs.Taking.{AreParts, PageFront}
use Rattle.mig_stream.proofs.Fronts.{AreFaultless-append, after_all-append}

-- items after others stand after their bytes
pub items_at-append : (c : StreamProgress) (at : ℕ) (xs ys : List (List ℕ))
    → items_at c at (xs ++ ys) ≡ items_at c at xs ++ items_at (after_all c xs) (at + length (concat xs)) ys
items_at-append c at [] ys = ap (λ (n : ℕ). items_at c n ys) (let none : at ≡ at + 0 = omega arith in none)
items_at-append c at (x ∷ xs) ys =
    let d : StreamProgress = after c x in
    let first : List ItemAt = item_at (kind_of c.page_size c.due x) at x in
    let others : List ItemAt = items_at d (at + length x) xs in
    let byte : at + length x + length (concat xs) ≡ at + length (concat (x ∷ xs)) = omega (arith, length-append x (concat xs)) in
    ap (λ (l : List ItemAt). first ++ l) (items_at-append d (at + length x) xs ys)
    ∙ sym (append_assoc first others (items_at (after_all d xs) (at + length x + length (concat xs)) ys))
    ∙ ap (λ (n : ℕ). (first ++ others) ++ items_at (after_all d xs) n ys) byte

-- ---- parts of page records

-- parts of page records are no items of the report
pub parts_at : (c : StreamProgress) (items : List (List ℕ)) → AreParts c items → (at : ℕ) → items_at c at items ≡ []
unfolding AreParts
parts_at c items parts = parts

no_parts : (c : StreamProgress) → AreParts c []
unfolding AreParts
no_parts c = λ at. refl

one_part : (c : StreamProgress) (item : List ℕ) → kind_of c.page_size c.due item ≡ None → AreParts c (item ∷ [])
unfolding AreParts
one_part c item part = λ at. ap (λ (k : Option ItemKind). item_at k at item ++ []) part

AreParts-append : (c : StreamProgress) (xs ys : List (List ℕ)) → AreParts c xs → AreParts (after_all c xs) ys → AreParts c (xs ++ ys)
unfolding AreParts
AreParts-append c xs ys p q = λ at.
    let n : ℕ = at + length (concat xs) in
    items_at-append c at xs ys ∙ ap (λ (l : List ItemAt). l ++ items_at (after_all c xs) n ys) (p at) ∙ q n

-- no item leaves the progress as it is
pub PageFront-none : (c : StreamProgress) → PageFront c [] c
PageFront-none c = record { leads = record { items = []; has_bytes = refl; are_faultless = tt; leads_to = refl }; are_parts = no_parts c }

-- one item without a fault that isn't reported is a front of page records alone
pub PageFront-one : (c : StreamProgress) (item : List ℕ) → c.due ≢ Nothing → length item ≡ size c.page_size c.due item
    → first_fault c item ≡ None → kind_of c.page_size c.due item ≡ None → PageFront c item (after c item)
PageFront-one c item open_ whole free part = record {
  leads = record {
    items = item ∷ [];
    has_bytes = sym (append-nil item);
    are_faultless = (record { is_due = open_; is_whole = whole }, free, tt);
    leads_to = refl;
  };
  are_parts = one_part c item part;
}

-- parts of page records that follow one another are one front
pub PageFront-append : (a b c : StreamProgress) (x y : List ℕ) → PageFront a x b → PageFront b y c → PageFront a (x ++ y) c
PageFront-append a b c x y f g =
    let xs : List (List ℕ) = f.leads.items in
    let ys : List (List ℕ) = g.leads.items in
    record {
      leads = record {
        items = xs ++ ys;
        has_bytes = ap (λ (u : List ℕ). u ++ y) f.leads.has_bytes ∙ ap (λ (u : List ℕ). concat xs ++ u) g.leads.has_bytes ∙ sym (concat-append xs ys);
        are_faultless = AreFaultless-append a xs ys f.leads.are_faultless
            (subst (λ (u : StreamProgress). AreFaultless u ys) f.leads.leads_to g.leads.are_faultless);
        leads_to = g.leads.leads_to ∙ ap (λ (u : StreamProgress). after_all u ys) f.leads.leads_to ∙ sym (after_all-append a xs ys);
      };
      are_parts = AreParts-append a xs ys f.are_parts (subst (λ (u : StreamProgress). AreParts u ys) f.leads.leads_to g.are_parts);
    }
