-- A stream has one reading.
use Rattle.std.proofs.Common.{◌≡◌, ℕ, true, false, inl, inr, List, [], ◌∷◌, ◌++◌, length, take, drop, Some, None, refl, sym, ap, subst, ◌∙◌, append_assoc}
use Rattle.std.specs.List.{concat}
use Rattle.std.proofs.lemmas.List.{take_at, drop_at}
use Rattle.mig_stream.specs.declared.item.Due.{Due}
use Rattle.mig_stream.specs.declared.item.StreamState.{StreamState}
use Rattle.mig_stream.specs.declared.item.StreamState.TheVariants.{Reading, Closed, Bad}
use Rattle.mig_stream.specs.declared.fault.StreamFault.{StreamFault}
use Rattle.mig_stream.specs.Progress.{StreamProgress}
use Rattle.mig_stream.specs.Items.{size, first_fault, is_over, after}
use Rattle.mig_stream.specs.Reading.{IsItem, AreFaultless, after_all, IsOver, Ends, Reads}
use Rattle.mig_stream.proofs.Stopping.{over_fault}
use Rattle.mig_stream.proofs.Fronts.{size-append}

-- of two items at one place one is the other
pub one_item : (p : ℕ) (d : Due) (a b x y : List ℕ) → IsItem p d a → IsItem p d b → a ++ x ≡ b ++ y → (a ≡ b) × (x ≡ y)
one_item p d a b x y i j e =
    let len : length a ≡ length b = sym (size-append p d a x i.is_whole) ∙ ap (size p d) e ∙ size-append p d b y j.is_whole in
    let same : a ≡ b = sym (take_at a x (length a) refl) ∙ ap (take (length a)) e ∙ take_at b y (length a) (sym len) in
    (same, sym (drop_at a x (length a) refl) ∙ ap (drop (length a)) e ∙ drop_at b y (length a) (sym len))

-- if a free item stands, a stream doesn't end
pub no_end : (c : StreamProgress) (item x rest : List ℕ) (s : StreamState) → IsItem c.page_size c.due item
    → first_fault c item ≡ None → rest ≡ item ++ x → Ends c rest s → ⊥
no_end c item x rest Closed is free e (inl end) = is.is_due end
no_end c item x rest Closed is free e (inr end) =
    let same = one_item c.page_size c.due item end.0 x end.1 is end.3 (sym e ∙ end.2) in
    let two : first_fault c end.0 ≡ None = ap (first_fault c) (sym same.0) ∙ free in
    absurd (let clash = sym two ∙ over_fault c end.0 end.4 in cc)
no_end c item x rest Reading is free e end = end.1 item x e is
no_end c item x rest (Bad f) is free e end =
    let same = one_item c.page_size c.due item end.0 x end.1 is end.3 (sym e ∙ end.2) in
    let two : first_fault c end.0 ≡ None = ap (first_fault c) (sym same.0) ∙ free in
    absurd (let clash = sym two ∙ end.4 in cc)

-- RAM isn't over before an item at fault
over_bad : (c : StreamProgress) (x : List ℕ) (f : StreamFault) → IsOver c x → Ends c x (Bad f) → ⊥
over_bad c x f a b =
    let same = one_item c.page_size c.due a.0 b.0 a.1 b.1 a.3 b.3 (sym a.2 ∙ b.2) in
    absurd (let clash : true ≡ false = sym a.4 ∙ ap (is_over c) same.0 ∙ b.5 in cc)

one_end : (c : StreamProgress) (x : List ℕ) (s t : StreamState) → Ends c x s → Ends c x t → s ≡ t
one_end c x Reading Reading a b = refl
one_end c x Reading Closed a (inl b) = absurd (a.0 b)
one_end c x Reading Closed a (inr b) = absurd (a.1 b.0 b.1 b.2 b.3)
one_end c x Reading (Bad f) a b = absurd (a.1 b.0 b.1 b.2 b.3)
one_end c x Closed Reading (inl a) b = absurd (b.0 a)
one_end c x Closed Reading (inr a) b = absurd (b.1 a.0 a.1 a.2 a.3)
one_end c x Closed Closed a b = refl
one_end c x Closed (Bad f) (inl a) b = absurd (b.3.is_due a)
one_end c x Closed (Bad f) (inr a) b = absurd (over_bad c x f a b)
one_end c x (Bad f) Reading a b = absurd (b.1 a.0 a.1 a.2 a.3)
one_end c x (Bad f) Closed a (inl b) = absurd (a.3.is_due b)
one_end c x (Bad f) Closed a (inr b) = absurd (over_bad c x f b a)
one_end c x (Bad f) (Bad g) a b =
    let same = one_item c.page_size c.due a.0 b.0 a.1 b.1 a.3 b.3 (sym a.2 ∙ b.2) in
    let faults : first_fault c b.0 ≡ Some f = ap (first_fault c) (sym same.0) ∙ a.4 in
    let joined : Some f ≡ Some g = sym faults ∙ b.4 in cc

-- a stream is one list of items alone
pub one_front : (c : StreamProgress) (xs ys : List (List ℕ)) (x y : List ℕ) (s t : StreamState) → AreFaultless c xs
    → AreFaultless c ys → Ends (after_all c xs) x s → Ends (after_all c ys) y t
    → concat xs ++ x ≡ concat ys ++ y → (xs ≡ ys) × (x ≡ y) × (s ≡ t)
one_front c [] [] x y s t f g a b e = (refl, e, one_end c y s t (subst (λ (z : List ℕ). Ends c z s) e a) b)
one_front c [] (j ∷ ys) x y s t f g a b e = absurd (no_end c j (concat ys ++ y) x s g.0 g.1 (e ∙ append_assoc j (concat ys) y) a)
one_front c (i ∷ xs) [] x y s t f g a b e = absurd (no_end c i (concat xs ++ x) y t f.0 f.1 (sym e ∙ append_assoc i (concat xs) x) b)
one_front c (i ∷ xs) (j ∷ ys) x y s t f g a b e =
    let first = one_item c.page_size c.due i j (concat xs ++ x) (concat ys ++ y) f.0 g.0
    (sym (append_assoc i (concat xs) x) ∙ e ∙ append_assoc j (concat ys) y) in
    let d : StreamProgress = after c i in
    let moved : after c j ≡ d = ap (after c) (sym first.0) in
    let others = one_front d xs ys x y s t f.2 (subst (λ (z : StreamProgress). AreFaultless z ys) moved g.2) a
    (subst (λ (z : StreamProgress). Ends (after_all z ys) y t) moved b) first.1 in
    (cc, others.1, others.2)

-- The reading of a stream is one.
pub one_reading : (from : StreamProgress) (text : List ℕ) (c d : StreamProgress) (x y : List ℕ) (s t : StreamState)
    → Reads from text c x s → Reads from text d y t → (c ≡ d) × (x ≡ y) × (s ≡ t)
one_reading from text c d x y s t a b =
    let e : concat a.leads.items ++ x ≡ concat b.leads.items ++ y =
    ap (λ (z : List ℕ). z ++ x) (sym a.leads.has_bytes) ∙ sym a.has_text ∙ b.has_text ∙ ap (λ (z : List ℕ). z ++ y) b.leads.has_bytes in
    let same = one_front from a.leads.items b.leads.items x y s t a.leads.are_faultless b.leads.are_faultless
    (subst (λ (z : StreamProgress). Ends z x s) a.leads.leads_to a.ends) (subst (λ (z : StreamProgress). Ends z y t) b.leads.leads_to b.ends) e in
    (a.leads.leads_to ∙ ap (after_all from) same.0 ∙ sym b.leads.leads_to, same.1, same.2)
