-- Bytes have one reading.
use Rattle.std.proofs.Common.{◌≡◌, ℕ, leb, List, [], ◌∷◌, ◌++◌, length, take, drop, Option, Some, None, refl, sym, ap, subst, ◌∙◌, append_assoc}
use Rattle.std.specs.List.{concat}
use Rattle.std.proofs.lemmas.List.{take_at, drop_at}
use Rattle.mig_packet.specs.declared.state.ChannelState.{ChannelState}
use Rattle.mig_packet.specs.declared.state.ChannelState.TheVariants.{Reading, Closed, Bad}
use Rattle.mig_packet.specs.Faults.{first_of}
use Rattle.mig_packet.specs.Progress.{ChannelProgress, judged_len, item_len, first_fault, due_fault, after}
use Rattle.mig_packet.specs.Reading.{IsItem, AreFaultless, after_all, Ends, Reads}
use Rattle.mig_packet.proofs.Fronts.{len-append, faults_stay, judged_le}
use Rattle.mig_packet.proofs.Judging.{cond_none}

-- of two items at one place one is the other
pub one_item : (p : ℕ) (h : Option ℕ) (a b x y : List ℕ) → IsItem p h a → IsItem p h b → a ++ x ≡ b ++ y → (a ≡ b) × (x ≡ y)
one_item p h a b x y i j e =
    let len : length a ≡ length b = sym (len-append p h a x i) ∙ ap (item_len p h) e ∙ len-append p h b y j in
    let same : a ≡ b = sym (take_at a x (length a) refl) ∙ ap (take (length a)) e ∙ take_at b y (length a) (sym len) in
    (same, sym (drop_at a x (length a) refl) ∙ ap (drop (length a)) e ∙ drop_at b y (length a) (sym len))

-- no fault is due where an item without one stands
none_due : (c : ChannelProgress) (item x rest : List ℕ) → IsItem c.page_size c.hello item → first_fault c item ≡ None → rest ≡ item ++ x
    → due_fault c rest ≡ None
none_due c item x rest is free e =
    cond_none (leb (judged_len c.page_size c.hello) (length rest)) (first_fault c rest)
    (ap (first_fault c) e ∙ ap first_of (faults_stay c c.hello item x (judged_le c.page_size c.hello item is)) ∙ free)

-- and the bytes don't end there
pub no_end : (c : ChannelProgress) (item x rest : List ℕ) (s : ChannelState) → IsItem c.page_size c.hello item → first_fault c item ≡ None → rest ≡ item ++ x
    → Ends c rest s → ⊥
no_end c item x rest Closed is free e end = end
no_end c item x rest Reading is free e end = end.1 item x e is
no_end c item x rest (Bad f) is free e end = absurd (let clash : None ≡ Some f = sym (none_due c item x rest is free e) ∙ end in cc)

one_end : (c : ChannelProgress) (x : List ℕ) (s t : ChannelState) → Ends c x s → Ends c x t → s ≡ t
one_end c x Reading Reading a b = refl
one_end c x Reading Closed a b = absurd b
one_end c x Reading (Bad f) a b = absurd (let clash : None ≡ Some f = sym a.0 ∙ b in cc)
one_end c x Closed t a b = absurd a
one_end c x (Bad f) Reading a b = absurd (let clash : None ≡ Some f = sym b.0 ∙ a in cc)
one_end c x (Bad f) Closed a b = absurd b
one_end c x (Bad f) (Bad g) a b = let joined : Some f ≡ Some g = sym a ∙ b in cc

one_front : (c : ChannelProgress) (xs ys : List (List ℕ)) (x y : List ℕ) (s t : ChannelState) → AreFaultless c xs → AreFaultless c ys
    → Ends (after_all c xs) x s → Ends (after_all c ys) y t
    → concat xs ++ x ≡ concat ys ++ y → (xs ≡ ys) × (x ≡ y) × (s ≡ t)
one_front c [] [] x y s t f g a b e = (refl, e, one_end c y s t (subst (λ (z : List ℕ). Ends c z s) e a) b)
one_front c [] (j ∷ ys) x y s t f g a b e = absurd (no_end c j (concat ys ++ y) x s g.0 g.1 (e ∙ append_assoc j (concat ys) y) a)
one_front c (i ∷ xs) [] x y s t f g a b e = absurd (no_end c i (concat xs ++ x) y t f.0 f.1 (sym e ∙ append_assoc i (concat xs) x) b)
one_front c (i ∷ xs) (j ∷ ys) x y s t f g a b e =
    let first =
    one_item c.page_size c.hello i j (concat xs ++ x) (concat ys ++ y) f.0 g.0 (sym (append_assoc i (concat xs) x) ∙ e ∙ append_assoc j (concat ys) y) in
    let d : ChannelProgress = after c i in
    let moved : after c j ≡ d = ap (after c) (sym first.0) in
    let others = one_front d xs ys x y s t f.2 (subst (λ (z : ChannelProgress). AreFaultless z ys) moved g.2) a
    (subst (λ (z : ChannelProgress). Ends (after_all z ys) y t) moved b) first.1 in
    (cc, others.1, others.2)

-- The reading of bytes is one.
pub one_reading : (from : ChannelProgress) (text : List ℕ) (c d : ChannelProgress) (x y : List ℕ) (s t : ChannelState) → Reads from text c x s
    → Reads from text d y t → (c ≡ d) × (x ≡ y) × (s ≡ t)
one_reading from text c d x y s t a b =
    let e : concat a.leads.items ++ x ≡ concat b.leads.items ++ y =
    ap (λ (z : List ℕ). z ++ x) (sym a.leads.has_bytes) ∙ sym a.has_text ∙ b.has_text ∙ ap (λ (z : List ℕ). z ++ y) b.leads.has_bytes in
    let same = one_front from a.leads.items b.leads.items x y s t a.leads.are_faultless b.leads.are_faultless
    (subst (λ (z : ChannelProgress). Ends z x s) a.leads.leads_to a.ends) (subst (λ (z : ChannelProgress). Ends z y t) b.leads.leads_to b.ends) e in
    (a.leads.leads_to ∙ ap (after_all from) same.0 ∙ sym b.leads.leads_to, same.1, same.2)
