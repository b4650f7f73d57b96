-- The valid prefix of a stream: its length is one number, which more bytes can only increase.
use Rattle.std.proofs.Common.{◌≡◌, ◌≢◌, ℕ, ◌≤◌, ◌+◌, List, [], ◌∷◌, ◌++◌, length, false, refl, sym, ap, subst, ◌∙◌, append_assoc, arith}
use Rattle.std.specs.List.{concat}
use Rattle.std.proofs.lemmas.List.{length-append}
use Rattle.mig_mem.proofs.PageSizes.{page_size_some}
use Rattle.mig_stream.specs.declared.item.StreamState.{StreamState}
use Rattle.mig_stream.specs.declared.item.StreamState.TheVariants.{Reading, Bad}
use Rattle.mig_stream.specs.Progress.{StreamProgress, start}
use Rattle.mig_stream.specs.Items.{after}
use Rattle.mig_stream.specs.Reading.{Settings, AreFaultless, after_all, Ends, Reads, IsReading}
use Rattle.mig_stream.specs.Reader.{HasState, IsFinal, HasFront, IsValidUpTo}
use Rattle.mig_stream.specs.Law.{IsValidUpToOnePlace, LongerTextsStayValid, ClosedIsValid, BadIsValidBefore}
use Rattle.mig_stream.proofs.Exists.{reads_from}
use Rattle.mig_stream.proofs.Later.{Reads-more}
use Rattle.mig_stream.proofs.Unique.{one_item, no_end, one_reading}

-- where a reading begins
abbrev from : Settings → StreamProgress
from given = start given.frame given.mode given.page_size given.limit given.waiting

-- ---- one place

-- items that can't be read on are no fewer bytes than others
no_longer : (c : StreamProgress) (xs ys : List (List ℕ)) (x y : List ℕ) (s : StreamState) → AreFaultless c xs → AreFaultless c ys → Ends (after_all c ys) y s
    → concat xs ++ x ≡ concat ys ++ y → length (concat xs) ≤ length (concat ys)
no_longer c [] ys x y s f g b e = omega arith
no_longer c (i ∷ xs) [] x y s f g b e = absurd (no_end c i (concat xs ++ x) y s f.0 f.1 (sym e ∙ append_assoc i (concat xs) x) b)
no_longer c (i ∷ xs) (j ∷ ys) x y s f g b e =
    let first = one_item c.page_size c.due i j (concat xs ++ x) (concat ys ++ y) f.0 g.0
    (sym (append_assoc i (concat xs) x) ∙ e ∙ append_assoc j (concat ys) y) in
    let d : StreamProgress = after c i in
    let moved : after c j ≡ d = ap (after c) (sym first.0) in
    let others = no_longer d xs ys x y s f.2 (subst (λ (z : StreamProgress). AreFaultless z ys) moved g.2)
    (subst (λ (z : StreamProgress). Ends (after_all z ys) y s) moved b) first.1 in
    omega (arith, others, ap (λ (z : List ℕ). length z) first.0, length-append i (concat xs), length-append j (concat ys))

longest : (given : Settings) (text : List ℕ) (m n : ℕ) → HasFront given text m → IsValidUpTo given text n → m ≤ n
longest given text m n f v =
    let b : Reads (from given) text v.to v.rest v.state = v.reads in
    let e : concat f.leads.items ++ f.rest ≡ concat b.leads.items ++ v.rest =
    ap (λ (z : List ℕ). z ++ f.rest) (sym f.leads.has_bytes) ∙ sym f.has_text ∙ b.has_text ∙ ap (λ (z : List ℕ). z ++ v.rest) b.leads.has_bytes in
    let le = no_longer (from given) f.leads.items b.leads.items f.rest v.rest v.state f.leads.are_faultless b.leads.are_faultless
    (subst (λ (z : StreamProgress). Ends z v.rest v.state) b.leads.leads_to b.ends) e in
    omega (arith, le, f.has_length, v.has_length, ap (λ (z : List ℕ). length z) f.leads.has_bytes, ap (λ (z : List ℕ). length z) b.leads.has_bytes)

front_of : (given : Settings) (text : List ℕ) (n : ℕ) → IsValidUpTo given text n → HasFront given text n
front_of given text n v = record {
  to = v.to;
  front = v.reads.front;
  rest = v.rest;
  has_text = v.reads.has_text;
  has_length = v.has_length;
  leads = v.reads.leads;
}

-- what is valid and what is left are all bytes
all_bytes : (given : Settings) (text : List ℕ) (n : ℕ) (v : IsValidUpTo given text n) → n + length v.rest ≡ length text
all_bytes given text n v = omega (arith, v.has_length, ap (λ (z : List ℕ). length z) v.reads.has_text, length-append v.reads.front v.rest)

-- bytes are valid up to one offset alone
pub one_place : IsValidUpToOnePlace
one_place = λ given text is.
    let r = reads_from (from given) text (page_size_some given.page_size is) in
    let n : ℕ = length r.3.front in
    let v : IsValidUpTo given text n = record { to = r.0; rest = r.1; state = r.2; reads = r.3; has_length = refl } in (
      n,
      v,
      omega (arith, all_bytes given text n v),
      λ m f. longest given text m n f v,
      λ m other. omega (arith, longest given text m n (front_of given text m other) v, longest given text n m (front_of given text n v) other),
    )

-- ---- longer streams

more_front : (given : Settings) (text more : List ℕ) (n : ℕ) → HasFront given text n → HasFront given (text ++ more) n
more_front given text more n f = record {
  to = f.to;
  front = f.front;
  rest = f.rest ++ more;
  has_text = ap (λ (x : List ℕ). x ++ more) f.has_text ∙ append_assoc f.front f.rest more;
  has_length = f.has_length;
  leads = f.leads;
}

-- the state of a stream is that of its longest front
same_state : (given : Settings) (text : List ℕ) (n : ℕ) (s : StreamState) (v : IsValidUpTo given text n) → HasState given text false s → v.state ≡ s
same_state given text n s v h =
    let is : IsReading given text h.0 = h.1 in
    let same = one_reading (from given) text v.to is.to v.rest is.rest v.state h.0.state v.reads is.reads in
    same.2 ∙ sym h.2

stays : (given : Settings) (text more : List ℕ) (m n : ℕ) → IsValidUpTo given text m → IsValidUpTo given (text ++ more) n → IsFinal given text → m ≡ n
stays given text more m n v w settled =
    let is : IsReading given text settled.0 = settled.1 in
    let other : v.state ≢ Reading = λ reading. settled.2 (sym (same_state given text m settled.0.state v (settled.0, is, refl)) ∙ reading) in
    let on : IsValidUpTo given (text ++ more) m = record {
      to = v.to;
      rest = v.rest ++ more;
      state = v.state;
      reads = Reads-more (from given) text v.to v.rest more v.state other v.reads;
      has_length = omega (
        arith,
        all_bytes given text m v,
        ap (λ (z : List ℕ). length z) (Reads-more (from given) text v.to v.rest more v.state other v.reads).has_text,
        length-append (Reads-more (from given) text v.to v.rest more v.state other v.reads).front (v.rest ++ more),
        length-append v.rest more,
        length-append text more,
      );
    } in
    omega (
      arith,
      longest given (text ++ more) m n (front_of given (text ++ more) m on) w,
      longest given (text ++ more) n m (front_of given (text ++ more) n w) on,
    )

-- more bytes leave the offset as it was, or increase it
pub stays_valid : LongerTextsStayValid
stays_valid = λ given text more m n v w. (
  longest given (text ++ more) m n
      (more_front given text more m (front_of given text m v)) w,
  λ settled. stays given text more m n v w settled,
)

-- ---- a stream that has ended

-- a closed stream is valid up to the byte at which it is closed
pub closed_is_valid : ClosedIsValid
closed_is_valid = λ given text n h. (λ v. record { is_closed = h; is_valid_up_to = v }, λ c. c.is_valid_up_to)

-- a bad stream is valid up to the item at fault
pub bad_is_valid_before : BadIsValidBefore
bad_is_valid_before = λ given text n fault h v.
    let ends : Ends v.to v.rest (Bad fault) = subst (λ (s : StreamState). Ends v.to v.rest s) (same_state given text n (Bad fault) v h) v.reads.ends in
    record {
      to = v.to;
      front = v.reads.front;
      item = ends.0;
      more = ends.1;
      has_text = v.reads.has_text ∙ ap (λ (z : List ℕ). v.reads.front ++ z) ends.2 ∙ sym (append_assoc v.reads.front ends.0 ends.1);
      has_length = v.has_length;
      leads = v.reads.leads;
      is_item = ends.3;
      has_fault = ends.4;
    }
