-- The valid prefix of bytes: its length is one number, which more bytes can only increase.
use Rattle.std.proofs.Common.{◌≡◌, ◌≢◌, ℕ, ◌≤◌, ◌+◌, true, false, Option, Some, None, List, [], ◌∷◌, ◌++◌, length, refl, sym, ap, subst, ◌∙◌, append_assoc}
use Rattle.std.proofs.Common.{arith}
use Rattle.std.specs.List.{concat}
use Rattle.std.proofs.lemmas.List.{length-append}
use Rattle.mig_packet.specs.declared.state.ChannelState.{ChannelState}
use Rattle.mig_packet.specs.declared.state.ChannelState.TheVariants.{Reading, Closed, Bad}
use Rattle.mig_packet.specs.Progress.{ChannelProgress, start, after}
use Rattle.mig_packet.specs.Reading.{Settings, AreFaultless, after_all, Ends, Reads, IsReading, state_at, state_at_end}
use Rattle.mig_packet.specs.Reader.{Reader, with_taken, Tells, HasState, IsFinal, HasFront, IsValidUpTo}
use Rattle.mig_packet.specs.Law.{IsValidUpToOnePlace, LongerTextsStayValid, ClosedIsValid, BadIsValidBefore}
use Rattle.mig_packet.proofs.Exists.{some_reading}
use Rattle.mig_packet.proofs.Later.{Reads-more}
use Rattle.mig_packet.proofs.Unique.{one_item, no_end, one_reading}

-- where a reading begins
abbrev from : Settings → ChannelProgress
from given = start given.page_size given.uuid given.channels given.waiting

-- the offset that a reader keeps is where its channel's bytes are valid up to
pub valid_stands : (r : Reader) → Tells r (λ given so_far. IsValidUpTo given so_far.text r.valid_up_to)
valid_stands r given so_far s = record {
  to = with_taken s.rounds r.progress;
  rest = s.rest;
  found = r.found;
  reads = s.reads;
  has_length = omega (arith, s.has_valid_up_to, ap length s.reads.has_text, length-append s.reads.front s.rest);
}

-- ---- one place

-- items that can't be read on are no fewer bytes than others
no_longer : (c : ChannelProgress) (xs ys : List (List ℕ)) (x y : List ℕ) (s : ChannelState) → AreFaultless c xs → AreFaultless c ys → Ends (after_all c ys) y s
    → concat xs ++ x ≡ concat ys ++ y → length (concat xs) ≤ length (concat ys)
no_longer c [] ys x y s f g b e = omega arith
no_longer c (i ∷ xs) [] x y s f g b e = absurd (no_end c i (concat xs ++ x) y s f.0 f.1 (sym e ∙ append_assoc i (concat xs) x) b)
no_longer c (i ∷ xs) (j ∷ ys) x y s f g b e =
    let first = one_item c.page_size c.hello i j (concat xs ++ x) (concat ys ++ y) f.0 g.0
    (sym (append_assoc i (concat xs) x) ∙ e ∙ append_assoc j (concat ys) y) in
    let d : ChannelProgress = after c i in
    let moved : after c j ≡ d = ap (after c) (sym first.0) in
    let others = no_longer d xs ys x y s f.2 (subst (λ (z : ChannelProgress). AreFaultless z ys) moved g.2)
    (subst (λ (z : ChannelProgress). Ends (after_all z ys) y s) moved b) first.1 in
    omega (arith, others, ap (λ (z : List ℕ). length z) first.0, length-append i (concat xs), length-append j (concat ys))

longest : (given : Settings) (text : List ℕ) (m n : ℕ) → HasFront given text m → IsValidUpTo given text n → m ≤ n
longest given text m n f v =
    let b : Reads (from given) text v.to v.rest v.found = v.reads in
    let e : concat f.leads.items ++ f.rest ≡ concat b.leads.items ++ v.rest =
    ap (λ (z : List ℕ). z ++ f.rest) (sym f.leads.has_bytes) ∙ sym f.has_text ∙ b.has_text ∙ ap (λ (z : List ℕ). z ++ v.rest) b.leads.has_bytes in
    let le = no_longer (from given) f.leads.items b.leads.items f.rest v.rest v.found f.leads.are_faultless b.leads.are_faultless
    (subst (λ (z : ChannelProgress). Ends z v.rest v.found) b.leads.leads_to b.ends) e in
    omega (arith, le, f.has_length, v.has_length, ap (λ (z : List ℕ). length z) f.leads.has_bytes, ap (λ (z : List ℕ). length z) b.leads.has_bytes)

front_of : (given : Settings) (text : List ℕ) (n : ℕ) → IsValidUpTo given text n → HasFront given text n
front_of given text n v = record {
  to = v.to;
  front = v.reads.front;
  rest = v.rest;
  has_text = v.reads.has_text;
  has_length = v.has_length;
  leads = v.reads.leads;
}

-- what is valid and what is left are all bytes
all_bytes : (given : Settings) (text : List ℕ) (n : ℕ) (v : IsValidUpTo given text n) → n + length v.rest ≡ length text
all_bytes given text n v = omega (arith, v.has_length, ap (λ (z : List ℕ). length z) v.reads.has_text, length-append v.reads.front v.rest)

-- bytes are valid up to one offset alone
pub one_place : IsValidUpToOnePlace
one_place = λ given text.
    let r = some_reading (from given) text in
    let n : ℕ = length r.3.front in
    let v : IsValidUpTo given text n = record { to = r.0; rest = r.1; found = r.2; reads = r.3; has_length = refl } in (
      n,
      v,
      omega (arith, all_bytes given text n v),
      λ m f. longest given text m n f v,
      λ m other. omega (arith, longest given text m n (front_of given text m other) v, longest given text n m (front_of given text n v) other),
    )

-- ---- longer bytes

more_front : (given : Settings) (text more : List ℕ) (n : ℕ) → HasFront given text n → HasFront given (text ++ more) n
more_front given text more n f = record {
  to = f.to;
  front = f.front;
  rest = f.rest ++ more;
  has_text = ap (λ (x : List ℕ). x ++ more) f.has_text ∙ append_assoc f.front f.rest more;
  has_length = f.has_length;
  leads = f.leads;
}

-- the state of bytes that haven't ended is that of their longest front
same_state : (given : Settings) (text : List ℕ) (n : ℕ) (s : ChannelState) (v : IsValidUpTo given text n) → HasState given text false s → v.found ≡ s
same_state given text n s v h =
    let is : IsReading given text false h.0 = h.1 in
    let same = one_reading (from given) text v.to is.to v.rest is.rest v.found is.found v.reads is.reads in
    same.2 ∙ sym is.has_state ∙ sym h.2

stays : (given : Settings) (text more : List ℕ) (m n : ℕ) → IsValidUpTo given text m → IsValidUpTo given (text ++ more) n → IsFinal given text → m ≡ n
stays given text more m n v w settled =
    let other : v.found ≢ Reading = λ reading. settled.2 (sym (same_state given text m settled.0 v settled.1) ∙ reading) in
    let on : IsValidUpTo given (text ++ more) m = record {
      to = v.to;
      rest = v.rest ++ more;
      found = v.found;
      reads = Reads-more (from given) text v.to v.rest more v.found other v.reads;
      has_length = omega (
        arith,
        all_bytes given text m v,
        ap (λ (z : List ℕ). length z) (Reads-more (from given) text v.to v.rest more v.found other v.reads).has_text,
        length-append (Reads-more (from given) text v.to v.rest more v.found other v.reads).front (v.rest ++ more),
        length-append v.rest more,
        length-append text more,
      );
    } in
    omega (
      arith,
      longest given (text ++ more) m n (front_of given (text ++ more) m on) w,
      longest given (text ++ more) n m (front_of given (text ++ more) n w) on,
    )

-- more bytes leave the offset as it was, or increase it
pub stays_valid : LongerTextsStayValid
stays_valid = λ given text more m n v w. (
  longest given (text ++ more) m n
      (more_front given text more m (front_of given text m v)) w,
  λ settled. stays given text more m n v w settled,
)

-- ---- a channel that has ended

-- a channel that has ended is closed after a SYNC packet, at its last byte
closed_end : (hello : Option ℕ) (rest : List ℕ) (packets : List (List ℕ)) → state_at_end hello rest packets ≡ Closed → rest ≡ []
closed_end None rest packets e = absurd cc
closed_end (Some id) (byte ∷ rest) packets e = absurd cc
closed_end (Some id) [] packets e = refl

closed_rest : (to : ChannelProgress) (rest : List ℕ) (found : ChannelState) → Ends to rest found → state_at true to rest found ≡ Closed → rest ≡ []
closed_rest to rest Reading ends e = closed_end to.hello rest to.packets e
closed_rest to rest Closed ends e = absurd ends
closed_rest to rest (Bad f) ends e = absurd cc

-- a closed channel is valid up to its last byte
pub closed_is_valid : ClosedIsValid
closed_is_valid = λ given text n h v.
    let is : IsReading given text true h.0 = h.1 in
    let none : is.rest ≡ [] = closed_rest is.to is.rest is.found is.reads.ends (sym is.has_state ∙ sym h.2) in
    let same = one_reading (from given) text v.to is.to v.rest is.rest v.found is.found v.reads is.reads in
    omega (arith, all_bytes given text n v, ap (λ (z : List ℕ). length z) (same.1 ∙ none))

-- a bad channel is valid up to the item at fault
pub bad_is_valid_before : BadIsValidBefore
bad_is_valid_before = λ given text n fault h v. record {
  to = v.to;
  front = v.reads.front;
  rest = v.rest;
  has_text = v.reads.has_text;
  has_length = v.has_length;
  leads = v.reads.leads;
  has_fault = subst (λ (s : ChannelState). Ends v.to v.rest s) (same_state given text n (Bad fault) v h) v.reads.ends;
}
