-- How sources stand at a round.
use Rattle.std.proofs.Common.{ℕ, ◌≡◌, ◌<◌, Bool, true, false, cond, ◌==◌, List, [], ◌∷◌, refl, sym, ap, ◌∙◌, inl, inr, Option, Some, None, arith, find}
use Rattle.std.specs.Prelude.{◌⊎◌, nat_lt}
use Rattle.std.specs.List.{All, list_all}
use Rattle.std.proofs.lemmas.Bool.{cases_order, cases_Bool, le-ltb, lt-ltb, eqb-true, eq-eqb, cond-true, cond-false, and_parts}
use Rattle.std.proofs.lemmas.List.Elements.{All-nil, All-cons, All-head, All-tail}
use Rattle.mig_mem.specs.First.{first_some}
use Rattle.mig_stream.specs.declared.item.StreamState.{StreamState}
use Rattle.mig_stream.specs.declared.item.StreamState.TheVariants as stream
use Rattle.mig_stream.specs.Reading.{state_at}
use Rattle.mig_packet.specs.declared.state.ChannelState.{ChannelState}
use Rattle.mig_packet.specs.declared.state.ChannelState.TheVariants as channel
use Rattle.mig_answer.specs.declared.status.Status.{Status}
use Rattle.mig_answer.specs.declared.status.Status.TheVariants.{Whole, Clean, Bad, Pending}
use Rattle.mig_answer.specs.Status.{status_at, stream_end, channel_end, is_whole, is_clean, is_pending, fault_of}

-- ---- one source

-- a round that a source has completely is whole
pub status_whole : (k rounds : ℕ) (end : Status) → k < rounds → status_at k rounds end ≡ Whole
status_whole k rounds end below = cond-true (nat_lt k rounds) Whole (cond (k == rounds) end Pending) (lt-ltb k rounds below)

-- at the round after its complete ones a source stands as its stream does
pub status_end : (k rounds : ℕ) (end : Status) → k ≡ rounds → status_at k rounds end ≡ end
status_end k rounds end same =
    cond-false (nat_lt k rounds) Whole (cond (k == rounds) end Pending) (le-ltb k rounds (omega (arith, same)))
    ∙ cond-true (k == rounds) end Pending (eq-eqb k rounds same)

-- the end of a main stream is never a whole round
pub stream_ends : (state : StreamState) → is_whole (stream_end state) ≡ false
stream_ends stream.Reading = refl
stream_ends stream.Closed = refl
stream_ends (stream.Bad f) = refl

-- the end of a channel is never a whole round
pub channel_ends : (state : ChannelState) → is_whole (channel_end state) ≡ false
channel_ends channel.Reading = refl
channel_ends channel.Closed = refl
channel_ends (channel.Bad f) = refl

-- a source that has neither a fault nor more to come
pub sound : (s : Status) → is_pending s ≡ false → fault_of s ≡ None → (s ≡ Whole) ⊎ (s ≡ Clean)
sound Whole p f = inl refl
sound Clean p f = inr refl
sound (Bad fault) p f = absurd cc
sound Pending p f = absurd cc

-- ---- a source that is clean

-- a round after the one that a source has come to is pending
pub status_behind : (k rounds : ℕ) (end : Status) → rounds < k → status_at k rounds end ≡ Pending
status_behind k rounds end below = elim (cases_Bool (k == rounds)) [
  | inl e ↦ absurd (let same : k ≡ rounds = eqb-true k rounds e in omega (arith, same, below))
  | inr ne ↦
      cond-false (nat_lt k rounds) Whole (cond (k == rounds) end Pending) (le-ltb k rounds (omega (arith, below)))
      ∙ cond-false (k == rounds) end Pending ne
]

-- a source is clean at a round only if it has come to it and its stream ends cleanly
pub clean_at : (k n : ℕ) (end : Status) → is_clean (status_at k n end) ≡ true → (k ≡ n) × (is_clean end ≡ true)
clean_at k n end clean = elim (cases_order k n) [
  | inl e ↦ (e, sym (ap is_clean (status_end k n end e)) ∙ clean)
  | inr ne ↦ elim ne [
    | inl lt ↦ absurd (let w : is_clean (status_at k n end) ≡ false = ap is_clean (status_whole k n end lt) in cc)
    | inr gt ↦ absurd (let w : is_clean (status_at k n end) ≡ false = ap is_clean (status_behind k n end gt) in cc)
  ]
]

-- a main stream that ends cleanly is closed
pub stream_closed : (ended : Bool) (s : StreamState) → is_clean (stream_end (state_at ended s)) ≡ true → s ≡ stream.Closed
stream_closed true stream.Reading clean = absurd cc
stream_closed false stream.Reading clean = absurd cc
stream_closed true stream.Closed clean = refl
stream_closed false stream.Closed clean = refl
stream_closed true (stream.Bad f) clean = absurd cc
stream_closed false (stream.Bad f) clean = absurd cc

-- a channel that ends cleanly is closed
pub channel_closed : (s : ChannelState) → is_clean (channel_end s) ≡ true → s ≡ channel.Closed
channel_closed channel.Reading clean = absurd cc
channel_closed channel.Closed clean = refl
channel_closed (channel.Bad f) clean = absurd cc

-- ---- tests of lists

-- a test that each element passes is passed by the list
pub all_pass : {X : Type 0} (test : X → Bool) (xs : List X) → All (λ x. test x ≡ true) xs → list_all test xs ≡ true
all_pass test [] all = refl
all_pass test (x ∷ xs) all =
    rw (All-head (λ y. test y ≡ true) x xs all, all_pass test xs (All-tail (λ y. test y ≡ true) x xs all)) refl

-- a test that a whole list passes is passed by each element
pub passes_all : {X : Type 0} (test : X → Bool) (xs : List X) → list_all test xs ≡ true → All (λ x. test x ≡ true) xs
passes_all test [] e = All-nil (λ y. test y ≡ true)
passes_all test (x ∷ xs) e =
    let parts = and_parts (test x) (list_all test xs) e in
    All-cons (λ y. test y ≡ true) x xs parts.0 (passes_all test xs parts.1)

-- if no element is found, each one fails the test
pub find_none : {X : Type 0} (test : X → Bool) (xs : List X) → find test xs ≡ None → All (λ x. test x ≡ false) xs
find_none test [] e = All-nil (λ y. test y ≡ false)
find_none test (x ∷ xs) e = elim (cases_Bool (test x)) [
  | inl t ↦ let found : Some x ≡ None = sym (cond-true (test x) (Some x) (find test xs) t) ∙ e in absurd cc
  | inr f ↦ All-cons (λ y. test y ≡ false) x xs f (find_none test xs (sym (cond-false (test x) (Some x) (find test xs) f) ∙ e))
]

-- if each element fails the test, none is found
pub finds_none : {X : Type 0} (test : X → Bool) (xs : List X) → All (λ x. test x ≡ false) xs → find test xs ≡ None
finds_none test [] all = refl
finds_none test (x ∷ xs) all =
    cond-false (test x) (Some x) (find test xs) (All-head (λ y. test y ≡ false) x xs all)
    ∙ finds_none test xs (All-tail (λ y. test y ≡ false) x xs all)

-- ---- the first answer

-- none of some answers is there
pub first_none : {X : Type 0} (o : Option X) (os : List (Option X)) → first_some (o ∷ os) ≡ None → (o ≡ None) × (first_some os ≡ None)
first_none None os e = (refl, e)
first_none (Some x) os e = absurd cc

-- each one that is there is of a kind
pub first_is : {X : Type 0} (P : X → Type 0) (os : List (Option X)) (x : X) → All (λ o. (y : X) → o ≡ Some y → P y) os → first_some os ≡ Some x → P x
first_is P [] x all e = absurd cc
first_is P (None ∷ os) x all e = first_is P os x (All-tail (λ o. (y : _) → o ≡ Some y → P y) None os all) e
first_is P (Some z ∷ os) x all e = All-head (λ o. (y : _) → o ≡ Some y → P y) (Some z) os all x e
