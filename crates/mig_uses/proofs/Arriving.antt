-- What has arrived of a sender's streams, after bytes were appended.
use Rattle.std.proofs.Common.{ℕ, ◌≡◌, ◌<◌, ◌≤◌, ◌+◌, List, [], ◌++◌, length, map, replicate, get_or, refl, sym, ap, subst, ◌∙◌, inl, inr, arith, Bool, false}
use Rattle.std.specs.Prelude.{Vec, Result, Ok, Err, OnOk, ◌==◌, if◌then◌else◌}
use Rattle.std.specs.List.{slice_set, range_with_len}
use Rattle.std.proofs.lemmas.List.{length-map, length-set, map-set, get_or-map, get_or-set_other, ext_get_or}
use Rattle.std.proofs.lemmas.List.FromFn.{get_or-map-range_with_len, length-map-range_with_len}
use Rattle.std.proofs.lemmas.Grind.{get_or-set_at}
use Rattle.std.proofs.lemmas.Bool.{cases_Bool, eqb-true, eqb-false, ne_eqb}
use Rattle.mig_stream.specs.Written.{FlushPart}
use Rattle.mig_stream.specs.Writer.{HasDrained}
use Rattle.mig_send.specs.DealtRounds.{DealtRound}
use Rattle.mig_send.specs.MultiSending.{MultiSending, Drained, HasSentRounds, KeepsCounts, texts_of}
use Rattle.mig_uses.specs.Migration.{HaveEachAppended}

-- it doesn't matter how what was drained is written down
pub same_drained : (a b : Drained) (s : MultiSending) (rounds : List DealtRound) → a.main ≡ b.main
    → ((j : ℕ) → j < length s.channels → a.channel j ≡ b.channel j)
    → HasSentRounds a s rounds → HasSentRounds b s rounds
same_drained a b s rounds main each sent = record {
  are_dealt = sent.are_dealt;
  are_numbered = sent.are_numbered;
  has_main = subst (λ (bytes : List ℕ). HasDrained bytes s.main (replicate (length rounds) FlushPart)) main sent.has_main;
  has_texts = λ j lt. ap (λ (l : List ℕ). l ++ get_or s.channels j []) (sym (each j lt)) ∙ sent.has_texts j lt;
  has_base = sent.has_base;
  has_rounds = sent.has_rounds;
}

-- one of these byte strings, with bytes appended
pub appended : {A : Type 0} (texts : List (Vec ℕ A)) (at j : ℕ) (new none : Vec ℕ A) (bytes : List ℕ) → at < length texts
    → new.items ≡ (get_or texts at none).items ++ bytes
    → (if j == at then get_or (texts_of texts) j [] ++ bytes else get_or (texts_of texts) j []) ≡ get_or (texts_of (slice_set texts at new)) j []
appended {A} texts at j new none bytes inside is =
    let f : Vec ℕ A → List ℕ = λ (text : Vec ℕ A). text.items in
    let olds : List (List ℕ) = texts_of texts in
    let in_texts : at < length olds = omega (arith, inside, length-map texts f) in
    let there : get_or olds at [] ≡ (get_or texts at none).items = get_or-map f texts at none [] inside in
    let set : texts_of (slice_set texts at new) ≡ slice_set olds at (get_or olds at [] ++ bytes) =
    map-set f texts at new ∙ ap (λ (l : List ℕ). slice_set olds at l) (is ∙ ap (λ (l : List ℕ). l ++ bytes) (sym there)) in
    elim (cases_Bool (j == at)) [
      | inl t ↦ let same : j ≡ at = eqb-true j at t in
          ap (λ (b : Bool). if b then get_or olds j [] ++ bytes else get_or olds j []) t
          ∙ (ap (λ (n : ℕ). get_or olds n [] ++ bytes) same
          ∙ (sym (get_or-set_at olds at j (get_or olds at [] ++ bytes) [] same in_texts) ∙ ap (λ (l : List (List ℕ)). get_or l j []) (sym set)))
      | inr n ↦ ap (λ (b : Bool). if b then get_or olds j [] ++ bytes else get_or olds j []) n
          ∙ (sym (get_or-set_other olds at j (get_or olds at [] ++ bytes) [] (eqb-false j at n)) ∙ ap (λ (l : List (List ℕ)). get_or l j []) (sym set))
    ]

-- one of these byte strings
pub text_at : {A : Type 0} (texts : List (Vec ℕ A)) (i : ℕ) (x : Vec ℕ A) → i < length texts → x ≡ get_or texts i x → x.items ≡ get_or (texts_of texts) i []
text_at {A} texts i x inside is =
    let f : Vec ℕ A → List ℕ = λ (text : Vec ℕ A). text.items in
    ap f is ∙ sym (get_or-map f texts i x [] inside)

-- a sender that kept its counts twice has kept them
pub counts_kept : (a b c : MultiSending) → KeepsCounts a b → KeepsCounts b c → KeepsCounts a c
counts_kept a b c p q = record {
  same_setting = record {
    same_table = q.same_setting.same_table ∙ p.same_setting.same_table;
    same_uuid = q.same_setting.same_uuid ∙ p.same_setting.same_uuid;
    same_limit = q.same_setting.same_limit ∙ p.same_setting.same_limit;
    as_many = q.same_setting.as_many ∙ p.same_setting.as_many;
  };
  same_base = q.same_base ∙ p.same_base;
  same_rounds = q.same_rounds ∙ p.same_rounds;
}

-- what follows of an Ok
pub on_ok : {T E P Q : Type 0} (r : Result T E) → OnOk r P → (P → Q) → OnOk r Q
on_ok (Ok x) holds follows = follows holds
on_ok (Err e) holds follows = tt

-- ---- the rest of each channel

-- the first `n` have their rest appended, and the others are as they were
pub record HaveSoFar (olds rest : List (List ℕ)) (n : ℕ) (news : List (List ℕ)) : Type 0 where
  pub as_many : length news ≡ length olds
  pub before : (j : ℕ) → j < n → get_or news j [] ≡ get_or olds j [] ++ get_or rest j []
  pub behind : (j : ℕ) → n ≤ j → get_or news j [] ≡ get_or olds j []

-- before any rest is appended, the channels are as they were
pub none_so_far : (olds rest : List (List ℕ)) → HaveSoFar olds rest 0 olds
none_so_far olds rest = record { as_many = refl; before = λ j lt. absurd (omega (arith, lt)); behind = λ j ge. refl }

-- if the first `n` channels have their rest, and channel `n` gets its own, `n + 1` have theirs
pub one_more : {A : Type 0} (texts : List (Vec ℕ A)) (olds rest : List (List ℕ)) (n : ℕ) (new none : Vec ℕ A) → n < length texts
    → new.items ≡ (get_or texts n none).items ++ get_or rest n [] → HaveSoFar olds rest n (texts_of texts)
    → HaveSoFar olds rest (n + 1) (texts_of (slice_set texts n new))
one_more {A} texts olds rest n new none inside is so_far =
    let f : Vec ℕ A → List ℕ = λ (text : Vec ℕ A). text.items in
    let news : List (List ℕ) = texts_of (slice_set texts n new) in
    let each = λ (j : ℕ). appended texts n j new none (get_or rest n []) inside is in
    record {
      as_many = length-map (slice_set texts n new) f ∙ (length-set texts n new ∙ (sym (length-map texts f) ∙ so_far.as_many));
      before = λ j lt. elim (cases_Bool (j == n)) [
        | inl t ↦ let same : j ≡ n = eqb-true j n t in
            sym (each j) ∙ (ap (λ (b : Bool). if b then get_or (texts_of texts) j [] ++ get_or rest n [] else get_or (texts_of texts) j []) t
            ∙ (ap (λ (l : List ℕ). l ++ get_or rest n []) (so_far.behind j (omega (arith, same)))
            ∙ ap (λ (k : ℕ). get_or olds j [] ++ get_or rest k []) (sym same)))
        | inr f ↦ let other = eqb-false j n f in
            sym (each j) ∙ (ap (λ (b : Bool). if b then get_or (texts_of texts) j [] ++ get_or rest n [] else get_or (texts_of texts) j []) f
            ∙ so_far.before j (omega (arith, lt, other)))
      ];
      behind = λ j ge.
          let apart : (j == n) ≡ false = ne_eqb j n (omega (arith, ge)) in
          sym (each j) ∙ (ap (λ (b : Bool). if b then get_or (texts_of texts) j [] ++ get_or rest n [] else get_or (texts_of texts) j []) apart
          ∙ so_far.behind j (omega (arith, ge)));
    }

-- if the first `n` channels have their rest, and there are no more than `n`, each has its own
pub all_of_them : (olds rest news : List (List ℕ)) (n : ℕ) → length rest ≤ n → length olds ≡ length rest
    → HaveSoFar olds rest n news → HaveEachAppended olds rest news
all_of_them olds rest news n past same so_far =
    let f : ℕ → List ℕ = λ i. get_or olds i [] ++ get_or rest i [] in
    ext_get_or [] news (map f (range_with_len 0 (length rest))) (so_far.as_many ∙ (same ∙ sym (length-map-range_with_len f 0 (length rest))))
    (λ j lt. let few : j < length rest = omega (arith, lt, so_far.as_many, same) in
    so_far.before j (omega (arith, few, past)) ∙ sym (get_or-map-range_with_len f 0 (length rest) j j [] few (omega arith)))
