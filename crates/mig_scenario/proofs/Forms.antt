-- What the words of a line say.
use Rattle.std.proofs.Common.{ℕ, ◌≡◌, ◌<◌, ◌&&◌, eqb, nat_le, Bool, true, false, cond, List, [], ◌∷◌, ◌++◌, length, Option, Some, None, refl, sym, ap, ◌∙◌}
use Rattle.std.specs.Prelude.{MatchOption}
use Rattle.std.specs.Borrow.{Bor}
use Rattle.std.specs.Bool.{then_some}
use Rattle.std.specs.List.{list_all, onto_first, join_with_byte}
use Rattle.std.specs.Option.{option_map, option_and_then}
use Rattle.std.specs.Char.{is_digit}
use Rattle.std.specs.Str.Parse.{digits_value}
use Rattle.std.proofs.lemmas.Bool.{and_right}
use Rattle.std.proofs.lemmas.List.Splits.{join_with_byte-slice_split}
use Rattle.mig_scenario.specs.declared.line.Step.{Step}
use Rattle.mig_scenario.specs.Line.{BlockLine, words, number, numbers, is_number, step_of, block_of}
use Rattle.mig_scenario.specs.Seen.{words_of}

-- ---- words

-- a cut at a space, by the words
pub words_cut : (bytes first : List ℕ) (rest : Option (Bor (List ℕ)))
    → MatchOption rest (words bytes ≡ first ∷ []) (λ r. (words bytes ≡ first ∷ words r.now) × (length r.now < length bytes))
    → words bytes ≡ first ∷ words_of rest
words_cut bytes first None h = h
words_cut bytes first (Some r) h = h.0

onto_some : {X : Type 0} (x : X) (parts : List (List X)) → onto_first x parts ≡ [] → ⊥
onto_some x [] h = cc
onto_some x (part ∷ parts) h = cc

piece_some : {X : Type 0} (b : Bool) (x : X) (parts : List (List X)) → cond b ([] ∷ parts) (onto_first x parts) ≡ [] → ⊥
piece_some true x parts h = cc
piece_some false x parts h = onto_some x parts h

-- there is a word
some_word : (bytes : List ℕ) → words bytes ≡ [] → ⊥
some_word [] h = cc
some_word (byte ∷ bytes) h = piece_some (eqb byte 0x20) byte (words bytes) h

-- ---- numbers

abbrev are_digits : List ℕ → Bool
are_digits word = list_all (λ byte. is_digit byte 10) word

space_among : (before after : List ℕ) → are_digits (before ++ 0x20 ∷ after) ≡ false
space_among [] after = refl
space_among (byte ∷ before) after = and_right (is_digit byte 10) (are_digits (before ++ 0x20 ∷ after)) (space_among before after)

-- no number has a space
no_number : (before after : List ℕ) → number (before ++ 0x20 ∷ after) ≡ None
no_number before after =
    let text : List ℕ = before ++ 0x20 ∷ after in
    let sized : Bool = nat_le 1 (length text) && nat_le (length text) 18 in
    let is : is_number text ≡ false = and_right sized (are_digits text) (space_among before after) in
    ap (λ (b : Bool). then_some b (digits_value 10 text)) is

-- ---- steps

-- the step of a name, two numbers and what follows these: some numbers, or one
abbrev more_of : List ℕ → ℕ → ℕ → Option (List ℕ) → Option Step
more_of name b s rest = option_and_then (λ ns. step_of name (b ∷ s ∷ ns)) rest

abbrev third_of : List ℕ → ℕ → ℕ → Option ℕ → Option Step
third_of name b s third = option_and_then (λ n. step_of name (b ∷ s ∷ n ∷ [])) third

one_more : (name : List ℕ) (b s : ℕ) (third : Option ℕ)
    → more_of name b s (option_and_then (λ n. option_map (λ ns. n ∷ ns) (Some [])) third) ≡ third_of name b s third
one_more name b s None = refl
one_more name b s (Some n) = refl

two_more : (name : List ℕ) (b s : ℕ) (third fourth : Option ℕ) (rest : Option (List ℕ))
    → more_of name b s (option_and_then (λ n. option_map (λ ns. n ∷ ns)
    (option_and_then (λ m. option_map (λ ns. m ∷ ns) rest) fourth)) third) ≡ None
two_more name b s None fourth rest = refl
two_more name b s (Some n) None rest = refl
two_more name b s (Some n) (Some m) None = refl
two_more name b s (Some n) (Some m) (Some ns) = refl

third_as : (name : List ℕ) (b s : ℕ) (text : List ℕ) (ws : List (List ℕ)) → words text ≡ ws → join_with_byte 0x20 ws ≡ text
    → more_of name b s (numbers ws) ≡ third_of name b s (number text)
third_as name b s text [] h joined = absurd (some_word text h)
third_as name b s text (w ∷ []) h joined =
    one_more name b s (number w) ∙ ap (λ (t : List ℕ). third_of name b s (number t)) joined
third_as name b s text (w ∷ v ∷ vs) h joined =
    let none : number text ≡ None = ap number (sym joined) ∙ no_number w (join_with_byte 0x20 (v ∷ vs)) in
    two_more name b s (number w) (number v) (numbers vs) ∙ ap (third_of name b s) (sym none)

-- What follows two words says a step where it is one number, and else none.
pub step_of_third : (name : List ℕ) (b s : ℕ) (third : Option (Bor (List ℕ))) (text : Bor (List ℕ)) (said : Option ℕ)
    → third ≡ Some text → said ≡ number text.now
    → option_and_then (λ ns. step_of name (b ∷ s ∷ ns)) (numbers (words_of third))
    ≡ option_and_then (λ n. step_of name (b ∷ s ∷ n ∷ [])) said
step_of_third name b s third text said is told =
    let whole = third_as name b s text.now (words text.now) refl (join_with_byte-slice_split 0x20 text.now) in
    ap (λ (o : Option (Bor (List ℕ))). more_of name b s (numbers (words_of o))) is ∙ (whole ∙ ap (third_of name b s) (sym told))

-- ---- blocks

block_as : (pages text : List ℕ) (ws : List (List ℕ)) → words text ≡ ws → join_with_byte 0x20 ws ≡ text
    → block_of (pages ∷ ws) ≡ option_map (λ n. BlockLine n text) (number pages)
block_as pages text [] h joined = absurd (some_word text h)
block_as pages text (w ∷ ws) h joined = ap (λ (id : List ℕ). option_map (λ n. BlockLine n id) (number pages)) joined

-- the id of a block is what follows its first word
pub block_of_words : (pages id : List ℕ) (all : List (List ℕ)) → all ≡ pages ∷ words id
    → block_of all ≡ option_map (λ n. BlockLine n id) (number pages)
block_of_words pages id all h = ap block_of h ∙ block_as pages id (words id) refl (join_with_byte-slice_split 0x20 id)
