-- The steps of the sources: the counts of their bytes, and streams that go on.
use Rattle.std.proofs.Common.{zero, suc, ◌++◌, append_assoc, set, replicate, refl, sym, ap, ◌∙◌, arith}
use Rattle.std.specs.Prelude.{ℕ, ◌≡◌, ◌+◌, true, false, List, length, map, get_or, [], ◌∷◌, Bool, IsFalse}
use Rattle.std.specs.List.{AllZip}
use Rattle.std.proofs.lemmas.List.{length-append, append-nil, length-map, get_or-map}
use Rattle.mig_answer.specs.Growing.{GoOn, GoesOn}
use Rattle.mig_answer.specs.Texts.{Text, Texts, no_text, with_piece, over}
use Rattle.mig_sources.specs.declared.counts.Count.{Count}
use Rattle.mig_sources.specs.declared.source.Source.{Source}
use Rattle.mig_sources.specs.declared.source.Source.TheVariants as source
use Rattle.mig_sources.specs.Sources.{feed_step, end_step, with_fed, with_end, HasSource, count_of, no_count, with_count, count_in, counts_in, at_source}

-- ---- how much has come

-- a stream that takes a step has the count that does
channel_stepped : (j : ℕ) (step : Text → Text) (by : Count → Count) (texts : List Text) → ((text : Text) → count_in (step text) ≡ by (count_in text))
    → map count_in (set texts j (step (get_or texts j no_text))) ≡ set (map count_in texts) j (by (get_or (map count_in texts) j no_count))
channel_stepped j step by [] same = refl
channel_stepped zero step by (text ∷ texts) same = ap (λ (c : Count). c ∷ map count_in texts) (same text)
channel_stepped (suc j) step by (text ∷ texts) same = ap (λ (l : List Count). count_in text ∷ l) (channel_stepped j step by texts same)

counts_stepped : (from : Source) (step : Text → Text) (by : Count → Count) (texts : Texts) → ((text : Text) → count_in (step text) ≡ by (count_in text))
    → counts_in (at_source from step texts) ≡ with_count (counts_in texts) from (by (count_of (counts_in texts) from))
counts_stepped source.Main step by texts same = ap (λ (c : Count). record { main = c; channels = map count_in texts.channels }) (same texts.main)
counts_stepped (source.Channel j) step by texts same =
    ap (λ (l : List Count). record { main = count_in texts.main; channels = l }) (channel_stepped j step by texts.channels same)

-- feeding a piece adds its length to the count of its source's bytes
pub counts_fed : (from : Source) (piece : List ℕ) (texts : Texts) → counts_in (feed_step from piece texts) ≡ with_fed (counts_in texts) from (length piece)
counts_fed from piece texts =
    counts_stepped from (with_piece piece) (λ (c : Count). record c { fed = c.fed + length piece }) texts
    (λ (text : Text). ap (λ (n : ℕ). record { fed = n; ended = text.ended }) (length-append text.bytes piece))

-- ending a source sets the end in its count, and changes no other count
pub counts_ended : (from : Source) (texts : Texts) → counts_in (end_step from texts) ≡ with_end (counts_in texts) from
counts_ended from texts = counts_stepped from over (λ (c : Count). record c { ended = true }) texts (λ (text : Text). refl)

pub none_counted : (n : ℕ) → replicate n no_count ≡ map count_in (replicate n no_text)
none_counted zero = refl
none_counted (suc n) = ap (λ (l : List Count). no_count ∷ l) (none_counted n)

-- ---- streams go on

-- a stream goes on to itself
pub stays_same : (text : Text) → GoesOn text text
stays_same text = record { more = []; has_bytes = sym (append-nil text.bytes); stays_ended = λ e. refl }

-- each of some streams goes on to itself
pub all_same : (texts : List Text) → AllZip GoesOn texts texts
all_same [] = tt
all_same (text ∷ texts) = (stays_same text, all_same texts)

-- if one stream goes on with a step, each does where only that one takes it
pub one_goes : (j : ℕ) (step : Text → Text) (texts : List Text) → GoesOn (get_or texts j no_text) (step (get_or texts j no_text))
    → AllZip GoesOn texts (set texts j (step (get_or texts j no_text)))
one_goes j step [] goes = tt
one_goes zero step (text ∷ texts) goes = (goes, all_same texts)
one_goes (suc j) step (text ∷ texts) goes = (stays_same text, one_goes j step texts goes)

-- a source's stream
abbrev text_of : Texts → Source → Text
text_of texts source.Main = texts.main
text_of texts (source.Channel j) = get_or texts.channels j no_text

steps_on : (from : Source) (step : Text → Text) (texts : Texts) → GoesOn (text_of texts from) (step (text_of texts from))
    → GoOn texts (at_source from step texts)
steps_on source.Main step texts goes = record { main = goes; channels = all_same texts.channels }
steps_on (source.Channel j) step texts goes = record { main = stays_same texts.main; channels = one_goes j step texts.channels goes }

is_open : (texts : Texts) (from : Source) → HasSource (counts_in texts) from → IsFalse (count_of (counts_in texts) from).ended
    → (text_of texts from).ended ≡ false
is_open texts source.Main there e = e
is_open texts (source.Channel j) there e =
    sym (ap (λ (c : Count). c.ended) (get_or-map count_in texts.channels j no_text no_count (omega (arith, there, length-map texts.channels count_in)))) ∙ e

-- the streams go on with a piece of a source that exists and hasn't ended
pub fed_goes_on : (from : Source) (piece : List ℕ) (texts : Texts) → HasSource (counts_in texts) from
    → IsFalse (count_of (counts_in texts) from).ended → GoOn texts (feed_step from piece texts)
fed_goes_on from piece texts there open_ =
    let e = is_open texts from there open_ in
    steps_on from (with_piece piece) texts (record { more = piece; has_bytes = refl; stays_ended = λ over. absurd cc })

-- the streams go on as a source ends
pub ended_goes_on : (from : Source) (texts : Texts) → GoOn texts (end_step from texts)
ended_goes_on from texts =
    let text : Text = text_of texts from in
    steps_on from over texts (record {
      more = [];
      has_bytes = sym (append-nil text.bytes);
      stays_ended = λ e. ap (λ (b : Bool). record { bytes = text.bytes; ended = b }) (sym e);
    })

pub goes_then : (a b c : Text) → GoesOn a b → GoesOn b c → GoesOn a c
goes_then a b c one two = record {
  more = one.more ++ two.more;
  has_bytes = two.has_bytes ∙ ap (λ (l : List ℕ). l ++ two.more) one.has_bytes ∙ append_assoc a.bytes one.more two.more;
  stays_ended = λ e. let same : b ≡ a = one.stays_ended e in two.stays_ended (ap (λ (t : Text). t.ended) same ∙ e) ∙ same;
}

pub all_then : (a b c : List Text) → AllZip GoesOn a b → AllZip GoesOn b c → AllZip GoesOn a c
all_then [] [] [] one two = tt
all_then [] [] (z ∷ c) one two = absurd two
all_then [] (y ∷ b) c one two = absurd one
all_then (x ∷ a) [] c one two = absurd one
all_then (x ∷ a) (y ∷ b) [] one two = absurd two
all_then (x ∷ a) (y ∷ b) (z ∷ c) one two = (goes_then x y z one.0 two.0, all_then a b c one.1 two.1)

pub as_many_texts : (a b : List Text) → AllZip GoesOn a b → length a ≡ length b
as_many_texts [] [] go = refl
as_many_texts [] (y ∷ b) go = absurd go
as_many_texts (x ∷ a) [] go = absurd go
as_many_texts (x ∷ a) (y ∷ b) go = ap suc (as_many_texts a b go.1)

-- ---- streams with the same bytes

abbrev pub SameBytes : Text → Text → Type 0
SameBytes a b = b.bytes ≡ a.bytes

-- each stream has the same bytes as itself
pub all_bytes : (texts : List Text) → AllZip SameBytes texts texts
all_bytes [] = tt
all_bytes (text ∷ texts) = (refl, all_bytes texts)

-- with one channel ended, each channel has the bytes that it had
pub same_at : (j : ℕ) (texts : List Text) → AllZip SameBytes texts (set texts j (over (get_or texts j no_text)))
same_at j [] = tt
same_at zero (text ∷ texts) = (refl, all_bytes texts)
same_at (suc j) (text ∷ texts) = (refl, same_at j texts)
