-- Of each source some bytes were taken, and the others wait: what a step of one source leaves of
-- this.
use Rattle.std.proofs.Common.{ℕ, zero, suc, ◌≡◌, ◌≢◌, ◌⊎◌, ◌+◌, ◌<◌, Bool, true, false, List, [], ◌∷◌, ◌++◌, append_assoc, length, take, drop, get_or}
use Rattle.std.proofs.Common.{replicate, refl, sym, ap, subst, ◌∙◌, inl, inr, arith}
use Rattle.std.specs.Prelude.{IsFalse}
use Rattle.std.specs.List.{AllZip}
use Rattle.std.proofs.lemmas.Bool.{cases_eq}
use Rattle.std.proofs.lemmas.List.{append-nil, length-append, length-map, length-set, length-replicate, get_or-map, get_or-set_same, get_or-set_other}
use Rattle.std.proofs.lemmas.List.{set-get_or, take-append-drop}
use Rattle.mig_sources.specs.declared.counts.Count.{Count}
use Rattle.mig_sources.specs.declared.source.Source.{Source}
use Rattle.mig_sources.specs.declared.source.Source.TheVariants as source
use Rattle.mig_sources.specs.Sources.{HasSource, no_count, count_of, count_in, counts_in, at_source, feed_step, end_step}
use Rattle.mig_answer.specs.Texts.{Text, Texts, no_text, no_texts, with_piece, over}
use Rattle.mig_answer.specs.Growing.{GoesOn, GoOn}
use Rattle.mig_in_place.specs.Session.{text_of}
use Rattle.mig_in_place.specs.Turns.{number_of}
use Rattle.mig_in_place.proofs.Turning.{same_number, text_same, text_other, texts_long}
use Rattle.mig_sources.proofs.Steps.{fed_goes_on}
use Rattle.mig_session.specs.Sources.{Waits, waiting_of, with_waiting}
use Rattle.mig_session.specs.Loading.{HasRoom, IsPart, AreParts, AllWait}

-- ---- sources

-- two sources are the same, or not
pub same_or_not : (a b : Source) → (a ≡ b) ⊎ (number_of b ≢ number_of a)
same_or_not a b = elim (cases_eq (number_of b) (number_of a)) [
  | inl same ↦ inl (sym (same_number b a same))
  | inr other ↦ inr other
]

-- a source that is there has a number below that of the channels
pub number_few : (from : Source) (texts : Texts) → HasSource (counts_in texts) from → number_of from < length texts.channels + 1
number_few source.Main texts there = omega arith
number_few (source.Channel j) texts there = omega (arith, there, length-map texts.channels count_in)

-- a step of a source leaves the sources that there are
pub there_before : (from other : Source) (step : Text → Text) (texts : Texts) → HasSource (counts_in (at_source from step texts)) other
    → HasSource (counts_in texts) other
there_before from source.Main step texts there = tt
there_before from (source.Channel j) step texts there =
    let n : ℕ = length (at_source from step texts).channels in
    omega (arith, there, length-map (at_source from step texts).channels count_in, length-map texts.channels count_in, texts_long from step texts)

pub there_after : (from other : Source) (step : Text → Text) (texts : Texts) → HasSource (counts_in texts) other
    → HasSource (counts_in (at_source from step texts)) other
there_after from source.Main step texts there = tt
there_after from (source.Channel j) step texts there =
    omega (arith, there, length-map (at_source from step texts).channels count_in, length-map texts.channels count_in, texts_long from step texts)

-- as many streams have the same sources
pub there_too : (a b : Texts) (from : Source) → length a.channels ≡ length b.channels → HasSource (counts_in a) from → HasSource (counts_in b) from
there_too a b source.Main many there = tt
there_too a b (source.Channel j) many there = omega (arith, many, there, length-map a.channels count_in, length-map b.channels count_in)

-- a source's count is that of its stream
pub count_text : (texts : Texts) (from : Source) → HasSource (counts_in texts) from → count_of (counts_in texts) from ≡ count_in (text_of texts from)
count_text texts source.Main there = refl
count_text texts (source.Channel j) there =
    get_or-map count_in texts.channels j no_text no_count (omega (arith, there, length-map texts.channels count_in))

-- no step leaves the streams as they are
pub no_step : (from : Source) (texts : Texts) → at_source from (λ text. text) texts ≡ texts
no_step source.Main texts = refl
no_step (source.Channel j) texts = ap (λ (l : List Text). record texts { channels = l }) (set-get_or texts.channels j no_text)

-- ---- the bytes that wait

pub waiting_same : (from : Source) (bytes : List ℕ) (w : Waits) → number_of from < length w.channels + 1 → waiting_of (with_waiting from bytes w) from ≡ bytes
waiting_same source.Main bytes w few = refl
waiting_same (source.Channel j) bytes w few = get_or-set_same w.channels j bytes [] (omega (arith, few))

pub waiting_other : (from other : Source) (bytes : List ℕ) (w : Waits) → number_of other ≢ number_of from
    → waiting_of (with_waiting from bytes w) other ≡ waiting_of w other
waiting_other source.Main source.Main bytes w ne = absurd (ne refl)
waiting_other source.Main (source.Channel j) bytes w ne = refl
waiting_other (source.Channel i) source.Main bytes w ne = refl
waiting_other (source.Channel i) (source.Channel j) bytes w ne = get_or-set_other w.channels i j bytes [] (λ (e : j ≡ i). ne (ap (λ (k : ℕ). k + 1) e))

pub waits_long : (from : Source) (bytes : List ℕ) (w : Waits) → length (with_waiting from bytes w).channels ≡ length w.channels
waits_long source.Main bytes w = refl
waits_long (source.Channel j) bytes w = length-set w.channels j bytes

-- with the bytes that wait already nothing is changed
pub waiting_still : (from : Source) (w : Waits) → with_waiting from (waiting_of w from) w ≡ w
waiting_still source.Main w = refl
waiting_still (source.Channel j) w = ap (λ (l : List (List ℕ)). record w { channels = l }) (set-get_or w.channels j [])

-- ---- one source

-- a piece waits behind the bytes that wait
pub part_pushed : (w piece : List ℕ) (taken text : Text) → IsFalse text.ended → IsPart w taken text → IsPart (w ++ piece) taken (with_piece piece text)
part_pushed w piece taken text open_ part = record {
  has_bytes = ap (λ (l : List ℕ). l ++ piece) part.has_bytes ∙ append_assoc taken.bytes w piece;
  is_over = λ ended. absurd (let over : text.ended ≡ true = (part.is_over ended).0 in cc);
}

-- the first of the bytes that wait are taken
pub part_taken : (w : List ℕ) (n : ℕ) (taken text : Text) → IsFalse taken.ended → IsPart w taken text → IsPart (drop n w) (with_piece (take n w) taken) text
part_taken w n taken text open_ part = record {
  has_bytes = part.has_bytes ∙ ap (λ (l : List ℕ). taken.bytes ++ l) (sym (take-append-drop n w)) ∙ sym (append_assoc taken.bytes (take n w) (drop n w));
  is_over = λ ended. absurd cc;
}

-- if no byte waits, the end of the stream can be taken
pub part_ended : (w : List ℕ) (taken text : Text) → w ≡ [] → text.ended ≡ true → IsPart w taken text → IsPart w (over taken) text
part_ended w taken text none ended part = record { has_bytes = part.has_bytes; is_over = λ e. (ended, none) }

-- the stream ends
pub part_over : (w : List ℕ) (taken text : Text) → IsPart w taken text → IsPart w taken (over text)
part_over w taken text part = record { has_bytes = part.has_bytes; is_over = λ e. (refl, (part.is_over e).1) }

-- one that hasn't ended wasn't ended
pub part_open : (w : List ℕ) (taken text : Text) → IsFalse text.ended → IsPart w taken text → IsFalse taken.ended
part_open w taken text open_ part = go taken.ended refl
  where
    go : (b : Bool) → taken.ended ≡ b → IsFalse b
    go true e = absurd (let over : text.ended ≡ true = (part.is_over e).0 in cc)
    go false e = refl

pub part_goes : (w : List ℕ) (taken text : Text) → IsPart w taken text → GoesOn taken text
part_goes w taken text part = record {
  more = w;
  has_bytes = part.has_bytes;
  stays_ended = λ e.
      let over = part.is_over e in
      let bytes : text.bytes ≡ taken.bytes = part.has_bytes ∙ ap (λ (l : List ℕ). taken.bytes ++ l) over.1 ∙ append-nil taken.bytes in
      ap (λ (b : Bool). record { bytes = text.bytes; ended = b }) (over.0 ∙ sym e) ∙ ap (λ (l : List ℕ). record { bytes = l; ended = taken.ended }) bytes;
}

-- all was taken
pub part_all : (w : List ℕ) (taken text : Text) → w ≡ [] → taken.ended ≡ text.ended → IsPart w taken text → text ≡ taken
part_all w taken text none ended part =
    let bytes : text.bytes ≡ taken.bytes = part.has_bytes ∙ ap (λ (l : List ℕ). taken.bytes ++ l) none ∙ append-nil taken.bytes in
    ap (λ (b : Bool). record { bytes = text.bytes; ended = b }) (sym ended) ∙ ap (λ (l : List ℕ). record { bytes = l; ended = taken.ended }) bytes

-- the bytes taken of a source, and those that wait, are no more than all
pub part_few : (w : List ℕ) (taken text : Text) → IsPart w taken text → length taken.bytes + length w ≡ length text.bytes
part_few w taken text part = omega (arith, ap (λ (l : List ℕ). length l) part.has_bytes, length-append taken.bytes w)

-- ---- all sources

-- one source takes a step, and what waits of it is replaced
pub parts_at : (from : Source) (bytes : List ℕ) (one all : Text → Text) (w : Waits) (taken texts : Texts) → HasSource (counts_in texts) from
    → IsPart bytes (one (text_of taken from)) (all (text_of texts from)) → AreParts w taken texts
    → AreParts (with_waiting from bytes w) (at_source from one taken) (at_source from all texts)
parts_at from bytes one all w taken texts there part are = record {
  as_many = texts_long from one taken ∙ are.as_many ∙ sym (texts_long from all texts);
  has_waits = waits_long from bytes w ∙ are.has_waits ∙ sym (texts_long from all texts);
  parts = λ other has. here other (there_before from other all texts has) (same_or_not from other);
}
  where
    few : number_of from < length texts.channels + 1
    few = number_few from texts there

    few_taken : number_of from < length taken.channels + 1
    few_taken = omega (arith, few, are.as_many)

    few_waits : number_of from < length w.channels + 1
    few_waits = omega (arith, few, are.has_waits)

    here : (other : Source) → HasSource (counts_in texts) other → (from ≡ other) ⊎ (number_of other ≢ number_of from)
        → IsPart (waiting_of (with_waiting from bytes w) other) (text_of (at_source from one taken) other) (text_of (at_source from all texts) other)
    here other has (inl same) =
        subst (λ (s : Source). IsPart (waiting_of (with_waiting from bytes w) s) (text_of (at_source from one taken) s) (text_of
        (at_source from all texts) s)) same
        (subst (λ (l : List ℕ). IsPart l (text_of (at_source from one taken) from) (text_of (at_source from all texts) from)) (sym
        (waiting_same from bytes w few_waits))
        (subst (λ (t : Text). IsPart bytes t (text_of (at_source from all texts) from)) (sym (text_same from one taken few_taken))
        (subst (λ (t : Text). IsPart bytes (one (text_of taken from)) t) (sym (text_same from all texts few)) part)))
    here other has (inr ne) =
        subst (λ (l : List ℕ). IsPart l (text_of (at_source from one taken) other) (text_of (at_source from all texts) other)) (sym
        (waiting_other from other bytes w ne))
        (subst (λ (t : Text). IsPart (waiting_of w other) t (text_of (at_source from all texts) other)) (sym (text_other from other one taken ne))
        (subst (λ (t : Text). IsPart (waiting_of w other) (text_of taken other) t) (sym (text_other from other all texts ne)) (are.parts other has)))

-- a piece waits
pub parts_pushed : (from : Source) (piece : List ℕ) (w : Waits) (taken texts : Texts) → HasSource (counts_in texts) from → IsFalse (text_of texts from).ended
    → AreParts w taken texts → AreParts (with_waiting from (waiting_of w from ++ piece) w) taken (feed_step from piece texts)
parts_pushed from piece w taken texts there open_ are =
    subst (λ (t : Texts). AreParts (with_waiting from (waiting_of w from ++ piece) w) t (feed_step from piece texts)) (no_step from taken)
    (parts_at from (waiting_of w from ++ piece) (λ text. text) (with_piece piece) w taken texts there
    (part_pushed (waiting_of w from) piece (text_of taken from) (text_of texts from) open_ (are.parts from there)) are)

-- bytes that wait are taken
pub parts_taken : (from : Source) (n : ℕ) (w : Waits) (taken texts : Texts) → HasSource (counts_in texts) from → IsFalse (text_of taken from).ended
    → AreParts w taken texts → AreParts (with_waiting from (drop n (waiting_of w from)) w) (feed_step from (take n (waiting_of w from)) taken) texts
parts_taken from n w taken texts there open_ are =
    let bytes : List ℕ = waiting_of w from in
    subst (λ (t : Texts). AreParts (with_waiting from (drop n bytes) w) (feed_step from (take n bytes) taken) t) (no_step from texts)
    (parts_at from (drop n bytes) (with_piece (take n bytes)) (λ text. text) w taken texts there
    (part_taken bytes n (text_of taken from) (text_of texts from) open_ (are.parts from there)) are)

-- of a piece the first bytes are taken, and the others wait
pub parts_fed : (from : Source) (piece : List ℕ) (n : ℕ) (w : Waits) (taken texts : Texts) → HasSource (counts_in texts) from
    → IsFalse (text_of texts from).ended
    → waiting_of w from ≡ [] → AreParts w taken texts
    → AreParts (with_waiting from (waiting_of w from ++ drop n piece) w) (feed_step from (take n piece) taken) (feed_step from piece texts)
parts_fed from piece n w taken texts there open_ none are =
    let pushed : IsPart piece (text_of taken from) (with_piece piece (text_of texts from)) =
    subst (λ (l : List ℕ). IsPart (l ++ piece) (text_of taken from) (with_piece piece (text_of texts from))) none
    (part_pushed (waiting_of w from) piece (text_of taken from) (text_of texts from) open_ (are.parts from there)) in
    subst (λ (l : List ℕ). AreParts (with_waiting from (l ++ drop n piece) w) (feed_step from (take n piece) taken) (feed_step from piece texts)) (sym none)
    (parts_at from (drop n piece) (with_piece (take n piece)) (with_piece piece) w taken texts there
    (part_taken piece n (text_of taken from) (with_piece piece (text_of texts from))
    (part_open (waiting_of w from) (text_of taken from) (text_of texts from) open_ (are.parts from there)) pushed) are)

-- a source's end is taken
pub parts_ended : (from : Source) (w : Waits) (taken texts : Texts) → HasSource (counts_in texts) from → waiting_of w from ≡ []
    → (text_of texts from).ended ≡ true
    → AreParts w taken texts → AreParts w (end_step from taken) texts
parts_ended from w taken texts there none ended are =
    subst (λ (x : Waits). AreParts x (end_step from taken) texts) (waiting_still from w)
    (subst (λ (t : Texts). AreParts (with_waiting from (waiting_of w from) w) (end_step from taken) t) (no_step from texts)
    (parts_at from (waiting_of w from) over (λ text. text) w taken texts there
    (part_ended (waiting_of w from) (text_of taken from) (text_of texts from) none ended (are.parts from there)) are))

-- a source ends
pub parts_over : (from : Source) (w : Waits) (taken texts : Texts) → HasSource (counts_in texts) from → AreParts w taken texts
    → AreParts w taken (end_step from texts)
parts_over from w taken texts there are =
    subst (λ (x : Waits). AreParts x taken (end_step from texts)) (waiting_still from w)
    (subst (λ (t : Texts). AreParts (with_waiting from (waiting_of w from) w) t (end_step from texts)) (no_step from taken)
    (parts_at from (waiting_of w from) (λ text. text) over w taken texts there
    (part_over (waiting_of w from) (text_of taken from) (text_of texts from) (are.parts from there)) are))

-- a relation at each place of two lists
pub zip_all : {X Y : Type 0} (R : X → Y → Type 0) (xs : List X) (ys : List Y) (x : X) (y : Y) → length xs ≡ length ys
    → ((j : ℕ) → j < length ys → R (get_or xs j x) (get_or ys j y)) → AllZip R xs ys
zip_all R [] [] x y many at = tt
zip_all R [] (b ∷ ys) x y many at = absurd (omega (arith, many))
zip_all R (a ∷ xs) [] x y many at = absurd (omega (arith, many))
zip_all R (a ∷ xs) (b ∷ ys) x y many at =
    (at 0 (omega arith), zip_all R xs ys x y (omega (arith, many)) (λ j below. at (suc j) (omega (arith, below))))

-- the streams taken go on to all
pub parts_go : (w : Waits) (taken texts : Texts) → AreParts w taken texts → GoOn taken texts
parts_go w taken texts are = record {
  main = part_goes w.main taken.main texts.main (are.parts source.Main tt);
  channels = zip_all GoesOn taken.channels texts.channels no_text no_text are.as_many
      (λ j below. part_goes (get_or w.channels j []) (get_or taken.channels j no_text) (get_or texts.channels j no_text)
      (are.parts (source.Channel j) (omega (arith, below, length-map texts.channels count_in))));
}

-- the streams go on with a piece for which there is room
pub room_goes : (texts : Texts) (from : Source) (piece : List ℕ) → HasRoom texts from (length piece) → GoOn texts (feed_step from piece texts)
room_goes texts from piece room =
    fed_goes_on from piece texts room.there (ap (λ (c : Count). c.ended) (count_text texts from room.there) ∙ room.is_open)

-- ---- before the load

none_there : (n : ℕ) (j : ℕ) → get_or (replicate n no_text) j no_text ≡ no_text
none_there zero j = refl
none_there (suc n) zero = refl
none_there (suc n) (suc j) = none_there n j

-- of a load that begins all bytes wait
pub parts_first : (w : Waits) (texts : Texts) → AllWait w texts → AreParts w (no_texts (length texts.channels)) texts
parts_first w texts all = record {
  as_many = length-replicate (length texts.channels) no_text;
  has_waits = ap (λ (l : List (List ℕ)). length l) all.channels ∙ length-map texts.channels (λ text. text.bytes);
  parts = first;
}
  where
    first : (from : Source) → HasSource (counts_in texts) from
        → IsPart (waiting_of w from) (text_of (no_texts (length texts.channels)) from) (text_of texts from)
    first source.Main there = record { has_bytes = sym all.main; is_over = λ e. absurd cc }
    first (source.Channel j) there =
        let here : get_or w.channels j [] ≡ (get_or texts.channels j no_text).bytes =
        ap (λ (l : List (List ℕ)). get_or l j []) all.channels
        ∙ get_or-map (λ text. text.bytes) texts.channels j no_text [] (omega (arith, there, length-map texts.channels count_in)) in
        subst (λ (t : Text). IsPart (get_or w.channels j []) t (get_or texts.channels j no_text)) (sym (none_there (length texts.channels) j))
        (record { has_bytes = sym here; is_over = λ e. absurd cc })
