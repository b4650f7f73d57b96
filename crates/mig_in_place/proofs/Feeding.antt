-- A source is fed in several parts.
use Rattle.std.proofs.Common.{ℕ, zero, suc, ◌≡◌, ◌+◌, ◌<◌, Bool, List, [], ◌∷◌, ◌++◌, length, map, set, get_or, take, drop, refl, sym, ap, subst, ◌∙◌}
use Rattle.std.proofs.Common.{append_assoc, arith}
use Rattle.std.proofs.Math.Seq.{take-add}
use Rattle.std.proofs.lemmas.List.{append-nil, length-set}
use Rattle.std.specs.Prelude.{slice_get, Some, Result, Ok, Err, IfOk, OnErr}
use Rattle.mig_answer.specs.Texts.{Text, Texts, no_text, with_piece}
use Rattle.mig_mem.specs.Image.{Image}
use Rattle.mig_in_place.specs.Sources.{KeptChannel, channel_count, counts_of}
use Rattle.mig_in_place.specs.Session.{InPlaceLoad, Loading, Lacks, LacksBehind}
use Rattle.mig_sources.specs.declared.counts.Count.{Count}
use Rattle.mig_sources.specs.declared.source.Source.{Source}
use Rattle.mig_sources.specs.declared.source.Source.TheVariants as source
use Rattle.mig_sources.specs.Sources.{Counts, feed_step, with_fed, no_count, HasSource}

-- ---- bytes

piece_both : (a b : List ℕ) (text : Text) → with_piece b (with_piece a text) ≡ with_piece (a ++ b) text
piece_both a b text = ap (λ (l : List ℕ). record text { bytes = l }) (append_assoc text.bytes a b)

channel_both : (a b : List ℕ) (texts : List Text) (j : ℕ)
    → set (set texts j (with_piece a (get_or texts j no_text))) j
    (with_piece b (get_or (set texts j (with_piece a (get_or texts j no_text))) j no_text)) ≡ set texts j (with_piece (a ++ b) (get_or texts j no_text))
channel_both a b [] j = refl
channel_both a b (text ∷ texts) zero = ap (λ (t : Text). t ∷ texts) (piece_both a b text)
channel_both a b (text ∷ texts) (suc j) = ap (λ (l : List Text). text ∷ l) (channel_both a b texts j)

-- feeding a source some bytes, and then others, is the same as feeding both at once
pub fed_both : (from : Source) (a b : List ℕ) (texts : Texts) → feed_step from b (feed_step from a texts) ≡ feed_step from (a ++ b) texts
fed_both source.Main a b texts = ap (λ (t : Text). record texts { main = t }) (piece_both a b texts.main)
fed_both (source.Channel j) a b texts = ap (λ (l : List Text). record texts { channels = l }) (channel_both a b texts.channels j)

channel_none : (texts : List Text) (j : ℕ) → set texts j (with_piece [] (get_or texts j no_text)) ≡ texts
channel_none [] j = refl
channel_none (text ∷ texts) zero = ap (λ (l : List ℕ). record text { bytes = l } ∷ texts) (append-nil text.bytes)
channel_none (text ∷ texts) (suc j) = ap (λ (l : List Text). text ∷ l) (channel_none texts j)

-- feeding a source no bytes changes no stream
pub fed_none : (from : Source) (texts : Texts) → feed_step from [] texts ≡ texts
fed_none source.Main texts = ap (λ (l : List ℕ). record texts { main = record texts.main { bytes = l } }) (append-nil texts.main.bytes)
fed_none (source.Channel j) texts = ap (λ (l : List Text). record texts { channels = l }) (channel_none texts.channels j)

-- the first n bytes of a piece, and then m more
pub fed_more : (from : Source) (piece : List ℕ) (n m : ℕ) (texts : Texts)
    → feed_step from (take m (drop n piece)) (feed_step from (take n piece) texts) ≡ feed_step from (take (n + m) piece) texts
fed_more from piece n m texts = fed_both from (take n piece) (take m (drop n piece)) texts
    ∙ ap (λ (l : List ℕ). feed_step from l texts) (sym (take-add n m piece))

-- ---- counts

count_both : (a b : ℕ) (c : Count) → record c { fed = (c.fed + a) + b } ≡ record c { fed = c.fed + (a + b) }
count_both a b c = ap (λ (n : ℕ). record c { fed = n }) (omega arith)

counts_both : (a b : ℕ) (counts : List Count) (j : ℕ)
    → set (set counts j (record (get_or counts j no_count) { fed = (get_or counts j no_count).fed + a })) j
    (record (get_or (set counts j (record (get_or counts j no_count) { fed = (get_or counts j no_count).fed + a })) j no_count)
    { fed = (get_or (set counts j (record (get_or counts j no_count) { fed = (get_or counts j no_count).fed + a })) j no_count).fed + b })
    ≡ set counts j (record (get_or counts j no_count) { fed = (get_or counts j no_count).fed + (a + b) })
counts_both a b [] j = refl
counts_both a b (c ∷ counts) zero = ap (λ (x : Count). x ∷ counts) (count_both a b c)
counts_both a b (c ∷ counts) (suc j) = ap (λ (l : List Count). c ∷ l) (counts_both a b counts j)

-- counting a bytes of a source and then b is the same as counting a + b
pub counted_both : (from : Source) (a b : ℕ) (counts : Counts) → with_fed (with_fed counts from a) from b ≡ with_fed counts from (a + b)
counted_both source.Main a b counts = ap (λ (c : Count). record counts { main = c }) (count_both a b counts.main)
counted_both (source.Channel j) a b counts = ap (λ (l : List Count). record counts { channels = l }) (counts_both a b counts.channels j)

counts_none : (counts : List Count) (j : ℕ) → set counts j (record (get_or counts j no_count) { fed = (get_or counts j no_count).fed + 0 }) ≡ counts
counts_none [] j = refl
counts_none (c ∷ counts) zero = ap (λ (n : ℕ). record c { fed = n } ∷ counts) (let e : c.fed + 0 ≡ c.fed = omega arith in e)
counts_none (c ∷ counts) (suc j) = ap (λ (l : List Count). c ∷ l) (counts_none counts j)

-- counting 0 bytes of a source changes no count
pub counted_none : (from : Source) (counts : Counts) → with_fed counts from 0 ≡ counts
counted_none source.Main counts = ap (λ (n : ℕ). record counts { main = record counts.main { fed = n } })
    (let e : counts.main.fed + 0 ≡ counts.main.fed = omega arith in e)
counted_none (source.Channel j) counts = ap (λ (l : List Count). record counts { channels = l }) (counts_none counts.channels j)

-- a source that exists still does once more of its bytes are counted
pub source_still : (from : Source) (n : ℕ) (counts : Counts) → HasSource counts from → HasSource (with_fed counts from n) from
source_still source.Main n counts has = has
source_still (source.Channel j) n counts has =
    (let e = length-set counts.channels j (record
    (get_or counts.channels j no_count) { fed = (get_or counts.channels j no_count).fed + n }) in omega (arith, e, has))

-- ---- one channel

-- an element that was set is the one at its number
pub there : {X : Type 0} (xs : List X) (j : ℕ) (y : X) → j < length xs → slice_get (set xs j y) j ≡ Some y
there [] j y lt = absurd (omega (arith, lt))
there (x ∷ xs) zero y lt = refl
there (x ∷ xs) (suc j) y lt = there xs j y (omega (arith, lt))

-- the count at a channel's place is that channel's count
pub channel_counted : (channels : List KeptChannel) (j : ℕ) (q : KeptChannel) → slice_get channels j ≡ Some q
    → get_or (map channel_count channels) j no_count ≡ channel_count q
channel_counted [] j q is = absurd cc
channel_counted (c ∷ channels) zero q is = ap channel_count (let e : c ≡ q = cc in e)
channel_counted (c ∷ channels) (suc j) q is = channel_counted channels j q is

-- a piece that a channel takes is added to that channel's count alone
pub channel_fed : (channels : List KeptChannel) (j n : ℕ) (q next : KeptChannel) → slice_get channels j ≡ Some q
    → next.reader.fed ≡ q.reader.fed + n → next.reader.ended ≡ q.reader.ended
    → map channel_count (set channels j next) ≡ set (map channel_count channels) j
    (record (get_or (map channel_count channels) j no_count) { fed = (get_or (map channel_count channels) j no_count).fed + n })
channel_fed [] j n q next is fed ended = absurd cc
channel_fed (c ∷ channels) zero n q next is fed ended =
    let e : c ≡ q = cc in
    let count : channel_count next ≡ record (channel_count q) { fed = (channel_count q).fed + n } =
    ap (λ (k : ℕ). record { fed = k; ended = next.reader.ended }) fed ∙ ap (λ (b : Bool). record { fed = q.reader.fed + n; ended = b }) ended in
    ap (λ (x : Count). x ∷ map channel_count channels) (count ∙ ap (λ (x : KeptChannel). record (channel_count x) { fed = (channel_count x).fed + n }) (sym e))
channel_fed (c ∷ channels) (suc j) n q next is fed ended = ap (λ (l : List Count). channel_count c ∷ l) (channel_fed channels j n q next is fed ended)

-- ---- results

-- what holds where a call succeeds may be weakened
pub if_ok : {T E : Type 0} {P Q : T → Type 0} (r : Result T E) → IfOk r P → ((x : T) → P x → Q x) → IfOk r Q
if_ok (Ok x) h f = f x h
if_ok (Err e) h f = tt

-- what holds of an error may be weakened
pub on_err : {T E P Q : Type 0} (r : Result T E) → OnErr r P → (P → Q) → OnErr r Q
on_err (Ok x) h f = tt
on_err (Err e) h f = f h

-- where no byte was taken
pub none_behind : (from : Source) (piece : List ℕ) (Was : Loading → Type 0) (memory : Image) (s : InPlaceLoad)
    → ((f : Loading) → Was f → Lacks f memory s) → LacksBehind from piece Was s memory s
none_behind from piece Was memory s lacks = record {
  taken = 0;
  is_part = omega arith;
  has_counts = sym (counted_none from (counts_of s.sources));
  lacks = λ f was. (0, omega arith, subst (λ (texts : Texts). Lacks (record f { texts = texts }) memory s) (sym (fed_none from f.texts)) (lacks f was));
}
