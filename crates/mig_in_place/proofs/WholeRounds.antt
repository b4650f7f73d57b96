-- A load that keeps whole rounds: what the memory has after each step.
use Rattle.std.proofs.Common.{ℕ, ◌≡◌, ◌≢◌, ◌+◌, ◌-◌, ◌≤◌, Bool, List, [], ◌∷◌, length, map, take, refl, sym, ap, subst, ◌∙◌, Some, arith}
use Rattle.std.specs.Prelude.{IsFalse}
use Rattle.std.specs.List.{AllZip}
use Rattle.std.proofs.lemmas.List.{get_or-set_same, take_all}
use Rattle.std.proofs.lemmas.Option.{same_Some}
use Rattle.mig_mem.specs.PageSize.{IsPageSize}
use Rattle.mig_mem.specs.Image.{Page, Image, IsImage}
use Rattle.mig_mem.specs.Round.{with_rounds}
use Rattle.mig_mem.proofs.Rounds.{rounds_onto as rounds_onto_memory}
use Rattle.mig_packet.specs.Reading.{Settings}
use Rattle.mig_load_types.specs.Settings.{for_table, channel_of}
use Rattle.mig_load_types.specs.declared.settings.LoadSettings.{LoadSettings}
use Rattle.mig_answer.specs.Growing.{GoOn}
use Rattle.mig_answer.specs.Texts.{Text, Texts, no_texts}
use Rattle.mig_answer.specs.declared.verdict.Verdict.TheVariants.{Running}
use Rattle.mig_answer.proofs.Growing.{readings_stay, pass_still}
use Rattle.mig_answer.proofs.OneAnswer.{some_readings}
use Rattle.mig_staged.specs.Staged.{Staging, staged}
use Rattle.mig_sources.specs.declared.source.Source.{Source}
use Rattle.mig_sources.specs.declared.source.Source.TheVariants as source
use Rattle.mig_sources.specs.Sources.{Counts, HasSource, no_count, count_of, count_in, counts_in, with_fed, feed_step, end_step}
use Rattle.mig_sources.specs.declared.counts.Count.{Count}
use Rattle.mig_sources.proofs.Steps.{fed_goes_on, ended_goes_on}
use Rattle.mig_in_place.specs.Sources.{KeptChannel, KeptSources, HasGiven, channel_count, main_count, counts_of}
use Rattle.mig_in_place.specs.Session.{InPlaceLoad, Loading, HaveTaken, Stands, IsJudged, JudgesOn, with_bytes}
use Rattle.mig_in_place.specs.WholeRounds.{HasRoundsAlone, KeepsRounds}
use Rattle.mig_in_place.proofs.Advancing.{has_next, passed_next}
use Rattle.mig_in_place.proofs.Feeding.{fed_none, source_still}
use Rattle.mig_in_place.proofs.Turns.{left, length-left, left_fed, more_fed, TakenSoFar, taken_none, taken_more}
use Rattle.mig_in_place.proofs.Waiting.{same_rounds_onto}

-- of the streams that a load stands for
abbrev pub Alone : Loading → ℕ → Image → Type 0
Alone f k memory = HasRoundsAlone (for_table f.first.table f.given) f.uuid f.first f.texts k memory

-- rounds that a memory has stay if the streams go on
pub alone_goes : (given : LoadSettings) (uuid : List ℕ) (first : Image) (old new : Texts) (k : ℕ) (memory : Image)
    → IsPageSize given.page_size → GoOn old new → HasRoundsAlone given uuid first old k memory → HasRoundsAlone given uuid first new k memory
alone_goes given uuid first old new k memory size goes has =
    let now = some_readings given uuid new size in
    let stay = readings_stay given uuid old new has.readings now.0 size goes has.are_readings now.1 in
    record {
      readings = now.0;
      are_readings = now.1;
      have_passed = pass_still has.readings now.0 k stay has.have_passed;
      has_rounds = has.has_rounds ∙ ap (λ (l : List (List Page)). with_rounds first l) (sym (same_rounds_onto first k has.readings now.0 stay has.have_passed));
    }

-- the counts of each channel's reader are those of the bytes that it took
given_counted : (given : Settings) (texts : List Text) (channels : List KeptChannel) → AllZip (HasGiven given) texts channels
    → map channel_count channels ≡ map count_in texts
given_counted given [] [] taken = refl
given_counted given [] (c ∷ channels) taken = absurd taken
given_counted given (text ∷ texts) [] taken = absurd taken
given_counted given (text ∷ texts) (c ∷ channels) taken =
    let here : channel_count c ≡ count_in text =
    ap (λ (n : ℕ). record { fed = n; ended = c.reader.ended }) taken.0.1.has_fed
    ∙ ap (λ (b : Bool). record { fed = length text.bytes; ended = b }) taken.0.2 in
    ap (λ (x : Count). x ∷ map channel_count channels) here ∙ ap (λ (l : List Count). count_in text ∷ l) (given_counted given texts channels taken.1)

-- the counts of a load's readers are those of the streams that it took
pub taken_counts : (given : LoadSettings) (uuid : List ℕ) (texts : Texts) (s : KeptSources) → HaveTaken given uuid texts s → counts_of s ≡ counts_in texts
taken_counts given uuid texts s taken =
    let m : main_count s.main ≡ count_in texts.main =
    ap (λ (n : ℕ). record { fed = n; ended = s.main.reader.ended }) taken.main.has_fed
    ∙ ap (λ (b : Bool). record { fed = length texts.main.bytes; ended = b }) taken.main.has_ended in
    ap (λ (x : Count). record { main = x; channels = map channel_count s.channels }) m
    ∙ ap (λ (l : List Count). record { main = count_in texts.main; channels = l })
    (given_counted (channel_of given uuid (length texts.channels)) texts.channels s.channels taken.channels)

-- the streams of a load go on with bytes of a source that exists and hasn't ended
pub fed_goes : (f : Loading) (memory : Image) (s : InPlaceLoad) (from : Source) (piece : List ℕ) → Stands f memory s
    → HasSource (counts_of s.sources) from → IsFalse (count_of (counts_of s.sources) from).ended → GoOn f.texts (feed_step from piece f.texts)
fed_goes f memory s from piece stands there open_ =
    let same : counts_of s.sources ≡ counts_in f.texts = taken_counts (for_table f.first.table f.given) f.uuid f.texts s.sources stands.have_taken in
    fed_goes_on from piece f.texts (subst (λ (c : Counts). HasSource c from) same there)
    (subst (λ (c : Counts). IsFalse (count_of c from).ended) same open_)

-- before the first byte a memory has no round
pub alone_first : (given : LoadSettings) (uuid : List ℕ) (first : Image) (n : ℕ) → IsPageSize given.page_size → IsImage first
    → HasRoundsAlone given uuid first (no_texts n) 0 first
alone_first given uuid first n size is =
    let now = some_readings given uuid (no_texts n) size in
    record {
      readings = now.0;
      are_readings = now.1;
      have_passed = λ j below. absurd (omega (arith, below));
      has_rounds = sym (rounds_onto_memory.none first is);
    }

-- and it has the same rounds once a source ends
pub alone_ended : (from : Source) (memory kept : Image) (old new : InPlaceLoad) → new.rounds ≡ old.rounds → KeepsRounds (end_step from) memory kept old kept new
alone_ended from memory kept old new rounds given uuid first texts stands alone =
    subst (λ (r : ℕ). HasRoundsAlone (for_table first.table given) uuid first (end_step from texts) r kept) (sym rounds)
    (alone_goes (for_table first.table given) uuid first texts (end_step from texts) old.rounds kept stands.is_table.has_page_size
    (ended_goes_on from texts) alone)

-- a round that was judged is there, with those before it
pub alone_judged : (f : Loading) (memory : Image) (s : InPlaceLoad) → IsJudged f memory s → Alone f (s.rounds + 1) memory
alone_judged f memory s j = record {
  readings = j.loads.is_running.readings;
  are_readings = j.loads.is_running.are_readings;
  have_passed = passed_next f memory s j.loads j.is_due j.passes;
  has_rounds = has_next f memory s j.loads j.is_due j.passes;
}

-- ---- a piece of a source is taken in turns, into a memory that keeps the open round apart

-- So many bytes of the piece were taken so far. `kept` and `now` are the memory without the open
-- round: it has the rounds counted alone.
pub record KeptSoFar (from : Source) (piece : List ℕ) (n : ℕ) (before kept : Image) (old : InPlaceLoad) (now : Image) (new : InPlaceLoad) : Type 0 where
  pub keeps : (f : Loading) → Stands f before old → Alone f old.rounds kept → Alone (with_bytes from (take n piece) f) new.rounds now
  pub same_table : now.table ≡ kept.table
  pub settled : old.verdict ≢ Running → now ≡ kept

-- So the load stands for them with what it writes into, too.
abbrev pub RoundsSoFar : Source → List ℕ → ℕ → Staging → InPlaceLoad → Staging → InPlaceLoad → Type 0
RoundsSoFar from piece n m old now new = TakenSoFar from piece n (staged m) old (staged now) new × KeptSoFar from piece n (staged m) m.kept old now.kept new

-- before the first turn 0 bytes of the piece are taken
pub rounds_none : (from : Source) (piece : List ℕ) (m : Staging) (old : InPlaceLoad) → RoundsSoFar from piece 0 m old m old
rounds_none from piece m old = (
  taken_none from piece (staged m) old,
  record {
    keeps = λ f stands alone. subst (λ (texts : Texts). Alone (record f { texts = texts }) old.rounds m.kept) (sym (fed_none from f.texts)) alone;
    same_table = refl;
    settled = λ _. refl;
  },
)

-- one turn more, which took some of what was left
pub rounds_more : (from : Source) (piece : List ℕ) (n k : ℕ) (m0 m1 m2 : Staging) (old s new : InPlaceLoad)
    → RoundsSoFar from piece n m0 old m1 s → RoundsSoFar from (left piece n) k m1 s m2 new → RoundsSoFar from piece (n + k) m0 old m2 new
rounds_more from piece n k m0 m1 m2 old s new at turn = (
  taken_more from piece n k (staged m0) (staged m1) (staged m2) old s new at.0 turn.0,
  record {
    keeps = λ f stands alone. subst (λ (h : Loading). Alone h new.rounds m2.kept) (more_fed from piece n k f)
        (turn.1.keeps (with_bytes from (take n piece) f) (at.0.steps f stands) (at.1.keeps f stands alone));
    same_table = turn.1.same_table ∙ at.1.same_table;
    settled = λ other.
        let was = at.0.settled other in
        turn.1.settled (λ e. other (ap (λ (x : InPlaceLoad). x.verdict) (sym was.1) ∙ e)) ∙ at.1.settled other;
  },
)

-- a turn in which no round was judged lawful: the memory stays
pub rounds_took : (from : Source) (piece : List ℕ) (k : ℕ) (m1 m2 : Staging) (s new : InPlaceLoad)
    → HasSource (counts_of s.sources) from → IsFalse (count_of (counts_of s.sources) from).ended → Some m2.kept ≡ Some m1.kept → new.rounds ≡ s.rounds
    → TakenSoFar from piece k (staged m1) s (staged m2) new → RoundsSoFar from piece k m1 s m2 new
rounds_took from piece k m1 m2 s new there open_ kept rounds turn =
    let same : m2.kept ≡ m1.kept = same_Some m2.kept m1.kept kept in (
      turn,
      record {
        keeps = λ f stands alone.
            subst (λ (m : Image). Alone (with_bytes from (take k piece) f) new.rounds m) (sym same)
            (subst (λ (r : ℕ). Alone (with_bytes from (take k piece) f) r m1.kept) (sym rounds)
            (alone_goes (for_table f.first.table f.given) f.uuid f.first f.texts (feed_step from (take k piece) f.texts) s.rounds m1.kept
            stands.is_table.has_page_size (fed_goes f (staged m1) s from (take k piece) stands there open_) alone));
        same_table = ap (λ (m : Image). m.table) same;
        settled = λ _. same;
      },
    )

-- A turn after which the current round was lawful. `m2` is the memory with it, in `m3` it is kept,
-- and in `m4` the next round is open.
pub rounds_judged : (from : Source) (piece : List ℕ) (k : ℕ) (m1 m2 m3 m4 : Staging) (s read new : InPlaceLoad)
    → JudgesOn (feed_step from (take k piece)) (staged m1) s (staged m2) read → m3.kept ≡ staged m2 → Some m4.kept ≡ Some m3.kept
    → (staged m2).table ≡ (staged m1).table → new.rounds ≡ read.rounds + 1 → s.verdict ≡ Running
    → TakenSoFar from piece k (staged m1) s (staged m4) new → RoundsSoFar from piece k m1 s m4 new
rounds_judged from piece k m1 m2 m3 m4 s read new judges keeps kept table rounds runs turn =
    let same : m4.kept ≡ staged m2 = same_Some m4.kept m3.kept kept ∙ keeps in (
      turn,
      record {
        keeps = λ f stands alone.
            let g : Loading = with_bytes from (take k piece) f in
            subst (λ (m : Image). Alone g new.rounds m) (sym same)
            (subst (λ (r : ℕ). Alone g r (staged m2)) (sym rounds) (alone_judged g (staged m2) read (judges f.given f.uuid f.first f.texts stands)));
        same_table = ap (λ (m : Image). m.table) same ∙ table;
        settled = λ other. absurd (other runs);
      },
    )

-- the source is still there
pub taken_source : (from : Source) (piece : List ℕ) (n : ℕ) (before after : Image) (old new : InPlaceLoad)
    → TakenSoFar from piece n before old after new → HasSource (counts_of old.sources) from → HasSource (counts_of new.sources) from
taken_source from piece n before after old new at has =
    subst (λ (x : Counts). HasSource x from) (sym at.has_counts) (source_still from n (counts_of old.sources) has)

-- and isn't ended
pub taken_open : (from : Source) (piece : List ℕ) (n : ℕ) (before after : Image) (old new : InPlaceLoad)
    → TakenSoFar from piece n before old after new → HasSource (counts_of old.sources) from → IsFalse (count_of (counts_of old.sources) from).ended
    → IsFalse (count_of (counts_of new.sources) from).ended
taken_open from piece n before after old new at has open_ =
    subst (λ (x : Counts). IsFalse (count_of x from).ended) (sym at.has_counts) (still from (counts_of old.sources) has open_)
  where
    still : (f : Source) (counts : Counts) → HasSource counts f → IsFalse (count_of counts f).ended → IsFalse (count_of (with_fed counts f n) f).ended
    still source.Main counts there e = e
    still (source.Channel j) counts there e = ap (λ (c : Count). c.ended) (get_or-set_same counts.channels j _ no_count there) ∙ e

-- ---- what the turns come to

-- the memory has the rounds counted
pub rounds_keep : (from : Source) (piece : List ℕ) (n : ℕ) (m0 m : Staging) (old new : InPlaceLoad) → RoundsSoFar from piece n m0 old m new
    → KeepsRounds (feed_step from (take n piece)) (staged m0) m0.kept old m.kept new
rounds_keep from piece n m0 m old new at given uuid first texts stands alone =
    at.1.keeps (record { given = given; uuid = uuid; first = first; texts = texts }) stands alone

-- nothing has changed if the verdict was there
pub rounds_settled : (from : Source) (piece : List ℕ) (n : ℕ) (m0 m : Staging) (old new : InPlaceLoad) → RoundsSoFar from piece n m0 old m new
    → old.verdict ≢ Running → (n ≡ 0) × (new ≡ old) × (staged m ≡ staged m0) × (m.kept ≡ m0.kept)
rounds_settled from piece n m0 m old new at other = let was = at.0.settled other in (was.0, was.1, was.2, at.1.settled other)

-- the bytes behind those taken
rest_fed : (from : Source) (piece : List ℕ) (n : ℕ) (texts : Texts) → n ≤ length piece
    → feed_step from (left piece n) (feed_step from (take n piece) texts) ≡ feed_step from piece texts
rest_fed from piece n texts le =
    let k : ℕ = length piece - n in
    ap (λ (l : List ℕ). feed_step from l (feed_step from (take n piece) texts)) (sym (take_all k (left piece n) (omega (arith, length-left piece n))))
    ∙ left_fed from piece n k texts
    ∙ ap (λ (l : List ℕ). feed_step from l texts) (take_all (n + k) piece (omega (arith, le)))

-- an allocation was refused behind them: the memory has the rounds counted
pub rounds_kept : (from : Source) (piece : List ℕ) (n : ℕ) (m0 m1 m2 : Staging) (old s new : InPlaceLoad) → HasSource (counts_of old.sources) from
    → IsFalse (count_of (counts_of old.sources) from).ended → Some m2.kept ≡ Some m1.kept → new.rounds ≡ s.rounds → RoundsSoFar from piece n m0 old m1 s
    → KeepsRounds (feed_step from piece) (staged m0) m0.kept old m2.kept new
rounds_kept from piece n m0 m1 m2 old s new there open_ kept rounds at given uuid first texts stands alone =
    let f : Loading = record { given = given; uuid = uuid; first = first; texts = texts } in
    let g : Loading = with_bytes from (take n piece) f in
    let all : Texts = feed_step from piece texts in
    let here = taken_source from piece n (staged m0) (staged m1) old s at.0 there in
    let still = taken_open from piece n (staged m0) (staged m1) old s at.0 there open_ in
    let goes : GoOn g.texts all =
    subst (GoOn g.texts) (rest_fed from piece n texts at.0.is_part) (fed_goes g (staged m1) s from (left piece n) (at.0.steps f stands) here still) in
    let last : HasRoundsAlone (for_table first.table given) uuid first all s.rounds m1.kept =
    alone_goes (for_table first.table given) uuid first g.texts all s.rounds m1.kept stands.is_table.has_page_size goes (at.1.keeps f stands alone) in
    subst (λ (r : ℕ). HasRoundsAlone (for_table first.table given) uuid first all r m2.kept) (sym rounds)
    (subst (λ (m : Image). HasRoundsAlone (for_table first.table given) uuid first all s.rounds m) (sym (same_Some m2.kept m1.kept kept)) last)
