-- Turns of sources: what waits in a buffer, and what several turns leave.
use Rattle.std.proofs.Common.{ℕ, ◌≡◌, ◌≢◌, ◌+◌, ◌-◌, ◌<◌, ◌≤◌, ◌⊎◌, Bool, true, false, List, [], ◌∷◌, ◌++◌, length, take, drop, set, get_or, refl, sym, ap}
use Rattle.std.proofs.Common.{subst, ◌∙◌, arith, inl, inr, Option, Some, None, Result, Ok, Err, add-zero, append_assoc}
use Rattle.std.specs.Prelude.{◌==◌, IsFalse, IfSome, IfNone}
use Rattle.std.specs.Io.KnownBytes.{Consumes}
use Rattle.std.proofs.KnownBytes.{Consumes-nil, Consumes-trans, Consumes-kept}
use Rattle.std.proofs.Math.Seq.{drop-drop, take-add}
use Rattle.std.proofs.lemmas.Bool.{false≢true, cases_eq, cases_lt, eqb-true}
use Rattle.std.proofs.Math.ListN.{get_or-eq_default}
use Rattle.std.proofs.lemmas.List.{append-nil, drop-take, take-append-drop, take-take, length-take, length-drop, length-append, length-map, length-set}
use Rattle.std.proofs.lemmas.List.{get_or-set_same, get_or-set_other, get_or_default}
use Rattle.std.proofs.lemmas.Slice.Zip.{AllZip-long, length-zip}
use Rattle.mig_mem.specs.Image.{Image}
use Rattle.mig_stream.specs.Reading.{Settings}
use Rattle.mig_load_types.specs.Settings.{for_table, main_of}
use Rattle.mig_load_types.specs.declared.settings.LoadSettings.{LoadSettings}
use Rattle.mig_answer.specs.declared.verdict.Verdict.{Verdict}
use Rattle.mig_answer.specs.declared.verdict.Verdict.TheVariants.{Running}
use Rattle.mig_answer.specs.Texts.{Text, Texts, no_text, with_piece, over}
use Rattle.mig_sources.specs.declared.counts.Count.{Count}
use Rattle.mig_sources.specs.declared.source.Source.{Source}
use Rattle.mig_sources.specs.declared.source.Source.TheVariants as source
use Rattle.mig_sources.specs.Reads.{piece_limit}
use Rattle.mig_sources.specs.Sources.{Counts, HasSource, count_of, no_count, with_count, at_source, feed_step, end_step}
use Rattle.mig_in_place.specs.declared.source_reader.Turn.{Turn}
use Rattle.mig_in_place.specs.declared.source_reader.Turn.TheVariants as turn
use Rattle.mig_in_place.specs.declared.source_reader.TurnFault.{TurnFault}
use Rattle.mig_in_place.specs.declared.source_reader.TurnFault.TheVariants as fault
use Rattle.mig_in_place.specs.Sources.{channel_count, counts_of}
use Rattle.mig_in_place.specs.Session.{InPlaceLoad, StandsFor, text_of}
use Rattle.mig_in_place.specs.Turns.{KeptSource, FindsEnd, FailsToRead, HasBytes, without_first, HasTaken, HasEnded, HasFailedRead, IsOfOther, EndsWithTaken}
use Rattle.mig_in_place.specs.Turns.{HasLastPiece, AtTurns, TakesTurn, TakeTurns, Pumps, Came, came_in, IsOver, ComesTo, HaveCome, KeepsBytes, HasRoom}
use Rattle.mig_in_place.specs.Turns.{TakesNone, NoneIsNext, no_source, number_of, source_in, one_source}
use Rattle.mig_in_place.proofs.Behind.{takes_open, none_of_it, with_bytes_read, with_failed_read, with_bytes_taken}

-- ---- a buffer

-- what was taken with the first n bytes that wait
pub more_taken : (l : List ℕ) (a b n : ℕ) → a + n ≤ b → take (a + n) l ≡ take a l ++ take n (take (b - a) (drop a l))
more_taken l a b n le = take-add a n l ∙ ap (λ (x : List ℕ). take a l ++ x) (sym (take-take n (b - a) (drop a l) (omega (arith, le))))

-- what waits without its first n bytes
pub rest_waits : (l : List ℕ) (a b n : ℕ) → a + n ≤ b → take (b - (a + n)) (drop (a + n) l) ≡ drop n (take (b - a) (drop a l))
rest_waits l a b n le =
    let long : b - a ≡ n + (b - (a + n)) = omega (arith, le) in
    sym (ap (λ (k : ℕ). drop n (take k (drop a l))) long ∙ drop-take n (b - (a + n)) (drop a l) ∙ ap (λ (x : List ℕ). take (b - (a + n)) x) (drop-drop n a l))

-- if n bytes are within those from a to b of a list, a + n is at most b
pub less_waits : (l : List ℕ) (a b n : ℕ) → a ≤ b → b ≤ length l → n ≤ length (take (b - a) (drop a l)) → a + n ≤ b
less_waits l a b n le inside within = omega (arith, length-take (b - a) (drop a l), length-drop a l, le, inside, within)

-- ---- numbers of sources

-- sources with the same number are the same
pub same_number : (a b : Source) → number_of a ≡ number_of b → a ≡ b
same_number source.Main source.Main is = refl
same_number source.Main (source.Channel j) is = absurd (omega (arith, is))
same_number (source.Channel i) source.Main is = absurd (omega (arith, is))
same_number (source.Channel i) (source.Channel j) is = let same : i ≡ j = omega (arith, is) in ap source.Channel same

-- a step of a source that exists is a step of its own stream
pub text_same : (from : Source) (step : Text → Text) (texts : Texts) → number_of from < length texts.channels + 1
    → text_of (at_source from step texts) from ≡ step (text_of texts from)
text_same source.Main step texts lt = refl
text_same (source.Channel j) step texts lt = get_or-set_same texts.channels j (step (get_or texts.channels j no_text)) no_text (omega (arith, lt))

-- a step of a source leaves the stream of each other one as it is
pub text_other : (from other : Source) (step : Text → Text) (texts : Texts) → number_of other ≢ number_of from
    → text_of (at_source from step texts) other ≡ text_of texts other
text_other source.Main source.Main step texts ne = absurd (ne refl)
text_other source.Main (source.Channel j) step texts ne = refl
text_other (source.Channel i) source.Main step texts ne = refl
text_other (source.Channel i) (source.Channel j) step texts ne =
    get_or-set_other texts.channels i j (step (get_or texts.channels i no_text)) no_text (λ (e : j ≡ i). ne (ap (λ (k : ℕ). k + 1) e))

-- a step of a source leaves as many channels as there were
pub texts_long : (from : Source) (step : Text → Text) (texts : Texts) → length (at_source from step texts).channels ≡ length texts.channels
texts_long source.Main step texts = refl
texts_long (source.Channel j) step texts = length-set texts.channels j (step (get_or texts.channels j no_text))

count_same : (from : Source) (c : Count) (counts : Counts) → HasSource counts from → count_of (with_count counts from c) from ≡ c
count_same source.Main c counts has = refl
count_same (source.Channel j) c counts has = get_or-set_same counts.channels j c no_count has

count_other : (from other : Source) (c : Count) (counts : Counts) → number_of other ≢ number_of from
    → count_of (with_count counts from c) other ≡ count_of counts other
count_other source.Main source.Main c counts ne = absurd (ne refl)
count_other source.Main (source.Channel j) c counts ne = refl
count_other (source.Channel i) source.Main c counts ne = refl
count_other (source.Channel i) (source.Channel j) c counts ne = get_or-set_other counts.channels i j c no_count (λ (e : j ≡ i). ne (ap (λ (k : ℕ). k + 1) e))

-- ---- what comes of one source

-- a source that stays as it is loses no byte, and none is taken twice
pub comes_none : (s : KeptSource) (c : Came) → ComesTo s s c c
comes_none s c = record {
  read = [];
  taken = [];
  is_read = Consumes-nil s.remaining;
  none_lost = append-nil s.waiting;
  is_taken = sym (append-nil c.text.bytes);
  is_counted = sym (add-zero c.count.fed);
  is_few = λ few. few;
  ends = inl (refl, refl);
  stays = λ ended. (refl, refl);
}

-- if a source loses no byte in two steps, one after the other, it loses none in both together
pub comes_both : (a b c : KeptSource) (x y z : Came) → ComesTo a b x y → ComesTo b c y z → ComesTo a c x z
comes_both a b c x y z p q = record {
  read = p.read ++ q.read;
  taken = p.taken ++ q.taken;
  is_read = Consumes-trans a.remaining b.remaining c.remaining p.read q.read p.is_read q.is_read;
  none_lost =
      sym (append_assoc a.waiting p.read q.read) ∙ ap (λ (l : List ℕ). l ++ q.read) p.none_lost ∙ append_assoc p.taken b.waiting q.read
      ∙ ap (λ (l : List ℕ). p.taken ++ l) q.none_lost ∙ sym (append_assoc p.taken q.taken c.waiting);
  is_taken = q.is_taken ∙ ap (λ (l : List ℕ). l ++ q.taken) p.is_taken ∙ append_assoc x.text.bytes p.taken q.taken;
  is_counted = (let e = p.is_counted in let f = q.is_counted in omega (arith, e, f, length-append p.taken q.taken));
  is_few = λ few. q.is_few (p.is_few few);
  ends = elim p.ends [
    | inl same ↦ elim q.ends [
      | inl also ↦ inl (also.0 ∙ same.0, also.1 ∙ same.1)
      | inr ended ↦ inr (record { was_open = sym same.1 ∙ ended.was_open; is_ended = ended.is_ended; none_wait = ended.none_wait; is_at_end = ended.is_at_end })
    ]
    | inr ended ↦ (
        let still = q.stays ended.is_ended.1 in
        let there : IsOver x y b = ended in
        inr (subst (λ (w : Came). IsOver x w c) (sym still.1) (subst (λ (s : KeptSource). IsOver x y s) (sym still.0) there))
        )
  ];
  stays = λ ended.
      let first = p.stays ended in
      let unended : y.count.ended ≡ true = ap (λ (w : Came). w.count.ended) first.1 ∙ ended in
      let second = q.stays unended in (second.0 ∙ first.0, second.1 ∙ first.1);
}

-- the bytes that are fed are those that waited, and those that were read
module _ (old full : KeptSource) (has : HasBytes old full) where
  pub filled : (read : List ℕ) × Consumes old.remaining full.remaining read × (old.waiting ++ read ≡ full.waiting)
  filled = elim has [
    | inl had ↦ (
      [],
      subst (λ (s : KeptSource). Consumes old.remaining s.remaining []) (sym had.1) (Consumes-nil old.remaining),
      append-nil old.waiting ∙ ap (λ (s : KeptSource). s.waiting) (sym had.1),
    )
    | inr fills ↦ (full.waiting, fills.is_given, ap (λ (l : List ℕ). l ++ full.waiting) fills.was_empty)
  ]

  pub few_filled : length old.waiting ≤ piece_limit → length full.waiting ≤ piece_limit
  few_filled few = elim has [
    | inl had ↦ subst (λ (s : KeptSource). length s.waiting ≤ piece_limit) (sym had.1) few
    | inr fills ↦ fills.is_piece.is_short
  ]

-- the first n of the bytes were taken
comes_taken : (n : ℕ) (old full : KeptSource) (x y : Came) → HasBytes old full → n ≤ length full.waiting → IsFalse x.count.ended
    → y.text ≡ with_piece (take n full.waiting) x.text → y.count ≡ record x.count { fed = x.count.fed + n } → ComesTo old (without_first n full) x y
comes_taken n old full x y has within unended text count =
    let given = filled old full has in record {
      read = given.0;
      taken = take n full.waiting;
      is_read = given.1;
      none_lost = given.2 ∙ sym (take-append-drop n full.waiting);
      is_taken = ap (λ (t : Text). t.bytes) text;
      is_counted = (
          let e : y.count.fed ≡ x.count.fed + n = ap (λ (c : Count). c.fed) count in
          omega (arith, e, within, length-take n full.waiting)
          );
      is_few = λ few. (let all = few_filled old full has few in omega (arith, all, length-drop n full.waiting));
      ends = inl (ap (λ (t : Text). t.ended) text, ap (λ (c : Count). c.ended) count);
      stays = λ ended. absurd (false≢true (sym unended ∙ ended));
    }

-- the input was at its end, and the source was ended
comes_over : (old new : KeptSource) (x y : Came) → FindsEnd old new → IsFalse x.count.ended → y.text ≡ over x.text
    → y.count ≡ record x.count { ended = true } → ComesTo old new x y
comes_over old new x y finds unended text count = record {
  read = [];
  taken = [];
  is_read = finds.none_given;
  none_lost = append-nil old.waiting ∙ finds.was_empty ∙ sym finds.is_empty;
  is_taken = ap (λ (t : Text). t.bytes) text ∙ sym (append-nil x.text.bytes);
  is_counted = ap (λ (c : Count). c.fed) count ∙ sym (add-zero x.count.fed);
  is_few = λ few. (let e : length new.waiting ≡ 0 = ap (λ (l : List ℕ). length l) finds.is_empty in omega (arith, e));
  ends = inr (record {
    was_open = unended;
    is_ended = (ap (λ (t : Text). t.ended) text, ap (λ (c : Count). c.ended) count);
    none_wait = finds.is_empty;
    is_at_end = finds.is_at_end;
  });
  stays = λ ended. absurd (false≢true (sym unended ∙ ended));
}

-- bytes were read, and none were taken
comes_filled : (old full : KeptSource) (x : Came) → HasBytes old full → IsFalse x.count.ended → ComesTo old full x x
comes_filled old full x has unended =
    let given = filled old full has in record {
      read = given.0;
      taken = [];
      is_read = given.1;
      none_lost = given.2;
      is_taken = sym (append-nil x.text.bytes);
      is_counted = sym (add-zero x.count.fed);
      is_few = few_filled old full has;
      ends = inl (refl, refl);
      stays = λ ended. absurd (false≢true (sym unended ∙ ended));
    }

-- a read failed
comes_failed : (old new : KeptSource) (x : Came) → FailsToRead old new → IsFalse x.count.ended → ComesTo old new x x
comes_failed old new x fails unended = record {
  read = [];
  taken = [];
  is_read = Consumes-kept old.remaining old.remaining new.remaining [] (Consumes-nil old.remaining) fails.is_kept;
  none_lost = append-nil old.waiting ∙ fails.was_empty ∙ sym fails.is_empty;
  is_taken = sym (append-nil x.text.bytes);
  is_counted = sym (add-zero x.count.fed);
  is_few = λ few. (let e : length new.waiting ≡ 0 = ap (λ (l : List ℕ). length l) fails.is_empty in omega (arith, e));
  ends = inl (refl, refl);
  stays = λ ended. absurd (false≢true (sym unended ∙ ended));
}

-- ---- what comes of all sources

-- a running load has a stream for each channel
pub has_texts : (given : LoadSettings) (uuid : List
    ℕ) (first : Image) (texts : Texts) (memory : Image) (s : InPlaceLoad) (from : Source) → StandsFor given uuid first texts memory s → s.verdict ≡ Running
    → HasSource (counts_of s.sources) from → number_of from < length texts.channels + 1
has_texts given uuid first texts memory s source.Main stands runs has = omega arith
has_texts given uuid first texts memory s (source.Channel j) stands runs has =
    let r = stands.runs runs in
    let long = AllZip-long _ _ _ r.channels in
    let as_many = r.as_many in
    omega (arith, long, as_many, length-zip texts.channels r.gave, length-map s.sources.channels channel_count, has)

have_come : {O : Type 0} (from : Source) (old new : AtTurns O) (before after : Texts)
    → new.sources ≡ set old.sources (number_of from) (source_in new.sources from) → length after.channels ≡ length before.channels
    → ((other : Source) → number_of other ≢ number_of from → text_of after other ≡ text_of before other)
    → ((other : Source) → number_of other ≢ number_of from → count_of (counts_of new.load.sources) other ≡ count_of (counts_of old.load.sources) other)
    → ComesTo (source_in old.sources from) (source_in new.sources from) (came_in old before from) (came_in new after from) → HaveCome old new before after
have_come from old new before after stay channels texts counts comes = record {
  same_sources = ap (λ (l : List KeptSource). length l) stay ∙ length-set old.sources (number_of from) (source_in new.sources from);
  same_channels = channels;
  comes = λ other. elim (cases_eq (number_of other) (number_of from)) [
    | inl same ↦ subst (λ (s : Source). ComesTo (source_in old.sources s) (source_in new.sources s) (came_in old before s)
        (came_in new after s)) (sym (same_number other from same)) comes
    | inr ne ↦ (
        let kept : source_in new.sources other ≡ source_in old.sources other =
        ap (λ (l : List KeptSource). get_or l (number_of other) no_source) stay
        ∙ get_or-set_other old.sources (number_of from) (number_of other) (source_in new.sources from) no_source ne in
        let came : came_in new after other ≡ came_in old before other =
        ap (λ (t : Text). let c : Came = record { text = t; count = count_of (counts_of new.load.sources) other } in c) (texts other ne)
        ∙ ap (λ (n : Count). let c : Came = record { text = text_of before other; count = n } in c) (counts other ne) in
        subst (λ (s : KeptSource). ComesTo (source_in old.sources other) s (came_in old before other) (came_in new after other)) (sym kept)
        (subst (λ (c : Came). ComesTo (source_in old.sources other) (source_in old.sources other) (came_in old before other) c)
        (sym came) (comes_none (source_in old.sources other) (came_in old before other)))
        )
  ];
}

-- a state that stays as it is keeps all bytes
pub kept_none : {O : Type 0} (t : AtTurns O) → KeepsBytes t t
kept_none t = λ given uuid first texts stands. (
  texts,
  record { same_sources = refl; same_channels = refl; comes = λ from. comes_none (source_in t.sources from) (came_in t texts from) },
  stands,
  λ last. last,
)

-- two steps that each keep all bytes keep them together
pub kept_both : {O : Type 0} (a b c : AtTurns O) → KeepsBytes a b → KeepsBytes b c → KeepsBytes a c
kept_both a b c p q = λ given uuid first texts stands.
    let x = p given uuid first texts stands in
    let y = q given uuid first x.0 x.2 in (
      y.0,
      record {
        same_sources = y.1.same_sources ∙ x.1.same_sources;
        same_channels = y.1.same_channels ∙ x.1.same_channels;
        comes = λ from. comes_both (source_in a.sources from) (source_in b.sources from) (source_in c.sources from)
            (came_in a texts from) (came_in b x.0 from) (came_in c y.0 from) (x.1.comes from) (y.1.comes from);
      },
      y.2,
      λ last. y.3 (x.3 last),
    )

-- ---- the main stream's last piece

module _ {O : Type 0} (old new : AtTurns O) (given : LoadSettings) (uuid : List
    ℕ) (first : Image) (texts : Texts) (stands : StandsFor given uuid first texts old.memory old.load)
    (last : HasLastPiece given first texts (source_in old.sources source.Main)) where
  abbrev settings : Settings
  settings = main_of (for_table first.table given)

  abbrev bytes : List ℕ
  bytes = texts.main.bytes

  -- a channel has a turn
  last_other : (j : ℕ) → new.sources ≡ set old.sources (j + 1) (source_in new.sources (source.Channel j))
      → HasLastPiece given first texts (source_in new.sources source.Main)
  last_other j stay =
      let kept : source_in new.sources source.Main ≡ source_in old.sources source.Main =
      ap (λ (l : List KeptSource). get_or l 0 no_source) stay
      ∙ get_or-set_other old.sources (j + 1) 0 (source_in new.sources (source.Channel j)) no_source (λ (e : 0 ≡ j + 1). absurd (omega (arith, e))) in
      subst (λ (s : KeptSource). HasLastPiece given first texts s) (sym kept) last

  last_taken : (from : Source) (n : ℕ) (p : HasTaken from n (one_source old from) (one_source new from))
      → new.sources ≡ set old.sources (number_of from) (source_in new.sources from)
      → HasLastPiece given first (feed_step from (take n p.full.waiting) texts) (source_in new.sources source.Main)
  last_taken source.Main n p stay =
      subst (λ (s : KeptSource). EndsWithTaken settings (bytes ++ take n p.full.waiting) s) (sym p.is_left)
      (with_bytes_taken settings bytes p.full n (with_bytes_read settings bytes (source_in old.sources source.Main) p.full p.has_bytes
      (takes_open given uuid first texts old.memory old.load stands p.takes) last))
  last_taken (source.Channel j) n p stay = last_other j stay

  last_ended : (from : Source) → HasEnded from (one_source old from) (one_source new from)
      → new.sources ≡ set old.sources (number_of from) (source_in new.sources from)
      → HasLastPiece given first (end_step from texts) (source_in new.sources source.Main)
  last_ended source.Main p stay =
      none_of_it settings bytes (source_in new.sources source.Main) p.finds_end.none_taken
      (takes_open given uuid first texts old.memory old.load stands p.takes)
  last_ended (source.Channel j) p stay = last_other j stay

  last_failed : (from : Source) → HasFailedRead from (one_source old from) (one_source new from)
      → new.sources ≡ set old.sources (number_of from) (source_in new.sources from)
      → HasLastPiece given first texts (source_in new.sources source.Main)
  last_failed source.Main p stay =
      with_failed_read settings bytes (source_in old.sources source.Main) (source_in new.sources source.Main) p.fails
      (takes_open given uuid first texts old.memory old.load stands p.takes) last
  last_failed (source.Channel j) p stay = last_other j stay

  last_filled : (from : Source) → IsOfOther from (one_source old from) (one_source new from)
      → new.sources ≡ set old.sources (number_of from) (source_in new.sources from)
      → HasLastPiece given first texts (source_in new.sources source.Main)
  last_filled source.Main p stay =
      with_bytes_read settings bytes (source_in old.sources source.Main) (source_in new.sources source.Main) p.has_bytes
      (takes_open given uuid first texts old.memory old.load stands p.takes) last
  last_filled (source.Channel j) p stay = last_other j stay

-- ---- one turn

module _ {O : Type 0} (chooses : O → InPlaceLoad → ℕ → O → Type 0) (from : Source) where
  kept_taken : (n : ℕ) (old new : AtTurns O) → TakesTurn chooses from (Ok (turn.Taken n)) old new → KeepsBytes old new
  kept_taken n old new t = λ given uuid first texts stands.
      let p : HasTaken from n (one_source old from) (one_source new from) = t.turns in
      let bytes : List ℕ = take n p.full.waiting in
      let has : HasSource (counts_of old.load.sources) from = t.is_next.can.has_room.is_there in
      let after : Texts = feed_step from bytes texts in
      let there = has_texts given uuid first texts old.memory old.load from stands p.takes.runs has in
      let count : Count = record (count_of (counts_of old.load.sources) from) { fed = (count_of (counts_of old.load.sources) from).fed + n } in
      let counted : counts_of new.load.sources ≡ with_count (counts_of old.load.sources) from count = p.has_counts in
      let comes : ComesTo (source_in old.sources from) (without_first n p.full) (came_in old texts from) (came_in new after from) =
      comes_taken n (source_in old.sources from) p.full (came_in old texts from) (came_in new after from) p.has_bytes p.is_within p.takes.is_open
      (text_same from (with_piece bytes) texts there)
      (ap (λ (c : Counts). count_of c from) counted ∙ count_same from count (counts_of old.load.sources) has) in (
        after,
        have_come from old new texts after t.others_stay (texts_long from (with_piece bytes) texts)
            (λ other ne. text_other from other (with_piece bytes) texts ne)
            (λ other ne. ap (λ (c : Counts). count_of c other) counted ∙ count_other from other count (counts_of old.load.sources) ne)
            (subst (λ (s : KeptSource). ComesTo (source_in old.sources from) s (came_in old texts from) (came_in new after from)) (sym p.is_left) comes),
        p.steps given uuid first texts stands,
        λ last. last_taken old new given uuid first texts stands last from n p t.others_stay,
      )

  kept_ended : (old new : AtTurns O) → TakesTurn chooses from (Ok turn.Ended) old new → KeepsBytes old new
  kept_ended old new t = λ given uuid first texts stands.
      let p : HasEnded from (one_source old from) (one_source new from) = t.turns in
      let has : HasSource (counts_of old.load.sources) from = t.is_next.can.has_room.is_there in
      let after : Texts = end_step from texts in
      let there = has_texts given uuid first texts old.memory old.load from stands p.takes.runs has in
      let count : Count = record (count_of (counts_of old.load.sources) from) { ended = true } in
      let counted : counts_of new.load.sources ≡ with_count (counts_of old.load.sources) from count = p.has_counts in (
        after,
        have_come from old new texts after t.others_stay (texts_long from over texts) (λ other ne. text_other from other over texts ne)
            (λ other ne. ap (λ (c : Counts). count_of c other) counted ∙ count_other from other count (counts_of old.load.sources) ne)
            (comes_over (source_in old.sources from) (source_in new.sources from) (came_in old texts from) (came_in new after from) p.finds_end p.takes.is_open
            (text_same from over texts there) (ap (λ (c : Counts). count_of c from) counted ∙ count_same from count (counts_of old.load.sources) has)),
        p.steps given uuid first texts stands,
        λ last. last_ended old new given uuid first texts stands last from p t.others_stay,
      )

  -- a turn that leaves the load and the memory as they were
  kept_still : (answer : Result Turn TurnFault) (old new : AtTurns O) → TakesTurn chooses from answer old new → new.load ≡ old.load → new.memory ≡ old.memory
      → ((c : Came) → IsFalse c.count.ended → ComesTo (source_in old.sources from) (source_in new.sources from) c c)
      → ((given : LoadSettings) (uuid : List ℕ) (first : Image) (texts : Texts) → StandsFor given uuid first texts old.memory old.load
      → HasLastPiece given first texts (source_in old.sources source.Main) → HasLastPiece given first texts (source_in new.sources source.Main))
      → KeepsBytes old new
  kept_still answer old new t load memory comes piece = λ given uuid first texts stands.
      let same : (other : Source) → count_of (counts_of new.load.sources) other ≡ count_of (counts_of old.load.sources) other =
      λ other. ap (λ (s : InPlaceLoad). count_of (counts_of s.sources) other) load in
      let came : came_in new texts from ≡ came_in old texts from =
      ap (λ (n : Count). let c : Came = record { text = text_of texts from; count = n } in c) (same from) in (
        texts,
        have_come from old new texts texts t.others_stay refl (λ other ne. refl) (λ other ne. same other)
            (subst (λ (c : Came). ComesTo (source_in old.sources from) (source_in new.sources from) (came_in old texts from) c)
            (sym came) (comes (came_in old texts from) t.is_next.can.takes.is_open)),
        subst (λ (s : InPlaceLoad). StandsFor given uuid first texts new.memory s) (sym load)
            (subst (λ (m : Image). StandsFor given uuid first texts m old.load) (sym memory) stands),
        piece given uuid first texts stands,
      )

  kept_turn : (t : Turn) (old new : AtTurns O) → TakesTurn chooses from (Ok t) old new → KeepsBytes old new
  kept_turn (turn.Taken n) old new t = kept_taken n old new t
  kept_turn turn.Ended old new t = kept_ended old new t
  kept_turn turn.Waits old new t = absurd (t.is_some refl)

  kept_fault : (e : TurnFault) (old new : AtTurns O) → (e ≢ fault.NoMemory) → TakesTurn chooses from (Err e) old new → KeepsBytes old new
  kept_fault fault.Read old new ne t =
      let p = t.turns in
      kept_still (Err fault.Read) old new t p.same_load p.same_memory
      (λ c unended. comes_failed (source_in old.sources from) (source_in new.sources from) c p.fails unended)
      (λ given uuid first texts stands last. last_failed old new given uuid first texts stands last from p t.others_stay)
  kept_fault fault.OtherTable old new ne t =
      let p = t.turns in
      kept_still (Err fault.OtherTable) old new t p.same_load p.same_memory
      (λ c unended. comes_filled (source_in old.sources from) (source_in new.sources from) c p.has_bytes unended)
      (λ given uuid first texts stands last. last_filled old new given uuid first texts stands last from p t.others_stay)
  kept_fault fault.NoMemory old new ne t = absurd (ne refl)

-- ---- all turns

-- some turns, and then one more, are all of the turns with it
pub one_more : {O : Type 0} (chooses : O → InPlaceLoad → ℕ → O → Type 0) (turns : List (Source × Turn)) (t : Source × Turn)
    (a b c : AtTurns O) → TakeTurns chooses turns a b → TakesTurn chooses t.0 (Ok t.1) b c
    → TakeTurns chooses (turns ++ t ∷ []) a c
one_more chooses [] t a b c same taken = (c, subst (λ (x : AtTurns _). TakesTurn chooses t.0 (Ok t.1) x c) same taken, refl)
one_more chooses (s ∷ turns) t a b c (mid, first, rest) taken = (mid, first, one_more chooses turns t mid b c rest taken)

kept_turns : {O : Type 0} (chooses : O → InPlaceLoad → ℕ → O → Type 0) (turns : List (Source × Turn)) (old new : AtTurns O)
    → TakeTurns chooses turns old new → KeepsBytes old new
kept_turns chooses [] old new same = subst (λ (t : AtTurns _). KeepsBytes old t) (sym same) (kept_none old)
kept_turns chooses (t ∷ turns) old new (mid, first, rest) =
    kept_both old mid new (kept_turn chooses t.0 t.1 old mid first) (kept_turns chooses turns mid new rest)

-- but for the order
kept_order : {O : Type 0} (old mid : AtTurns O) (order : O) → KeepsBytes old mid → KeepsBytes old (record mid { order = order })
kept_order old mid order p = λ given uuid first texts stands.
    let x = p given uuid first texts stands in
    (x.0, record { same_sources = x.1.same_sources; same_channels = x.1.same_channels; comes = x.1.comes }, x.2, x.3)

-- a pump keeps all bytes, unless an allocation was refused
pub kept_pump : {O : Type 0} (chooses : O → InPlaceLoad → ℕ → O → Type 0) (most : ℕ) (result : Result Verdict TurnFault)
    (old new : AtTurns O) → Pumps chooses most result old new → result ≢ Err fault.NoMemory
    → KeepsBytes old new
kept_pump chooses most (Ok verdict) old new (turns, mid, taken, few, stops, is) ne =
    let kept = kept_turns chooses turns old mid taken in elim stops [
      | inl all ↦ subst (λ (t : AtTurns _). KeepsBytes old t) (sym all.1) kept
      | inr none ↦ subst (λ (t : AtTurns _). KeepsBytes old t) (sym none.1) (kept_order old mid new.order kept)
    ]
kept_pump chooses most (Err e) old new (turns, mid, from, taken, few, last) ne =
    kept_both old mid new (kept_turns chooses turns old mid taken)
    (kept_fault chooses from e mid new (λ is. ne (ap (λ (x : TurnFault). let r : Result Verdict TurnFault = Err x in r) is)) last)

-- The state of a pump after this many of its turns.
pub record TurnsSoFar {O : Type 0} (chooses : O → InPlaceLoad → ℕ → O → Type 0) (count : ℕ) (old new : AtTurns O) : Type 0 where
  pub turns : List (Source × Turn)
  pub as_many : length turns ≡ count
  pub taken : TakeTurns chooses turns old new

-- after some turns, one more makes the count of turns one higher
pub more_turns : {O : Type 0} (chooses : O → InPlaceLoad → ℕ → O → Type 0) (count : ℕ) (from : Source) (t : Turn)
    (old mid new : AtTurns O) → TurnsSoFar chooses count old mid
    → TakesTurn chooses from (Ok t) mid new → TurnsSoFar chooses (count + 1) old new
more_turns chooses count from t old mid new p taken = record {
  turns = p.turns ++ (from, t) ∷ [];
  as_many = (let e = p.as_many in omega (arith, e, length-append p.turns ((from, t) ∷ [])));
  taken = one_more chooses p.turns (from, t) old mid new p.taken taken;
}

-- ---- whose turn it is

-- of the sources below a number none can have a turn
abbrev pub NoneOpen : ℕ → InPlaceLoad → Type 0
NoneOpen count load = (from : Source) → number_of from < count → HasRoom load from → (memory : Image) → TakesNone from memory load

-- if no source numbered below this one can have a turn, nor this one, none up to it can
pub more_open : (count : ℕ) (load : InPlaceLoad) (here : Source) → number_of here ≡ count
    → (HasRoom load here → (memory : Image) → TakesNone here memory load) → NoneOpen count load → NoneOpen (count + 1) load
more_open count load here is none before from lt = elim (cases_eq (number_of from) (number_of here)) [
  | inl same ↦ subst (λ (s : Source). HasRoom load s → (memory : Image) → TakesNone s memory load) (sym (same_number from here same)) none
  | inr ne ↦ before from (omega (arith, lt, is, ne))
]

-- nor one of which bytes wait
abbrev pub NoneWaits : ℕ → List KeptSource → InPlaceLoad → Type 0
NoneWaits count sources load = (from : Source) → number_of from < count → (source_in sources from).waiting ≢ []
    → HasRoom load from → (memory : Image) → TakesNone from memory load

-- if no source numbered below this one, whose bytes wait, can have a turn, nor this one if its
-- bytes do, none up to it can
pub more_waits : (count : ℕ) (sources : List KeptSource) (load : InPlaceLoad) (here : Source) → number_of here ≡ count
    → ((source_in sources here).waiting ≢ [] → HasRoom load here → (memory : Image) → TakesNone here memory load)
    → NoneWaits count sources load → NoneWaits (count + 1) sources load
more_waits count sources load here is none before from lt = elim (cases_eq (number_of from) (number_of here)) [
  | inl same ↦ subst (λ (s : Source). (source_in sources s).waiting ≢ [] → HasRoom load s → (memory : Image)
      → TakesNone s memory load) (sym (same_number from here same)) none
  | inr ne ↦ before from (omega (arith, lt, is, ne))
]

-- a source has a number below that of all, or nothing of it waits
pub all_waits : (sources : List KeptSource) (load : InPlaceLoad) → NoneWaits (length sources) sources load → (from : Source)
    → (source_in sources from).waiting ≢ [] → HasRoom load from → (memory : Image)
    → TakesNone from memory load
all_waits sources load none from some = elim (cases_lt (number_of from) (length sources)) [
  | inl lt ↦ none from lt some
  | inr ge ↦ absurd (some (ap (λ (s : KeptSource). s.waiting) (get_or-eq_default sources no_source ge)))
]

no_bytes : (l : List ℕ) → length l ≡ 0 → l ≡ []
no_bytes [] e = refl
no_bytes (b ∷ l) e = absurd (omega (arith, e))

-- an element of the slice of sources, and whether bytes of it wait
module _ (sources : List KeptSource) (from : Source) (i : ℕ) (s : KeptSource) (waits : List
    ℕ) (is_empty : Bool) (number : number_of from ≡ i) (below : i < length sources) (at : s ≡ get_or sources i s)
    (value : waits ≡ s.waiting) (empty : is_empty ≡ (length waits == 0)) where
  element : source_in sources from ≡ s
  element = ap (λ (n : ℕ). get_or sources n no_source) number ∙ get_or_default sources i no_source s below ∙ sym at

  pub some_wait : is_empty ≡ false → (source_in sources from).waiting ≢ []
  some_wait not none =
      let gone : waits ≡ [] = value ∙ sym (ap (λ (x : KeptSource). x.waiting) element) ∙ none in
      let so : is_empty ≡ true = empty ∙ ap (λ (l : List ℕ). length l == 0) gone in
      false≢true (sym not ∙ so)

  pub none_wait_there : is_empty ≡ true → (source_in sources from).waiting ≡ []
  none_wait_there so = ap (λ (x : KeptSource). x.waiting) element ∙ sym value ∙ no_bytes waits (eqb-true (length waits) 0 (sym empty ∙ so))

-- if P holds of a Some, and implies Q, then Q holds of it
pub if_some : {T : Type 0} {P Q : T → Type 0} (o : Option T) → IfSome o P → ((x : T) → P x → Q x) → IfSome o Q
if_some None h f = tt
if_some (Some x) h f = f x h

-- if P holds where an option is None, and implies Q, then Q holds there
pub if_none : {T P Q : Type 0} (o : Option T) → IfNone o P → (P → Q) → IfNone o Q
if_none None h f = f h
if_none (Some x) h f = tt

-- ---- where a pump stops

-- a pump whose turns are all done, or whose sources can have none, is answered with the verdict of
-- its load
pub pump_stops : {O : Type 0} (chooses : O → InPlaceLoad → ℕ → O → Type 0) (most count : ℕ)
    (old mid : AtTurns O) (after : O) (verdict : Verdict) → count ≤ most → TurnsSoFar chooses count old mid
    → ((count ≡ most) × (after ≡ mid.order)) ⊎ NoneIsNext chooses mid after → verdict ≡ mid.load.verdict
    → Pumps chooses most (Ok verdict) old (record mid { order = after })
pump_stops {O} chooses most count old mid after verdict le p (inl all) same =
    (p.turns, mid, p.taken, (let e = p.as_many in omega (arith, e, le)), inl (p.as_many ∙ all.0, ap (λ (o : O). record mid { order = o }) all.1), same)
pump_stops chooses most count old mid after verdict le p (inr none) same =
    (p.turns, mid, p.taken, (let e = p.as_many in omega (arith, e, le)), inr (none, refl), same)

-- a pump whose next turn fails, after fewer turns than the most, is answered with that fault
pub pump_fails : {O : Type 0} (chooses : O → InPlaceLoad → ℕ → O → Type 0) (most count : ℕ)
    (old mid new : AtTurns O) (from : Source) (e : TurnFault) → count < most → TurnsSoFar chooses count old mid
    → TakesTurn chooses from (Err e) mid new → Pumps chooses most (Err e) old new
pump_fails chooses most count old mid new from e lt p last = (p.turns, mid, from, p.taken, (let n = p.as_many in omega (arith, n, lt)), last)
