-- A piece of a source is taken in turns, round after round.
use Rattle.std.proofs.Common.{ℕ, ◌≡◌, ◌≢◌, ◌+◌, ◌-◌, ◌<◌, ◌≤◌, Bool, false, List, [], ◌∷◌, length, take, drop, refl, sym, ap, subst, ◌∙◌, inl, inr, arith}
use Rattle.std.specs.Prelude.{◌⊎◌, IsTrue, IsFalse, IfSome, slice_get, Option, Some, None}
use Rattle.std.proofs.lemmas.Bool.{false≢true}
use Rattle.std.proofs.lemmas.List.{length-drop, length-map}
use Rattle.std.proofs.lemmas.Option.{slice_get-get_or}
use Rattle.mig_mem.specs.Image.{Image}
use Rattle.mig_stream.proofs.ZeroRecords.{tail_from}
use Rattle.mig_load_types.specs.Settings.{for_table}
use Rattle.mig_load_types.specs.declared.fault.Origin.TheVariants as origin
use Rattle.mig_load_types.specs.declared.fault.Fault.TheVariants as fault
use Rattle.mig_answer.specs.MultiLoad.{failed}
use Rattle.mig_answer.specs.declared.verdict.Verdict.{Verdict}
use Rattle.mig_answer.specs.declared.verdict.Verdict.TheVariants.{Running, Done, Failed}
use Rattle.mig_answer.specs.Texts.{Texts}
use Rattle.mig_sources.specs.declared.source.Source.{Source}
use Rattle.mig_sources.specs.Sources.{HasSource, with_fed, feed_step, Counts}
use Rattle.mig_sources.specs.declared.source.Source.TheVariants as source
use Rattle.mig_in_place.specs.declared.main_stream.SizeList.{SizeList}
use Rattle.mig_in_place.specs.Sources.{KeptChannel, TellsList, TellsTakes, channel_count, counts_of}
use Rattle.mig_in_place.specs.Session.{InPlaceLoad, StepsOn, JudgesOn, RunsOut, Loading, Loads, Stands, IsJudged, LacksBehind, LacksMemory, TakesBytes}
use Rattle.mig_in_place.specs.Session.{TakesNoMore, with_bytes}
use Rattle.mig_in_place.proofs.Feeding.{fed_more, fed_none, counted_both, counted_none, source_still}
use Rattle.mig_in_place.proofs.Takes.{loads_of, channel_takes}

-- what is left of a piece, as the slice that a turn takes of it
abbrev pub left : List ℕ → ℕ → List ℕ
left piece n = take (length piece - n) (drop n piece)

-- its length
pub length-left : (piece : List ℕ) (n : ℕ) → length (left piece n) ≡ length piece - n
length-left piece n = ap (λ (l : List ℕ). length l) (tail_from piece n) ∙ length-drop n piece

-- So many bytes of the piece were taken so far: by one turn or by several.
pub record TakenSoFar (from : Source) (piece : List ℕ) (n : ℕ) (before : Image) (old : InPlaceLoad) (after : Image) (new : InPlaceLoad) : Type 0 where
  pub is_part : n ≤ length piece
  pub steps : (f : Loading) → Stands f before old → Stands (with_bytes from (take n piece) f) after new
  pub has_counts : counts_of new.sources ≡ with_fed (counts_of old.sources) from n
  pub same_table : new.table ≡ old.table
  pub memory_table : after.table ≡ before.table
  pub more_rounds : old.rounds ≤ new.rounds
  pub settled : old.verdict ≢ Running → (n ≡ 0) × (new ≡ old) × (after ≡ before)
  pub takes_whole : from ≡ source.Main → (n ≡ 0) ⊎ (n ≡ length piece)

-- before the first turn 0 bytes of the piece are taken, and load and memory are unchanged
pub taken_none : (from : Source) (piece : List ℕ) (before : Image) (old : InPlaceLoad) → TakenSoFar from piece 0 before old before old
taken_none from piece before old = record {
  is_part = omega arith;
  steps = λ f stands. subst (λ (texts : Texts). Stands (record f { texts = texts }) before old) (sym (fed_none from f.texts)) stands;
  has_counts = sym (counted_none from (counts_of old.sources));
  same_table = refl;
  memory_table = refl;
  more_rounds = omega arith;
  settled = λ _. (refl, refl, refl);
  takes_whole = λ _. inl refl;
}

-- the first bytes of a piece, and then more of what is left of it
pub left_fed : (from : Source) (piece : List ℕ) (n k : ℕ) (texts : Texts)
    → feed_step from (take k (left piece n)) (feed_step from (take n piece) texts) ≡ feed_step from (take (n + k) piece) texts
left_fed from piece n k texts =
    ap (λ (l : List ℕ). feed_step from (take k l) (feed_step from (take n piece) texts)) (tail_from piece n) ∙ fed_more from piece n k texts

pub more_fed : (from : Source) (piece : List ℕ) (n k : ℕ) (f : Loading)
    → with_bytes from (take k (left piece n)) (with_bytes from (take n piece) f) ≡ with_bytes from (take (n + k) piece) f
more_fed from piece n k f = ap (λ (texts : Texts). record f { texts = texts }) (left_fed from piece n k f.texts)

-- nothing or all of a piece is taken, if a turn takes nothing or all of what is left
whole_turn : (piece : List ℕ) (n k : ℕ) → n ≤ length piece → (n ≡ 0) ⊎ (n ≡ length piece) → (k ≡ 0) ⊎ (k ≡ length (left piece n))
    → (n + k ≡ 0) ⊎ (n + k ≡ length piece)
whole_turn piece n k le (inl none) (inl nothing) = inl (omega (arith, none, nothing))
whole_turn piece n k le (inr all) (inl nothing) = inr (omega (arith, all, nothing))
whole_turn piece n k le at (inr rest) = inr (omega (arith, rest, le, length-left piece n))

-- one turn more, which took some of what was left
pub taken_more : (from : Source) (piece : List ℕ) (n k : ℕ) (before middle last : Image) (old s new : InPlaceLoad)
    → TakenSoFar from piece n before old middle s → TakenSoFar from (left piece n) k middle s last new → TakenSoFar from piece (n + k) before old last new
taken_more from piece n k before middle last old s new at turn = record {
  is_part = (let p = at.is_part in let q = turn.is_part in omega (arith, p, q, length-left piece n));
  steps = λ f stands. subst (λ (h : Loading). Stands h last new) (more_fed from piece n k f)
      (turn.steps (with_bytes from (take n piece) f) (at.steps f stands));
  has_counts = turn.has_counts ∙ ap (λ (x : Counts). with_fed x from k) at.has_counts ∙ counted_both from n k (counts_of old.sources);
  same_table = turn.same_table ∙ at.same_table;
  memory_table = turn.memory_table ∙ at.memory_table;
  more_rounds = (let p = at.more_rounds in let q = turn.more_rounds in omega (arith, p, q));
  settled = λ other.
      let was = at.settled other in
      let here = turn.settled (λ e. other (ap (λ (x : InPlaceLoad). x.verdict) (sym was.1) ∙ e)) in
      let none = was.0 in
      let nothing = here.0 in (omega (arith, none, nothing), here.1 ∙ was.1, here.2 ∙ was.2);
  takes_whole = λ main. whole_turn piece n k at.is_part (at.takes_whole main) (turn.takes_whole main);
}

-- a turn in which no round was judged lawful
pub turn_took : (from : Source) (piece : List ℕ) (k : ℕ) (judged : Bool) (middle last : Image) (s new : InPlaceLoad) → k ≤ length piece
    → StepsOn (feed_step from (take k piece)) middle s last new → counts_of new.sources ≡ with_fed (counts_of s.sources) from k
    → (new.table ≡ s.table) × (last.table ≡ middle.table) → new.rounds ≡ s.rounds
    → (s.verdict ≢ Running → (k ≡ 0) × IsFalse judged × (new ≡ s) × (last ≡ middle)) → (from ≡ source.Main → (k ≡ 0) ⊎ (k ≡ length piece))
    → TakenSoFar from piece k middle s last new
turn_took from piece k judged middle last s new le steps counted table rounds settled whole = record {
  is_part = le;
  steps = λ f stands. steps f.given f.uuid f.first f.texts stands;
  has_counts = counted;
  same_table = table.0;
  memory_table = table.1;
  more_rounds = omega (arith, rounds);
  settled = λ other. let here = settled other in (here.0, here.2, here.3);
  takes_whole = whole;
}

-- a verdict is Running or it isn't
pub running_or_not : (v : Verdict) → (v ≡ Running) ⊎ (v ≢ Running)
running_or_not Running = inl refl
running_or_not Done = inr (λ e. absurd cc)
running_or_not (Failed f) = inr (λ e. absurd cc)

-- a verdict that can't be another one is Running
ran : (v : Verdict) → (v ≢ Running → ⊥) → v ≡ Running
ran v never = elim (running_or_not v) [
  | inl running ↦ running
  | inr other ↦ absurd (never other)
]

-- a load runs if a turn judged its round lawful
pub turn_ran : (v : Verdict) (judged : Bool) → (v ≢ Running → IsFalse judged) → IsTrue judged → v ≡ Running
turn_ran v judged settled lawful = ran v (λ other. false≢true (sym (settled other) ∙ lawful))

-- a turn after which the current round was lawful, and the load went on to the next one
pub turn_judged : (from : Source) (piece : List ℕ) (k : ℕ) (judged : Bool) (middle turn last : Image) (s read new : InPlaceLoad) → k ≤ length piece
    → JudgesOn (feed_step from (take k piece)) middle s turn read → ((f : Loading) → IsJudged f turn read → Stands f last new)
    → counts_of read.sources ≡ with_fed (counts_of s.sources) from k → counts_of new.sources ≡ counts_of read.sources
    → (read.table ≡ s.table) × (turn.table ≡ middle.table) → (new.table ≡ read.table) × (last.table ≡ turn.table)
    → read.rounds ≡ s.rounds → new.rounds ≡ read.rounds + 1
    → (s.verdict ≢ Running → (k ≡ 0) × IsFalse judged × (read ≡ s) × (turn ≡ middle)) → IsTrue judged → (from ≡ source.Main → (k ≡ 0) ⊎ (k ≡ length piece))
    → TakenSoFar from piece k middle s last new
turn_judged from piece k judged middle turn last s read new le judges goes counted same_counts table1 table2 rounds1 rounds2 settled lawful whole = record {
  is_part = le;
  steps = λ f stands. goes (with_bytes from (take k piece) f) (judges f.given f.uuid f.first f.texts stands);
  has_counts = same_counts ∙ counted;
  same_table = table2.0 ∙ table1.0;
  memory_table = table2.1 ∙ table1.1;
  more_rounds = omega (arith, rounds1, rounds2);
  settled = λ other. absurd (false≢true (sym (settled other).1 ∙ lawful));
  takes_whole = whole;
}

-- ---- what the turns come to

-- the load stands for the bytes taken
pub taken_step : (from : Source) (piece : List ℕ) (n : ℕ) (before after : Image) (old new : InPlaceLoad) → TakenSoFar from piece n before old after new
    → StepsOn (feed_step from (take n piece)) before old after new
taken_step from piece n before after old new at given uuid first texts stands =
    at.steps (record { given = given; uuid = uuid; first = first; texts = texts }) stands

-- an allocation was refused behind them: the load lacks memory on the streams
pub taken_lack : (from : Source) (piece : List ℕ) (n : ℕ) (before middle last : Image) (old s new : InPlaceLoad)
    → RunsOut from (left piece n) middle s last new → TakenSoFar from piece n before old middle s → RunsOut from piece before old last new
taken_lack from piece n before middle last old s new lacks at = record {
  taken = n + lacks.taken;
  is_part = (let p = at.is_part in let q = lacks.is_part in omega (arith, p, q, length-left piece n));
  has_counts = lacks.has_counts ∙ ap (λ (x : Counts). with_fed x from lacks.taken) at.has_counts ∙ counted_both from n lacks.taken (counts_of old.sources);
  lacks = λ given uuid first texts stands.
      let f : Loading = record { given = given; uuid = uuid; first = first; texts = texts } in
      let l = lacks.lacks given uuid first (feed_step from (take n piece) texts) (at.steps f stands) in
      let le = l.1 in (
        n + l.0,
        omega (arith, le),
        subst (λ (t : Texts). LacksMemory given uuid first t last new) (left_fed from piece n l.0 texts) l.2,
      );
}

-- and it ran before them
pub taken_ran : (from : Source) (piece : List ℕ) (n : ℕ) (before middle : Image) (old s : InPlaceLoad) → TakenSoFar from piece n before old middle s
    → s.verdict ≡ Running → old.verdict ≡ Running
taken_ran from piece n before middle old s at runs = ran old.verdict (λ other. other (ap (λ (x : InPlaceLoad). x.verdict) (sym (at.settled other).1) ∙ runs))

-- ---- what a turn needs

-- a source that a load has is still there once some bytes of a piece were taken
pub has_still : (from : Source) (piece : List ℕ) (n : ℕ) (first middle : Image) (old s : InPlaceLoad)
    → TakenSoFar from piece n first old middle s → HasSource (counts_of old.sources) from
    → HasSource (counts_of s.sources) from
has_still from piece n first middle old s at has =
    subst (λ (x : Counts). HasSource x from) (sym at.has_counts) (source_still from n (counts_of old.sources) has)

-- ---- a source that gives nothing waits

-- a source that takes no more before the round is judged takes no bytes
pub takes_none : (from : Source) (f : Loading) (memory : Image) (s : InPlaceLoad) → Loads f memory s
    → HasSource (counts_of s.sources) from → TakesNoMore from s.sources
    → TakesBytes (for_table f.first.table f.given) f.uuid s.rounds f.texts from → ⊥
takes_none source.Main f memory s loads has none takes = none
takes_none (source.Channel j) f memory s loads has none takes = go (slice_get s.sources.channels j) refl none
  where
    no_channel : (channels : List KeptChannel) (i : ℕ) → i < length channels → KeptChannel
    no_channel [] i lt = absurd (omega (arith, lt))
    no_channel (c ∷ channels) i lt = c

    go : (o : Option KeptChannel) → slice_get s.sources.channels j ≡ o → IfSome o (λ c. (l : SizeList) × TellsList s.sources.main l × TellsTakes l c false) → ⊥
    go None is nothing =
        let below : j < length s.sources.channels = (let e = length-map s.sources.channels channel_count in omega (arith, e, has)) in
        let some = slice_get-get_or s.sources.channels j (no_channel s.sources.channels j below) below in absurd cc
    go (Some c) is tells = false≢true ((channel_takes f memory s loads j c tells.0 false is tells.1 tells.2).1 takes)

-- the verdict is set
pub lacks_failed : (from : Source) (piece : List
    ℕ) (before : Image) (old : InPlaceLoad) (memory : Image) (s : InPlaceLoad) (v : Verdict) → v ≡ failed s.rounds origin.Round fault.NoMemory
    → LacksBehind from piece (λ f. Stands f before old) old memory s → RunsOut from piece before old memory (record s { verdict = v })
lacks_failed from piece before old memory s v is lacks = record {
  taken = lacks.taken;
  is_part = lacks.is_part;
  has_counts = lacks.has_counts;
  lacks = λ given uuid first texts stands.
      let f : Loading = record { given = given; uuid = uuid; first = first; texts = texts } in
      let here = lacks.lacks f stands in (
        here.0,
        here.1,
        subst (λ (w : Verdict). LacksMemory given uuid first (feed_step from (take here.0 piece) texts) memory (record s { verdict = w })) (sym is) here.2,
      );
}
