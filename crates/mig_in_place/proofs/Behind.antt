-- The bytes that a main stream's source has behind its end.
use Rattle.std.proofs.Common.{ℕ, ◌≡◌, ◌≢◌, ◌+◌, ◌-◌, ◌<◌, ◌≤◌, Bool, true, false, List, [], ◌++◌, length, take, drop, Some, None, refl, sym, ap, subst, ◌∙◌}
use Rattle.std.proofs.Common.{arith, inl, inr, append_assoc}
use Rattle.std.proofs.Math.Seq.{take-add}
use Rattle.std.proofs.lemmas.Bool.{cases_lt}
use Rattle.std.proofs.lemmas.List.{append-nil, take-append-drop, take-append-le, drop-drop, drop-take, drop_at, length-append, length-take-le}
use Rattle.std.proofs.lemmas.List.Elements.{All-head}
use Rattle.mig_mem.specs.PageSize.{IsPageSize}
use Rattle.mig_mem.specs.Image.{Image}
use Rattle.mig_stream.specs.declared.item.StreamState.{StreamState}
use Rattle.mig_stream.specs.declared.item.StreamState.TheVariants as stream_state
use Rattle.mig_stream.specs.Progress.{StreamProgress, start}
use Rattle.mig_stream.specs.Items.{is_single}
use Rattle.mig_stream.specs.Reading.{Settings, StreamReading, Reads, IsReading, state_at}
use Rattle.mig_stream.specs.Reader.{HasState, IsClosedAt, HasClosedAt}
use Rattle.mig_stream.proofs.Feeding.{reads_short}
use Rattle.mig_stream.proofs.Later.{Reads-more}
use Rattle.mig_stream.proofs.Unique.{one_reading}
use Rattle.mig_stream.proofs.Closing.{closed_is_first}
use Rattle.mig_load_types.specs.Settings.{for_table, main_of, mode_of}
use Rattle.mig_load_types.specs.declared.settings.LoadSettings.{LoadSettings}
use Rattle.mig_load_types.specs.declared.settings.RoundEnd.{RoundEnd}
use Rattle.mig_load_types.specs.declared.settings.RoundEnd.TheVariants.{Flush as by_flush, Eos as by_eos, AsShown as as_shown}
use Rattle.mig_answer.specs.declared.status.Status.TheVariants.{Whole, Pending}
use Rattle.mig_answer.specs.Status.{status_at, stream_end}
use Rattle.mig_answer.specs.Texts.{Texts, Readings}
use Rattle.mig_answer.specs.MultiLoad.{main_at, channels_at, passes}
use Rattle.mig_answer.proofs.Statuses.{status_whole, status_end, stream_ends}
use Rattle.mig_answer.proofs.Judged.{IsWhole, has_round, whole_at}
use Rattle.mig_answer.proofs.OneAnswer.{same_readings}
use Rattle.mig_sources.specs.declared.source.Source.TheVariants as source
use Rattle.mig_in_place.specs.Session.{InPlaceLoad, StandsFor, TakesBytes}
use Rattle.mig_in_place.specs.Turns.{KeptSource, FailsToRead, HasBytes, without_first, Takes, EndsWithTaken, HasBehind}

-- ---- a main stream of which bytes are taken isn't closed

reading_of : (s : StreamState) → stream_end s ≡ Pending → s ≡ stream_state.Reading
reading_of stream_state.Reading e = refl
reading_of stream_state.Closed e = absurd cc
reading_of (stream_state.Bad f) e = absurd cc

pending_reads : (k rounds : ℕ) (state : StreamState) → k ≤ rounds → status_at k rounds (stream_end state) ≡ Pending → state ≡ stream_state.Reading
pending_reads k rounds state few pending = elim (cases_lt k rounds) [
  | inl lt ↦ absurd (let e : Whole ≡ Pending = sym (status_whole k rounds (stream_end state) lt) ∙ pending in cc)
  | inr ge ↦ reading_of state (sym (status_end k rounds (stream_end state) (omega (arith, few, ge))) ∙ pending)
]

not_closed : (over : Bool) (s : StreamState) → state_at over s ≡ stream_state.Reading → s ≢ stream_state.Closed
not_closed true stream_state.Closed e closed = absurd cc
not_closed false stream_state.Closed e closed = absurd cc
not_closed over stream_state.Reading e closed = absurd cc
not_closed over (stream_state.Bad f) e closed = absurd cc

-- a main stream of which a load takes bytes isn't closed
pub takes_open : (given : LoadSettings) (uuid : List ℕ) (first : Image) (texts : Texts) (memory : Image) (load : InPlaceLoad)
    → StandsFor given uuid first texts memory load → Takes source.Main memory load
    → HasClosedAt (main_of (for_table first.table given)) texts.main.bytes None
takes_open given uuid first texts memory load stands t =
    let full : LoadSettings = for_table first.table given in
    let takes : TakesBytes full uuid load.rounds texts source.Main = t.takes given uuid first texts stands in
    let r = stands.runs t.runs in
    let size : IsPageSize full.page_size = stands.is_table.has_page_size in
    let same : r.readings ≡ takes.readings = same_readings full uuid texts r.readings takes.readings size r.are_readings takes.are_readings in
    let main : StreamReading = takes.readings.main in
    let few : load.rounds ≤ length main.rounds =
    has_round load.rounds (length main.rounds) (stream_end main.state) (stream_ends main.state)
    (λ j below. All-head IsWhole (main_at j takes.readings) (channels_at j takes.readings)
    (whole_at takes.readings j (subst (λ (x : Readings). passes j x ≡ true) same (r.have_passed j below)))) in
    let reading : main.state ≡ stream_state.Reading = pending_reads load.rounds (length main.rounds) main.state few takes.is_pending in
    let has = takes.are_readings.has_main in
    (has.found, has.is_reading, not_closed texts.main.ended has.found.state (sym (ap (λ (x : StreamReading). x.state) has.has_end) ∙ reading))

-- ---- the last piece

-- before the first read
pub first_piece : (given : Settings) (main : KeptSource) → main.taken ≡ [] → EndsWithTaken given [] main
first_piece given main none =
    let begin : StreamProgress = start given.frame given.mode given.page_size given.limit given.waiting in
    record {
      before = [];
      has_text = sym none;
      was_open = (
        record { table = None; rounds = []; state = stream_state.Reading },
        record {
          to = begin;
          rest = [];
          reads = reads_short begin [] (omega arith);
          has_table = refl;
          has_rounds = refl;
        },
        λ e. absurd cc,
      );
    }

-- none of the last piece was taken
pub none_of_it : (given : Settings) (text : List ℕ) (main : KeptSource) → main.taken ≡ [] → HasClosedAt given text None → EndsWithTaken given text main
none_of_it given text main none unclosed =
    record { before = text; has_text = sym (append-nil text) ∙ ap (λ (l : List ℕ). text ++ l) (sym none); was_open = unclosed }

-- a piece is read, or waits
pub with_bytes_read : (given : Settings) (text : List ℕ) (old full : KeptSource) → HasBytes old full → HasClosedAt given text None
    → EndsWithTaken given text old → EndsWithTaken given text full
with_bytes_read given text old full has unclosed ends = elim has [
  | inl had ↦ subst (λ (s : KeptSource). EndsWithTaken given text s) (sym had.1) ends
  | inr fills ↦ none_of_it given text full fills.none_taken unclosed
]

-- a main stream that isn't closed, and ends with the bytes taken of its source's last piece, still
-- does after a failed read
pub with_failed_read : (given : Settings) (text : List ℕ) (old new : KeptSource) → FailsToRead old new
    → HasClosedAt given text None → EndsWithTaken given text old → EndsWithTaken given text new
with_failed_read given text old new fails unclosed ends = elim fails.reads_on [
  | inl read ↦ none_of_it given text new read.0 unclosed
  | inr none ↦ subst (λ (s : KeptSource). EndsWithTaken given text s) (sym none.1) ends
]

-- the first n of its bytes are taken
pub with_bytes_taken : (given : Settings) (text : List ℕ) (full : KeptSource) (n : ℕ) → EndsWithTaken given text full
    → EndsWithTaken given (text ++ take n full.waiting) (without_first n full)
with_bytes_taken given text full n ends = record {
  before = ends.before;
  has_text = ap (λ (l : List ℕ). l ++ take n full.waiting) ends.has_text ∙ append_assoc ends.before full.taken (take n full.waiting);
  was_open = ends.was_open;
}

-- ---- the end

abbrev from : Settings → StreamProgress
from given = start given.frame given.mode given.page_size given.limit given.waiting

-- a main stream isn't a single one
pub main_is_not_single : (r : RoundEnd) → is_single (mode_of r) ≡ false
main_is_not_single by_flush = refl
main_is_not_single by_eos = refl
main_is_not_single as_shown = refl

-- a main stream that isn't closed before some bytes is closed behind the first of them, if it is
closed_later : (given : Settings) (before more : List ℕ) (n : ℕ) → is_single given.mode ≡ false → HasClosedAt given before None
    → IsClosedAt given (before ++ more) n → length before < n
closed_later given before more n main unclosed c = elim (cases_lt (length before) n) [
  | inl lt ↦ lt
  | inr le ↦ absurd (
      let s : HasState given (take n before) false stream_state.Closed =
      subst (λ (l : List ℕ). HasState given l false stream_state.Closed) (take-append-le n before more le) by_first in
      let is : IsReading given (take n before) s.0 = s.1 in
      let there : Reads (from given) (take n before) is.to is.rest stream_state.Closed =
      subst (λ (x : StreamState). Reads (from given) (take n before) is.to is.rest x) (sym s.2) is.reads in
      let on = Reads-more (from given) (take n before) is.to is.rest (drop n before) stream_state.Closed (λ e. absurd cc) there in
      let whole : Reads (from given) before is.to (is.rest ++ drop n before) stream_state.Closed =
      subst (λ (x : List ℕ). Reads (from given) x is.to (is.rest ++ drop n before) stream_state.Closed) (take-append-drop n before) on in
      let mine : IsReading given before unclosed.0 = unclosed.1 in
      let same = one_reading (from given) before mine.to is.to mine.rest (is.rest ++ drop n before) unclosed.0.state stream_state.Closed mine.reads whole in
      unclosed.2 same.2
      )
]
  where
    by_first : HasState given (take n (before ++ more)) false stream_state.Closed
    by_first = elim ((closed_is_first given (before ++ more) n c).is_closed) [
      | inl closed ↦ closed
      | inr snapshot ↦ absurd (let clash : true ≡ false = sym (ap is_single snapshot.1) ∙ main in cc)
    ]

-- the bytes of a buffer from a place before those that wait
rest_of : (items : List ℕ) (first a b : ℕ) → first ≤ a → a ≤ b → take (b - first) (drop first items) ≡ drop first (take a items) ++ take (b - a) (drop a items)
rest_of items first a b le within =
    let there : a ≡ first + (a - first) = omega (arith, le) in
    let parts : b - first ≡ (a - first) + (b - a) = omega (arith, le, within) in
    let front : drop first (take a items) ≡ take (a - first) (drop first items) = ap (λ (k : ℕ). drop first (take k items)) there
    ∙ drop-take first (a - first) items in
    let rest : drop (a - first) (drop first items) ≡ drop a items = drop-drop (a - first) first items ∙ ap (λ (k : ℕ). drop k items) (sym there) in
    ap (λ (k : ℕ). take k (drop first items)) parts ∙ take-add (a - first) (b - a) (drop first items)
    ∙ ap (λ (l : List ℕ). take (a - first) (drop first items) ++ take (b - a) l) rest
    ∙ ap (λ (l : List ℕ). l ++ take (b - a) (drop a items)) (sym front)

-- A source whose buffer has these bytes, of which those before a were taken, and those up to b
-- wait. Its stream of so many bytes is closed by the first n of them.
module _ (given : Settings) (text items : List ℕ) (main : KeptSource)
    (a b n : ℕ) (le : a ≤ b) (within : b ≤ length items) (taken : main.taken ≡ take a items) (waits : main.waiting ≡ take (b - a) (drop a items))
    (several : is_single given.mode ≡ false) (ends : EndsWithTaken given text main) (closed : IsClosedAt given text n) where
  pub behind_before : length ends.before < n
  behind_before = closed_later given ends.before main.taken n several ends.was_open (subst (λ (l : List ℕ). IsClosedAt given l n) ends.has_text closed)

  pub as_long : length text ≡ length ends.before + a
  as_long =
      let e : length text ≡ length (ends.before ++ main.taken) = ap (λ (l : List ℕ). length l) ends.has_text in
      let t : length main.taken ≡ length (take a items) = ap (λ (l : List ℕ). length l) taken in
      omega (arith, e, t, length-append ends.before main.taken, length-take-le a items (omega (arith, le, within)))

  -- so many bytes of the buffer were taken behind the end
  pub some_behind : (count first : ℕ) → count + n ≡ length text → first + count ≡ a → HasBehind given text main (Some (take (b - first) (drop first items)))
  some_behind count first all here =
      let at : n ≡ length ends.before + first = omega (arith, as_long, all, here) in
      let cut : drop n text ≡ drop first (take a items) =
      ap (λ (l : List ℕ). drop n l) ends.has_text ∙ ap (λ (k : ℕ). drop k (ends.before ++ main.taken)) at
      ∙ sym (drop-drop first (length ends.before) (ends.before ++ main.taken))
      ∙ ap (λ (l : List ℕ). drop first l) (drop_at ends.before main.taken (length ends.before) refl ∙ taken) in (
        n,
        closed,
        rest_of items first a b (omega (arith, here)) le
            ∙ ap (λ (l : List ℕ). l ++ take (b - a) (drop a items)) (sym cut) ∙ ap (λ (l : List ℕ). drop n text ++ l) (sym waits),
      )
