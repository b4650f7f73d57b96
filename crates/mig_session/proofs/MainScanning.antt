-- A main stream that is scanned: its complete rounds are dropped and counted, and what its bytes
-- say.
use Rattle.std.proofs.Common.{ℕ, ◌≡◌, ◌+◌, ◌<◌, ◌≤◌, true, false, List, [], length, get_or, refl, sym, ap, subst, ◌∙◌, inl, inr, Option, Some, None, arith}
use Rattle.std.specs.Prelude.{◌↔◌, IfNone, IfSome, is_some}
use Rattle.std.proofs.lemmas.Bool.{cases_lt}
use Rattle.std.proofs.lemmas.List.{length-append}
use Rattle.mig_mem.specs.PageSize.{IsPageSize}
use Rattle.mig_stream.specs.declared.item.StreamState.{StreamState}
use Rattle.mig_stream.specs.PageRecord.{PageRecord}
use Rattle.mig_stream.specs.Progress.{StreamProgress, whole_table}
use Rattle.mig_stream.specs.Reading.{Settings, StreamReading, IsReading, state_at}
use Rattle.mig_stream.specs.Reader.{Reader, Stands, StepsOn, Tells, with_taken, one_taken, HasRound, HasState}
use Rattle.mig_stream.proofs.Exists.{one_reading_law}
use Rattle.mig_stream.proofs.Limits.{limits_law}
use Rattle.mig_load_types.specs.Settings.{main_of}
use Rattle.mig_load_types.specs.declared.settings.LoadSettings.{LoadSettings}
use Rattle.mig_load_types.specs.declared.fault.Fault.{Fault}
use Rattle.mig_answer.specs.declared.status.Status.{Status}
use Rattle.mig_answer.specs.declared.status.Status.TheVariants.{Clean}
use Rattle.mig_answer.specs.Status.{main_status, stream_end, is_clean, fault_of}
use Rattle.mig_answer.specs.Texts.{Text, IsMainReading}
use Rattle.mig_answer.proofs.Statuses.{status_end, stream_closed}
use Rattle.mig_sources.specs.Faults.{HasMainFault}
use Rattle.mig_session.specs.Scan.{most, Counts, MainScan, ScansMain, main_so_far, DropsRounds, IsClosedAfter}
use Rattle.mig_session.proofs.Scanning.{same_count}

-- ---- rounds are dropped

-- some were dropped so far
abbrev pub DroppedSoFar : Reader → ℕ → Reader → ℕ → Type 0
DroppedSoFar old before now after = (given : Settings) (text : Text) (k : ℕ) → Stands given (main_so_far text k) old → Counts before k
    → (n : ℕ) × Stands given (main_so_far text n) now × Counts after n

pub none_dropped : (r : Reader) (rounds : ℕ) → DroppedSoFar r rounds r rounds
none_dropped r rounds given text k stands counted = (k, stands, counted)

-- one more round is dropped
pub one_dropped : (old r new : Reader) (before rounds after : ℕ) → StepsOn one_taken r new → ((n : ℕ) → Counts rounds n → Counts after (n + 1))
    → DroppedSoFar old before r rounds → DroppedSoFar old before new after
one_dropped old r new before rounds after step more at given text k stands counted =
    let now = at given text k stands counted in
    (now.0 + 1, step given (main_so_far text now.0) now.1, more now.0 now.2)

-- there is no more
pub all_dropped : (old r new : Reader) (before rounds : ℕ) → new ≡ r
    → Tells r (λ given so_far. (i : ℕ) (round : List PageRecord) → HasRound given so_far.text i round → i < so_far.taken)
    → DroppedSoFar old before r rounds → DropsRounds old before new rounds
all_dropped old r new before rounds same last at given text k stands counted =
    let now = at given text k stands counted in
    record {
      dropped = now.0;
      stands = subst (λ (x : Reader). Stands given (main_so_far text now.0) x) (sym same) now.1;
      has_no_more = last given (main_so_far text now.0) now.1;
      has_rounds = now.2;
    }

-- what is so where there is a round
pub where_some : {X : Type 0} (o : Option X) (P : Type 0) → is_some o ≡ true → IfSome o (λ x. P) → P
where_some None P e p = absurd cc
where_some (Some x) P e p = p

-- and where there is none
pub where_none : {X : Type 0} (o : Option X) (P : Type 0) → is_some o ≡ false → IfNone o P → P
where_none None P e p = p
where_none (Some x) P e p = absurd cc

-- ---- what it says

-- what is read of the stream has the rounds of its reading
pub same_found : (given : LoadSettings) (text : Text) (found : StreamReading) (reading : StreamReading)
    → IsPageSize given.page_size → IsReading (main_of given) text.bytes found → IsMainReading given text reading
    → reading ≡ record found { state = state_at text.ended found.state }
same_found given text found reading size is_found is =
    let one = one_reading_law (main_of given) text.bytes size in
    let same : is.found ≡ found = one.2 is.found is.is_reading ∙ sym (one.2 found is_found) in
    is.has_end ∙ ap (λ (r : StreamReading). record r { state = state_at text.ended r.state }) same

taken_are_there : (given : LoadSettings) (text : Text) (taken : ℕ) (r : Reader) (reading : StreamReading)
    → IsPageSize given.page_size → Stands (main_of given) (main_so_far text taken) r
    → IsMainReading given text reading → taken ≤ length reading.rounds
taken_are_there given text taken r reading size stands is =
    let to : StreamProgress = with_taken stands.rounds r.progress in
    let other : StreamReading = record { table = whole_table to; rounds = to.rounds; state = r.found } in
    let is_other : IsReading (main_of given) text.bytes other = record {
      to = to;
      rest = stands.rest;
      reads = stands.reads;
      has_table = refl;
      has_rounds = refl;
    } in
    let same = same_found given text other reading size is_other is in
    omega (arith, ap (λ (x : StreamReading). length x.rounds) same, length-append stands.rounds r.progress.rounds, stands.has_taken)

-- as many rounds were dropped as the reading has
pub dropped_all : (given : LoadSettings) (text : Text) (s : MainScan) (reading : StreamReading) → IsPageSize given.page_size
    → (scans : ScansMain (main_of given) text s) → IsMainReading given text reading → scans.dropped ≡ length reading.rounds
dropped_all given text s reading size scans is =
    let least = taken_are_there given text scans.dropped s.reader reading size scans.stands is in
    let most : length reading.rounds ≤ scans.dropped = elim (cases_lt scans.dropped (length reading.rounds)) [
      | inr le ↦ le
      | inl lt ↦
          let rounds : reading.rounds ≡ is.found.rounds = ap (λ (x : StreamReading). x.rounds) is.has_end in
          let below : scans.dropped < length is.found.rounds = subst (λ (l : List (List PageRecord)). scans.dropped < length l) rounds lt in
          let bad : scans.dropped < scans.dropped = scans.has_no_more scans.dropped (get_or is.found.rounds scans.dropped [])
          (is.found, is.is_reading, below, refl) in
          absurd (omega (arith, bad))
    ] in
    omega (arith, least, most)

-- its reader's state is the reading's
pub state_read : (given : LoadSettings) (text : Text) (s : MainScan) (state : StreamState) (reading : StreamReading) → IsPageSize given.page_size
    → Tells s.reader (λ channel_given so_far. HasState channel_given so_far.text so_far.ended state) → ScansMain (main_of given) text s
    → IsMainReading given text reading → reading.state ≡ state
state_read given text s state reading size tells scans is =
    let has = tells (main_of given) (main_so_far text scans.dropped) scans.stands in
    ap (λ (x : StreamReading). x.state) (same_found given text has.0 reading size has.1 is) ∙ sym has.2

-- a stream without a table has no round
pub no_rounds : (given : LoadSettings) (text : Text) (reading : StreamReading) → IsPageSize given.page_size → IsMainReading given text reading
    → reading.table ≡ None
    → 0 ≡ length reading.rounds
no_rounds given text reading size is none =
    let table : is.found.table ≡ None = sym (ap (λ (r : StreamReading). r.table) is.has_end) ∙ none in
    let empty : is.found.rounds ≡ [] = (limits_law (main_of given) text.bytes is.found size is.is_reading).has_table_first table in
    sym (ap (λ (r : StreamReading). length r.rounds) is.has_end ∙ ap (λ (l : List (List PageRecord)). length l) empty)

-- without a table its status at the first round is that of its state
pub first_main : (given : LoadSettings) (text : Text) (s : MainScan) (state : StreamState) (status : Status) (reading : StreamReading)
    → IsPageSize given.page_size
    → Tells s.reader (λ channel_given so_far. HasState channel_given so_far.text so_far.ended state) → status ≡ stream_end state
    → ScansMain (main_of given) text s → IsMainReading given text reading → reading.table ≡ None → status ≡ main_status 0 reading
first_main given text s state status reading size tells e scans is none =
    e ∙ ap stream_end (sym (state_read given text s state reading size tells scans is))
    ∙ sym (status_end 0 (length reading.rounds) (stream_end reading.state) (no_rounds given text reading size is none))

-- the fault of the bytes is the reading's
pub fault_is : (given : LoadSettings) (text : Text) (reading : StreamReading) (found : Option Fault) → IsPageSize given.page_size
    → HasMainFault (main_of given) text found → IsMainReading given text reading
    → found ≡ fault_of (stream_end reading.state)
fault_is given text reading found size has is =
    let state = has.1.0 in
    let same = same_found given text state reading size has.1.1 is in
    has.2 ∙ ap (λ (x : StreamState). fault_of (stream_end x)) (has.1.2 ∙ sym (ap (λ (x : StreamReading). x.state) same))

-- whether it is closed after k rounds
pub closed_told : (given : LoadSettings) (text : Text) (s : MainScan) (state : StreamState) (reading : StreamReading) (k : ℕ) → IsPageSize given.page_size
    → Tells s.reader (λ channel_given so_far. HasState channel_given so_far.text so_far.ended state) → ScansMain (main_of given) text s
    → IsMainReading given text reading → k < most → ((s.rounds ≡ k) × (stream_end state ≡ Clean)) ↔ IsClosedAfter k reading
closed_told given text s state reading k size tells scans is below =
    let here : reading.state ≡ state = state_read given text s state reading size tells scans is in
    let all : scans.dropped ≡ length reading.rounds = dropped_all given text s reading size scans is in
    let count = same_count s.rounds scans.dropped k scans.has_rounds below in (
      λ both. record {
        is_closed = stream_closed false reading.state (ap (λ (x : StreamState). is_clean (stream_end x)) here ∙ ap is_clean both.1);
        has_all = sym all ∙ count.0 both.0;
      },
      λ closed. (count.1 (all ∙ closed.has_all), ap stream_end (sym here ∙ closed.is_closed)),
    )
