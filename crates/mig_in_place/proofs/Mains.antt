-- What is kept of a main stream, and what it reports.
use Rattle.std.proofs.Common.{ℕ, ◌≡◌, ◌≢◌, ◌+◌, ◌<◌, ◌≤◌, true, false, Bool, List, [], length, get_or, refl, sym, ap, subst, ◌∙◌, inl, inr, Option, Some, None}
use Rattle.std.proofs.Common.{arith, Bor}
use Rattle.std.specs.Prelude.{IsFalse, IfSome, IfNone, is_some}
use Rattle.std.specs.Option.{option_copied}
use Rattle.mig_stream.specs.Round.{RoundOfRecords}
use Rattle.std.specs.List.{All}
use Rattle.std.proofs.lemmas.Bool.{cases_lt}
use Rattle.std.proofs.lemmas.List.{length-append}
use Rattle.mig_mem.specs.PageSize.{IsPageSize}
use Rattle.mig_mem.specs.RamTable.{RamTable}
use Rattle.mig_mem.specs.Place.{IsPlace}
use Rattle.mig_stream.specs.declared.item.StreamState.{StreamState}
use Rattle.mig_stream.specs.declared.item.StreamState.TheVariants as stream_state
use Rattle.mig_stream.specs.PageRecord.{PageRecord}
use Rattle.mig_stream.specs.Progress.{StreamProgress, whole_table}
use Rattle.mig_stream.specs.Reading.{Settings, StreamReading, IsReading, state_at}
use Rattle.mig_stream.specs.Reader.{Reader, Stands, StepsOn, Tells, nothing_yet, with_taken, with_piece as read_piece, over as read_over, one_taken, HasRound}
use Rattle.mig_stream.specs.Reader.{HasState, HasTable}
use Rattle.mig_stream.proofs.Exists.{one_reading_law}
use Rattle.mig_stream.proofs.Limits.{limits_law}
use Rattle.mig_stream.proofs.FoundList.{no_some}
use Rattle.mig_load_types.specs.Settings.{main_of}
use Rattle.mig_load_types.specs.declared.settings.LoadSettings.{LoadSettings}
use Rattle.mig_answer.specs.declared.status.Status.{Status}
use Rattle.mig_answer.specs.declared.status.Status.TheVariants.{Whole}
use Rattle.mig_load_types.specs.declared.fault.Fault.{Fault}
use Rattle.mig_answer.specs.Status.{stream_end, fault_of}
use Rattle.mig_answer.specs.Texts.{Text, IsMainReading, no_text, with_piece, over}
use Rattle.mig_answer.proofs.Statuses.{status_whole, status_end}
use Rattle.mig_in_place.specs.Sources.{KeptMain, StandsAt, HasNoRound, HoldsMain, TellsMainStatus, TellsMainFault, TellsList, rounds_come, so_far_of}
use Rattle.mig_in_place.specs.declared.main_stream.SizeList.TheVariants as list

abbrev pub kept : Reader → Bool → KeptMain
kept reader is_whole = record { reader = reader; is_whole = is_whole }

-- ---- before the first byte

-- with a reader that was fed nothing, the main stream has no bytes, and no round is judged
pub begins : (given : Settings) (reader : Reader) → IsPageSize given.page_size → Stands given nothing_yet reader → HoldsMain given 0 no_text (kept reader false)
begins given reader size stands = record {
  stands = stands;
  has_none = λ no i records has. let few = (limits_law given [] has.0 size has.1).has_few in omega (arith, few, has.2);
}

-- ---- more comes

-- once its reader has read a piece, the main stream's state is that of its bytes with the piece
pub fed : (given : Settings) (k : ℕ) (text : Text) (piece : List ℕ) (old now : Reader) (whole : Bool) → StepsOn (read_piece piece) old now
    → StandsAt given k text (kept old whole) → StandsAt given k (with_piece piece text) (kept now whole)
fed given k text piece old now whole step stands = step given (so_far_of text (rounds_come k whole)) stands

-- once its reader has ended, the main stream's state is that of its bytes ended
pub ended : (given : Settings) (k : ℕ) (text : Text) (old now : Reader) (whole : Bool) → StepsOn read_over old now
    → StandsAt given k text (kept old whole) → StandsAt given k (over text) (kept now whole)
ended given k text old now whole step stands = step given (so_far_of text (rounds_come k whole)) stands

-- with one more round taken from the reader, the main stream has the current round complete
pub taken : (given : Settings) (k : ℕ) (text : Text) (old now : Reader) → StepsOn one_taken old now
    → StandsAt given k text (kept old false) → StandsAt given k text (kept now true)
taken given k text old now step stands = step given (so_far_of text k) stands

-- ---- what it reports

-- what is read of the stream has the rounds of its reading
pub same_found : (given : LoadSettings) (text : Text) (found reading : StreamReading) → IsPageSize given.page_size
    → IsReading (main_of given) text.bytes found → IsMainReading given text reading
    → reading ≡ record found { state = state_at text.ended found.state }
same_found given text found reading size is_found is =
    let one = one_reading_law (main_of given) text.bytes size in
    let same : is.found ≡ found = one.2 is.found is.is_reading ∙ sym (one.2 found is_found) in
    is.has_end ∙ ap (λ (r : StreamReading). record r { state = state_at text.ended r.state }) same

-- the reading of a main stream has at least as many rounds as were taken from its reader
pub taken_are_there : (given : LoadSettings) (text : Text) (n : ℕ) (r : Reader) (reading : StreamReading)
    → IsPageSize given.page_size → Stands (main_of given) (so_far_of text n) r
    → IsMainReading given text reading → n ≤ length reading.rounds
taken_are_there given text n r reading size stands is =
    let to : StreamProgress = with_taken stands.rounds r.progress in
    let other : StreamReading = record { table = whole_table to; rounds = to.rounds; state = r.found } in
    let is_other : IsReading (main_of given) text.bytes other = record {
      to = to;
      rest = stands.rest;
      reads = stands.reads;
      has_table = refl;
      has_rounds = refl;
    } in
    let same = same_found given text other reading size is_other is in
    omega (arith, ap (λ (x : StreamReading). length x.rounds) same, length-append stands.rounds r.progress.rounds, stands.has_taken)

-- if the current round isn't complete, all rounds of the reading were judged
pub none_waits : (given : LoadSettings) (k : ℕ) (text : Text) (reader : Reader) (reading : StreamReading)
    → IsPageSize given.page_size → HoldsMain (main_of given) k text (kept reader false)
    → IsMainReading given text reading → k ≡ length reading.rounds
none_waits given k text reader reading size holds is =
    let least = taken_are_there given text k reader reading size holds.stands is in
    let most : length reading.rounds ≤ k = elim (cases_lt k (length reading.rounds)) [
      | inr le ↦ le
      | inl lt ↦
          let rounds : reading.rounds ≡ is.found.rounds = ap (λ (x : StreamReading). x.rounds) is.has_end in
          let below : k < length is.found.rounds = subst (λ (l : List (List PageRecord)). k < length l) rounds lt in
          let bad : k < k = holds.has_none refl k (get_or is.found.rounds k []) (is.found, is.is_reading, below, refl) in absurd (omega (arith, bad))
    ] in
    omega (arith, least, most)

-- a main stream that has the current round complete has the status Whole
pub tells_whole : (reader : Reader) → TellsMainStatus (kept reader true) Whole
tells_whole reader = λ given k text reading size holds is.
    let there = taken_are_there given text (k + 1) reader reading size holds.stands is in
    sym (status_whole k (length reading.rounds) (stream_end reading.state) (omega (arith, there)))

-- a main stream without the current round has the status of its reader's state
pub tells_end : (reader : Reader) (state : StreamState) (status : Status)
    → Tells reader (λ given so_far. HasState given so_far.text so_far.ended state) → status ≡ stream_end state
    → TellsMainStatus (kept reader false) status
tells_end reader state status tells e = λ given k text reading size holds is.
    let has = tells (main_of given) (so_far_of text k) holds.stands in
    let same = same_found given text has.0 reading size has.1 is in
    e ∙ ap stream_end (has.2 ∙ sym (ap (λ (x : StreamReading). x.state) same))
    ∙ sym (status_end k (length reading.rounds) (stream_end reading.state) (none_waits given k text reader reading size holds is))

-- the table, or none, that a main stream's reader has is that of the bytes taken
pub tells_table : (m : KeptMain) (table : Option RamTable) → Tells m.reader (λ given so_far. HasTable given so_far.text table)
    → (given : Settings) (k : ℕ) (text : Text) → StandsAt given k text m → HasTable given text.bytes table
tells_table m table tells = λ given k text stands. tells given (so_far_of text (rounds_come k m.is_whole)) stands

-- ---- the size list

-- the reading has the table that was found
pub table_is : (given : LoadSettings) (text : Text) (table : Option RamTable) (reading : StreamReading)
    → IsPageSize given.page_size → HasTable (main_of given) text.bytes table → IsMainReading given text reading
    → reading.table ≡ table
table_is given text table reading size has is =
    ap (λ (x : StreamReading). x.table) (same_found given text has.0 reading size has.1 is) ∙ sym has.2

state_is : (given : LoadSettings) (text : Text) (state : StreamState) (reading : StreamReading) → IsPageSize given.page_size
    → HasState (main_of given) text.bytes text.ended state → IsMainReading given text reading
    → reading.state ≡ state
state_is given text state reading size has is =
    ap (λ (x : StreamReading). x.state) (same_found given text has.0 reading size has.1 is) ∙ sym has.2

-- the fault of a main stream's state by its reader is that of the bytes taken
pub tells_fault : (m : KeptMain) (state : StreamState) (status : Status) (found : Option Fault)
    → Tells m.reader (λ given so_far. HasState given so_far.text so_far.ended state) → status ≡ stream_end state
    → found ≡ fault_of status → TellsMainFault m found
tells_fault m state status found tells is e = λ given k text reading size stands reads.
    let has = tells (main_of given) (so_far_of text (rounds_come k m.is_whole)) stands in
    e ∙ ap fault_of (is ∙ ap stream_end (sym (state_is given text state reading size has reads)))

some_is : {X : Type 0} (o : Option X) → is_some o ≡ true → o ≢ None
some_is None e = absurd cc
some_is (Some x) e = λ none. absurd cc

-- if the reader of a main stream has its table, the size list is complete
pub lists_complete : (m : KeptMain) (table : Option RamTable) → Tells m.reader (λ given so_far. HasTable given so_far.text table)
    → is_some table ≡ true → TellsList m list.Complete
lists_complete m table tells some = λ given k text reading size stands is.
    let e = table_is given text table reading size (tells (main_of given) (so_far_of text (rounds_come k m.is_whole)) stands) is in
    λ none. some_is table some (sym e ∙ none)

-- if the reader has no table, and the stream is still read, the size list is awaited
pub lists_awaited : (m : KeptMain) (table : Option RamTable) (state : StreamState)
    → Tells m.reader (λ given so_far. HasTable given so_far.text table) → is_some table ≡ false
    → Tells m.reader (λ given so_far. HasState given so_far.text so_far.ended state) → state ≡ stream_state.Reading → TellsList m list.Awaited
lists_awaited m table state tells none stands_so reads = λ given k text reading size stands is. (
  table_is given text table reading size (tells (main_of given) (so_far_of text (rounds_come k m.is_whole)) stands) is ∙ no_some table none,
  state_is given text state reading size (stands_so (main_of given) (so_far_of text (rounds_come k m.is_whole)) stands) is ∙ reads,
)

-- if the reader has no table, and the stream is closed or has a fault, the size list is lost
pub lists_lost : (m : KeptMain) (table : Option RamTable) (state : StreamState)
    → Tells m.reader (λ given so_far. HasTable given so_far.text table) → is_some table ≡ false
    → Tells m.reader (λ given so_far. HasState given so_far.text so_far.ended state) → state ≢ stream_state.Reading → TellsList m list.Lost
lists_lost m table state tells none stands_so over_is = λ given k text reading size stands is. (
  table_is given text table reading size (tells (main_of given) (so_far_of text (rounds_come k m.is_whole)) stands) is ∙ no_some table none,
  λ reads. over_is (sym (state_is given text state reading size (stands_so (main_of given) (so_far_of text (rounds_come k m.is_whole)) stands) is) ∙ reads),
)

-- the copy of an option is Some exactly if the option is
pub copied : {T : Type 0} (o : Option (Bor T)) → is_some (option_copied o) ≡ is_some o
copied None = refl
copied (Some x) = refl

-- ---- the next round is taken

-- the next round, if there is one, is the current round once it is taken from the reader
pub taken_stands : (o : Option RoundOfRecords) (old now : Reader) → IfNone o (now ≡ old) → IfSome o (λ r. StepsOn one_taken old now)
    → (given : Settings) (k : ℕ) (text : Text) → StandsAt given k text (kept old false) → StandsAt given k text (kept now (is_some o))
taken_stands None old now same step given k text stands = subst (λ (r : Reader). Stands given (so_far_of text k) r) (sym same) stands
taken_stands (Some r) old now same step given k text stands = step given (so_far_of text k) stands

-- if the reader gives no further round, the main stream has none after the judged ones
pub taken_last : (o : Option RoundOfRecords) (old : Reader) (m : KeptMain) → m ≡ kept old false
    → IfNone o (Tells old (λ given so_far. (i : ℕ) (round : List PageRecord) → HasRound given so_far.text i round → i < so_far.taken))
    → IfNone o (IsFalse m.is_whole → (given : Settings) (k : ℕ) (text : Text) → StandsAt given k text m → HasNoRound given k text)
taken_last None old m e last = λ f given k text stands. last given (so_far_of text k) (subst (λ (x : KeptMain). StandsAt given k text x) e stands)
taken_last (Some r) old m e last = tt

-- a round that the reader gives has the page size of the settings, and the records of round k
pub taken_round : (o : Option RoundOfRecords) (old : Reader) (m : KeptMain) → m ≡ kept old false
    → IfSome o (λ r. Tells old (λ given so_far. (r.page_size ≡ given.page_size) × HasRound given so_far.text so_far.taken r.records))
    → IfSome o (λ r. (given : Settings) (k : ℕ) (text : Text) → StandsAt given k text m
    → (r.page_size ≡ given.page_size) × HasRound given text.bytes k r.records)
taken_round None old m e is = tt
taken_round (Some r) old m e is = λ given k text stands. is given (so_far_of text k) (subst (λ (x : KeptMain). StandsAt given k text x) e stands)

-- the records of a round that the reader gives are of pages of the main stream's table
pub taken_places : (o : Option RoundOfRecords) (old : Reader) (m : KeptMain) → m ≡ kept old false
    → IfSome o (λ r. Tells old (λ given so_far. (table : RamTable) → HasTable given so_far.text (Some table) → All (λ x. IsPlace table x.place) r.records))
    → IfSome o (λ r. (given : Settings) (k : ℕ) (text : Text) (table : RamTable) → StandsAt given k text m
    → HasTable given text.bytes (Some table) → All (λ x. IsPlace table x.place) r.records)
taken_places None old m e places = tt
taken_places (Some r) old m e places = λ given k text table stands has. places given (so_far_of text k)
    (subst (λ (x : KeptMain). StandsAt given k text x) e stands) table has
