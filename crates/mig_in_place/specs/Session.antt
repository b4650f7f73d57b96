-- The state of an `InPlaceSession`, the streams and the memory that it represents, and the bytes
-- that it takes. The memory is passed to each call.
use Rattle.std.specs.Prelude.{ℕ, ◌≡◌, ◌≢◌, ◌+◌, ◌<◌, ◌≤◌, ◌^◌, false, List, [], length, map, zip, get_or, All, IsTrue, IsFalse, IfSome, slice_get, take, ⊤, ◌⊎◌, Option, Some, None, if◌then◌else◌}
use Rattle.std.specs.List.{AllZip}
use Rattle.mig_mem.specs.PageSize.{IsPageSize}
use Rattle.mig_mem.specs.RamTable.{RamTable, IsTable}
use Rattle.mig_mem.specs.Image.{Page, Image, IsImage}
use Rattle.mig_mem.specs.PlaceSet.{PlaceSet}
use Rattle.mig_stream.specs.declared.item.StreamState.TheVariants as stream_state
use Rattle.mig_stream.specs.Reading as stream
use Rattle.mig_stream.specs.Reader.{HasTable}
use Rattle.mig_packet.specs.Paging.{GivenSoFar}
use Rattle.mig_load_types.specs.Settings.{main_of, channel_of, for_table}
use Rattle.mig_single_load.specs.InPlace.{IsOfOwnTable}
use Rattle.mig_load_types.specs.declared.settings.LoadSettings.{LoadSettings}
use Rattle.mig_load_types.specs.declared.fault.Origin.TheVariants as origin
use Rattle.mig_load_types.specs.declared.fault.Fault.TheVariants as fault
use Rattle.mig_answer.specs.declared.verdict.Verdict.{Verdict}
use Rattle.mig_answer.specs.declared.verdict.Verdict.TheVariants.{Running}
use Rattle.mig_answer.specs.declared.status.Status.{Status}
use Rattle.mig_answer.specs.declared.status.Status.TheVariants.{Pending}
use Rattle.mig_answer.specs.Status.{main_status, channel_status}
use Rattle.mig_answer.specs.Texts.{Text, Texts, Readings, AreReadings, no_text}
use Rattle.mig_answer.specs.Rounds.{record_pages_at, base_at, places_in_rounds}
use Rattle.mig_answer.specs.MultiLoad.{main_at, channels_at, hello_ids, repeated_hello, sources_verdicts, passes, failed}
use Rattle.mig_mem.specs.First.{first_some}
use Rattle.mig_sources.specs.declared.source.Source.{Source}
use Rattle.mig_sources.specs.declared.source.Source.TheVariants as source
use Rattle.mig_sources.specs.Sources.{with_fed, feed_step, end_step}
use Rattle.mig_assemble.specs.NamedPlaces.{HasPlaces}
use Rattle.mig_in_place.specs.Missing.{HasNamed}
use Rattle.mig_in_place.specs.Answer.{rounds_onto, IsInPlaceAnswer, IsInPlaceWithoutMemory}
use Rattle.mig_in_place.specs.declared.main_stream.SizeList.{SizeList}
use Rattle.mig_in_place.specs.Named.{SomeHasPacket}
use Rattle.mig_in_place.specs.Round.{KeptRound, Keeps, KeepsSome}
use Rattle.mig_in_place.specs.Sources.{KeptMain, KeptSources, counts_of, StandsAt, HasGiven, IsChannelOf, TellsList, TellsTakes, HasHelloAlone, WritesPages, HoldsMain, HoldsChannel, HoldsRound}

-- ---- its state

pub record InPlaceLoad : Type 0 where
  -- the memory's table
  pub table : RamTable
  pub sources : KeptSources
  -- the arrivals of the current round
  pub round : KeptRound
  -- how many rounds were judged lawful, how many packets they had, and the places that they named
  pub rounds : ℕ
  pub base : ℕ
  pub named : PlaceSet
  pub verdict : Verdict

-- ---- which bytes are taken

-- the stream of a source
abbrev pub text_of : Texts → Source → Text
text_of texts source.Main = texts.main
text_of texts (source.Channel j) = get_or texts.channels j no_text

-- the status of a source at round k
abbrev pub status_of : ℕ → Readings → Source → Status
status_of k readings source.Main = main_status k readings.main
status_of k readings (source.Channel j) = get_or (map (channel_status k) readings.channels) j Pending

-- A channel is held back after its hello as long as the main stream's size list may still follow:
-- otherwise its pages would be written before the table is known.
abbrev pub IsHeldBack : Readings → Source → Type 0
IsHeldBack readings source.Main = ⊥
IsHeldBack readings (source.Channel j) =
    (readings.main.table ≡ None) × (readings.main.state ≡ stream_state.Reading) × (get_or (map (λ c. c.hello) readings.channels) j None ≢ None)

-- A source takes bytes at round k: it doesn't have that round, it isn't closed or bad, and it isn't
-- held back.
pub record TakesBytes (given : LoadSettings) (uuid : List ℕ) (k : ℕ) (texts : Texts) (from : Source) : Type 0 where
  pub readings : Readings
  pub are_readings : AreReadings given uuid texts readings
  pub is_pending : status_of k readings from ≡ Pending
  pub is_free : IsHeldBack readings from → ⊥

-- ---- whether all rounds are in before the verdict

-- All rounds are in: the main stream is closed, and each of its k rounds was judged lawful. The
-- memory has them on top of its earlier content, and nothing else.
pub record HasAllRounds (given : LoadSettings) (uuid : List ℕ) (first : Image) (texts : Texts) (memory : Image) (k : ℕ) : Type 0 where
  pub readings : Readings
  pub are_readings : AreReadings given uuid texts readings
  pub is_closed : readings.main.state ≡ stream_state.Closed
  pub has_all : length readings.main.rounds ≡ k
  pub have_passed : (j : ℕ) → j < k → IsTrue (passes j readings)
  pub has_memory : memory ≡ rounds_onto first k readings

-- More than k rounds may come: the main stream isn't closed with k rounds, or a packet of a further
-- round has begun.
pub record MoreMayCome (given : LoadSettings) (uuid : List ℕ) (texts : Texts) (k : ℕ) : Type 0 where
  pub readings : Readings
  pub are_readings : AreReadings given uuid texts readings
  pub has_more : (readings.main.state ≢ stream_state.Closed) ⊎ (length readings.main.rounds ≢ k) ⊎ SomeHasPacket (channel_of given uuid (length texts.channels)) k texts.channels

-- ---- the streams that it represents

-- the pages of the main stream's records of the current round, if the round is complete
abbrev pub records_come : ℕ → ℕ → Readings → KeptMain → List Page
records_come page_size k readings m = if m.is_whole then record_pages_at page_size k readings else []

-- While a load runs: the state of each source, and of the current round. Before the table is known
-- nothing was written.
pub record IsRunning (given : LoadSettings) (uuid : List ℕ) (first : Image) (texts : Texts) (memory : Image) (s : InPlaceLoad) : Type 0 where
  pub readings : Readings
  pub are_readings : AreReadings given uuid texts readings
  pub is_own : IsOfOwnTable first readings.main
  pub have_passed : (j : ℕ) → j < s.rounds → IsTrue (passes j readings)
  pub main : HoldsMain (main_of given) s.rounds texts.main s.sources.main
  pub gave : List GivenSoFar
  pub as_many : length gave ≡ length texts.channels
  pub has_channel : 1 ≤ length texts.channels
  pub channels : AllZip (λ c kept. HoldsChannel (channel_of given uuid (length texts.channels)) first.table s.rounds c.0 c.1 kept) (zip texts.channels gave) s.sources.channels
  pub has_base : s.base ≡ base_at s.rounds readings
  pub has_named : HasPlaces first.table (places_in_rounds first.table s.rounds readings) s.named
  pub own : readings.main.table ≡ Some first.table
      → HoldsRound first.table (rounds_onto first s.rounds readings) s.rounds
      (record { records = records_come first.table.page_size s.rounds readings s.sources.main; channels = gave }) s.round memory
  pub writes : readings.main.table ≡ Some first.table → IsFalse s.round.has_misplaced → AllZip WritesPages gave s.sources.channels
  pub unknown : readings.main.table ≡ None → (memory ≡ first) × (s.rounds ≡ 0) × Keeps first.table [] s.round
  pub is_unwritten : readings.main.table ≡ None → All (λ kept. kept.block ≡ None) s.sources.channels
  pub awaited : readings.main.table ≡ None → readings.main.state ≡ stream_state.Reading → All HasHelloAlone gave

-- The readers took the bytes of the streams, whatever the verdict is, and some rounds were taken of
-- the main stream's.
pub record HaveTaken (given : LoadSettings) (uuid : List ℕ) (texts : Texts) (s : KeptSources) : Type 0 where
  pub rounds : ℕ
  pub main : StandsAt (main_of given) rounds texts.main s.main
  pub channels : AllZip (HasGiven (channel_of given uuid (length texts.channels))) texts.channels s.channels

-- A load was made for the memory `first` with these settings and under this UUID, and took this
-- much of the streams. Its answer on them is that of a load in place, and it knows the places that
-- the rounds counted named. `memory` is the memory now.
pub record StandsFor (given : LoadSettings) (uuid : List ℕ) (first : Image) (texts : Texts) (memory : Image) (s : InPlaceLoad) : Type 0 where
  pub is_table : IsTable first.table
  pub is_image : IsImage first
  pub same_table : first.table ≡ s.table
  pub is_answer : IsInPlaceAnswer given uuid first texts memory s.rounds s.verdict
  pub have_taken : HaveTaken (for_table first.table given) uuid texts s.sources
  pub has_named : HasNamed (for_table first.table given) uuid first texts s.rounds s.named
  pub runs : s.verdict ≡ Running → IsRunning (for_table first.table given) uuid first texts memory s

-- `StandsFor`, after a refused allocation.
pub record LacksMemory (given : LoadSettings) (uuid : List ℕ) (first : Image) (texts : Texts) (memory : Image) (s : InPlaceLoad) : Type 0 where
  pub is_table : IsTable first.table
  pub is_image : IsImage first
  pub same_table : first.table ≡ s.table
  pub is_without : IsInPlaceWithoutMemory given uuid first texts memory s.rounds s.verdict

-- A call takes this step: if the load represented some streams with the memory before it, it
-- represents them with the step done, with the memory after it.
abbrev pub StepsOn : (Texts → Texts) → Image → InPlaceLoad → Image → InPlaceLoad → Type 0
StepsOn step before old after new = (given : LoadSettings) (uuid : List ℕ) (first : Image) (texts : Texts)
    → StandsFor given uuid first texts before old → StandsFor given uuid first (step texts) after new

-- an allocation had been refused before
abbrev pub StillLacks : (Texts → Texts) → Image → InPlaceLoad → Image → InPlaceLoad → Type 0
StillLacks step before old after new = (given : LoadSettings) (uuid : List ℕ) (first : Image) (texts : Texts)
    → LacksMemory given uuid first texts before old → LacksMemory given uuid first (step texts) after new

-- An allocation was refused as a piece of a source was fed, of which some bytes were taken: as many
-- as are counted more. The load lacks memory on the streams with these, or with some of them: the
-- last ones may be those of a packet's head for which there was no room.
pub record RunsOut (from : Source) (piece : List ℕ) (before : Image) (old : InPlaceLoad) (after : Image) (new : InPlaceLoad) : Type 0 where
  pub taken : ℕ
  pub is_part : taken ≤ length piece
  pub has_counts : counts_of new.sources ≡ with_fed (counts_of old.sources) from taken
  pub lacks : (given : LoadSettings) (uuid : List ℕ) (first : Image) (texts : Texts) → StandsFor given uuid first texts before old
      → (n : ℕ) × (n ≤ taken) × LacksMemory given uuid first (feed_step from (take n piece) texts) after new

-- a statement on a load and a memory that depends on nothing else than the streams that they
-- represent
abbrev pub Tells : Image → InPlaceLoad → (LoadSettings → List ℕ → Image → Texts → Type 0) → Type 0
Tells memory s says = (given : LoadSettings) (uuid : List ℕ) (first : Image) (texts : Texts) → StandsFor given uuid first texts memory s → says given uuid first texts

-- ---- during a call

-- what a load was made of, and how much of the streams it took
pub record Loading : Type 0 where
  pub given : LoadSettings
  pub uuid : List ℕ
  pub first : Image
  pub texts : Texts

-- A load that runs, and has judged the rounds before the current one.
pub record Loads (f : Loading) (memory : Image) (s : InPlaceLoad) : Type 0 where
  pub is_table : IsTable f.first.table
  pub is_image : IsImage f.first
  pub same_table : f.first.table ≡ s.table
  pub is_running : IsRunning (for_table f.first.table f.given) f.uuid f.first f.texts memory s

abbrev pub Stands : Loading → Image → InPlaceLoad → Type 0
Stands f memory s = StandsFor f.given f.uuid f.first f.texts memory s

-- The sources give no verdict at the current round: all have it, and no hello's id is repeated.
abbrev pub IsDue : Loading → ℕ → Type 0
IsDue f k = (readings : Readings) → AreReadings (for_table f.first.table f.given) f.uuid f.texts readings
    → first_some (sources_verdicts k (main_at k readings) (channels_at k readings) (repeated_hello (hello_ids readings))) ≡ None

-- this is the verdict of the sources, or None if the current round is to be judged
abbrev pub TellsVerdict : Option Verdict → Loading → ℕ → Type 0
TellsVerdict told f k = (readings : Readings) → AreReadings (for_table f.first.table f.given) f.uuid f.texts readings
    → told ≡ first_some (sources_verdicts k (main_at k readings) (channels_at k readings) (repeated_hello (hello_ids readings)))

-- the round passes
abbrev pub PassesAt : Loading → ℕ → Type 0
PassesAt f k = (readings : Readings) → AreReadings (for_table f.first.table f.given) f.uuid f.texts readings → IsTrue (passes k readings)

-- A load whose current round all sources have, and which is lawful. The load hasn't gone on to the
-- next round yet.
pub record IsJudged (f : Loading) (memory : Image) (s : InPlaceLoad) : Type 0 where
  pub loads : Loads f memory s
  pub is_due : IsDue f s.rounds
  pub passes : PassesAt f s.rounds

-- it runs, and has room for the round's packets and for one round more
pub record HasNextRound (s : InPlaceLoad) : Type 0 where
  pub runs : s.verdict ≡ Running
  pub room : s.base + length s.round.arrivals.numbers ≤ 2 ^ 63
  pub few : s.rounds < 2 ^ 63

-- A call takes this step, and the current round was judged lawful with it.
abbrev pub JudgesOn : (Texts → Texts) → Image → InPlaceLoad → Image → InPlaceLoad → Type 0
JudgesOn step before old after new = (given : LoadSettings) (uuid : List ℕ) (first : Image) (texts : Texts)
    → StandsFor given uuid first texts before old → IsJudged (record { given = given; uuid = uuid; first = first; texts = step texts }) after new

-- with more bytes of a source
abbrev pub with_bytes : Source → List ℕ → Loading → Loading
with_bytes from bytes f = record f { texts = feed_step from bytes f.texts }

-- with the end of a source
abbrev pub with_over : Source → Loading → Loading
with_over from f = record f { texts = end_step from f.texts }

-- A load that took bytes: it runs, and is to be judged, or its verdict is there.
pub record IsUnsettled (f : Loading) (memory : Image) (s : InPlaceLoad) : Type 0 where
  pub runs : s.verdict ≡ Running → Loads f memory s
  pub stands : s.verdict ≢ Running → Stands f memory s

-- it represents the streams, with a refused allocation
abbrev pub Lacks : Loading → Image → InPlaceLoad → Type 0
Lacks f memory s = LacksMemory f.given f.uuid f.first f.texts memory (record s { verdict = failed s.rounds origin.Round fault.NoMemory })

-- no more bytes of a channel are taken before the round is judged
abbrev pub TakesNoMore : Source → KeptSources → Type 0
TakesNoMore source.Main s = ⊥
TakesNoMore (source.Channel j) s = IfSome (slice_get s.channels j) (λ c. (l : SizeList) × TellsList s.main l × TellsTakes l c false)

-- the main stream isn't read on if it has the current round
abbrev pub IsOpenAt : Source → KeptSources → Type 0
IsOpenAt source.Main s = IsFalse s.main.is_whole
IsOpenAt (source.Channel j) s = ⊤

-- Of so many bytes of a piece all or some of the first came to the round, and an allocation was
-- refused.
abbrev pub LacksWithin : Source → List ℕ → ℕ → Loading → Image → InPlaceLoad → Type 0
LacksWithin from piece taken f memory s = (n : ℕ) × (n ≤ taken) × Lacks (with_bytes from (take n piece) f) memory s

-- Bytes of a piece were taken, as many as are counted more, and an allocation was refused: whatever
-- the load was of.
pub record LacksBehind (from : Source) (piece : List ℕ) (Was : Loading → Type 0) (old : InPlaceLoad) (after : Image) (new : InPlaceLoad) : Type 0 where
  pub taken : ℕ
  pub is_part : taken ≤ length piece
  pub has_counts : counts_of new.sources ≡ with_fed (counts_of old.sources) from taken
  pub lacks : (f : Loading) → Was f → LacksWithin from piece taken f after new

-- ---- whatever the memory holds

-- The main stream of a load into memory of this table: it has that table, or its table isn't known.
pub record IsMainOf (table : RamTable) (m : KeptMain) : Type 0 where
  pub given : stream.Settings
  pub k : ℕ
  pub text : Text
  pub stands : StandsAt given k text m
  pub is_page_size : IsPageSize given.page_size
  pub has_page_size : given.page_size ≡ table.page_size
  pub is_own : HasTable given text.bytes None ⊎ HasTable given text.bytes (Some table)

-- The invariant of each load, with room for the statuses and hellos of its channels.
pub record IsLoad (s : InPlaceLoad) (statuses hellos : ℕ) : Type 0 where
  pub channels : All (IsChannelOf s.table) s.sources.channels
  pub round : KeepsSome s.table s.round
  pub main : s.verdict ≡ Running → IsMainOf s.table s.sources.main
  pub same_named : s.named.table ≡ s.table
  pub is_few : s.base ≤ 2 ^ 63
  pub has_few_rounds : s.rounds ≤ 2 ^ 63
  pub has_room : length s.sources.channels ≤ statuses
  pub has_hello_room : length s.sources.channels ≤ hellos
