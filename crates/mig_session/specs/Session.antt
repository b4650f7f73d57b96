-- A load whose streams are fed in pieces: what a session holds, and the streams that it represents.
use Rattle.std.specs.Prelude.{ℕ, ◌≡◌, ◌≢◌, ◌≤◌, ◌<◌, ◌^◌, ◌↔◌, Bool, List, length, slice_get, Option, None, Some, IfSome, IsTrue, All}
use Rattle.std.specs.List.{AllZip}
use Rattle.std.specs.Option.{option_map, option_map_or, option_and_then}
use Rattle.mig_mem.specs.PageSize.{IsPageSize}
use Rattle.mig_assemble.specs.NamedPlaces.{left_out}
use Rattle.mig_mem.specs.Image.{Image}
use Rattle.mig_stream.specs.declared.item.StreamState.TheVariants as stream_state
use Rattle.mig_stream.specs.Reading.{Settings as StreamSettings}
use Rattle.mig_stream.specs.Reader as stream
use Rattle.mig_stream.specs.Reader.{HasTable}
use Rattle.mig_packet.specs.Reading.{Settings as ChannelSettings}
use Rattle.mig_packet.specs.Reader as channel
use Rattle.mig_load_types.specs.Settings.{main_of, channel_of}
use Rattle.mig_load_types.specs.declared.settings.LoadSettings.{LoadSettings}
use Rattle.mig_load_types.specs.declared.fault.Fault.{Fault}
use Rattle.mig_session.specs.declared.places.Noted.{Noted}
use Rattle.mig_sources.specs.declared.source.Source.{Source}
use Rattle.mig_sources.specs.declared.source.Source.TheVariants as source
use Rattle.mig_answer.specs.declared.verdict.Verdict.{Verdict}
use Rattle.mig_answer.specs.declared.verdict.Verdict.TheVariants.{Running}
use Rattle.mig_answer.specs.Growing.{GoOn}
use Rattle.mig_answer.specs.Texts.{Text, Texts, Readings, AreReadings}
use Rattle.mig_answer.specs.Rounds.{memory_at, missing_at}
use Rattle.mig_answer.specs.MultiLoad.{Answer, IsAnswer, IsWithoutMemory, passes}
use Rattle.mig_session.specs.Scan.{HasOnly}
use Rattle.mig_session.specs.Sources.{Places, FedSources, Waits, Holds}
use Rattle.mig_session.specs.Loading.{RoundLoad, Feeding, AllWait, Settles}
use Rattle.mig_sources.specs.Sources.{Counts, counts_in}
use Rattle.mig_sources.specs.Faults.{HasMainFault, HasChannelFault}

-- ---- what a session holds

-- the state of each source, and its bytes that wait
pub record Fed : Type 0 where
  pub read : FedSources
  pub waiting : Waits

-- the memory, how many rounds are in it, and how many pages these don't name
pub record Held : Type 0 where
  pub memory : Image
  pub rounds : ℕ
  pub missing : ℕ

-- what a load holds
abbrev pub held_of : RoundLoad → Held
held_of l = record { memory = l.memory.kept; rounds = l.load.rounds; missing = left_out l.load.named.table l.load.named.marked }

-- what a session holds: that of its load, or what is left of it once it is over
abbrev pub target_in : Option RoundLoad → Option Held → Option Held
target_in None over = over
target_in (Some l) over = Some (held_of l)

pub record LoadSession : Type 0 where
  -- what it was made with
  pub settings : LoadSettings
  pub uuid : List ℕ
  -- the counts of each stream's bytes
  pub counts : Counts
  -- what is noted of each, as far as it was read; None after a refused allocation
  pub places : Option Places
  -- the state of each source, while the load runs
  pub sources : Option Fed
  -- while it runs, and the table is known
  pub load : Option RoundLoad
  -- after that, if it had a memory
  pub over : Option Held
  -- None before the size list is complete, or if the memory couldn't be allocated
  pub target : Option Held
  pub verdict : Verdict

-- how many rounds are in the memory
abbrev pub rounds_loaded : Option Held → ℕ
rounds_loaded target = option_map_or (λ t. t.rounds) target 0

-- the answer of a session
abbrev pub answer_in : LoadSession → Answer
answer_in s = record { memory = option_map (λ t. t.memory) s.target; rounds = rounds_loaded s.target; verdict = s.verdict }

-- ---- the streams that it represents

-- the streams that a session was fed
abbrev pub feeding : LoadSettings → List ℕ → Texts → Feeding
feeding given uuid texts = record { given = given; uuid = uuid; texts = texts }

-- Before the table is known all bytes wait. Then the load takes what it can, and has the verdict.
abbrev pub LoadsWith : Feeding → Waits → Option RoundLoad → Verdict → Type 0
LoadsWith f w None verdict = AllWait w f.texts × HasTable (main_of f.given) f.texts.main.bytes None
LoadsWith f w (Some l) verdict = Settles f w l × (verdict ≡ l.load.verdict)

-- While a load runs, all of the streams was read, and taken as far as it can be.
pub record IsRunning (f : Feeding) (load : Option RoundLoad) (verdict : Verdict) (fed : Fed) : Type 0 where
  pub holds : Holds f.given f.uuid f.texts fed.read
  pub loads : LoadsWith f fed.waiting load verdict

-- Streams of sources that a load may have.
pub record IsOfSession (given : LoadSettings) (texts : Texts) : Type 0 where
  pub is_page_size : IsPageSize given.page_size
  pub has_limit : given.limit ≤ 2 ^ 40
  pub has_channel : 1 ≤ length texts.channels
  pub has_few : length texts.channels ≤ 255

-- ---- what is noted of the streams: up to which byte they are valid, and their faults

-- before the first byte
abbrev pub nothing_noted : Noted
nothing_noted = record { valid_up_to = 0; fault = None }

-- up to which byte a source is valid, None for a channel that doesn't exist
abbrev pub place_of : Places → Source → Option ℕ
place_of places source.Main = Some places.main.valid_up_to
place_of places (source.Channel j) = option_map (λ noted. noted.valid_up_to) (slice_get places.channels j)

-- the fault of a source, None for a channel that doesn't exist
abbrev pub noted_fault : Places → Source → Option Fault
noted_fault places source.Main = places.main.fault
noted_fault places (source.Channel j) = option_and_then (λ noted. noted.fault) (slice_get places.channels j)

-- A main stream is valid up to there, and has this fault.
pub record IsNotedOfMain (given : StreamSettings) (text : Text) (noted : Noted) : Type 0 where
  pub is_valid : stream.IsValidUpTo given text.bytes noted.valid_up_to
  pub has_fault : HasMainFault given text noted.fault

-- A channel is valid up to there, and has this fault.
pub record IsNotedOfChannel (given : ChannelSettings) (text : Text) (noted : Noted) : Type 0 where
  pub is_valid : channel.IsValidUpTo given text.bytes noted.valid_up_to
  pub has_fault : HasChannelFault given text noted.fault

-- This is noted of the streams, and where the main stream is closed.
pub record HasPlaces (given : LoadSettings) (uuid : List ℕ) (texts : Texts) (places : Places) : Type 0 where
  pub main : IsNotedOfMain (main_of given) texts.main places.main
  pub closed : stream.HasClosedAt (main_of given) texts.main.bytes places.closed_at
  pub channels : AllZip (IsNotedOfChannel (channel_of given uuid (length texts.channels))) texts.channels places.channels

abbrev pub HavePlaces : LoadSettings → List ℕ → Texts → Option Places → Type 0
HavePlaces given uuid texts None = ⊥
HavePlaces given uuid texts (Some places) = HasPlaces given uuid texts places

-- ---- the pages that no round named

-- how many pages a target's rounds don't name, if there is a target
abbrev pub missing_in : Option Held → Option ℕ
missing_in target = option_map (λ t. t.missing) target

-- how many pages of the table the first k rounds of the streams don't name; None, if the size list
-- isn't complete
pub record HasMissing (given : LoadSettings) (uuid : List ℕ) (texts : Texts) (k : ℕ) (missing : Option ℕ) : Type 0 where
  pub readings : Readings
  pub are_readings : AreReadings given uuid texts readings
  pub is_count : missing ≡ missing_at k readings

-- ---- the streams, and the session's answer on them

-- The session was made with these settings and UUID, and these bytes of the streams were fed. It
-- has their answer. While it runs, it has read all of them. After that, it has read as much as its
-- answer depends on.
pub record StandsFor (given : LoadSettings) (uuid : List ℕ) (texts : Texts) (s : LoadSession) : Type 0 where
  pub is_page_size : IsPageSize given.page_size
  pub has_settings : s.settings ≡ given
  pub has_uuid : s.uuid ≡ uuid
  pub is_of_session : IsOfSession given texts
  pub has_counts : s.counts ≡ counts_in texts
  pub is_answer : IsAnswer given uuid texts (answer_in s)
  pub runs : IfSome s.sources (IsRunning (feeding given uuid texts) s.load s.verdict)
  pub read : Texts
  pub goes_on : GoOn read texts
  pub has_read_all : s.sources ≢ None → read ≡ texts
  pub is_answer_there : IsAnswer given uuid read (answer_in s)
  pub have_places : HavePlaces given uuid read s.places
  pub has_missing : HasMissing given uuid read (rounds_loaded s.target) (missing_in s.target)

-- The session read these bytes of the streams: all of them while it runs, and later as much as its
-- answer rests on.
pub record HasRead (given : LoadSettings) (uuid : List ℕ) (texts : Texts) (s : LoadSession) (read : Texts) : Type 0 where
  pub goes_on : GoOn read texts
  pub has_read_all : s.verdict ≡ Running → read ≡ texts
  pub is_answer : IsAnswer given uuid read (answer_in s)

-- This holds of the streams as far as the session read them.
abbrev pub AsRead : LoadSettings → List ℕ → Texts → LoadSession → (Texts → Type 0) → Type 0
AsRead given uuid texts s IsSo = (read : Texts) × HasRead given uuid texts s read × IsSo read

-- The main stream is closed after k rounds. Each channel has as many, and no fault.
pub record HaveOnly (k : ℕ) (readings : Readings) : Type 0 where
  pub is_closed : readings.main.state ≡ stream_state.Closed
  pub has_all : length readings.main.rounds ≡ k
  pub channels : All (HasOnly k) readings.channels

-- whether this is so of sources
abbrev pub TellAllIn : ℕ → FedSources → Bool → Type 0
TellAllIn k s told = (given : LoadSettings) (uuid : List ℕ) (texts : Texts) (readings : Readings) → IsPageSize given.page_size
    → Holds given uuid texts s → AreReadings given uuid texts readings → IsTrue told ↔ HaveOnly k readings

-- All rounds are in: the main stream is closed, each of its rounds was judged lawful, and the
-- memory is that after them. No channel has a further round, or a fault. The channels may not have
-- ended.
pub record HasAllRounds (given : LoadSettings) (uuid : List ℕ) (texts : Texts) (answer : Answer) : Type 0 where
  pub readings : Readings
  pub are_readings : AreReadings given uuid texts readings
  pub have_only : HaveOnly answer.rounds readings
  pub have_passed : (j : ℕ) → j < answer.rounds → IsTrue (passes j readings)
  pub has_memory : answer.memory ≡ memory_at answer.rounds readings

-- The session represents these streams after a refused allocation: its answer is the one for that,
-- and stays.
pub record LacksMemory (given : LoadSettings) (uuid : List ℕ) (texts : Texts) (s : LoadSession) : Type 0 where
  pub is_page_size : IsPageSize given.page_size
  pub has_counts : s.counts ≡ counts_in texts
  pub is_without : IsWithoutMemory given uuid texts (answer_in s)
  pub has_no_places : s.places ≡ None

-- A call takes this step: if the session represented some streams before it, it represents them
-- with the step done.
abbrev pub StepsOn : (Texts → Texts) → LoadSession → LoadSession → Type 0
StepsOn step old new = (given : LoadSettings) (uuid : List ℕ) (texts : Texts) → StandsFor given uuid texts old → StandsFor given uuid (step texts) new

-- an allocation was refused in the step
abbrev pub RunsOut : (Texts → Texts) → LoadSession → LoadSession → Type 0
RunsOut step old new = (given : LoadSettings) (uuid : List ℕ) (texts : Texts) → StandsFor given uuid texts old → LacksMemory given uuid (step texts) new

-- an allocation had been refused before
abbrev pub StillLacks : (Texts → Texts) → LoadSession → LoadSession → Type 0
StillLacks step old new = (given : LoadSettings) (uuid : List ℕ) (texts : Texts) → LacksMemory given uuid texts old → LacksMemory given uuid (step texts) new

-- the rounds that were counted stay counted, and a memory that was allocated stays
pub record KeepsRounds (old new : LoadSession) : Type 0 where
  pub more_rounds : rounds_loaded old.target ≤ rounds_loaded new.target
  pub has_memory : old.target ≢ None → new.target ≢ None

-- ---- private

pub record StandsForSome (s : LoadSession) : Type 0 where
  pub given : LoadSettings
  pub uuid : List ℕ
  pub texts : Texts
  pub stands : StandsFor given uuid texts s

-- a session with these parts
abbrev pub session : LoadSettings → List ℕ → Counts → Option Places → Option Fed → Option RoundLoad → Option Held → Verdict → LoadSession
session given uuid counts places sources load over verdict = record {
  settings = given;
  uuid = uuid;
  counts = counts;
  places = places;
  sources = sources;
  load = load;
  over = over;
  target = target_in load over;
  verdict = verdict;
}

-- It keeps its sources while it runs, and then represents some streams.
pub record IsSession (s : LoadSession) : Type 0 where
  pub is_open : s.verdict ≡ Running → s.sources ≢ None
  pub is_settled : s.verdict ≢ Running → s.sources ≡ None
  pub is_not_over : s.sources ≢ None → s.over ≡ None
  pub stands : s.sources ≢ None → StandsForSome s
