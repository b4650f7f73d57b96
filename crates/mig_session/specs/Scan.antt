-- Sources that are read to their last byte, whatever round the load is at: what the bytes of each
-- say by themselves.
use Rattle.std.specs.Prelude.{ℕ, ◌≡◌, ◌≢◌, ◌⊎◌, ◌<◌, ◌≤◌, ◌↔◌, Bool, List, [], ◌++◌, length, IsTrue, IsFalse, IfSome, Option, None}
use Rattle.mig_stream.specs.declared.item.StreamState.TheVariants as stream_state
use Rattle.mig_stream.specs.PageRecord.{PageRecord}
use Rattle.mig_stream.specs.Reading as stream
use Rattle.mig_stream.specs.Reader as stream_reader
use Rattle.mig_packet.specs.declared.state.ChannelState.TheVariants.{Reading}
use Rattle.mig_packet.specs.PageSize.{IsPageSize}
use Rattle.mig_packet.specs.Reading.{Settings, ChannelReading, IsReading}
use Rattle.mig_packet.specs.Paging.{GivenSoFar, PageHolder, Gives, is_complete}
use Rattle.mig_load_types.specs.Settings.{main_of}
use Rattle.mig_load_types.specs.declared.settings.LoadSettings.{LoadSettings}
use Rattle.mig_answer.specs.declared.status.Status.{Status}
use Rattle.mig_answer.specs.Status.{channel_status, channel_end, fault_of}
use Rattle.mig_answer.specs.Texts.{Text, IsMainReading}

-- the most that is counted
abbrev pub most : ℕ
most = 18446744073709551615

-- A counter of so many things: it counts each, up to the most that is counted.
abbrev pub Counts : ℕ → ℕ → Type 0
Counts counter n = (counter ≡ n) ⊎ ((counter ≡ most) × (most ≤ n))

-- ---- the main stream

-- a scan of the main stream: the reader, and how many rounds are complete
pub record MainScan : Type 0 where
  pub reader : stream_reader.Reader
  pub rounds : ℕ

abbrev pub main_so_far : Text → ℕ → stream_reader.SoFar
main_so_far text taken = record { text = text.bytes; ended = text.ended; taken = taken }

-- This much of the main stream was scanned. Its complete rounds were dropped.
pub record ScansMain (given : stream.Settings) (text : Text) (s : MainScan) : Type 0 where
  pub dropped : ℕ
  pub stands : stream_reader.Stands given (main_so_far text dropped) s.reader
  pub has_no_more : (i : ℕ) (records : List PageRecord) → stream_reader.HasRound given text.bytes i records → i < dropped
  pub has_rounds : Counts s.rounds dropped

-- A reader's rounds are dropped, and a counter of those before went on.
abbrev pub DropsRounds : stream_reader.Reader → ℕ → stream_reader.Reader → ℕ → Type 0
DropsRounds old before new after = (given : stream.Settings) (text : Text) (k : ℕ) → stream_reader.Stands given (main_so_far text k) old → Counts before k
    → ScansMain given text (record { reader = new; rounds = after })

-- a statement on a scanned main stream, by its reading
abbrev pub SaysMain : MainScan → (stream.StreamReading → Type 0) → Type 0
SaysMain s IsSo = (given : LoadSettings) (text : Text) (reading : stream.StreamReading) → IsPageSize given.page_size → ScansMain (main_of given) text s
    → IsMainReading given text reading → IsSo reading

-- A main stream is closed after k rounds.
pub record IsClosedAfter (k : ℕ) (reading : stream.StreamReading) : Type 0 where
  pub is_closed : reading.state ≡ stream_state.Closed
  pub has_all : length reading.rounds ≡ k

-- ---- a channel

-- These bytes were given to a reader, which took them, up to a fault. All that they have was given.
pub record IsRead (given : Settings) (bytes : List ℕ) (gave : GivenSoFar) (r : PageHolder) : Type 0 where
  pub taken : List ℕ
  pub rest : List ℕ
  pub has_bytes : bytes ≡ taken ++ rest
  pub gives : Gives given taken gave r
  pub is_over : rest ≢ [] → r.found ≢ Reading
  pub is_given : IfSome gave.packet (λ packet. IsFalse (is_complete packet))

-- More bytes were given to it. A counter of the complete rounds went on from `before` to `after`.
abbrev pub ReadsOn : List ℕ → ℕ → ℕ → PageHolder → PageHolder → Type 0
ReadsOn piece before after old new = (given : Settings) (bytes : List ℕ) (gave : GivenSoFar) → IsRead given bytes gave old
    → Counts before (length gave.read.rounds)
    → (now : GivenSoFar) × IsRead given (bytes ++ piece) now new × Counts after (length now.read.rounds)

-- a scan of a channel: the reader, and how many rounds are complete
pub record Scan : Type 0 where
  pub reader : PageHolder
  pub rounds : ℕ

-- This much of a channel was scanned.
pub record Scans (given : Settings) (text : Text) (s : Scan) : Type 0 where
  pub gave : GivenSoFar
  pub is_read : IsRead given text.bytes gave s.reader
  pub has_ended : s.reader.ended ≡ text.ended
  pub has_rounds : Counts s.rounds (length gave.read.rounds)

-- ---- what a channel says

-- a statement on a scanned channel, by its reading
abbrev pub Says : Scan → (ChannelReading → Type 0) → Type 0
Says s IsSo = (given : Settings) (text : Text) (reading : ChannelReading) → IsPageSize given.page_size → Scans given text s
    → IsReading given text.bytes text.ended reading → IsSo reading

-- this is its status at the first round
abbrev pub TellsFirstStatus : Scan → Status → Type 0
TellsFirstStatus s status = Says s (λ reading. status ≡ channel_status 0 reading)

-- this is the id in its hello
abbrev pub TellsHello : Scan → Option ℕ → Type 0
TellsHello s hello = Says s (λ reading. hello ≡ reading.hello)

-- A channel has k rounds, and no fault.
pub record HasOnly (k : ℕ) (c : ChannelReading) : Type 0 where
  pub has_rounds : length c.rounds ≡ k
  pub has_no_fault : fault_of (channel_end c.state) ≡ None

-- whether it has so many rounds, no further one, and no fault
abbrev pub TellsOnly : ℕ → Scan → Bool → Type 0
TellsOnly k s told = Says s (λ reading. IsTrue told ↔ HasOnly k reading)
