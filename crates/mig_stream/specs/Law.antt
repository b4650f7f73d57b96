-- Relations of streams and their readings.
use Rattle.std.specs.Prelude.{◌≡◌, ◌≢◌, ◌↔◌, ◌⊎◌, ℕ, ◌+◌, ◌≤◌, ◌<◌, ◌^◌, false, List, [], ◌∷◌, ◌++◌, length, map, replicate, slice_index, take, Some, None, All}
use Rattle.mig_mem.specs.PageSize.{IsPageSize}
use Rattle.mig_mem.specs.RamTable.{RamTable, IsTable}
use Rattle.mig_mem.specs.Image.{Page}
use Rattle.mig_mem.specs.Round.{IsRound}
use Rattle.mig_stream.specs.declared.item.Frame.TheVariants.{Ram, Machine}
use Rattle.mig_stream.specs.declared.item.Mode.{Mode}
use Rattle.mig_stream.specs.declared.item.Mode.TheVariants.{Single, Main}
use Rattle.mig_stream.specs.declared.item.StreamState.TheVariants.{Reading, Closed, Bad}
use Rattle.mig_stream.specs.declared.fault.StreamFault.{StreamFault}
use Rattle.mig_stream.specs.PageRecord.{PageRecord, page_of}
use Rattle.mig_stream.specs.Progress.{StreamProgress, start}
use Rattle.mig_stream.specs.Items.{first_fault}
use Rattle.mig_stream.specs.Reading.{Settings, settings, in_frame, IsItem, Front, StreamReading, IsReading}
use Rattle.mig_stream.specs.Reader.{HasState, IsFinal, HasFront, IsValidUpTo, IsClosedAt}
use Rattle.mig_stream.specs.Text.{IsText, total_bytes}
use Rattle.mig_stream.specs.Format.{full_type}
use Rattle.mig_stream.specs.Machine.{IsMachineText, IsSnapshotText}
use Rattle.mig_stream.specs.Written.{written_record, single, main}

-- the reading of a stream that was read to its end
abbrev pub closed : RamTable → List (List PageRecord) → StreamReading
closed table rounds = record { table = Some table; rounds = rounds; state = Closed }

-- Each stream has exactly one reading.
abbrev pub HasOneReading : Type 0
HasOneReading = (given : Settings) (text : List ℕ) → IsPageSize given.page_size
    → (reading : StreamReading) × IsReading given text reading × ((other : StreamReading) → IsReading given text other → other ≡ reading)

-- A stream is read as that stream, whatever bytes follow it.
abbrev pub SpelledIsRead : Type 0
SpelledIsRead = (mode : Mode) (limit : ℕ) (text rest : List ℕ) (table : RamTable) (rounds : List (List PageRecord))
    → IsText mode limit text table rounds → IsReading (settings mode table.page_size limit) (text ++ rest) (closed table rounds)

-- a prefix of these bytes is a stream of this table and these rounds
abbrev pub HasText : Mode → ℕ → List ℕ → RamTable → List (List PageRecord) → Type 0
HasText mode limit bytes table rounds = (text rest : List ℕ) × (bytes ≡ text ++ rest) × IsText mode limit text table rounds

-- Bytes that are read to their end byte begin with that stream.
abbrev pub ReadIsSpelled : Type 0
ReadIsSpelled = (given : Settings) (bytes : List ℕ) (reading : StreamReading)
    → given.frame ≡ Ram → IsPageSize given.page_size → given.limit ≤ 2 ^ 40 → All (λ byte. byte < 2 ^ 8) bytes → IsReading given bytes reading → reading.state ≡ Closed
    → (table : RamTable) × (table.page_size ≡ given.page_size) × (reading.table ≡ Some table) × HasText given.mode given.limit bytes table reading.rounds

-- Bytes are read to an end byte exactly if a prefix of them is a stream of that table and those
-- rounds.
abbrev pub ClosedIsText : Type 0
ClosedIsText = (mode : Mode) (limit : ℕ) (bytes : List ℕ) (table : RamTable) (rounds : List (List PageRecord))
    → IsPageSize table.page_size → limit ≤ 2 ^ 40 → All (λ byte. byte < 2 ^ 8) bytes
    → IsReading (settings mode table.page_size limit) bytes (closed table rounds) ↔ HasText mode limit bytes table rounds

-- No bytes have two prefixes that are streams.
abbrev pub HasOneText : Type 0
HasOneText = (mode : Mode) (limit : ℕ) (a b x y : List ℕ) (s t : RamTable) (p q : List (List PageRecord))
    → s.page_size ≡ t.page_size → IsText mode limit a s p → IsText mode limit b t q → a ++ x ≡ b ++ y
    → (a ≡ b) × (s ≡ t) × (p ≡ q)

-- a prefix of these bytes is a machine's stream, of this table and these rounds
abbrev pub HasMachineText : Mode → ℕ → List ℕ → RamTable → List (List PageRecord) → Type 0
HasMachineText mode limit bytes table rounds = (text rest : List ℕ) × (bytes ≡ text ++ rest) × IsMachineText mode limit text table rounds

-- A machine's stream is read as that stream, whatever bytes follow it.
abbrev pub MachineIsRead : Type 0
MachineIsRead = (mode : Mode) (limit : ℕ) (text rest : List ℕ) (table : RamTable) (rounds : List (List PageRecord))
    → IsMachineText mode limit text table rounds → IsReading (in_frame Machine (settings mode table.page_size limit)) (text ++ rest) (closed table rounds)

-- A prefix of these bytes is the RAM of a background snapshot, of this table and these rounds, and
-- the first device's section follows it.
abbrev pub HasSnapshot : Mode → ℕ → List ℕ → RamTable → List (List PageRecord) → Type 0
HasSnapshot mode limit bytes table rounds = (text rest : List ℕ) × (bytes ≡ text ++ full_type ∷ rest) × IsSnapshotText mode limit text table rounds

-- The RAM of a background snapshot is read as that, whatever device's section follows it.
abbrev pub SnapshotIsRead : Type 0
SnapshotIsRead = (mode : Mode) (limit : ℕ) (text rest : List ℕ) (table : RamTable) (rounds : List (List PageRecord))
    → IsSnapshotText mode limit text table rounds
    → IsReading (in_frame Machine (settings mode table.page_size limit)) (text ++ full_type ∷ rest) (closed table rounds)

-- a prefix of these bytes has a machine's RAM, of this table and these rounds, up to its end
abbrev pub HasMachineRam : Mode → ℕ → List ℕ → RamTable → List (List PageRecord) → Type 0
HasMachineRam mode limit bytes table rounds = HasMachineText mode limit bytes table rounds ⊎ HasSnapshot mode limit bytes table rounds

-- Bytes that are read to the end of RAM begin with that machine's stream, or with that background
-- snapshot.
abbrev pub MachineReadIsSpelled : Type 0
MachineReadIsSpelled = (given : Settings) (bytes : List ℕ) (reading : StreamReading) → given.frame ≡ Machine
    → IsPageSize given.page_size → given.limit ≤ 2 ^ 40 → All (λ byte. byte < 2 ^ 8) bytes → IsReading given bytes reading → reading.state ≡ Closed
    → (table : RamTable) × (table.page_size ≡ given.page_size) × (reading.table ≡ Some table) × HasMachineRam given.mode given.limit bytes table reading.rounds

-- Bytes are read to the end of RAM exactly if a prefix of them is a machine's stream, or a
-- background snapshot, of that table and those rounds.
abbrev pub MachineClosedIsText : Type 0
MachineClosedIsText = (mode : Mode) (limit : ℕ) (bytes : List ℕ) (table : RamTable) (rounds : List (List PageRecord))
    → IsPageSize table.page_size → limit ≤ 2 ^ 40 → All (λ byte. byte < 2 ^ 8) bytes
    → IsReading (in_frame Machine (settings mode table.page_size limit)) bytes (closed table rounds) ↔ HasMachineRam mode limit bytes table rounds

-- The bytes that a writer writes of rounds are a single stream of them, with an empty round for
-- START and for END.
abbrev pub SinglesAreTexts : Type 0
SinglesAreTexts = (limit : ℕ) (table : RamTable) (rounds : List (List Page)) → IsTable table → total_bytes table ≤ limit → All (IsRound table) rounds
    → IsText Single limit (single table rounds) table ([] ∷ map (map written_record) rounds ++ [] ∷ [])

-- The bytes that a writer writes of only FLUSHes are a main stream of as many empty rounds.
abbrev pub MainsAreTexts : Type 0
MainsAreTexts = (limit : ℕ) (table : RamTable) (n : ℕ) → IsTable table → total_bytes table ≤ limit → IsText Main limit (main table n) table (replicate n [])

-- The records that a writer writes of a round represent the pages of that round.
abbrev pub RecordsStandForPages : Type 0
RecordsStandForPages = (table : RamTable) (round : List Page) → IsRound table round → map (page_of table.page_size) (map written_record round) ≡ round

-- A stream has no more complete rounds than bytes, none before its table is known, and a table of
-- the page size that was passed.
pub record KeepsLimits (page_size : ℕ) (text : List ℕ) (reading : StreamReading) : Type 0 where
  pub has_few : length reading.rounds ≤ length text
  pub has_table_first : reading.table ≡ None → reading.rounds ≡ []
  pub has_page_size : (table : RamTable) → reading.table ≡ Some table → table.page_size ≡ page_size

abbrev pub ReadingsKeepLimits : Type 0
ReadingsKeepLimits = (given : Settings) (text : List ℕ) (reading : StreamReading) → IsPageSize given.page_size
    → IsReading given text reading → KeepsLimits given.page_size text reading

-- The reading of a stream stays, whatever bytes follow: its complete rounds are the first ones of
-- the longer stream, and its table is that stream's too. After the end byte, or a fault, nothing
-- changes.
pub record StaysRead (before now : StreamReading) : Type 0 where
  pub more_rounds : List (List PageRecord)
  pub has_rounds : now.rounds ≡ before.rounds ++ more_rounds
  pub same_table : (table : RamTable) → before.table ≡ Some table → now.table ≡ Some table
  pub same_once_over : before.state ≢ Reading → now ≡ before

abbrev pub LongerTextsStay : Type 0
LongerTextsStay = (given : Settings) (text more : List ℕ) (before now : StreamReading) → IsPageSize given.page_size
    → IsReading given text before → IsReading given (text ++ more) now → StaysRead before now

-- ---- the valid prefix of a stream

-- A stream is valid up to exactly one offset, and no front of it is longer.
abbrev pub IsValidUpToOnePlace : Type 0
IsValidUpToOnePlace = (given : Settings) (text : List ℕ) → IsPageSize given.page_size
    → (n : ℕ) × IsValidUpTo given text n × (n ≤ length text)
    × ((m : ℕ) → HasFront given text m → m ≤ n) × ((m : ℕ) → IsValidUpTo given text m → m ≡ n)

-- More bytes leave the offset as it was, or increase it. Once the stream is closed or bad, it
-- stays.
abbrev pub LongerTextsStayValid : Type 0
LongerTextsStayValid = (given : Settings) (text more : List ℕ) (m n : ℕ) → IsValidUpTo given text m → IsValidUpTo given (text ++ more) n
    → (m ≤ n) × (IsFinal given text → m ≡ n)

-- A closed stream is valid up to the byte at which it is closed.
abbrev pub ClosedIsValid : Type 0
ClosedIsValid = (given : Settings) (text : List ℕ) (n : ℕ) → HasState given text false Closed → IsValidUpTo given text n ↔ IsClosedAt given text n

-- A stream that is closed at a byte is closed by the bytes before it, and by no fewer. A background
-- snapshot is closed by these and the type byte of the first device's section.
pub record IsClosedBy (given : Settings) (text : List ℕ) (n : ℕ) : Type 0 where
  pub fits : n ≤ length text
  pub is_closed : HasState given (take n text) false Closed
      ⊎ ((given.frame ≡ Machine) × (given.mode ≡ Single) × (slice_index text n ≡ full_type) × HasState given (take (n + 1) text) false Closed)
  pub is_first : (m : ℕ) → m < n → HasState given (take m text) false Closed → ⊥

abbrev pub ClosedIsFirst : Type 0
ClosedIsFirst = (given : Settings) (text : List ℕ) (n : ℕ) → IsClosedAt given text n → IsClosedBy given text n

-- the first n bytes are complete items without a fault, and the complete item after them has this
-- fault
pub record HasFaultAt (given : Settings) (text : List ℕ) (n : ℕ) (fault : StreamFault) : Type 0 where
  pub to : StreamProgress
  pub front : List ℕ
  pub item : List ℕ
  pub more : List ℕ
  pub has_text : text ≡ front ++ item ++ more
  pub has_length : length front ≡ n
  pub leads : Front (start given.frame given.mode given.page_size given.limit given.waiting) front to
  pub is_item : IsItem to.page_size to.due item
  pub has_fault : first_fault to item ≡ Some fault

-- A bad stream is valid up to the beginning of the item at fault.
abbrev pub BadIsValidBefore : Type 0
BadIsValidBefore = (given : Settings) (text : List ℕ) (n : ℕ) (fault : StreamFault) → HasState given text false (Bad fault) → IsValidUpTo given text n → HasFaultAt given text n fault
