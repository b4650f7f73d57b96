-- Properties of hellos, packets and channels, whatever code writes and reads them.
use Rattle.std.specs.Prelude.{◌≡◌, ◌≢◌, ℕ, ◌+◌, ◌*◌, ◌≤◌, ◌<◌, Bool, true, false, List, [], ◌∷◌, ◌++◌, length, All, Some, None, IsTrue, IsFalse}
use Rattle.std.specs.List.{concat}
use Rattle.mig_packet.specs.PageSize.{IsPageSize}
use Rattle.mig_packet.specs.Hello.{IsHello, written_hello}
use Rattle.mig_packet.specs.Packet.{IsPacketText, IsPacket, is_sync}
use Rattle.mig_packet.specs.Written.{written_packet, written_fields, IsWritable}
use Rattle.mig_packet.specs.declared.state.ChannelState.TheVariants.{Reading, Closed, Bad}
use Rattle.mig_packet.specs.declared.fault.ChannelFault.{ChannelFault}
use Rattle.mig_packet.specs.declared.fault.ChannelFault.TheVariants.{Waiting}
use Rattle.mig_packet.specs.Waiting.{weight, weight_of_all, IsWithin}
use Rattle.mig_packet.specs.Progress.{ChannelProgress, start, due_fault}
use Rattle.mig_packet.specs.Reading.{Front, ChannelReading, Settings, with_waiting, IsReading}
use Rattle.mig_packet.specs.Reader.{HasState, IsFinal, HasFront, IsValidUpTo}
use Rattle.mig_packet.specs.ChannelItems.{ChannelItem, AreItems}

-- The bytes that are written for a UUID and an id are a hello with them.
abbrev pub WrittenHellosAreHellos : Type 0
WrittenHellosAreHellos = (uuid : List ℕ) (id : ℕ) → length uuid ≡ 16 → IsHello uuid id (written_hello uuid id)

-- The bytes that are written for fields within the limits are a packet with these fields.
abbrev pub WrittenPacketsArePackets : Type 0
WrittenPacketsArePackets = (page_size number : ℕ) (sync : Bool) (id normal contents zero : List ℕ) → IsWritable page_size number id normal contents zero
    → IsPacket page_size (written_packet page_size number sync id normal contents zero) (written_fields page_size number sync id normal contents zero)

-- No packet is a proper prefix of another.
abbrev pub NoPacketBeginsAnother : Type 0
NoPacketBeginsAnother = (page_size : ℕ) (front more : List ℕ) → IsPacketText page_size front → IsPacketText page_size (front ++ more) → more ≡ []

-- The bytes of a channel, ended or not, have exactly one reading.
abbrev pub HasOneReading : Type 0
HasOneReading = (given : Settings) (text : List ℕ) (ended : Bool) → IsPageSize given.page_size
    → (reading : ChannelReading) × IsReading given text ended reading
    × ((other : ChannelReading) → IsReading given text ended other → other ≡ reading)

-- The bytes of a channel that has ended have exactly one list of items.
abbrev pub HasOneListOfItems : Type 0
HasOneListOfItems = (given : Settings) (text : List ℕ) → IsPageSize given.page_size
    → (items : List ChannelItem) × AreItems given text items
    × ((other : List ChannelItem) → AreItems given text other → other ≡ items)

-- a round ends with its only SYNC packet
pub record EndsWithSync (round : List (List ℕ)) : Type 0 where
  pub before : List (List ℕ)
  pub last : List ℕ
  pub has_packets : round ≡ before ++ last ∷ []
  pub none_before : All (λ packet. IsFalse (is_sync packet)) before
  pub is_last : IsTrue (is_sync last)

-- Each complete round is packets of the page size, and ends with its only SYNC packet. There is
-- none without a hello. A channel that has ended is closed or bad. It is closed by its end alone,
-- and not without a hello.
pub record KeepsLimits (page_size : ℕ) (ended : Bool) (reading : ChannelReading) : Type 0 where
  pub end_with_sync : All EndsWithSync reading.rounds
  pub are_packets : All (All (IsPacketText page_size)) reading.rounds
  pub has_hello_first : reading.hello ≡ None → reading.rounds ≡ []
  pub is_settled : ended ≡ true → reading.state ≢ Reading
  pub is_open : ended ≡ false → reading.state ≢ Closed
  pub has_hello : reading.state ≡ Closed → reading.hello ≢ None

abbrev pub ReadingsKeepLimits : Type 0
ReadingsKeepLimits = (given : Settings) (text : List ℕ) (ended : Bool) (reading : ChannelReading) → IsPageSize given.page_size
    → IsReading given text ended reading → KeepsLimits given.page_size ended reading

-- ---- the limit on packets that wait

-- No round, complete or open, has packets that count more than the limit.
abbrev pub WaitingIsBounded : Type 0
WaitingIsBounded = (given : Settings) (text : List ℕ) (ended : Bool) (reading : ChannelReading) → (is : IsReading given text ended reading)
    → All (IsWithin given.waiting) reading.rounds × IsWithin given.waiting is.to.packets

-- So the packets of an open round have at most as many bytes as the limit times a page.
abbrev pub WaitingBytesAreBounded : Type 0
WaitingBytesAreBounded = (given : Settings) (text : List ℕ) (ended : Bool) (reading : ChannelReading) (waiting : ℕ) → IsPageSize given.page_size
    → given.waiting ≡ Some waiting → (is : IsReading given text ended reading) → length (concat is.to.packets) ≤ waiting * given.page_size

-- A limit only refuses: a reading without its fault is the reading without a limit.
abbrev pub LimitOnlyRefuses : Type 0
LimitOnlyRefuses = (given : Settings) (text : List ℕ) (ended : Bool) (reading : ChannelReading) → IsReading given text ended reading
    → reading.state ≢ Bad Waiting → IsReading (with_waiting None given) text ended reading

-- A channel that is closed without a limit is read so under each limit that none of its rounds
-- passes.
abbrev pub LimitLetsThrough : Type 0
LimitLetsThrough = (given : Settings) (text : List ℕ) (reading : ChannelReading) → IsReading (with_waiting None given) text true reading → reading.state ≡ Closed
    → All (IsWithin given.waiting) reading.rounds → IsReading given text true reading

-- ---- up to which byte a channel is valid

-- Bytes are valid up to exactly one offset, and none of their fronts is longer.
abbrev pub IsValidUpToOnePlace : Type 0
IsValidUpToOnePlace = (given : Settings) (text : List ℕ)
    → (n : ℕ) × IsValidUpTo given text n × (n ≤ length text)
    × ((m : ℕ) → HasFront given text m → m ≤ n) × ((m : ℕ) → IsValidUpTo given text m → m ≡ n)

-- More bytes leave the offset as it was, or increase it. Once the bytes have a fault, it stays.
abbrev pub LongerTextsStayValid : Type 0
LongerTextsStayValid = (given : Settings) (text more : List ℕ) (m n : ℕ) → IsValidUpTo given text m → IsValidUpTo given (text ++ more) n
    → (m ≤ n) × (IsFinal given text → m ≡ n)

-- A channel that has ended and is closed is valid up to its last byte.
abbrev pub ClosedIsValid : Type 0
ClosedIsValid = (given : Settings) (text : List ℕ) (n : ℕ) → HasState given text true Closed → IsValidUpTo given text n → n ≡ length text

-- the first n bytes are complete items without a fault, and the bytes after them have this fault
pub record HasFaultAt (given : Settings) (text : List ℕ) (n : ℕ) (fault : ChannelFault) : Type 0 where
  pub to : ChannelProgress
  pub front : List ℕ
  pub rest : List ℕ
  pub has_text : text ≡ front ++ rest
  pub has_length : length front ≡ n
  pub leads : Front (start given.page_size given.uuid given.channels given.waiting) front to
  pub has_fault : due_fault to rest ≡ Some fault

-- A limit refuses no packet that has room: the one at fault, together with those of its round
-- before it, counts more than the limit.
abbrev pub RefusedIsOver : Type 0
RefusedIsOver = (given : Settings) (text : List ℕ) (n : ℕ) → (at : HasFaultAt given text n Waiting)
    → (waiting : ℕ) × (given.waiting ≡ Some waiting) × (waiting < weight_of_all at.to.packets + weight at.rest)

-- A bad channel is valid up to the beginning of the item at fault.
abbrev pub BadIsValidBefore : Type 0
BadIsValidBefore = (given : Settings) (text : List ℕ) (n : ℕ) (fault : ChannelFault) → HasState given text false (Bad fault) → IsValidUpTo given text n → HasFaultAt given text n fault
