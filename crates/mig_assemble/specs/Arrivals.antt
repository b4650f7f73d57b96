-- A round that is judged as its parts arrive: the arrivals, the values kept of them, and the pages
-- that may be written already.
use Rattle.std.specs.Prelude.{ℕ, ◌≡◌, List, [], ◌∷◌, ◌++◌, false, flat_map, nat_lt, is_none, Option, Some, None, if◌then◌else◌, IsPermutation}
use Rattle.std.specs.List.{AllZip}
use Rattle.std.specs.Option.{option_map}
use Rattle.mig_mem.specs.declared.place.Place.{Place}
use Rattle.mig_mem.specs.RamTable.{RamTable}
use Rattle.mig_mem.specs.PlaceSet.{PlaceSet}
use Rattle.mig_mem.specs.Place.{IsPlace, has_place}
use Rattle.mig_mem.specs.Image.{Page, Image, content_at}
use Rattle.mig_mem.specs.Round.{with_round}
use Rattle.mig_packet.specs.Packet.{Fields}
use Rattle.mig_assemble.specs.declared.fault.RoundFault.{RoundFault}
use Rattle.mig_assemble.specs.declared.arrivals.WrongPacket.{WrongPacket}
use Rattle.mig_assemble.specs.Judging.{offsets, numbers, place_fault, least_misplaced, least_place_fault, packet_pages, all_round_pages, places_of, refusal}
use Rattle.mig_assemble.specs.Seen.{HasSeen}

-- ---- what arrived

-- page records of the main stream, or one packet of a channel
pub data Arrival : Type 0 where
  Records : List Page → Arrival
  OnePacket : Fields → Arrival

-- all records that arrived, in the order of their arrival
abbrev pub records_in : List Arrival → List Page
records_in [] = []
records_in (Records pages ∷ came) = pages ++ records_in came
records_in (OnePacket packet ∷ came) = records_in came

-- all packets that arrived, in the order of their arrival
abbrev pub packets_in : List Arrival → List Fields
packets_in [] = []
packets_in (Records pages ∷ came) = packets_in came
packets_in (OnePacket packet ∷ came) = packet ∷ packets_in came

-- why a round is refused that consists of exactly these arrivals; None if it is lawful
abbrev pub refusal_of : RamTable → ℕ → List Arrival → Option RoundFault
refusal_of table base came = refusal table base (records_in came) (packets_in came)

-- the pages that may be written of an arrival: none of a packet whose pages are misplaced
abbrev pub arrival_pages : RamTable → Arrival → List Page
arrival_pages table (Records pages) = pages
arrival_pages table (OnePacket packet) = if is_none (place_fault table packet) then packet_pages table packet else []

abbrev pub pages_that_came : RamTable → List Arrival → List Page
pages_that_came table came = flat_map (arrival_pages table) came

-- ---- the values kept of a round

-- the packets' numbers; of the packets whose pages are misplaced the one of least number; the least
-- place that occurred twice; the places
pub record RoundSoFar : Type 0 where
  pub numbers : List ℕ
  pub misplaced : Option WrongPacket
  pub double : Option Place
  pub seen : PlaceSet

-- the one of lesser number
abbrev pub lesser_misplaced : Option WrongPacket → WrongPacket → Option WrongPacket
lesser_misplaced None new = Some new
lesser_misplaced (Some old) new = if nat_lt new.number old.number then Some new else Some old

-- number and fault are those of the packet of least number among those whose pages are misplaced,
-- if there is one
pub record KnowsMisplaced (table : RamTable) (packets : List Fields) (misplaced : Option WrongPacket) : Type 0 where
  pub has_number : option_map (λ m. m.number) misplaced ≡ option_map (λ p. p.number) (least_misplaced table packets)
  pub has_fault : option_map (λ m. m.fault) misplaced ≡ least_place_fault table packets

-- The kept values represent a list of arrivals, of a round of this table. The numbers may be in any
-- order.
pub record HasCome (table : RamTable) (came : List Arrival) (r : RoundSoFar) : Type 0 where
  pub has_numbers : IsPermutation (numbers (packets_in came)) r.numbers
  pub has_misplaced : KnowsMisplaced table (packets_in came) r.misplaced
  pub has_seen : HasSeen table (places_of (pages_that_came table came)) r.seen r.double

-- this arrival was added, after those before
abbrev pub AlsoHas : Arrival → RoundSoFar → RoundSoFar → Type 0
AlsoHas more old new = (table : RamTable) (came : List Arrival) → HasCome table came old → HasCome table (came ++ more ∷ []) new

-- the arrivals are those before, and no more
abbrev pub HasSame : RoundSoFar → RoundSoFar → Type 0
HasSame old new = (table : RamTable) (came : List Arrival) → HasCome table came old → HasCome table came new

-- this is why a round of all arrivals is refused
abbrev pub IsJudged : ℕ → RoundSoFar → Option RoundFault → Type 0
IsJudged base r why = (table : RamTable) (came : List Arrival) → HasCome table came r → refusal_of table base came ≡ why

-- ---- laws

-- The pages of a lawful round, applied in the order of their arrival, give the memory that the
-- round gives.
abbrev pub ArrivalsMakeTheRound : Type 0
ArrivalsMakeTheRound = (table : RamTable) (base : ℕ) (came : List Arrival) (m : Image) → refusal_of table base came ≡ None
    → with_round m (pages_that_came table came) ≡ with_round m (all_round_pages table (records_in came) (packets_in came))

-- The pages that arrived, of a lawful round or of another, change no places except their own.
abbrev pub OtherPlacesStay : Type 0
OtherPlacesStay = (table : RamTable) (came : List Arrival) (m : Image) (p : Place) → IsPlace m.table p
    → has_place (places_of (pages_that_came table came)) p ≡ false → content_at (with_round m (pages_that_came table came)) p ≡ content_at m p

-- Two packets have the same head: number, id and offsets. Their pages' contents may differ, and so
-- may whether they end a round.
pub record SameHead (p q : Fields) : Type 0 where
  pub same_number : p.number ≡ q.number
  pub same_id : p.id ≡ q.id
  pub same_offsets : offsets p ≡ offsets q

-- A round is judged by its packets' heads.
abbrev pub HeadsAreJudged : Type 0
HeadsAreJudged = (table : RamTable) (base : ℕ) (records : List Page) (ps qs : List Fields) → AllZip SameHead ps qs
    → refusal table base records ps ≡ refusal table base records qs
