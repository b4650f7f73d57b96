-- A load of a relay's items: the items that it takes of each channel, and the round that is judged.
use Rattle.std.specs.Prelude.{◌≡◌, ◌≢◌, ◌⊎◌, ℕ, ◌+◌, ◌<◌, ◌≤◌, Bool, true, List, [], ◌∷◌, ◌++◌, length, map, take, slice_get, slice_set, Option, Some, None, IsTrue, All, Result, ⊤, ◌==◌, ◌^◌, if◌then◌else◌, get_or, is_ok}
use Rattle.std.specs.List.{AllZip}
use Rattle.mig_mem.specs.PageSize.{IsPageSize}
use Rattle.mig_packet.specs.Lent.{fields}
use Rattle.mig_packet.specs.Packet.{Fields}
use Rattle.mig_packet.specs.declared.packet.Packet.{Packet}
use Rattle.mig_packet.specs.ChannelItems.{ChannelItem}
use Rattle.mig_packet.specs.Reading.{settings, with_waiting}
use Rattle.mig_assemble.specs.declared.fault.RoundFault.{RoundFault}
use Rattle.mig_assemble.specs.Target.{LoadTarget, FitsTable}
use Rattle.mig_stream.specs.Reader.{Reader, Stands, HasClosedAt, IsValidUpTo}
use Rattle.mig_stream.specs.Round.{RoundOfRecords}
use Rattle.mig_stream.specs.declared.item.StreamState.{StreamState}
use Rattle.mig_load_types.specs.Settings.{main_of}
use Rattle.mig_load_types.specs.declared.settings.LoadSettings.{LoadSettings}
use Rattle.mig_load_types.specs.declared.fault.Origin.TheVariants as origin
use Rattle.mig_answer.specs.declared.status.Status.{Status}
use Rattle.mig_answer.specs.declared.status.Status.TheVariants.{Whole, Clean, Bad, Pending}
use Rattle.mig_load_types.specs.declared.fault.LoadFault.{LoadFault}
use Rattle.mig_load_types.specs.declared.loaded.Loaded.{Loaded}
use Rattle.mig_answer.specs.declared.verdict.Verdict.{Verdict}
use Rattle.mig_answer.specs.declared.verdict.Verdict.TheVariants.{Running, Done}
use Rattle.mig_single_load.specs.SingleLoad.{no_memory_at}
use Rattle.mig_answer.specs.Texts.{Readings, AreReadings, ended_texts}
use Rattle.mig_answer.specs.Rounds.{packets_at, refusal_at}
use Rattle.mig_answer.specs.MultiLoad.{repeated_hello, passes, IsFirstStop, failed, verdict_at, as_verdict, answer_of, IsAnswerOrWithoutMemory, SaysOfStreamsOrNothing}
use Rattle.mig_answer.specs.Received.{round_count, rounds_in, end_in, hello_in, status_in, channel_packets_in, packets_in, IsFront}
use Rattle.mig_relay.specs.declared.item.ChannelEnd.{ChannelEnd}
use Rattle.mig_relay.specs.declared.item.ChannelEnd.TheVariants as channel_end
use Rattle.mig_relay.specs.declared.item.Item.{Item}
use Rattle.mig_relay.specs.declared.relayed.MainPlaces.{MainPlaces}
use Rattle.mig_load_types.specs.declared.fault.Fault.TheVariants as fault
use Rattle.mig_relay.specs.RelayItems.{as_channel_item, IsOfPageSize, with_settings, QueueEnd, BeginsItems, IsThrough}
use Rattle.mig_answer.specs.Putting.{HasLoaded}

-- ---- the relay of some channels

-- these are the ends that pop of the queues of these channels, with pages of this size, this UUID
-- and this limit on what waits in a round
pub record IsRelayOf (page_size : ℕ) (waiting : Option ℕ) (uuid : List ℕ) (texts : List (List ℕ)) (ends : List QueueEnd) : Type 0 where
  pub has_some : 1 ≤ length texts
  pub has_sources : map (λ p. p.source) ends ≡ map (with_settings (with_waiting waiting (settings page_size uuid (length texts)))) texts

-- they are of the queues of some channels
pub record IsRelay (ends : List QueueEnd) : Type 0 where
  pub page_size : ℕ
  pub waiting : Option ℕ
  pub uuid : List ℕ
  pub texts : List (List ℕ)
  pub is_page_size : IsPageSize page_size
  pub is_relay : IsRelayOf page_size waiting uuid texts ends

abbrev pub received_of : List QueueEnd → List (List ChannelItem)
received_of ends = map (λ p. p.passed) ends

-- the queue and the channel are unchanged, and the items taken begin with those taken before
pub record Continues (old new : QueueEnd) : Type 0 where
  pub same_queue : new.queue ≡ old.queue
  pub same_source : new.source ≡ old.source
  pub begins : IsFront old.passed new.passed

-- The items that a load that counts `rounds` rounds has taken: at least their SYNC packets, and the
-- stop if it is done.
pub record HasReceived (rounds : ℕ) (done : Bool) (old new : QueueEnd) : Type 0 where
  pub continues : Continues old new
  pub has_rounds : rounds ≤ round_count new.passed
  pub has_stop : done ≡ true → IsThrough new

-- ---- one channel, processed item by item

-- the status by a stop
abbrev pub stop_status : ChannelEnd → Status
stop_status channel_end.Clean = Clean
stop_status (channel_end.Bad f) = Bad (fault.Channel f)

-- the first `at` items were taken, and the stop isn't among them
abbrev pub IsOpenAt : ℕ → QueueEnd → Type 0
IsOpenAt at p = (at ≤ length p.passed) × (end_in (take at p.passed) ≡ Pending)

-- The first `at` items that were taken of a channel were processed: they have these complete
-- rounds, then no further packet, and no stop.
pub record IsAt (at : ℕ) (passed : List ChannelItem) (rounds : List (List Fields)) : Type 0 where
  pub within : at ≤ length passed
  pub has_rounds : (more : List ChannelItem) → rounds_in (take at passed ++ more) ≡ rounds ++ rounds_in more
  pub is_open : end_in (take at passed) ≡ Pending

-- they have exactly k complete rounds
pub record IsAtRound (k at : ℕ) (passed : List ChannelItem) : Type 0 where
  pub rounds : List (List Fields)
  pub has_count : length rounds ≡ k
  pub is_at : IsAt at passed rounds

-- enough was taken of a channel to know round k
abbrev pub HasEnough : ℕ → QueueEnd → Type 0
HasEnough k p = BeginsItems p.source p.passed × ((k < round_count p.passed) ⊎ IsThrough p)

-- Round k of a channel was processed, up to index `to`: the channel's status at it, and the packets
-- if it is complete.
pub record HasGone (k to : ℕ) (p : QueueEnd) (status : Status) (packets : List Fields) : Type 0 where
  pub is_told : HasEnough k p
  pub has_status : status ≡ status_in k p.passed
  pub has_packets : status ≡ Whole → packets ≡ channel_packets_in k p.passed
  pub goes_on : status ≡ Whole → IsAtRound (k + 1) to p.passed

-- Item `at` of channel j is this item, which was taken if it wasn't yet. The other channels are
-- unchanged.
pub record GivesItem (j at : ℕ) (old new : List QueueEnd) (item : Item) : Type 0 where
  pub before : QueueEnd
  pub behind : QueueEnd
  pub has_before : slice_get old j ≡ Some before
  pub has_new : new ≡ slice_set old j behind
  pub continues : Continues before behind
  pub begun : BeginsItems behind.source behind.passed
  pub is_there : at < length behind.passed
  pub has_passed : take (at + 1) behind.passed ≡ take at before.passed ++ as_channel_item item ∷ []
  pub is_page_size : IsPageSize before.source.page_size
  pub has_page_size : IsOfPageSize before.source.page_size item

-- Channel j was processed from one index to another, with these packets. The other channels are
-- unchanged.
pub record GoesThrough (j at : ℕ) (old new : List QueueEnd) (to : ℕ) (status : Status) (packets : List Packet) : Type 0 where
  pub before : QueueEnd
  pub behind : QueueEnd
  pub has_before : slice_get old j ≡ Some before
  pub has_new : new ≡ slice_set old j behind
  pub continues : Continues before behind
  pub has_page_size : All (λ packet. packet.page_size ≡ before.source.page_size) packets
  pub has_gone : (k : ℕ) → IsAtRound k at before.passed → HasGone k to behind status (map fields packets)

-- ---- all channels

-- all were processed up to round k
abbrev pub AreAtRound : ℕ → List ℕ → List QueueEnd → Type 0
AreAtRound k places ends = AllZip (λ (at : ℕ) (p : QueueEnd). IsAtRound k at p.passed) places ends

-- Round k of all channels was processed: their statuses at it, and the packets of all if it is
-- complete in each.
pub record HaveGone (k : ℕ) (places : List ℕ) (ends : List QueueEnd) (statuses : List Status) (packets : List Fields) : Type 0 where
  pub are_told : All (HasEnough k) ends
  pub has_statuses : statuses ≡ map (status_in k) (received_of ends)
  pub has_packets : All (λ status. status ≡ Whole) statuses → packets ≡ packets_in k (received_of ends)
  pub goes_on : All (λ status. status ≡ Whole) statuses → AreAtRound (k + 1) places ends

-- ---- the round that is judged

-- the least channel whose hello names an earlier one's id; round 0 alone reports it
abbrev pub repeated_at : ℕ → List QueueEnd → Option ℕ
repeated_at k ends = if k == 0 then repeated_hello (map hello_in (received_of ends)) else None

-- the setting of a load on channels, and the readings of its sources
pub record Load : Type 0 where
  pub given : LoadSettings
  pub uuid : List ℕ
  pub main : List ℕ
  pub texts : List (List ℕ)
  pub readings : Readings

-- a load of this main stream and of the channels of a relay, with these settings but for those that
-- the relay has
pub record IsLoadOf (settings : LoadSettings) (main : List ℕ) (ends : List QueueEnd) (l : Load) : Type 0 where
  pub has_settings : l.given ≡ record settings { page_size = l.given.page_size; waiting = l.given.waiting }
  pub has_main : l.main ≡ main
  pub is_page_size : IsPageSize l.given.page_size
  pub is_relay : IsRelayOf l.given.page_size l.given.waiting l.uuid l.texts ends
  pub are_readings : AreReadings l.given l.uuid (ended_texts l.main l.texts) l.readings

-- A load has reached round k: the rounds before it pass, and these are the channels, processed up
-- to it.
pub record Loading (l : Load) (k : ℕ) (places : List ℕ) (ends : List QueueEnd) : Type 0 where
  pub is_page_size : IsPageSize l.given.page_size
  pub is_relay : IsRelayOf l.given.page_size l.given.waiting l.uuid l.texts ends
  pub are_readings : AreReadings l.given l.uuid (ended_texts l.main l.texts) l.readings
  pub have_passed : (j : ℕ) → j < k → IsTrue (passes j l.readings)
  pub are_at : AreAtRound k places ends

-- The sources at round k: they give a verdict, which is the load's, or all have the round, with
-- these packets.
pub record ToldAt (l : Load) (k : ℕ) (main : Status) (told : Option Verdict) (places : List ℕ) (ends : List QueueEnd) (packets : List Fields) : Type 0 where
  pub stops : (verdict : Verdict) → told ≡ Some verdict → IsFirstStop l.readings k × (verdict_at k l.readings ≡ verdict) × (verdict ≢ Running)
  pub through : told ≡ Some Done → All IsThrough ends
  pub has_main : told ≡ None → main ≡ Whole
  pub has_packets : told ≡ None → packets ≡ packets_at l.given.page_size k l.readings
  pub goes_on : told ≡ None → AreAtRound (k + 1) places ends
  pub passes : told ≡ None → refusal_at k l.readings ≡ None → IsTrue (passes k l.readings)
  pub refused : told ≡ None → (why : RoundFault) → refusal_at k l.readings ≡ Some why
      → IsFirstStop l.readings k × (verdict_at k l.readings ≡ failed k origin.Round (fault.Round why))

-- the answer of a load at round k: that on the sources, or `NoMemory`
abbrev pub IsAnswered : Load → ℕ → Result ⊤ LoadFault → Type 0
IsAnswered l k verdict = (IsFirstStop l.readings k × (verdict_at k l.readings ≡ as_verdict verdict)) ⊎ (verdict ≡ no_memory_at k)

-- each channel has the SYNC packets of the first k rounds
abbrev pub HaveRounds : ℕ → List QueueEnd → Type 0
HaveRounds k ends = All (λ p. k ≤ round_count p.passed) ends

-- The result of a load that ends at round k: its verdict, and the items that it took of the
-- channels.
pub record HasEnded (l : Load) (k : ℕ) (verdict : Result ⊤ LoadFault) (ends : List QueueEnd) : Type 0 where
  pub is_answered : IsAnswered l k verdict
  pub have_rounds : HaveRounds k ends
  pub through : is_ok verdict ≡ true → All IsThrough ends

-- a load has reached a round of these records, which the main stream has; the rounds before it are
-- applied
pub record ComesToRound (l : Load) (target : LoadTarget) (places : List ℕ) (ends : List QueueEnd) (round : RoundOfRecords) : Type 0 where
  pub loading : Loading l target.rounds places ends
  pub has_loaded : HasLoaded target.rounds l.readings target
  pub few_packets : target.base ≤ 2 ^ 63
  pub few_rounds : target.rounds < 2 ^ 63
  pub has_round : target.rounds < length l.readings.main.rounds
  pub is_round : round.records ≡ get_or l.readings.main.rounds target.rounds []
  pub fits : FitsTable target.memory.table round

-- A load has reached a round that all sources have, with these records and packets. What its reader
-- and the channels give next follows it; it isn't applied yet.
pub record Ready (l : Load) (reader : Reader) (target : LoadTarget) (places : List ℕ) (ends : List QueueEnd) (round : RoundOfRecords) (packets : List Packet) : Type 0 where
  pub places_before : List ℕ
  pub ends_before : List QueueEnd
  pub comes : ComesToRound l target places_before ends_before round
  pub continues : AllZip Continues ends_before ends
  pub told : ToldAt l target.rounds Whole None places ends (map fields packets)
  pub has_page_size : All (λ packet. packet.page_size ≡ target.memory.table.page_size) packets
  pub stands : Stands (main_of l.given) (record { text = l.main; ended = true; taken = target.rounds + 1 }) reader
  pub is_short : length l.main < 2 ^ 63

-- a load with this memory ends with this verdict
pub record Ends (l : Load) (target : LoadTarget) (verdict : Result ⊤ LoadFault) (ends : List QueueEnd) : Type 0 where
  pub are_readings : AreReadings l.given l.uuid (ended_texts l.main l.texts) l.readings
  pub have_passed : (j : ℕ) → j < target.rounds → IsTrue (passes j l.readings)
  pub has_loaded : HasLoaded target.rounds l.readings target
  pub has_ended : HasEnded l target.rounds verdict ends

-- After round k the main stream stands so.
pub record EndsAt (l : Load) (k : ℕ) (state : StreamState) (places : List ℕ) (ends : List QueueEnd) : Type 0 where
  pub loading : Loading l k places ends
  pub is_last : length l.readings.main.rounds ≡ k
  pub has_state : l.readings.main.state ≡ state

-- a load has applied the first rounds of the main stream, of which the reader gives the others
pub record Goes (l : Load) (reader : Reader) (target : LoadTarget) (places : List ℕ) (ends : List QueueEnd) : Type 0 where
  pub stands : Stands (main_of l.given) (record { text = l.main; ended = true; taken = target.rounds }) reader
  pub loading : Loading l target.rounds places ends
  pub has_loaded : HasLoaded target.rounds l.readings target
  pub few_packets : target.base ≤ 2 ^ 63
  pub is_short : length l.main < 2 ^ 63

-- a load begins: no item of the main stream, which its reader was given, nor of the channels was
-- processed
pub record Begins (l : Load) (reader : Reader) (places : List ℕ) (ends : List QueueEnd) : Type 0 where
  pub stands : Stands (main_of l.given) (record { text = l.main; ended = true; taken = 0 }) reader
  pub loading : Loading l 0 places ends
  pub is_short : length l.main < 2 ^ 63

-- these are where the main stream of a load is closed, and how long its valid prefix is
pub record AreMainPlaces (l : Load) (places : MainPlaces) : Type 0 where
  pub is_closed_at : HasClosedAt (main_of l.given) l.main places.closed_at
  pub is_valid_up_to : IsValidUpTo (main_of l.given) l.main places.valid_up_to

-- the answer of a load: that on its sources, or the one without memory; and what it says of them
abbrev pub IsAnswerOf : {A : Type 0} → Load → Loaded A → Type 0
IsAnswerOf l loaded =
    IsAnswerOrWithoutMemory l.given l.uuid (ended_texts l.main l.texts) (answer_of loaded)
    × SaysOfStreamsOrNothing l.given l.uuid (ended_texts l.main l.texts) loaded
