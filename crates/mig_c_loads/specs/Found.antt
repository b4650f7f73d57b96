-- A load's fault as C sees it.
use Rattle.std.specs.Prelude.{if◌then◌else◌, ℕ, Bool, true, false, Option, None, Some, List, [], ◌∷◌, ◌+◌, ◌-◌, ◌^◌, ◌==◌, min, Result, Ok, Err, ⊤}
use Rattle.mig_stream.specs.declared.fault.StreamFault.{StreamFault}
use Rattle.mig_stream.specs.declared.fault.StreamFault.TheVariants as stream
use Rattle.mig_packet.specs.declared.fault.ChannelFault.TheVariants as channel
use Rattle.mig_assemble.specs.declared.fault.RoundFault.{RoundFault}
use Rattle.mig_assemble.specs.declared.fault.RoundFault.TheVariants as round
use Rattle.mig_load_types.specs.LoadFaultNumber.{fault_number}
use Rattle.mig_load_types.specs.declared.fault.Fault.{Fault}
use Rattle.mig_load_types.specs.declared.fault.Fault.TheVariants as fault
use Rattle.mig_load_types.specs.declared.fault.LoadFault.{LoadFault}
use Rattle.mig_load_types.specs.declared.fault.Origin.{Origin}
use Rattle.mig_load_types.specs.declared.fault.Origin.TheVariants as origin
use Rattle.mig_answer.specs.declared.verdict.Verdict.{Verdict}
use Rattle.mig_answer.specs.declared.verdict.Verdict.TheVariants as verdict
use Rattle.mig_sources.specs.declared.source.Source.{Source}
use Rattle.mig_sources.specs.declared.source.Source.TheVariants as source
use Rattle.mig_c_loads.specs.declared.fault.FoundFault.{FoundFault}
use Rattle.mig_c_calls.specs.Status.{done, running, stream_truncated}

-- The source of a fault: 0 is the main stream, 1 + j is channel j. The largest number is the round
-- itself, which is in no one source.
abbrev pub source_number : Origin → ℕ
source_number origin.Main = 0
source_number (origin.Channel j) = min (j + 1) (2 ^ 64 - 1)
source_number origin.Round = 2 ^ 64 - 1

-- The details of a fault: first flags, a byte, the number of a packet or of a block; then the
-- number of an offset or of a page. They are zeros if the fault has none.
abbrev pub carried_of_stream : StreamFault → ℕ × ℕ
carried_of_stream (stream.Flags flags) = (flags, 0)
carried_of_stream (stream.Fill byte) = (byte, 0)
carried_of_stream _ = (0, 0)

abbrev pub carried_of_round : RoundFault → ℕ × ℕ
carried_of_round (round.Foreign packet) = (packet, 0)
carried_of_round (round.Doubled packet) = (packet, 0)
carried_of_round (round.Missing packet) = (packet, 0)
carried_of_round (round.UnknownBlock packet) = (packet, 0)
carried_of_round (round.Offset packet i) = (packet, i)
carried_of_round (round.DoublePage place) = (place.block, place.page)
carried_of_round round.NoMemory = (0, 0)

abbrev pub carried : Fault → ℕ × ℕ
carried (fault.Stream f) = carried_of_stream f
carried (fault.Channel (channel.PacketFlags flags)) = (flags, 0)
carried (fault.Round f) = carried_of_round f
carried _ = (0, 0)

-- the words of a fault that are reserved for later versions
abbrev pub no_words : List ℕ
no_words = 0 ∷ 0 ∷ 0 ∷ []

-- a fault as C sees it
abbrev pub found_of : LoadFault → FoundFault
found_of f = record {
  round = f.round;
  source = source_number f.source;
  number = fault_number f.fault;
  first = (carried f.fault).0;
  second = (carried f.fault).1;
  reserved = no_words;
}

-- a source, as a fault names it
abbrev pub origin_of : Source → Origin
origin_of source.Main = origin.Main
origin_of (source.Channel j) = origin.Channel j

-- the value for no fault
abbrev pub no_fault : FoundFault
no_fault = record { round = 0; source = 0; number = done; first = 0; second = 0; reserved = no_words }

-- the value for a load that continues after some rounds
abbrev pub goes_on : ℕ → FoundFault
goes_on rounds = record { round = rounds; source = 0; number = running; first = 0; second = 0; reserved = no_words }

-- The verdict on one stream as C sees it. If the stream hasn't ended and has no fault so far, more
-- of it is needed.
abbrev pub so_far : Bool → FoundFault → FoundFault
so_far ended f = if ended then f else if f.number == stream_truncated then goes_on f.round else f

abbrev pub seen_so_far : Bool → Result ⊤ LoadFault → FoundFault
seen_so_far ended (Ok x) = no_fault
seen_so_far ended (Err f) = so_far ended (found_of f)

-- the verdict on several channels as C sees it
abbrev pub seen_of_verdict : ℕ → Verdict → FoundFault
seen_of_verdict rounds verdict.Done = no_fault
seen_of_verdict rounds verdict.Running = goes_on rounds
seen_of_verdict rounds (verdict.Failed f) = found_of f

-- the fault of a source as C sees it, after some rounds, or that it has none
abbrev pub seen_of_source : ℕ → Source → Option Fault → FoundFault
seen_of_source rounds from None = no_fault
seen_of_source rounds from (Some f) = found_of (record { round = rounds; source = origin_of from; fault = f })

-- a number that is reported to C, or isn't: a call says which
abbrev pub if_told : Bool → ℕ → Option ℕ
if_told true number = Some number
if_told false number = None
