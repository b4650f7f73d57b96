-- Worked examples of the verdict, computed. A packet is written as its bytes; the empty one says
-- number 0 and no pages.
use Rattle.std.proofs.Common.{ℕ, ◌≡◌, List, [], ◌∷◌, refl, Some, true}
use Rattle.mig_mem.specs.RamTable.{RamTable}
use Rattle.mig_stream.specs.declared.item.StreamState.{StreamState}
use Rattle.mig_stream.specs.declared.item.StreamState.TheVariants as stream
use Rattle.mig_stream.specs.declared.fault.StreamFault.TheVariants.{Truncated}
use Rattle.mig_stream.specs.Reading.{StreamReading}
use Rattle.mig_packet.specs.declared.state.ChannelState.{ChannelState}
use Rattle.mig_packet.specs.declared.state.ChannelState.TheVariants as channel
use Rattle.mig_packet.specs.declared.fault.ChannelFault.TheVariants.{HelloUuid, Unsynced}
use Rattle.mig_packet.specs.Fields.{be32_at, be64_at}
use Rattle.mig_packet.specs.Reading.{ChannelReading}
use Rattle.mig_assemble.specs.declared.fault.RoundFault.TheVariants.{Foreign, Doubled}
use Rattle.mig_load_types.specs.declared.fault.Origin.TheVariants as origin
use Rattle.mig_load_types.specs.declared.fault.Fault.TheVariants as fault
use Rattle.mig_answer.specs.declared.verdict.Verdict.TheVariants.{Running, Done}
use Rattle.mig_answer.specs.Texts.{Readings}
use Rattle.mig_answer.specs.MultiLoad.{passes, verdict_at, failed}

abbrev table : RamTable
table = record { page_size = 4096; blocks = record { id = 97 ∷ []; pages = 1 } ∷ [] }

-- a main stream of this many rounds without records
abbrev main_of : List (List Rattle.mig_stream.specs.PageRecord.PageRecord) → StreamState → StreamReading
main_of rounds state = record { table = Some table; rounds = rounds; state = state }

-- a channel of an id
abbrev channel_of : ℕ → List (List (List ℕ)) → ChannelState → ChannelReading
channel_of id rounds state = record { hello = Some id; rounds = rounds; state = state }

abbrev readings_of : StreamReading → List ChannelReading → Readings
readings_of main channels = record { main = main; channels = channels }

-- one packet, number 0
abbrev one_packet : List (List ℕ)
one_packet = [] ∷ []

-- a round is taken, and then all is done
done : verdict_at 1 (readings_of (main_of ([] ∷ []) stream.Closed) (channel_of 0 (one_packet ∷ []) channel.Closed ∷ [])) ≡ Done
done = refl

first_passes : passes 0 (readings_of (main_of ([] ∷ []) stream.Closed) (channel_of 0 (one_packet ∷ []) channel.Closed ∷ [])) ≡ true
unfolding be32_at be64_at
first_passes = refl

-- a source that is pending comes before one that is bad
pending_first : verdict_at 0 (readings_of (main_of [] (stream.Bad Truncated)) (channel_of 0 [] channel.Reading ∷ [])) ≡ Running
pending_first = refl

-- the main stream's fault comes before a channel's
main_first : verdict_at 0 (readings_of (main_of [] (stream.Bad Truncated)) (channel_of 0 [] (channel.Bad HelloUuid) ∷ []))
    ≡ failed 0 origin.Main (fault.Stream Truncated)
main_first = refl

-- but only at the same round
channel_at_its_round : verdict_at 0 (readings_of (main_of ([] ∷ []) (stream.Bad Truncated))
    (channel_of 0 (one_packet ∷ []) channel.Closed ∷ channel_of 1 [] (channel.Bad Unsynced) ∷ []))
    ≡ failed 0 (origin.Channel 1) (fault.Channel Unsynced)
channel_at_its_round = refl

-- two hellos of one id, though the round isn't lawful either
hello_twice : verdict_at 0 (readings_of (main_of ([] ∷ []) stream.Closed)
    (channel_of 0 (one_packet ∷ []) channel.Closed ∷ channel_of 0 (one_packet ∷ []) channel.Closed ∷ []))
    ≡ failed 0 (origin.Channel 1) fault.HelloTwice
hello_twice = refl

-- a number that occurs twice
doubled : verdict_at 0 (readings_of (main_of ([] ∷ []) stream.Closed)
    (channel_of 1 (one_packet ∷ []) channel.Closed ∷ channel_of 0 (one_packet ∷ []) channel.Closed ∷ []))
    ≡ failed 0 origin.Round (fault.Round (Doubled 0))
unfolding be32_at be64_at
doubled = refl

-- a number of the round before
foreign : verdict_at 1 (readings_of (main_of ([] ∷ [] ∷ []) stream.Closed) (channel_of 0 (one_packet ∷ one_packet ∷ []) channel.Closed ∷ []))
    ≡ failed 1 origin.Round (fault.Round (Foreign 0))
unfolding be32_at be64_at
foreign = refl

-- the main stream is clean, and the second channel has a round
extra : verdict_at 0 (readings_of (main_of [] stream.Closed) (channel_of 0 [] channel.Closed ∷ channel_of 1 (one_packet ∷ []) channel.Closed ∷ []))
    ≡ failed 0 (origin.Channel 1) fault.Extra
extra = refl

-- the main stream has a round, and the second channel is clean
short : verdict_at 0 (readings_of (main_of ([] ∷ []) stream.Closed) (channel_of 0 (one_packet ∷ []) channel.Closed ∷ channel_of 1 [] channel.Closed ∷ []))
    ≡ failed 0 (origin.Channel 1) fault.Short
short = refl
