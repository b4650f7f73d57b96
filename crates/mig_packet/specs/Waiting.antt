-- What may wait in a channel for the end of its round, where the caller sets a limit.
use Rattle.std.specs.Prelude.{ℕ, ◌+◌, ◌-◌, ◌≤◌, Bool, false, nat_lt, if◌then◌else◌, List, [], ◌∷◌, ◌++◌, sum_by, Option, None, Some, ⊤}
use Rattle.mig_packet.specs.declared.fault.ChannelFault.{ChannelFault}
use Rattle.mig_packet.specs.declared.fault.ChannelFault.TheVariants as fault
use Rattle.mig_packet.specs.Packet.{normal_count, zero_count, is_sync, packet_faults}

-- how much a packet counts: one for itself, and one for each of its pages
abbrev pub weight : List ℕ → ℕ
weight packet = 1 + normal_count packet + zero_count packet

-- how much packets count together
abbrev pub weight_of_all : List (List ℕ) → ℕ
weight_of_all packets = sum_by weight packets

-- packets of one round count no more than the limit. None is no limit.
abbrev pub IsWithin : Option ℕ → List (List ℕ) → Type 0
IsWithin None packets = ⊤
IsWithin (Some waiting) packets = weight_of_all packets ≤ waiting

-- what the limit leaves after these packets of a round
abbrev pub room_after : Option ℕ → List (List ℕ) → Option ℕ
room_after None packets = None
room_after (Some waiting) packets = Some (waiting - weight_of_all packets)

-- what is left of some room after a packet of this weight
abbrev pub less_room : Option ℕ → ℕ → Option ℕ
less_room None weight = None
less_room (Some room) weight = Some (room - weight)

-- What there is room for after a packet. SYNC ends its round, so the next one has all of the limit.
abbrev pub next_room : Option ℕ → Option ℕ → List ℕ → Option ℕ
next_room waiting room packet = if is_sync packet then waiting else less_room room (weight packet)

-- a packet of this weight has no room
abbrev pub is_over : Option ℕ → ℕ → Bool
is_over None weight = false
is_over (Some room) weight = nat_lt room weight

-- What may be wrong with a packet's head where its round has so much room left, in the order of
-- judging: the limit comes last.
abbrev pub packet_faults_within : ℕ → Option ℕ → List ℕ → List (Bool × ChannelFault)
packet_faults_within page_size room bytes = packet_faults page_size bytes ++ (is_over room (weight bytes), fault.Waiting) ∷ []
