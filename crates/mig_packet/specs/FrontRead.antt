-- The hello or packet at the beginning of bytes, as `read_hello`, `read_packet` and
-- `read_packet_with` return it.
use Rattle.std.specs.Prelude.{◌≡◌, ℕ, ◌≤◌, ◌<◌, nat_le, if◌then◌else◌, List, ◌++◌, length, take, Option, Some, None, IsFalse}
use Rattle.mig_packet.specs.declared.front.HelloRead.{HelloRead}
use Rattle.mig_packet.specs.declared.front.HelloRead.TheVariants as hello
use Rattle.mig_packet.specs.declared.front.PacketRead.{PacketRead}
use Rattle.mig_packet.specs.declared.front.PacketRead.TheVariants as packet
use Rattle.mig_packet.specs.declared.fault.ChannelFault.{ChannelFault}
use Rattle.mig_packet.specs.PageSize.{head_len}
use Rattle.mig_packet.specs.Faults.{first_of}
use Rattle.mig_packet.specs.Hello.{IsHello, hello_len, due_hello_fault}
use Rattle.mig_packet.specs.Packet.{Fields, IsPacketText, due_packet_fault}
use Rattle.mig_packet.specs.Waiting.{weight, is_over, packet_faults_within}
use Rattle.mig_packet.specs.Lent.{fields}

-- Whole: the front is a hello of this UUID, and its id is one of the channels'. Cut: it isn't there
-- yet. Bad: the fault that is known.
abbrev pub ReadsHello : List ℕ → ℕ → List ℕ → HelloRead → Type 0
ReadsHello uuid channels bytes (hello.Whole id) = (id < channels) × IsHello uuid id (take hello_len bytes)
ReadsHello uuid channels bytes hello.Cut = length bytes < hello_len
ReadsHello uuid channels bytes (hello.Bad fault) = due_hello_fault uuid channels bytes ≡ Some fault

-- Whole: the front of that length is this packet. Cut: no fault is known, and no front is a packet.
-- Bad: the fault that is known.
abbrev pub ReadsPacket : ℕ → List ℕ → PacketRead → Type 0
ReadsPacket page_size bytes (packet.Whole found len) = (found.page_size ≡ page_size) × (len ≤ length bytes) × (found.bytes.now ≡ take len bytes)
ReadsPacket page_size bytes packet.Cut =
    (due_packet_fault page_size bytes ≡ None) × ((front more : List ℕ) → bytes ≡ front ++ more → IsPacketText page_size front → ⊥)
ReadsPacket page_size bytes (packet.Bad fault) = due_packet_fault page_size bytes ≡ Some fault

-- the fault that is due if the packet's round has this much room left
abbrev pub due_fault_within : ℕ → Option ℕ → List ℕ → Option ChannelFault
due_fault_within page_size room bytes = if nat_le (head_len page_size) (length bytes) then first_of (packet_faults_within page_size room bytes) else None

-- The result if the packet's round has this much room left. Whole: the front of that length is this
-- packet, and has room. Cut: no fault is due, and no front is a packet. Bad: the fault that is due.
abbrev pub ReadsPacketWithin : ℕ → Option ℕ → List ℕ → PacketRead → Type 0
ReadsPacketWithin page_size room bytes (packet.Whole found len) =
    ReadsPacket page_size bytes (packet.Whole found len) × IsFalse (is_over room (weight found.bytes.now))
ReadsPacketWithin page_size room bytes packet.Cut =
    (due_fault_within page_size room bytes ≡ None) × ((front more : List ℕ) → bytes ≡ front ++ more → IsPacketText page_size front → ⊥)
ReadsPacketWithin page_size room bytes (packet.Bad fault) = due_fault_within page_size room bytes ≡ Some fault

-- this front, with these fields, is the packet that was found
abbrev pub FindsPacket : List ℕ → Fields → PacketRead → Type 0
FindsPacket front said (packet.Whole found len) = (found.bytes.now ≡ front) × (len ≡ length front) × (fields found ≡ said)
FindsPacket front said packet.Cut = ⊥
FindsPacket front said (packet.Bad fault) = ⊥
