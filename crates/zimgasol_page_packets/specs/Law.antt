-- Laws of a channel's bytes without the packets of devices.
use Rattle.std.specs.Prelude.{◌≡◌, ℕ, ◌+◌, ◌<◌, ◌≤◌, true, false, not, List, ◌++◌, length, take, ◌⊎◌}
use Rattle.std.specs.List.{AllByRecursion, concat, filter}
use Rattle.mig_packet.specs.Hello.{hello_len}
use Rattle.mig_packet.specs.Packet.{IsPacketText}
use Rattle.zimgasol_page_packets.specs.Packets.{front_len, is_device, state_len, is_of_pages, rest_len, IsDevicePacket}
use Rattle.zimgasol_page_packets.specs.Parted.{part, all_given, without_devices}

-- After the hello and complete packets, whatever follows them: the packets of pages stay, in their
-- order, and those of devices don't.
abbrev pub PacketsOfPagesStay : Type 0
PacketsOfPagesStay = (page_size : ℕ) (hello : List ℕ) (packets : List (List ℕ)) (rest : List ℕ) → length hello ≡ hello_len
    → AllByRecursion (λ packet. IsPacketText page_size packet ⊎ IsDevicePacket packet) packets
    → without_devices page_size (hello ++ (concat packets ++ rest))
    ≡ hello ++ (concat (filter (λ packet. not (is_device packet)) packets) ++ (part page_size rest).given)

-- These bytes begin no complete packet of pages, and no packet of a device.
abbrev pub BeginsNone : ℕ → List ℕ → Type 0
BeginsNone page_size rest = (length rest < front_len) ⊎ ((is_device (take front_len rest) ≡ false)
    × (is_of_pages page_size (take front_len rest) ≡ true → length rest < front_len + rest_len page_size (take front_len rest)))

-- Such bytes stay: their reader has their fault.
abbrev pub OthersStay : Type 0
OthersStay = (page_size : ℕ) (rest : List ℕ) → BeginsNone page_size rest → part page_size rest ≡ all_given rest

-- Of a packet of a device that is cut its first bytes stay, so that the channel is cut.
abbrev pub CutsStay : Type 0
CutsStay = (page_size : ℕ) (rest : List ℕ) → front_len ≤ length rest → is_device (take front_len rest) ≡ true
    → length rest < front_len + state_len (take front_len rest) → part page_size rest ≡ all_given (take front_len rest)

-- Without packets of devices all bytes stay.
abbrev pub ChannelsWithoutDevicesStay : Type 0
ChannelsWithoutDevicesStay = (page_size : ℕ) (hello : List ℕ) (packets : List (List ℕ)) (rest : List ℕ) → length hello ≡ hello_len
    → AllByRecursion (IsPacketText page_size) packets → BeginsNone page_size rest
    → without_devices page_size (hello ++ (concat packets ++ rest)) ≡ hello ++ (concat packets ++ rest)
