-- A channel's bytes in two parts: the hello and the packets of pages, which are passed on, and the
-- packets of devices, which are passed over.
use Rattle.std.specs.Prelude.{ℕ, zero, suc, ◌+◌, nat_lt, nat_le, if◌then◌else◌, List, ◌++◌, length, take, drop}
use Rattle.mig_packet.specs.Hello.{hello_len}
use Rattle.zimgasol_page_packets.specs.Packets.{front_len, is_device, state_len, is_of_pages, rest_len}

pub record Parted : Type 0 where
  -- the bytes that are passed on, in their order
  pub given : List ℕ
  -- how many packets are passed over, and how many bytes these have together
  pub packets : ℕ
  pub bytes : ℕ

abbrev pub all_given : List ℕ → Parted
all_given bytes = record { given = bytes; packets = 0; bytes = 0 }

-- with bytes before them that are passed on
abbrev pub with_front : List ℕ → Parted → Parted
with_front front parted = record { given = front ++ parted.given; packets = parted.packets; bytes = parted.bytes }

-- with a packet of a device of `len` bytes before them
abbrev pub with_device : ℕ → Parted → Parted
with_device len parted = record { given = parted.given; packets = 1 + parted.packets; bytes = len + parted.bytes }

-- Bytes that begin with the first bytes of a packet, before `more`, where `part` parts bytes after
-- a packet. Bytes that begin no packet are all passed on, so that their reader has their fault. Of
-- a device's packet that is cut the first bytes are passed on, so that it is a cut packet.
abbrev pub part_on : ℕ → (List ℕ → Parted) → List ℕ → List ℕ → Parted
part_on page_size part front more =
    if is_device front then (if nat_le (state_len front) (length more)
    then with_device (front_len + state_len front) (part (drop (state_len front) more))
    else all_given front)
    else (if is_of_pages page_size front
    then with_front (front ++ take (rest_len page_size front) more) (part (drop (rest_len page_size front) more))
    else all_given (front ++ more))

-- bytes that begin with a packet, parted up to the end of the first `count` packets
abbrev pub part_packets : ℕ → ℕ → List ℕ → Parted
part_packets page_size zero bytes = all_given bytes
part_packets page_size (suc count) bytes =
    if nat_lt (length bytes) front_len then all_given bytes
    else part_on page_size (λ more. part_packets page_size count more) (take front_len bytes) (drop front_len bytes)

-- all of them: there are no more packets than bytes
abbrev pub part : ℕ → List ℕ → Parted
part page_size bytes = part_packets page_size (length bytes) bytes

-- the bytes of a channel, which begin with its hello
abbrev pub part_channel : ℕ → List ℕ → Parted
part_channel page_size bytes = with_front (take hello_len bytes) (part page_size (drop hello_len bytes))

-- a channel without the packets of devices
abbrev pub without_devices : ℕ → List ℕ → List ℕ
without_devices page_size bytes = (part_channel page_size bytes).given
