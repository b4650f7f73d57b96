-- The packets of a channel by their first bytes. Those of pages are `mig_packet`'s. Those of
-- devices are QEMU's `MultiFDPacketDeviceState_t`.
use Rattle.std.specs.Prelude.{◌≡◌, ℕ, ◌+◌, ◌-◌, ◌*◌, Bool, ◌==◌, ◌&&◌, is_none, List, length}
use Rattle.mig_packet.specs.Fields.{be32_at}
use Rattle.mig_packet.specs.PageSize.{head_len}
use Rattle.mig_packet.specs.Faults.{first_of}
use Rattle.mig_packet.specs.Packet.{flags_in, normal_count, packet_faults}

-- How many bytes tell what a packet is, and how long. A device's packet has its state after them.
abbrev pub front_len : ℕ
front_len = 276

-- ---- of devices

-- The flag 0x40 is the only one: `MULTIFD_FLAG_DEVICE_STATE`, never with SYNC.
abbrev pub is_device : List ℕ → Bool
is_device front = (be32_at 0 front == 0x11223344) && ((be32_at 4 front == 1) && (flags_in front == 0x40))

-- `next_packet_size`: the number of bytes of the state
abbrev pub state_len : List ℕ → ℕ
state_len front = be32_at 272 front

-- The bytes are one packet of a device. Its device's name and instance may be any, at bytes 12 to
-- 272.
pub record IsDevicePacket (bytes : List ℕ) : Type 0 where
  pub has_magic : be32_at 0 bytes ≡ 0x11223344
  pub has_version : be32_at 4 bytes ≡ 1
  pub has_flags : flags_in bytes ≡ 0x40
  pub has_length : length bytes ≡ front_len + state_len bytes

-- ---- of pages

-- a packet of pages, by its head without a fault
abbrev pub is_of_pages : ℕ → List ℕ → Bool
is_of_pages page_size front = is_none (first_of (packet_faults page_size front))

-- how many of its bytes follow the first ones
abbrev pub rest_len : ℕ → List ℕ → ℕ
rest_len page_size front = (head_len page_size - front_len) + normal_count front * page_size
