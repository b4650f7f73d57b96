-- The hello: the 64 bytes with which each channel begins. QEMU's `MultiFDInit_t`.
use Rattle.std.specs.Prelude.{◌≡◌, ℕ, Bool, not, nat_le, ◌==◌, bytes_eq, if◌then◌else◌, List, [], ◌∷◌}
use Rattle.std.specs.Prelude.{◌++◌, length, get_or, Option, None, slice_range, replicate}
use Rattle.mig_packet.specs.declared.fault.ChannelFault.{ChannelFault}
use Rattle.mig_packet.specs.declared.fault.ChannelFault.TheVariants as fault
use Rattle.mig_packet.specs.Fields.{be32, be32_at}
use Rattle.mig_packet.specs.Faults.{first_of}

abbrev pub hello_len : ℕ
hello_len = 64

-- Bytes are a hello of this UUID and this channel id. The last 39 bytes are reserved, and may be
-- any.
pub record IsHello (uuid : List ℕ) (id : ℕ) (bytes : List ℕ) : Type 0 where
  pub has_length : length bytes ≡ hello_len
  pub has_magic : be32_at 0 bytes ≡ 0x11223344
  pub has_version : be32_at 4 bytes ≡ 1
  pub has_uuid : slice_range bytes 8 24 ≡ uuid
  pub has_id : get_or bytes 24 0 ≡ id

-- the hello that is written: its reserved bytes are zeros
abbrev pub written_hello : List ℕ → ℕ → List ℕ
written_hello uuid id = be32 0x11223344 ++ (be32 1 ++ (uuid ++ (id ∷ replicate 39 0)))

-- the faults of a hello's bytes, of one of `channels` channels under this UUID, in the order of the
-- tests
abbrev pub hello_faults : List ℕ → ℕ → List ℕ → List (Bool × ChannelFault)
hello_faults uuid channels bytes =
    (not (be32_at 0 bytes == 0x11223344), fault.HelloMagic) ∷
    (not (be32_at 4 bytes == 1), fault.HelloVersion) ∷
    (not (bytes_eq (slice_range bytes 8 24) uuid), fault.HelloUuid) ∷
    (nat_le channels (get_or bytes 24 0), fault.HelloId) ∷ []

-- the fault that is known: none before all bytes of a hello are there
abbrev pub due_hello_fault : List ℕ → ℕ → List ℕ → Option ChannelFault
due_hello_fault uuid channels bytes = if nat_le hello_len (length bytes) then first_of (hello_faults uuid channels bytes) else None
