-- The effects of the calls that write hellos and packets, by status.
use Rattle.std.specs.Prelude.{◌≡◌, ◌≢◌, ◌≤◌, ◌<◌, ◌+◌, ◌*◌, ℕ, Bool, List, ◌∷◌, [], length, take}
use Rattle.mig_packet.specs.PageSize.{IsPageSize, page_limit}
use Rattle.mig_packet.specs.Hello.{written_hello}
use Rattle.mig_packet.specs.Written.{written_packet}
use Rattle.mig_c_calls.specs.Status.{IsOneOf, done, no_memory, bad_page_size, bad_length, too_many_pages}

-- A hello, in a buffer of its 64 bytes.
pub record Greets (uuid : List ℕ) (id : ℕ) (status : ℕ) (old new : List ℕ) : Type 0 where
  pub is_named : IsOneOf (done ∷ bad_length ∷ []) status
  pub greets : status ≡ done → new ≡ written_hello uuid id
  pub same : status ≢ done → new ≡ old
  pub wrong : status ≡ bad_length → length uuid ≡ 16 → length old ≡ 64 → ⊥
  pub fits : status ≡ done → (length uuid ≡ 16) × (length old ≡ 64)

-- The contents have a page for each offset in `normal`, and the id has at most 255 bytes.
abbrev pub IsPacketOf : ℕ → List ℕ → List ℕ → List ℕ → Type 0
IsPacketOf page_size id normal contents = (length contents ≡ length normal * page_size) × (length id ≤ 255)

-- A packet at the front of a buffer, and its length. The status is the first thing that is wrong.
-- If only the buffer is too short, the length is reported too. Otherwise it is unchanged.
pub record PutsPacket (page_size number : ℕ) (sync : Bool) (id normal contents zero : List ℕ) (status : ℕ) (old new : List ℕ) (before len : ℕ) : Type 0 where
  pub is_named : IsOneOf (done ∷ no_memory ∷ bad_page_size ∷ bad_length ∷ too_many_pages ∷ []) status
  pub puts : status ≡ done → take len new ≡ written_packet page_size number sync id normal contents zero
  pub same : status ≢ done → new ≡ old
  pub foreign_size : status ≡ bad_page_size → IsPageSize page_size → ⊥
  pub has_size : status ≢ bad_page_size → IsPageSize page_size
  pub many : status ≡ too_many_pages → page_limit page_size < length normal + length zero
  pub few : status ≢ bad_page_size → status ≢ too_many_pages → length normal + length zero ≤ page_limit page_size
  pub long : status ≡ bad_length → IsPacketOf page_size id normal contents → (len ≡ length (written_packet page_size number sync id normal contents zero)) × (length old < len)
  pub is_packet : status ≢ bad_page_size → status ≢ too_many_pages → status ≢ bad_length → IsPacketOf page_size id normal contents
  pub stays : status ≢ done → (status ≡ bad_length → IsPacketOf page_size id normal contents → ⊥) → len ≡ before
  pub whole : status ≡ done → (len ≡ length (written_packet page_size number sync id normal contents zero)) × (len ≤ length old)

-- Bytes at the front of a buffer, and their number.
pub record CopiesOut (bytes : List ℕ) (status : ℕ) (old new : List ℕ) (len : ℕ) : Type 0 where
  pub is_named : IsOneOf (done ∷ bad_length ∷ []) status
  pub copies : status ≡ done → take len new ≡ bytes
  pub counts : len ≡ length bytes
  pub long : status ≡ bad_length → length old < len
  pub fits : status ≡ done → len ≤ length old
  pub same : status ≢ done → new ≡ old
