-- The next bytes of a channel, for a reader that gives page by page.
use Rattle.std.specs.Prelude.{◌≡◌, ◌≢◌, ◌⊎◌, ◌<◌, ◌+◌, ℕ, List, [], length, Option, None, Some, IsTrue, IsFalse}
use Rattle.std.specs.Option.{IsSomeAnd}
use Rattle.mig_packet.specs.declared.state.ChannelState.TheVariants.{Reading}
use Rattle.mig_packet.specs.declared.wanted.Wanted.{Wanted}
use Rattle.mig_packet.specs.declared.wanted.Wanted.TheVariants as wanted
use Rattle.mig_packet.specs.Packet.{normal_count, offset_at}
use Rattle.mig_packet.specs.Progress.{judged_len}
use Rattle.mig_packet.specs.Paging.{PageHolder}

-- the bytes taken have no fault, and the channel wasn't ended
abbrev pub ReadsMore : PageHolder → Type 0
ReadsMore r = (r.found ≡ Reading) × IsFalse r.ended

-- this many pages of the packet that was begun are missing, at least one, the next at this offset
abbrev pub HasPagesLeft : ℕ → ℕ → (List ℕ × ℕ) → Type 0
HasPagesLeft offset count packet = (packet.1 + count ≡ normal_count packet.0) × (0 < count) × (offset ≡ offset_at packet.0 packet.1)

-- the number of the next item's bytes: those of a hello or a head, or of a page of the packet that
-- was begun
abbrev pub next_len : PageHolder → ℕ
next_len r = len_of r.packet
  where
    len_of : Option (List ℕ × ℕ) → ℕ
    len_of None = judged_len r.given.page_size r.hello
    len_of (Some packet) = r.given.page_size

-- a packet was begun, and all its pages were given
abbrev pub IsAllGiven : PageHolder → Type 0
IsAllGiven r = IsSomeAnd r.packet (λ packet. packet.1 ≡ normal_count packet.0)

-- A page is wanted if no byte of it has arrived; otherwise the bytes that complete the begun item
-- are wanted. Nothing is wanted after a complete packet, or if no more is read.
abbrev pub IsWanted : Wanted → PageHolder → Type 0
IsWanted (wanted.Page offset count) r = ReadsMore r × (r.kept ≡ []) × IsSomeAnd r.packet (HasPagesLeft offset count)
IsWanted (wanted.Bytes n) r = ReadsMore r × (0 < n) × (length r.kept + n ≡ next_len r) × ((r.packet ≡ None) ⊎ (r.kept ≢ []))
IsWanted wanted.Nothing r = (r.found ≢ Reading) ⊎ IsTrue r.ended ⊎ IsAllGiven r
