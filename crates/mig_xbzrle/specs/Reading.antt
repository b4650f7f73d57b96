-- How bytes are read from the front: the run that they begin with, or its first fault, with its place.
use Rattle.std.specs.Prelude.{◌≡◌, ℕ, ◌+◌, ◌-◌, ◌*◌, ◌<◌, ◌≤◌, nat_lt, ◌==◌, ◌&&◌, if◌then◌else◌, List, ◌++◌, length, take, drop, slice_index, Result, Ok, Err}
use Rattle.mig_xbzrle.specs.declared.fault.DeltaFault.{DeltaFault}
use Rattle.mig_xbzrle.specs.declared.fault.DeltaFault.TheVariants.{Cut, LongLength, NoSkip, NoBytes, PastPage, BytesMissing}
use Rattle.mig_xbzrle.specs.Delta.{Run, IsLength, Spells, IsDelta, span}

infixl 10 ◌>>=◌
abbrev pub ◌>>=◌ : {A B : Type 0} → Result A DeltaFault → (A → Result B DeltaFault) → Result B DeltaFault
(Ok x) >>= f = f x
(Err e) >>= f = Err e

-- What a function returned, seen by `view`, is what reading gives.
abbrev pub Gives : {X Y : Type 0} → (X → Y) → Result X DeltaFault → Result Y DeltaFault → Type 0
Gives view (Ok x) read = read ≡ Ok (view x)
Gives view (Err e) read = read ≡ Err e

-- where the last bytes of a delta of `len` bytes begin
abbrev pub place : ℕ → List ℕ → ℕ
place len rest = len - length rest

-- the length that bytes begin with, and the bytes after it
unfoldable pub length_at : ℕ → List ℕ → Result (ℕ × List ℕ) DeltaFault
length_at len bytes =
    if nat_lt (length bytes) 2 then Err (Cut (place len bytes))
    else if nat_lt (slice_index bytes 0) 128 then Ok (slice_index bytes 0, drop 1 bytes)
    else if nat_lt (slice_index bytes 1) 128 then Ok (slice_index bytes 0 - 128 + slice_index bytes 1 * 128, drop 2 bytes)
    else Err (LongLength (place len bytes))

-- The number of bytes skipped, where the page has `room` bytes from there on. Only the first may be 0.
unfoldable pub skip_at : ℕ → ℕ → List ℕ → Result (ℕ × List ℕ) DeltaFault
skip_at len room bytes = length_at len bytes >>= λ n.
    if nat_lt (length bytes) len && (n.0 == 0) then Err (NoSkip (place len bytes))
    else if nat_lt room n.0 then Err (PastPage (place len bytes)) else Ok n

-- the bytes of a run, where the page has `room` bytes for them
unfoldable pub bytes_at : ℕ → ℕ → List ℕ → Result (List ℕ × List ℕ) DeltaFault
bytes_at len room bytes = length_at len bytes >>= λ n.
    if n.0 == 0 then Err (NoBytes (place len bytes))
    else if nat_lt room n.0 then Err (PastPage (place len bytes))
    else if nat_lt (length n.1) n.0 then Err (BytesMissing (place len bytes)) else Ok (take n.0 n.1, drop n.0 n.1)

-- the run that bytes begin with, and the bytes after it
unfoldable pub run_at : ℕ → ℕ → List ℕ → Result (Run × List ℕ) DeltaFault
run_at len room bytes = skip_at len room bytes >>= λ s. bytes_at len (room - s.0) s.1 >>= λ b.
    Ok (record { skip = s.0; bytes = b.0 }, b.1)

-- The bytes begin with this run, which is lawful there, and `more` follows.
pub record IsRun (len room : ℕ) (bytes : List ℕ) (r : Run) (more : List ℕ) : Type 0 where
  pub zrun : List ℕ
  pub nzrun : List ℕ
  pub has_skip : IsLength r.skip zrun
  pub has_count : IsLength (length r.bytes) nzrun
  pub joined : bytes ≡ zrun ++ (nzrun ++ (r.bytes ++ more))
  pub skips : length bytes < len → 0 < r.skip
  pub replaces : 0 < length r.bytes
  pub within : r.skip + length r.bytes ≤ room

-- These runs are lawful, and the delta spells them up to `rest`.
pub record IsFront (size : ℕ) (delta : List ℕ) (runs : List Run) (rest : List ℕ) : Type 0 where
  pub bytes : List ℕ
  pub spelled : Spells runs bytes
  pub joined : delta ≡ bytes ++ rest
  pub lawful : IsDelta size runs

-- The first fault of a delta: after lawful runs it goes on, and what follows begins with this fault.
abbrev pub IsFirstFault : ℕ → List ℕ → DeltaFault → Type 0
IsFirstFault size delta fault =
    (runs : List Run) × (rest : List ℕ) × IsFront size delta runs rest × (0 < length rest) × (run_at (length delta) (size - span runs) rest ≡ Err fault)
