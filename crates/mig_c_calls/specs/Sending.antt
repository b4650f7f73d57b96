-- A sender of one stream: the stream that it writes, and the bytes that were copied out.
use Rattle.std.specs.Prelude.{◌≡◌, ◌≢◌, ◌≤◌, ◌<◌, ◌++◌, ℕ, Bool, true, false, List, [], ◌∷◌, drop, map, min, take, length, Option, None, Some, ⊤}
use Rattle.mig_mem.specs.RamTable.{RamTable}
use Rattle.mig_mem.specs.declared.place.Place.{Place}
use Rattle.mig_mem.specs.Place.{IsPlace}
use Rattle.mig_mem.specs.Image.{Page}
use Rattle.mig_stream.specs.Written.{RoundPart, single, written_so_far}
use Rattle.mig_stream.specs.MachineWritten.{machine_written, machine_closed}
use Rattle.mig_stream.specs.Writer.{PartSoFar, HasPut}
use Rattle.mig_send.specs.Sending.{HasSentDrained}
use Rattle.mig_c_calls.specs.declared.sender.Sender.{Sender}
use Rattle.mig_c_calls.specs.declared.sender.Sending.{Sending}
use Rattle.mig_c_calls.specs.declared.sender.Sending.TheVariants.{Idle, Round, Over, LeftOpen}
use Rattle.mig_c_calls.specs.Front.{ShowsFront}
use Rattle.mig_c_calls.specs.Named.{IsNamed}
use Rattle.mig_c_calls.specs.Status.{IsOneOf, done, no_memory, no_page, bad_length, out_of_turn}

-- the bytes that were drained of the stream's writer and wait to be copied out
abbrev pub waiting : Sender → List ℕ
waiting s = drop s.given s.drained.items

-- The writer has sent these rounds of a table, and these bytes of their stream were drained of it.
-- In an open round it has sent the rounds before. If the stream was ended, with its end byte or
-- without, the rest of the stream is there.
abbrev pub HasSentRounds : RamTable → List ℕ → List (List Page) → Sending → Type 0
HasSentRounds table drained rounds (Idle w) = (w.table ≡ table) × HasSentDrained drained w rounds
HasSentRounds table drained rounds (Round part) = (part.before.table ≡ table) × HasSentDrained drained part.before rounds
HasSentRounds table drained rounds (Over text) = drained ++ text.items ≡ single table rounds
HasSentRounds table drained rounds (LeftOpen text) = drained ++ text.items ≡ machine_written None table (map RoundPart rounds)

-- The sender has sent these rounds of a table, and these bytes of their stream were copied out. The
-- stream has the name of a machine, or none.
abbrev pub Sends : RamTable → Option (List ℕ) → List ℕ → List (List Page) → Sender → Type 0
Sends table name given rounds s = (plain : List ℕ) × IsNamed name (given ++ waiting s) plain × HasSentRounds table plain rounds s.state

-- A round is open, into which these pages were put.
abbrev pub HasPutPages : List Page → Sending → Type 0
HasPutPages pages (Idle w) = ⊥
HasPutPages pages (Round part) = HasPut part pages
HasPutPages pages (Over text) = ⊥
HasPutPages pages (LeftOpen text) = ⊥

-- the stream is ended, with its end byte
abbrev pub IsEnded : Sending → Type 0
IsEnded (Idle w) = ⊥
IsEnded (Round part) = ⊥
IsEnded (Over text) = ⊤
IsEnded (LeftOpen text) = ⊥

-- the stream is ended without it: others write after RAM's END
abbrev pub IsLeftOpen : Sending → Type 0
IsLeftOpen (Idle w) = ⊥
IsLeftOpen (Round part) = ⊥
IsLeftOpen (Over text) = ⊥
IsLeftOpen (LeftOpen text) = ⊤

-- a round is open
abbrev pub IsOpen : Sending → Type 0
IsOpen (Idle w) = ⊥
IsOpen (Round part) = ⊤
IsOpen (Over text) = ⊥
IsOpen (LeftOpen text) = ⊥

-- a round is open, and this is so of its table
abbrev pub InRoundOf : (RamTable → Type 0) → Sending → Type 0
InRoundOf IsSo (Idle w) = ⊥
InRoundOf IsSo (Round part) = IsSo part.before.table
InRoundOf IsSo (Over text) = ⊥
InRoundOf IsSo (LeftOpen text) = ⊥

-- no round is open, and the stream hasn't ended
abbrev pub IsIdle : Sending → Type 0
IsIdle (Idle w) = ⊤
IsIdle (Round part) = ⊥
IsIdle (Over text) = ⊥
IsIdle (LeftOpen text) = ⊥

-- the bytes sent and copied out before are unchanged
abbrev pub KeepsSent : Sending → Sending → Type 0
KeepsSent old new = (table : RamTable) (drained : List ℕ) (rounds : List (List Page)) → HasSentRounds table drained rounds old → HasSentRounds table drained rounds new

-- a call changes the state of the sender, and no bytes that wait
abbrev pub Changes : (Sending → Sending → Type 0) → Sender → Sender → Type 0
Changes step old new = step old.state new.state × (waiting new ≡ waiting old)

-- A sender of a table that has sent nothing. Its stream has the name of a machine, or none.
abbrev pub Starts : Option (List ℕ) → Option RamTable → Option Sender → Type 0
Starts name table None = ⊥
Starts name None (Some s) = ⊥
Starts name (Some table) (Some s) = Sends table name [] [] s × IsIdle s.state

-- The effect of `begin_round`.
pub record Begins (status : ℕ) (old new : Sending) : Type 0 where
  pub is_named : IsOneOf (done ∷ no_memory ∷ out_of_turn ∷ []) status
  pub begins : status ≡ done → HasPutPages [] new
  pub keeps : KeepsSent old new
  pub same : status ≢ done → new ≡ old
  pub wrong : status ≡ out_of_turn → IsIdle old → ⊥
  pub in_turn : status ≢ out_of_turn → IsIdle old

-- The effect of `put_page`. It returns the first error.
pub record Puts (p : Place) (bytes : List ℕ) (status : ℕ) (old new : Sending) : Type 0 where
  pub is_named : IsOneOf (done ∷ no_memory ∷ no_page ∷ bad_length ∷ out_of_turn ∷ []) status
  pub puts : status ≡ done → (pages : List Page) → HasPutPages pages old → HasPutPages (pages ++ record { place = p; content = bytes } ∷ []) new
  pub keeps : KeepsSent old new
  pub same : status ≢ done → new ≡ old
  pub wrong : status ≡ out_of_turn → IsOpen old → ⊥
  pub in_turn : status ≢ out_of_turn → IsOpen old
  pub foreign : status ≡ no_page → InRoundOf (λ table. IsPlace table p → ⊥) old
  pub has_place : status ≢ out_of_turn → status ≢ no_page → InRoundOf (λ table. IsPlace table p) old
  pub unfit : status ≡ bad_length → InRoundOf (λ table. length bytes ≢ table.page_size) old
  pub fits : status ≢ out_of_turn → status ≢ no_page → status ≢ bad_length → InRoundOf (λ table. length bytes ≡ table.page_size) old

-- what `put_page` does to the open round
pub record Adds (p : Place) (bytes : List ℕ) (status : ℕ) (old new : PartSoFar) : Type 0 where
  pub is_named : IsOneOf (done ∷ no_memory ∷ no_page ∷ bad_length ∷ []) status
  pub adds : status ≡ done → (pages : List Page) → HasPut old pages → HasPut new (pages ++ record { place = p; content = bytes } ∷ [])
  pub same_before : new.before ≡ old.before
  pub same : status ≢ done → new ≡ old
  pub foreign : status ≡ no_page → IsPlace old.before.table p → ⊥
  pub has_place : status ≢ no_page → IsPlace old.before.table p
  pub unfit : status ≡ bad_length → length bytes ≢ old.before.table.page_size
  pub fits : status ≢ no_page → status ≢ bad_length → length bytes ≡ old.before.table.page_size

-- The effect of `end_round`.
pub record EndsRound (status : ℕ) (old new : Sending) : Type 0 where
  pub is_named : IsOneOf (done ∷ no_memory ∷ out_of_turn ∷ []) status
  pub ends : status ≡ done → (pages : List Page) → HasPutPages pages old → (table : RamTable) (drained : List ℕ) (rounds : List (List Page))
      → HasSentRounds table drained rounds old → HasSentRounds table drained (rounds ++ pages ∷ []) new
  pub idle : status ≡ done → IsIdle new
  pub same : status ≢ done → new ≡ old
  pub wrong : status ≡ out_of_turn → IsOpen old → ⊥
  pub in_turn : status ≢ out_of_turn → IsOpen old

-- The effect of `cancel_round`.
pub record Cancels (status : ℕ) (old new : Sending) : Type 0 where
  pub is_named : IsOneOf (done ∷ out_of_turn ∷ []) status
  pub idle : status ≡ done → IsIdle new
  pub keeps : KeepsSent old new
  pub same : status ≢ done → new ≡ old
  pub wrong : status ≡ out_of_turn → IsOpen old → ⊥
  pub in_turn : status ≢ out_of_turn → IsOpen old

-- The stream is ended with its end byte.
pub record Finishes (status : ℕ) (old new : Sending) : Type 0 where
  pub is_named : IsOneOf (done ∷ no_memory ∷ out_of_turn ∷ []) status
  pub ends : status ≡ done → IsEnded new
  pub keeps : KeepsSent old new
  pub same : status ≢ done → new ≡ old
  pub wrong : status ≡ out_of_turn → IsIdle old → ⊥
  pub in_turn : status ≢ out_of_turn → IsIdle old

-- The stream is ended without it, after the footer of RAM's END.
pub record FinishesOpen (status : ℕ) (old new : Sending) : Type 0 where
  pub is_named : IsOneOf (done ∷ no_memory ∷ out_of_turn ∷ []) status
  pub ends : status ≡ done → IsLeftOpen new
  pub keeps : KeepsSent old new
  pub same : status ≢ done → new ≡ old
  pub wrong : status ≡ out_of_turn → IsIdle old → ⊥
  pub in_turn : status ≢ out_of_turn → IsIdle old

-- what `finish` does, which ends the stream with its end byte or leaves it open
abbrev pub FinishesAs : Bool → ℕ → Sending → Sending → Type 0
FinishesAs false status old new = Finishes status old new
FinishesAs true status old new = FinishesOpen status old new

-- the stream of these rounds, with its end byte
abbrev pub whole_stream : Option (List ℕ) → RamTable → List (List Page) → List ℕ
whole_stream None table rounds = single table rounds
whole_stream (Some name) table rounds = machine_closed (Some name) table (map RoundPart rounds)

-- the stream of these rounds up to the footer of RAM's END
abbrev pub open_stream : Option (List ℕ) → RamTable → List (List Page) → List ℕ
open_stream name table rounds = machine_written name table (map RoundPart rounds)

-- all that is written of these rounds, after the opening section
abbrev pub text_so_far : RamTable → List (List Page) → List ℕ
text_so_far table rounds = written_so_far table (map RoundPart rounds)

-- The effect of `drain`: it copies the next `count` bytes to the front of a buffer, which it fills
-- if that many bytes were drained of the stream's writer. If there are none between two rounds, all
-- bytes written so far were copied out; if there are none after the end of the stream, all of it
-- was. An open round stays open, with its pages.
pub record Drains (count : ℕ) (out : List ℕ) (old new : Sender) : Type 0 where
  pub fits : count ≤ length out
  pub fills : count < length out → waiting new ≡ []
  pub hands : (table : RamTable) (name : Option (List ℕ)) (given : List ℕ) (rounds : List (List Page)) → Sends table name given rounds old
      → Sends table name (given ++ take count out) rounds new
  pub keeps_open : (pages : List Page) → HasPutPages pages old.state → HasPutPages pages new.state
  pub idle : IsIdle old.state → IsIdle new.state
  pub ended : IsEnded old.state → IsEnded new.state
  pub left_open : IsLeftOpen old.state → IsLeftOpen new.state
  pub written : IsIdle old.state → count ≡ 0 → 0 < length out → (table : RamTable) (name : Option (List ℕ)) (given : List ℕ) (rounds : List (List Page))
      → Sends table name given rounds old → IsNamed name given (text_so_far table rounds)
  pub all : IsEnded old.state → count ≡ 0 → 0 < length out → (table : RamTable) (name : Option (List ℕ)) (given : List ℕ) (rounds : List (List Page))
      → Sends table name given rounds old → given ≡ whole_stream name table rounds
  pub all_open : IsLeftOpen old.state → count ≡ 0 → 0 < length out → (table : RamTable) (name : Option (List ℕ)) (given : List ℕ) (rounds : List (List Page))
      → Sends table name given rounds old → given ≡ open_stream name table rounds

-- ---- the two steps of `drain`

-- If no byte waits, the bytes that were written since are drained of the writer.
pub record Refills (old new : Sender) : Type 0 where
  pub keeps : (table : RamTable) (name : Option (List ℕ)) (given : List ℕ) (rounds : List (List Page)) → Sends table name given rounds old
      → Sends table name given rounds new
  pub keeps_open : (pages : List Page) → HasPutPages pages old.state → HasPutPages pages new.state
  pub idle : IsIdle old.state → IsIdle new.state
  pub ended : IsEnded old.state → IsEnded new.state
  pub left_open : IsLeftOpen old.state → IsLeftOpen new.state
  pub written : IsIdle old.state → waiting new ≡ [] → (table : RamTable) (name : Option (List ℕ)) (given : List ℕ) (rounds : List (List Page))
      → Sends table name given rounds old → IsNamed name given (text_so_far table rounds)
  pub all : IsEnded old.state → waiting new ≡ [] → (table : RamTable) (name : Option (List ℕ)) (given : List ℕ) (rounds : List (List Page))
      → Sends table name given rounds old → given ≡ whole_stream name table rounds
  pub all_open : IsLeftOpen old.state → waiting new ≡ [] → (table : RamTable) (name : Option (List ℕ)) (given : List ℕ) (rounds : List (List Page))
      → Sends table name given rounds old → given ≡ open_stream name table rounds

-- The first bytes that wait are copied out, as many as there is room for.
pub record Hands (count : ℕ) (out : List ℕ) (old new : Sender) : Type 0 where
  pub fits : count ≤ length out
  pub has_front : take count out ++ waiting new ≡ waiting old
  pub fills : count < length out → waiting new ≡ []
  pub same_state : new.state ≡ old.state
  pub none : count ≡ 0 → 0 < length out → waiting old ≡ []

-- ---- `drain` in two calls, for a caller whose output may take fewer bytes than it is offered

-- The first bytes that wait are copied out, and still wait.
abbrev pub Peeks : ℕ → List ℕ → Sender → Sender → Type 0
Peeks count out old new = Refills old new × ShowsFront count out (waiting new)

-- The result of `waiting`: the number of bytes that can be copied out, until more is written.
abbrev pub Counts : ℕ → Sender → Sender → Type 0
Counts count old new = Refills old new × (count ≡ length (waiting new))

-- The first `len` bytes that wait count as copied out, or all of them.
pub record Skips (len count : ℕ) (old new : Sender) : Type 0 where
  pub counts : count ≡ min len (length (waiting old))
  pub still : waiting new ≡ drop count (waiting old)
  pub same_state : new.state ≡ old.state
  pub hands : (table : RamTable) (name : Option (List ℕ)) (given : List ℕ) (rounds : List (List Page)) → Sends table name given rounds old
      → Sends table name (given ++ take count (waiting old)) rounds new
