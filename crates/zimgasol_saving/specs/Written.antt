-- The stream that `save` writes of the pages that it sends.
use Rattle.std.specs.Prelude.{ℕ, ◌≡◌, ◌<◌, List, [], ◌∷◌, ◌++◌, length, map, Option, Some, None, All}
use Rattle.std.specs.Io.KnownBytes.{Appends}
use Rattle.mig_mem.specs.RamTable.{RamTable}
use Rattle.mig_mem.specs.Image.{Page}
use Rattle.mig_mem.specs.Round.{IsRound, all_pages}
use Rattle.mig_stream.specs.declared.item.Section.TheVariants as sections
use Rattle.mig_stream.specs.Text.{file_header, configuration, named_after, body, section}
use Rattle.mig_stream.specs.Written.{RoundPart, FlushPart, written_records, written_so_far}
use Rattle.mig_stream.specs.MachineWritten.{machine_closed}
use Rattle.mig_stream.specs.Writer.{Writer}
use Rattle.mig_send.specs.Sending.{HasSentDrained}
use Rattle.zimgasol_files.specs.Differing.{Piece, AreSent}
use Rattle.zimgasol_saving.specs.declared.send.Sending.{Sending}

-- What a stream begins with: a file header, and a configuration if there is a machine's name; or
-- the bytes of a machine that is restored, up to the end of its size list, with the id of RAM's
-- section there; or that of a main stream with such a name, beside as many channels under a UUID.
pub data Front : Type 0 where
  Named : Option (List ℕ) → Front
  Kept : List ℕ → ℕ → Front
  Beside : Option (List ℕ) → List ℕ → ℕ → Front

-- a PART for each round, under an id, after `before`, the block named last
abbrev pub kept_parts : RamTable → ℕ → Option ℕ → List (List Page) → List ℕ
kept_parts table id before [] = []
kept_parts table id before (round ∷ rounds) =
    section table sections.Part id (written_records before round)
    ++ kept_parts table id (named_after before (written_records before round)) rounds

-- The stream of some rounds. That of a machine that is restored ends with RAM's END: its devices
-- follow. The main stream beside channels has a FLUSH for each round.
abbrev pub saved_text : Front → RamTable → List (List Page) → List ℕ
saved_text (Named name) table rounds = machine_closed name table (map RoundPart rounds)
saved_text (Kept front id) table rounds = front ++ body table id [] ++ kept_parts table id None rounds ++ section table sections.End id []
saved_text (Beside name uuid channels) table rounds = machine_closed name table (map (λ _. FlushPart) rounds)

-- The bytes are the stream of rounds that have the pages, in their order, and no other.
pub record IsStreamOf (front : Front) (table : RamTable) (pages : List Page) (text : List ℕ) : Type 0 where
  pub rounds : List (List Page)
  pub has_pages : all_pages rounds ≡ pages
  pub are_rounds : All (IsRound table) rounds
  pub is_text : text ≡ saved_text front table rounds

-- ---- such a stream so far

-- These bytes were written of the stream, of which its sender gave `drained`: the configuration
-- isn't from the sender, nor are the bytes of a machine that is restored.
abbrev pub IsSoFar : Front → RamTable → List (List Page) → List ℕ → List ℕ → Type 0
IsSoFar (Named None) table rounds drained text = text ≡ drained
IsSoFar (Named (Some name)) table rounds drained text =
    (rest : List ℕ) × (drained ≡ file_header ++ rest) × (text ≡ file_header ++ configuration (Some name) ++ rest)
IsSoFar (Beside name uuid channels) table rounds drained text = ⊥
IsSoFar (Kept front id) table rounds drained text =
    (drained ≡ written_so_far table (map RoundPart rounds)) × (text ≡ front ++ body table id [] ++ kept_parts table id None rounds)

-- sections get the id of a machine that is restored
abbrev pub HasId : Front → Option ℕ → Type 0
HasId (Named name) id = id ≡ None
HasId (Kept front own) id = id ≡ Some own
HasId (Beside name uuid channels) id = ⊥

-- `save` is writing such a stream: the pages were sent in rounds, and these bytes were written.
pub record IsSending (s : Sending) (front : Front) (table : RamTable) (text : List ℕ) (pages : List Page) : Type 0 where
  pub rounds : List (List Page)
  pub drained : List ℕ
  pub has_table : s.sender.table ≡ table
  pub has_sent : HasSentDrained drained s.sender rounds
  pub is_so_far : IsSoFar front table rounds drained text
  pub has_pages : all_pages rounds ≡ pages
  pub are_rounds : All (IsRound table) rounds
  pub has_id : HasId front s.id

-- These bytes end the stream, whose sections have this id if there is one.
abbrev pub Ends : Option ℕ → Writer → List ℕ → Type 0
Ends id sender bytes = (front : Front) (text drained : List ℕ) (rounds : List (List Page)) → HasId front id → HasSentDrained drained sender rounds
    → IsSoFar front sender.table rounds drained text → text ++ bytes ≡ saved_text front sender.table rounds

-- ---- a piece of a block

-- The pages of a piece that differ were sent as a section, by a sender that was `before` and now is
-- `after`.
pub record HasSentSection (block first : ℕ) (piece : Piece) (before after : Writer) : Type 0 where
  pub sent : List Page
  pub are_sent : AreSent block first piece 256 sent
  pub same_table : after.table ≡ before.table
  pub is_round : IsRound before.table sent
  pub goes_on : (drained : List ℕ) (rounds : List (List Page)) → HasSentDrained drained before rounds → HasSentDrained drained after (rounds ++ sent ∷ [])

-- The output grew by bytes, and what was sent by the pages of a piece that differ. `holds` is what
-- is known of a stream's front and table, its bytes so far, and its pages.
pub record HasSentPiece (holds : Front → RamTable → List ℕ → List Page → Type 0) (old new : Option (List ℕ)) (block first : ℕ) (piece : Piece) (front : Front) (table : RamTable) (text : List ℕ) (pages : List Page) : Type 0 where
  pub bytes : List ℕ
  pub sent : List Page
  pub has_bytes : Appends old new bytes
  pub are_sent : AreSent block first piece 256 sent
  pub has_sent : holds front table (text ++ bytes) (pages ++ sent)

-- The first is what was known before, and the second is known now.
abbrev pub SendsPiece : (Front → RamTable → List ℕ → List Page → Type 0) → (Front → RamTable → List ℕ → List Page → Type 0) → Option (List ℕ) → Option (List ℕ) → ℕ → ℕ → Piece → Type 0
SendsPiece before after old new block first piece = (front : Front) (table : RamTable) (text : List ℕ) (pages : List Page)
    → 0 < piece.size → before front table text pages → HasSentPiece after old new block first piece front table text pages
