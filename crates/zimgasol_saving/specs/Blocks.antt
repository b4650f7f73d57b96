-- The blocks whose files are read and sent, one after another.
use Rattle.std.specs.Prelude.{ℕ, ◌≡◌, ◌-◌, ◌*◌, ◌<◌, ◌≤◌, ◌^◌, List, ◌++◌, length, drop, Option, Some, None}
use Rattle.std.specs.Option.{option_map}
use Rattle.std.specs.Io.KnownBytes.{Appends}
use Rattle.mig_mem.specs.RamTable.{RamTable, block}
use Rattle.mig_mem.specs.Image.{Page, Image}
use Rattle.mig_mem.specs.Round.{with_rounds}
use Rattle.zimgasol_files.specs.ReadOn.{IsLeft, IsOldLeft, IsReadTo}
use Rattle.zimgasol_files.specs.declared.opened.Opened.{Opened}
use Rattle.zimgasol_files.specs.declared.pages.Reading.{Reading}
use Rattle.zimgasol_saving.specs.declared.send.Sending.{Sending}
use Rattle.zimgasol_saving.specs.Sent.{Source, source_of, sent_from, sent_before, sent_pages, HasPages, memory_of, IsOlder}
use Rattle.zimgasol_saving.specs.Written.{Front, IsStreamOf, IsSending}

-- The files were opened, and have this source's bytes. `remaining` gives those of a file whose
-- bytes are known.
abbrev pub AreFilesOf : {F : Type 0} → (F → Option (List ℕ)) → Opened F × Option (Opened F) → Source → Type 0
AreFilesOf remaining files s = IsLeft remaining files.0 s.bytes × IsOldLeft remaining files.1 s.before

-- The source of each block of a table is known.
pub record AreKnown (source : ℕ → Option Source) (table : RamTable) (sources : List Source) : Type 0 where
  pub same_count : length sources ≡ length table.blocks
  pub are_known : (b : ℕ) → b < length table.blocks → source b ≡ Some (source_of sources b)

-- each block's file has exactly the bytes of its pages
abbrev pub FilesFit : RamTable → List Source → ℕ → Type 0
FilesFit table sources n = (b : ℕ) → b < n → length (source_of sources b).bytes ≡ (block table.blocks b).pages * table.page_size

-- THE OUTPUT GREW by the stream of the files' memory: of the pages that the older files haven't. So
-- its rounds make of a memory with the older files' bytes that of the files, and without older
-- files of any memory.
pub record IsSaved (front : Front) (table : RamTable) (sources : List Source) (old new : Option (List ℕ)) : Type 0 where
  pub text : List ℕ
  pub has_text : Appends old new text
  pub is_stream : IsStreamOf front table (sent_pages table sources) text
  pub files_fit : FilesFit table sources (length table.blocks)
  pub leaves : (m : Image) → m.table ≡ table → IsOlder table sources m → with_rounds m is_stream.rounds ≡ memory_of table sources

-- ---- how far

-- The first `count` pages of a block of n pages were read, and those of them that are sent were
-- sent.
pub record HasSentPages {F : Type 0} (remaining : F → Option (List ℕ)) (holds : Front → RamTable → List ℕ → List Page → Type 0) (old new : Option (List ℕ)) (size b n count : ℕ) (s : Source) (r : Reading F) (front : Front) (table : RamTable) (text : List ℕ) (pages : List Page) : Type 0 where
  pub bytes : List ℕ
  pub has_bytes : Appends old new bytes
  pub has_pages : HasPages size s count
  pub few : count ≤ n
  pub has_sent : holds front table (text ++ bytes) (pages ++ sent_from size b s 0 count)
  pub is_read : IsReadTo remaining size (n * size - count * size) (drop (count * size) s.bytes) (option_map (λ o. drop (count * size) o) s.before) r

-- All n pages of a block were sent, but for those that the older file has: the file has no more.
pub record HasSentBlock (holds : Front → RamTable → List ℕ → List Page → Type 0) (old new : Option (List ℕ)) (size b n : ℕ) (s : Source) (front : Front) (table : RamTable) (text : List ℕ) (pages : List Page) : Type 0 where
  pub bytes : List ℕ
  pub has_bytes : Appends old new bytes
  pub fits : length s.bytes ≡ n * size
  pub has_sent : holds front table (text ++ bytes) (pages ++ sent_from size b s 0 n)

abbrev pub SendsBlock : (Front → RamTable → List ℕ → List Page → Type 0) → (Front → RamTable → List ℕ → List Page → Type 0) → Option (List ℕ) → Option (List ℕ) → ℕ → ℕ → ℕ → Source → Type 0
SendsBlock before after old new size b n s = (front : Front) (table : RamTable) (text : List ℕ) (pages : List Page)
    → before front table text pages → HasSentBlock after old new size b n s front table text pages

-- The first n blocks of a table were sent.
pub record HasSentBlocks (holds : Front → RamTable → List ℕ → List Page → Type 0) (old new : Option (List ℕ)) (of : RamTable) (sources : List Source) (n : ℕ) (front : Front) (table : RamTable) (text : List ℕ) (pages : List Page) : Type 0 where
  pub bytes : List ℕ
  pub has_bytes : Appends old new bytes
  pub files_fit : FilesFit of sources n
  pub has_sent : holds front table (text ++ bytes) (pages ++ sent_before of sources n)

abbrev pub SendsBlocks : (Front → RamTable → List ℕ → List Page → Type 0) → (Front → RamTable → List ℕ → List Page → Type 0) → Option (List ℕ) → Option (List ℕ) → RamTable → List Source → ℕ → Type 0
SendsBlocks before after old new of sources n = (front : Front) (table : RamTable) (text : List ℕ) (pages : List Page)
    → before front table text pages → HasSentBlocks after old new of sources n front table text pages

-- what is known of a stream that is being sent, if it still is
abbrev pub HoldsSending : Option Sending → Front → RamTable → List ℕ → List Page → Type 0
HoldsSending None front table text pages = ⊥
HoldsSending (Some s) front table text pages = IsSending s front table text pages
