-- What the survey of a single stream says of its bytes.
use Rattle.std.specs.Prelude.{◌≡◌, ◌⊎◌, ◌↔◌, ℕ, ◌<◌, ◌≤◌, ◌^◌, List, [], ◌++◌, length, drop, Option, Some, None, All, IfSome, IsSomeAnd, IsNone, Bool, false}
use Rattle.mig_mem.specs.PageSize.{IsPageSize}
use Rattle.mig_mem.specs.RamTable.{RamTable}
use Rattle.mig_stream.specs.declared.item.Frame.{Frame}
use Rattle.mig_stream.specs.declared.item.Mode.TheVariants.{Single}
use Rattle.mig_stream.specs.declared.item.StreamState.{StreamState}
use Rattle.mig_stream.specs.declared.item.StreamState.TheVariants.{Closed}
use Rattle.mig_stream.specs.PageRecord.{PageRecord}
use Rattle.mig_stream.specs.Reading.{Settings, StreamReading, IsReading, settings, in_frame}
use Rattle.mig_stream.specs.Reader.{IsValidUpTo}
use Rattle.zimgasol_files.specs.declared.words.StreamWords.{StreamWords}
use Rattle.zimgasol_files.specs.Asked.{page_bytes, most_total, ChecksEnding}
use Rattle.zimgasol_reading.specs.declared.blocks.Blocks.{Blocks}
use Rattle.zimgasol_reading.specs.declared.libvirt.LibvirtHeader.{LibvirtHeader}
use Rattle.zimgasol_reading.specs.declared.survey.Survey.{Survey}
use Rattle.zimgasol_reading.specs.declared.tail.TailFault.{TailFault}
use Rattle.zimgasol_reading.specs.Ending.{IsWholeEnding}
use Rattle.zimgasol_reading.specs.Coverage.{HasItsPages}
use Rattle.zimgasol_reading.specs.Libvirt.{IsBefore}
use Rattle.zimgasol_reading.specs.Recorded.{AreNamed, NameEachPage, records_of}

-- the bytes before the stream
abbrev pub before_of : Option LibvirtHeader → ℕ
before_of None = 0
before_of (Some header) = header.len

-- The state, the complete sections and the valid bytes are those of the one reading of the stream.
pub record IsSurveyed (given : Settings) (text : List ℕ) (state : StreamState) (sections valid : ℕ) (blocks : Option Blocks) : Type 0 where
  pub reading : StreamReading
  pub is_reading : IsReading given text reading
  pub has_state : state ≡ reading.state
  pub has_sections : sections ≡ length reading.rounds
  pub has_valid : IsValidUpTo given text valid
  -- In the blocks a page is marked exactly if a record names it: one of a complete section, or of
  -- the open one, which a closed stream doesn't have.
  pub has_pages : IfSome blocks (λ b. AreNamed b.recorded.table (records_of reading.rounds ++ is_reading.to.records) b)
  pub has_none_open : state ≡ Closed → is_reading.to.records ≡ []
  -- The blocks of a closed stream are those of its table.
  pub has_table : state ≡ Closed → All (λ byte. byte < 2 ^ 8) text → IsSomeAnd blocks (λ b. reading.table ≡ Some b.recorded.table)

-- What took the pages of a stream has its table, and each record so far, in the order of the
-- stream, unless no record came. After a closed stream it has the table and the records of all
-- sections.
pub record IsTaken (holds : RamTable → List PageRecord → Type 0) (given : Settings) (text : List ℕ) (state : StreamState) : Type 0 where
  pub reading : StreamReading
  pub is_reading : IsReading given text reading
  pub has_records : (records_of reading.rounds ++ is_reading.to.records ≡ [])
      ⊎ IsSomeAnd reading.table (λ table. holds table (records_of reading.rounds ++ is_reading.to.records))
  pub has_all : state ≡ Closed → All (λ byte. byte < 2 ^ 8) text → IsSomeAnd reading.table (λ table. holds table (records_of reading.rounds))

-- what these words ask for
abbrev pub asked_of : StreamWords → Settings
asked_of words = in_frame words.frame (settings Single (page_bytes words.page_size) (most_total words))

-- The stream is closed, and a record of it names each page of its table, unless pages may lack.
abbrev pub IsCompleteStream : StreamReading → Bool → Bool → Type 0
IsCompleteStream reading is_laid_over is_partial =
    (reading.state ≡ Closed) × HasItsPages is_laid_over is_partial (NameEachPage reading.table (records_of reading.rounds))

-- The bytes after the closed stream are a whole ending.
abbrev pub HasWholeEnding : Settings → List ℕ → Type 0
HasWholeEnding given stream = (valid : ℕ) × IsValidUpTo given stream valid × IsWholeEnding (drop valid stream)

-- There is no fault after the stream exactly if its ending is whole, or isn't checked.
abbrev pub IsEnded : Type 0 → Settings → List ℕ → Option TailFault → Type 0
IsEnded checked given stream fault = IsNone fault ↔ (checked → HasWholeEnding given stream)

-- What `verify` promises of a file, as its words ask: after libvirt's header, if there is one, the
-- stream is complete, and its ending is whole if that is checked.
pub record IsWholeSave (words : StreamWords) (file : List ℕ) : Type 0 where
  pub before : ℕ
  pub is_before : IsBefore file before
  pub reading : StreamReading
  pub is_reading : IsReading (asked_of words) (drop before file) reading
  pub is_complete : IsCompleteStream reading false words.partial
  pub has_ending : ChecksEnding words → HasWholeEnding (asked_of words) (drop before file)

-- What the reading was asked for stays.
abbrev pub IsAsked : Survey → Survey → Type 0
IsAsked before after =
    (after.frame ≡ before.frame) × (after.page_size ≡ before.page_size) × (after.limit ≡ before.limit)
    × (after.is_partial ≡ before.is_partial) × (after.is_laid_over ≡ before.is_laid_over) × (after.checks_tail ≡ before.checks_tail)
