-- A law of the definitions alone: loading the plain stream gives the memory of the file.
use Rattle.std.specs.Prelude.{ℕ, ◌≡◌, ◌+◌, ◌≤◌, false, List, [], ◌++◌, length, map, drop, Some, None}
use Rattle.std.specs.List.{flat_map, AllByRecursion}
use Rattle.mig_mem.specs.PageSize.{IsPageSize}
use Rattle.mig_mem.specs.RamTable.{RamTable}
use Rattle.mig_mem.specs.Image.{Image}
use Rattle.mig_mem.specs.Round.{with_rounds}
use Rattle.mig_stream.specs.declared.item.Frame.TheVariants.{Machine}
use Rattle.mig_stream.specs.declared.item.Mode.TheVariants.{Single}
use Rattle.mig_stream.specs.declared.item.Section.TheVariants.{End}
use Rattle.mig_stream.specs.PageRecord.{PageRecord, page_of}
use Rattle.mig_stream.specs.Reading.{settings, in_frame, IsReading}
use Rattle.mig_stream.specs.Text.{body, section}
use Rattle.mig_stream.specs.Machine.{Configuration, IsSubsectionBody, ignores_shared, PartOrPassed, PartOf, PassedOf, IsPassedSection, part_or_passed}
use Rattle.mig_stream.specs.Law.{closed}
use Rattle.mig_mapped.specs.Block.{table_of, memory_in}
use Rattle.mig_mapped.specs.Front.{Front, mapped_front, subsection_of, alone, end_bytes}
use Rattle.mig_mapped.specs.Reading.{MappedReading, IsMappedReading}
use Rattle.zimgasol_mapped.specs.Opened.{IsPlainOf}

-- ---- which files

-- the configuration of a plain stream
abbrev pub plain_configuration : Front → Configuration
plain_configuration f = record { name = f.machine; subsections = f.before ++ subsection_of (f.names_before ++ f.names_after) ++ f.after }

-- A stream with this front is read with pages of this size, and without "x-ignore-shared". QEMU
-- writes more bytes into each entry with it.
pub record IsReadWith (page_size : ℕ) (f : Front) : Type 0 where
  pub are_before : AllByRecursion (IsSubsectionBody page_size) f.before
  pub are_after : AllByRecursion (IsSubsectionBody page_size) f.after
  pub isnt_shared : ignores_shared (Some (plain_configuration f)) ≡ false

-- a PART without records, or what is passed over behind one
abbrev pub IsBare : PartOrPassed → Type 0
IsBare (PartOf records) = records ≡ []
IsBare (PassedOf x) = IsPassedSection false x

-- The bytes after the last block's pages have no page records up to RAM's end. They are the end of
-- START, PARTs without records and what is passed over behind them, RAM's END, and any bytes after
-- it.
pub record EndsRam (table : RamTable) (id : ℕ) (bytes : List ℕ) : Type 0 where
  pub others : List PartOrPassed
  pub rest : List ℕ
  pub are_bare : AllByRecursion IsBare others
  pub is_spelled : bytes ≡ body table id [] ++ flat_map (part_or_passed table id) others ++ section table End id [] ++ rest

-- ---- the law

-- A machine's stream is read to the end of RAM, with the table of this memory. Over any memory of
-- that table its rounds leave this one.
pub record LoadsTo (limit : ℕ) (stream : List ℕ) (m : Image) : Type 0 where
  pub rounds : List (List PageRecord)
  pub is_reading : IsReading (in_frame Machine (settings Single m.table.page_size limit)) stream (closed m.table rounds)
  pub is_memory : (first : Image) → first.table ≡ m.table → with_rounds first (map (map (page_of m.table.page_size)) rounds) ≡ m

-- The plain stream of a file that has no fault loads to the memory that the file stands for.
abbrev pub PlainLoadsTheMemory : Type 0
PlainLoadsTheMemory = (page_size limit : ℕ) (file stream : List ℕ) (plain : IsPlainOf page_size file stream) (reading : MappedReading) → IsPageSize page_size
    → IsMappedReading plain.index.given (plain.before + length (mapped_front plain.front)) plain.front.total file reading → reading.fault ≡ None
    → plain.front.total ≤ limit → IsReadWith page_size plain.front
    → EndsRam (table_of page_size reading.blocks) plain.front.id (drop plain.index.place file)
    → LoadsTo limit (drop plain.before stream) (memory_in plain.index.given file reading.blocks)

-- What `mig_mapped` writes before and after the blocks of a machine without devices is of this kind.
abbrev pub WrittenIsOfThisKind : Type 0
WrittenIsOfThisKind = (table : RamTable) (machine : List ℕ) (total : ℕ)
    → IsReadWith table.page_size (alone machine total) × EndsRam table (alone machine total).id (end_bytes table)
