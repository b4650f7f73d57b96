-- The streams, by their format.
use Rattle.std.specs.Prelude.{◌≡◌, ℕ, ◌+◌, ◌*◌, ◌<◌, ◌≤◌, ◌^◌, Bool, true, false, ◌||◌, if◌then◌else◌, IsTrue, List, [], ◌∷◌, ◌++◌, length, map, Option, Some, None, IfSome, All, ⊤}
use Rattle.std.specs.List.{flat_map}
use Rattle.mig_mem.specs.RamTable.{Block, RamTable, block, total_pages, IsTable}
use Rattle.mig_mem.specs.Place.{IsPlace}
use Rattle.mig_stream.specs.declared.item.Mode.{Mode}
use Rattle.mig_stream.specs.declared.item.Mode.TheVariants.{Single, Main, MainBySection, MainAsShown}
use Rattle.mig_stream.specs.declared.item.Section.{Section}
use Rattle.mig_stream.specs.declared.item.Section.TheVariants.{Start, Part, End}
use Rattle.mig_stream.specs.declared.item.RecordKind.TheVariants.{SizeList, EndOfSection, Flush}
use Rattle.mig_stream.specs.Fields.{be32, be64, counted}
use Rattle.mig_stream.specs.Format.{magic, version, end_byte, section_type, configuration_type, footer_type, ram_name, ram_instance, ram_version, flags_of, most_name_bytes}
use Rattle.mig_stream.specs.PageRecord.{PageRecord, page_kind}

-- ---- page records: with CONTINUE or naming their block, of zeros or of a page's bytes

-- a length byte and the block's id; no bytes with CONTINUE
abbrev pub name_bytes : List Block → Bool → ℕ → List ℕ
name_bytes blocks true b = []
name_bytes blocks false b = counted (block blocks b).id

abbrev pub content_bytes : Option (List ℕ) → List ℕ
content_bytes None = 0 ∷ []
content_bytes (Some bytes) = bytes

abbrev pub page_record : RamTable → Bool → PageRecord → List ℕ
page_record table continued r =
    be64 (r.place.page * table.page_size + flags_of (page_kind continued r.content))
    ++ name_bytes table.blocks continued r.place.block ++ content_bytes r.content

-- A page record is allowed after `before`, the block named last: its place is in the table, its
-- content has the page size, and it has CONTINUE only if the page record before it is of its block.
pub record Fits (table : RamTable) (before : Option ℕ) (continued : Bool) (r : PageRecord) : Type 0 where
  pub has_place : IsPlace table r.place
  pub has_size : IfSome r.content (λ bytes. length bytes ≡ table.page_size)
  pub is_carried : IsTrue continued → before ≡ Some r.place.block

-- ---- records and sections

-- a page record, with CONTINUE if the first part is true, or a FLUSH
pub data Record : Type 0 where
  PageOf : Bool → PageRecord → Record
  FlushMark : Record

abbrev pub record_bytes : RamTable → Record → List ℕ
record_bytes table (PageOf continued r) = page_record table continued r
record_bytes table FlushMark = be64 (flags_of Flush)

-- these records are allowed one after another
abbrev pub Follow : RamTable → Option ℕ → List Record → Type 0
Follow table before [] = ⊤
Follow table before (PageOf continued r ∷ records) = Fits table before continued r × Follow table (Some r.place.block) records
Follow table before (FlushMark ∷ records) = Follow table before records

-- the block named last after some records, after `before`
abbrev pub named_after : Option ℕ → List Record → Option ℕ
named_after before [] = before
named_after before (PageOf continued r ∷ records) = named_after (Some r.place.block) records
named_after before (FlushMark ∷ records) = named_after before records

abbrev pub footer : ℕ → List ℕ
footer id = footer_type ∷ be32 id

-- the records of a section, EOS and footer
abbrev pub body : RamTable → ℕ → List Record → List ℕ
body table id records = flat_map (record_bytes table) records ++ (be64 (flags_of EndOfSection) ++ footer id)

-- a PART or END
abbrev pub section : RamTable → Section → ℕ → List Record → List ℕ
section table kind id records = section_type kind ∷ (be32 id ++ body table id records)

-- ---- rounds

-- the records of some sections, one after another
abbrev pub all_records : List (List Record) → List Record
all_records sections = flat_map (λ records. records) sections

abbrev pub page_records : List Record → List PageRecord
page_records [] = []
page_records (PageOf continued r ∷ records) = r ∷ page_records records
page_records (FlushMark ∷ records) = page_records records

abbrev pub HasNoFlush : List Record → Type 0
HasNoFlush [] = ⊤
HasNoFlush (PageOf continued r ∷ records) = HasNoFlush records
HasNoFlush (FlushMark ∷ records) = ⊥

-- the records of a section, with a FLUSH after them
abbrev pub with_flush : List Record → List Record
with_flush records = records ++ FlushMark ∷ []

-- A round ends with each FLUSH, and a FLUSH follows each page record, whatever sections they are
-- in.
abbrev pub AreFlushed : List (List Record) → List (List PageRecord) → Type 0
AreFlushed sections rounds =
    (groups : List (List Record)) × All HasNoFlush groups
    × (all_records sections ≡ flat_map (λ group. group ++ FlushMark ∷ []) groups) × (rounds ≡ map page_records groups)

-- a FLUSH is one of these records
abbrev pub has_flush : List Record → Bool
has_flush [] = false
has_flush (PageOf continued r ∷ records) = has_flush records
has_flush (FlushMark ∷ records) = true

-- the first of these sections begins with a FLUSH
abbrev pub begin_with_flush : List (List Record) → Bool
begin_with_flush ((FlushMark ∷ records) ∷ others) = true
begin_with_flush ((PageOf continued r ∷ records) ∷ others) = false
begin_with_flush ([] ∷ others) = false
begin_with_flush [] = false

-- START, the first section, has a FLUSH, or the first record behind it is one
abbrev pub show_flush : List (List Record) → Bool
show_flush [] = false
show_flush (start ∷ others) = has_flush start || begin_with_flush others

-- In a single stream each section is a round, without a FLUSH. In a main stream each FLUSH ends a
-- round. If each EOS ends one too, the rounds are those of the same sections with a FLUSH before
-- each EOS. The stream may show which of both it is.
abbrev pub AreRounds : Mode → List (List Record) → List (List PageRecord) → Type 0
AreRounds Single sections rounds = All HasNoFlush sections × (rounds ≡ map page_records sections)
AreRounds Main sections rounds = AreFlushed sections rounds
AreRounds MainBySection sections rounds = AreFlushed (map with_flush sections) rounds
AreRounds MainAsShown sections rounds = AreFlushed (if show_flush sections then sections else map with_flush sections) rounds

-- ---- the size list

abbrev pub entry : ℕ → Block → List ℕ
entry page_size b = counted b.id ++ be64 (b.pages * page_size)

abbrev pub total_bytes : RamTable → ℕ
total_bytes table = total_pages table.blocks * table.page_size

unfoldable pub size_list : RamTable → List ℕ
size_list table = be64 (total_bytes table + flags_of SizeList) ++ flat_map (entry table.page_size) table.blocks

-- ---- the complete stream

unfoldable pub file_header : List ℕ
file_header = be32 magic ++ be32 version

abbrev pub configuration : Option (List ℕ) → List ℕ
configuration None = []
configuration (Some name) = configuration_type ∷ (be32 (length name) ++ name)

abbrev pub start_head : ℕ → List ℕ
start_head id = section_type Start ∷ (be32 id ++ counted ram_name ++ be32 ram_instance ++ be32 ram_version)

-- The bytes are a complete stream, up to and with its end byte: file header, configuration or none,
-- START with the size list, PARTs, END and the end byte, each section with any records.
pub record IsText (mode : Mode) (limit : ℕ) (text : List ℕ) (table : RamTable) (rounds : List (List PageRecord)) : Type 0 where
  pub id : ℕ
  pub name : Option (List ℕ)
  pub first : List Record
  pub parts : List (List Record)
  pub last : List Record
  pub is_spelled : text ≡ file_header ++ configuration name
      ++ start_head id ++ size_list table ++ body table id first
      ++ flat_map (section table Part id) parts
      ++ section table End id last ++ end_byte ∷ []
  pub has_table : IsTable table
  pub has_limit : total_bytes table ≤ limit
  pub has_id : id < 2 ^ 32
  pub has_name : IfSome name (λ bytes. length bytes ≤ most_name_bytes)
  pub follow : Follow table None (first ++ all_records parts ++ last)
  pub has_rounds : AreRounds mode (first ∷ parts ++ last ∷ []) rounds
