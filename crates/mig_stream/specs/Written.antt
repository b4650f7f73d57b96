-- The one stream that a writer writes of a table and parts.
use Rattle.std.specs.Prelude.{ℕ, Bool, false, ◌==◌, if◌then◌else◌, List, [], ◌∷◌, ◌++◌, map, replicate, Option, Some, None}
use Rattle.mig_mem.specs.Image.{Page}
use Rattle.mig_mem.specs.RamTable.{RamTable}
use Rattle.mig_zero.specs.Zero.{is_zero}
use Rattle.mig_stream.specs.declared.item.Section.TheVariants as sections
use Rattle.mig_stream.specs.Format.{end_byte}
use Rattle.mig_stream.specs.PageRecord.{PageRecord}
use Rattle.mig_stream.specs.Text.{Record, PageOf, FlushMark, named_after, body, section, file_header, start_head, size_list}

-- the content of one PART: a round of pages, or a FLUSH
pub data Part : Type 0 where
  RoundPart : List Page → Part
  FlushPart : Part

-- the section id that the writer writes
abbrev pub written_id : ℕ
written_id = 1

-- CONTINUE is written exactly if the block was named last
abbrev pub is_named : Option ℕ → ℕ → Bool
is_named None b = false
is_named (Some named) b = named == b

-- a page of zeros is a zero page record, and each other a normal one
abbrev pub written_record : Page → PageRecord
written_record x = record { place = x.place; content = if is_zero x.content then None else Some x.content }

-- the records of some pages after `before`, the block named last
abbrev pub written_records : Option ℕ → List Page → List Record
written_records before [] = []
written_records before (x ∷ pages) = PageOf (is_named before x.place.block) (written_record x) ∷ written_records (Some x.place.block) pages

abbrev pub part_records : Option ℕ → Part → List Record
part_records before (RoundPart pages) = written_records before pages
part_records before FlushPart = FlushMark ∷ []

-- a PART for each part
abbrev pub written_parts : RamTable → Option ℕ → List Part → List ℕ
written_parts table before [] = []
written_parts table before (part ∷ parts) =
    section table sections.Part written_id (part_records before part)
    ++ written_parts table (named_after before (part_records before part)) parts

-- the block named last, after some parts
abbrev pub named_after_parts : Option ℕ → List Part → Option ℕ
named_after_parts before [] = before
named_after_parts before (part ∷ parts) = named_after_parts (named_after before (part_records before part)) parts

-- the bytes before the parts: START has the size list alone
unfoldable pub opening : RamTable → List ℕ
opening table = file_header ++ start_head written_id ++ size_list table ++ body table written_id []

-- the bytes after the parts: END has no record
unfoldable pub closing : RamTable → List ℕ
closing table = section table sections.End written_id [] ++ end_byte ∷ []

-- the bytes after some parts are written
abbrev pub written_so_far : RamTable → List Part → List ℕ
written_so_far table parts = opening table ++ written_parts table None parts

abbrev pub written : RamTable → List Part → List ℕ
written table parts = opening table ++ written_parts table None parts ++ closing table

-- the single stream of some rounds, and the main stream of some FLUSHes
abbrev pub single : RamTable → List (List Page) → List ℕ
single table rounds = written table (map RoundPart rounds)

abbrev pub main : RamTable → ℕ → List ℕ
main table n = written table (replicate n FlushPart)
