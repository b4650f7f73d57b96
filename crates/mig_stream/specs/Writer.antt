-- A writer of a stream, and the rounds that it was passed.
use Rattle.std.specs.Prelude.{◌≡◌, ℕ, List, [], ◌∷◌, ◌++◌, length, take, Option, None}
use Rattle.std.specs.List.{flat_map}
use Rattle.mig_mem.specs.Image.{Page}
use Rattle.mig_mem.specs.RamTable.{RamTable}
use Rattle.mig_mem.specs.Round.{IsRound}
use Rattle.mig_stream.specs.declared.item.Section.TheVariants as sections
use Rattle.mig_stream.specs.Fields.{be32}
use Rattle.mig_stream.specs.Format.{section_type}
use Rattle.mig_stream.specs.Text.{record_bytes, named_after, section}
use Rattle.mig_stream.specs.Written.{Part, written_id, written_records, part_records, named_after_parts, written_so_far}

-- what a writer holds: its table, the stream so far, and the block named last
pub record Writer : Type 0 where
  pub table : RamTable
  pub text : List ℕ
  pub named : Option ℕ

-- The writer was given these parts, and these bytes of their stream were drained of it.
pub record HasDrained (drained : List ℕ) (w : Writer) (parts : List Part) : Type 0 where
  pub has_text : drained ++ w.text ≡ written_so_far w.table parts
  pub has_named : w.named ≡ named_after_parts None parts

-- the writer was given these parts, and nothing was drained of it
abbrev pub HasWritten : Writer → List Part → Type 0
HasWritten w parts = HasDrained [] w parts

-- the writer after the records of some pages, and after a part
abbrev pub with_pages : Writer → List Page → Writer
with_pages w pages = record w {
  text = w.text ++ flat_map (record_bytes w.table) (written_records w.named pages);
  named = named_after w.named (written_records w.named pages);
}

abbrev pub with_part : Writer → Part → Writer
with_part w part = record w {
  text = w.text ++ section w.table sections.Part written_id (part_records w.named part);
  named = named_after w.named (part_records w.named part);
}

-- the writer after the head of a PART
abbrev pub with_head : Writer → Writer
with_head w = record w { text = w.text ++ section_type sections.Part ∷ be32 written_id }

-- A part that is being written: the writer before it, and the writer now.
pub record PartSoFar : Type 0 where
  pub before : Writer
  pub now : Writer

-- These pages were put into the part, in this order, and they are a round of its table.
pub record HasPut (part : PartSoFar) (pages : List Page) : Type 0 where
  pub has_pages : part.now ≡ with_pages (with_head part.before) pages
  pub is_round : IsRound part.before.table pages

-- the bytes from before are at the front
pub record KeepsFront (old new : Writer) : Type 0 where
  pub same_table : new.table ≡ old.table
  pub same_front : take (length old.text) new.text ≡ old.text
