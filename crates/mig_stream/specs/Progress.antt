-- How far a stream has been read.
use Rattle.std.specs.Prelude.{ℕ, Bool, false, ◌==◌, List, [], Option, Some, None}
use Rattle.std.specs.Bool.{then_some}
use Rattle.mig_mem.specs.RamTable.{Block, RamTable}
use Rattle.mig_stream.specs.declared.item.Frame.{Frame}
use Rattle.mig_stream.specs.declared.item.Mode.{Mode}
use Rattle.mig_stream.specs.declared.item.Section.{Section}
use Rattle.mig_stream.specs.declared.item.Section.TheVariants as section
use Rattle.mig_stream.specs.declared.item.EntryForm.{EntryForm}
use Rattle.mig_stream.specs.declared.item.EntryForm.TheVariants.{Plain}
use Rattle.mig_stream.specs.declared.item.Due.{Due}
use Rattle.mig_stream.specs.declared.item.Due.TheVariants as due
use Rattle.mig_stream.specs.PageRecord.{PageRecord}

pub record StreamProgress : Type 0 where
  -- what isn't in the stream: its frame, its mode, the page size, the limit on the table's total,
  -- and the most page records of an open round, or None for any number; only a mode that the stream
  -- shows changes, once
  pub frame : Frame
  pub mode : Mode
  pub page_size : ℕ
  pub limit : ℕ
  pub waiting : Option ℕ
  -- the next item
  pub due : Due
  -- the section that is read, and START's section id
  pub section : Section
  pub section_id : ℕ
  -- what follows the length of a block in the size list
  pub form : EntryForm
  -- how many bytes of the total no entry has yet: None before the size list
  pub left : Option ℕ
  -- the blocks of the entries so far
  pub blocks : List Block
  -- the block that the last page record named
  pub named : Option ℕ
  -- how many more page records the open round takes, or None for any number
  pub room : Option ℕ
  -- the page records of the open round, and the complete rounds
  pub records : List PageRecord
  pub rounds : List (List PageRecord)

-- before the first byte
abbrev pub start : Frame → Mode → ℕ → ℕ → Option ℕ → StreamProgress
start frame mode page_size limit waiting = record {
  frame = frame;
  mode = mode;
  page_size = page_size;
  limit = limit;
  waiting = waiting;
  due = due.FileHeader;
  section = section.Start;
  section_id = 0;
  form = Plain;
  left = None;
  blocks = [];
  named = None;
  room = waiting;
  records = [];
  rounds = [];
}

-- the table of the entries so far
abbrev pub table_of : StreamProgress → RamTable
table_of c = record { page_size = c.page_size; blocks = c.blocks }

abbrev pub is_used_up : Option ℕ → Bool
is_used_up None = false
is_used_up (Some left) = left == 0

-- the table, once the size list is complete
abbrev pub whole_table : StreamProgress → Option RamTable
whole_table c = then_some (is_used_up c.left) (table_of c)
