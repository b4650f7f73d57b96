-- How far a plain stream was given. Only private contracts cite it.
use Rattle.std.specs.Prelude.{ℕ, ◌≡◌, ◌+◌, ◌-◌, ◌<◌, ◌≤◌, ◌^◌, ◌==◌, true, false, List, [], ◌++◌}
use Rattle.std.specs.Prelude.{length, min, map, drop, slice_range, Option, Some, if◌then◌else◌, ⊤}
use Rattle.std.specs.List.{flat_map, range_with_len}
use Rattle.std.specs.Option.{option_map}
use Rattle.mig_mem.specs.declared.place.Place.{Place}
use Rattle.mig_mem.specs.RamTable.{RamTable, block}
use Rattle.mig_mem.specs.Place.{place_at, block_places}
use Rattle.mig_stream.specs.Text.{entry}
use Rattle.mig_mapped.specs.declared.index.MappedRun.{MappedRun}
use Rattle.mig_mapped.specs.Bitmap.{is_set}
use Rattle.mig_mapped.specs.Block.{mapped_block, page_offset}
use Rattle.mig_mapped.specs.Head.{MappedProgress}
use Rattle.zimgasol_mapped.specs.declared.course.Stage.{Stage}
use Rattle.zimgasol_mapped.specs.declared.course.Stage.TheVariants.{Before, Front, Pages, After, Over}
use Rattle.zimgasol_mapped.specs.declared.course.Course.{Course}
use Rattle.zimgasol_mapped.specs.Sparse.{with_raw_format}
use Rattle.zimgasol_mapped.specs.Plain.{index_table, pages_bytes}

-- ---- what is still to come

-- the pages from one on: those of its block, and those of the blocks after it
abbrev pub places_from : RamTable → Place → List Place
places_from table next =
    map (place_at next.block) (range_with_len next.page ((block table.blocks next.block).pages - next.page))
    ++ flat_map (block_places table.blocks) (range_with_len (next.block + 1) (length table.blocks - (next.block + 1)))

-- the records of these pages, and what follows them
abbrev pub pages_left : MappedProgress → List ℕ → Place → List ℕ
pages_left c file next = pages_bytes c file (drop c.place file) (places_from (index_table c) next)

-- bytes before the stream, which begin at this offset, as they are given
abbrev pub raw_at : ℕ → List ℕ → List ℕ
raw_at at bytes = if at == 0 then with_raw_format bytes else bytes

-- the bytes before the stream, from one on
abbrev pub header_left : List ℕ → ℕ → ℕ → List ℕ
header_left file at end = raw_at at (slice_range file at end)

-- the front, and all that follows
abbrev pub front_left : List ℕ → MappedProgress → List ℕ → Place → List ℕ
front_left front c file next = front ++ flat_map (entry c.given.page_size) (index_table c).blocks ++ pages_left c file next

abbrev pub stage_left : List ℕ → MappedProgress → List ℕ → Place → Stage → List ℕ
stage_left front c file next (Before at end) = header_left file at end ++ front_left front c file next
stage_left front c file next Front = front_left front c file next
stage_left front c file next Pages = pages_left c file next
stage_left front c file next (After at) = drop at file
stage_left front c file next Over = []

-- what is still to come, of a file with these bytes
abbrev pub bytes_left : {F : Type 0} → Course F → List ℕ → List ℕ
bytes_left c file = drop c.given c.records.bytes.items ++ stage_left c.front.items c.index file c.next c.stage

abbrev pub left_of : {F : Type 0} → (F → Option (List ℕ)) → Course F → Option (List ℕ)
left_of bytes c = option_map (bytes_left c) (bytes c.file)

-- ---- what always holds

-- The run begins at the next page or after it. The pages before it are zeros, and the file has
-- those of the run. A number that doesn't fit in 64 bits is their largest: no file has bytes there.
pub record IsRunAt (c : MappedProgress) (next : Place) (run : MappedRun) : Type 0 where
  pub low : next.page ≤ run.page
  pub fits : run.page + run.pages ≤ (mapped_block c.blocks next.block).pages
  pub zeros : (q : ℕ) → next.page ≤ q → q < run.page → is_set c.given.order (mapped_block c.blocks next.block).bitmap q ≡ false
  pub are_set : (q : ℕ) → run.page ≤ q → q < run.page + run.pages → is_set c.given.order (mapped_block c.blocks next.block).bitmap q ≡ true
  pub has_offset : 0 < run.pages → run.offset ≡ min (page_offset c.given.page_size (mapped_block c.blocks next.block) run.page) (2 ^ 64 - 1)

-- the file has the bytes before the stream that are still to come
abbrev pub HasBefore : List ℕ → Stage → Type 0
HasBefore file (Before at end) = end ≤ length file
HasBefore file Front = ⊤
HasBefore file Pages = ⊤
HasBefore file (After at) = ⊤
HasBefore file Over = ⊤

pub record IsCourse {F : Type 0} (bytes : F → Option (List ℕ)) (c : Course F) : Type 0 where
  pub has_table : c.records.table ≡ index_table c.index
  pub has_page_size : 0 < c.index.given.page_size
  pub has_room : length c.buffer.items ≡ 262144
  pub is_run : IsRunAt c.index c.next c.run
  pub has_before : (file : List ℕ) → bytes c.file ≡ Some file → HasBefore file c.stage

-- no bytes wait
pub record IsEmpty {F : Type 0} (c : Course F) : Type 0 where
  pub has_none : c.records.bytes.items ≡ []
  pub is_begun : c.given ≡ 0

-- Nothing has changed but what was read of the file, and the bytes that wait.
pub record Stays {F : Type 0} (old new : Course F) : Type 0 where
  pub same_index : new.index ≡ old.index
  pub same_stage : new.stage ≡ old.stage
  pub same_next : new.next ≡ old.next
  pub same_run : new.run ≡ old.run
  pub same_front : new.front.items ≡ old.front.items
  pub same_table : new.records.table ≡ old.records.table
  pub same_given : new.given ≡ old.given
  pub same_room : length new.buffer.items ≡ length old.buffer.items

-- The same bytes are still to come.
pub record Goes {F : Type 0} (bytes : F → Option (List ℕ)) (old new : Course F) : Type 0 where
  pub is_course : IsCourse bytes new
  pub same_left : (file : List ℕ) → bytes old.file ≡ Some file → bytes_left new file ≡ bytes_left old file
