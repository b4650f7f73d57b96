-- Files that have the memory of a guest, each block in its own one.
use Rattle.std.specs.Prelude.{ℕ, ◌≡◌, ◌+◌, ◌-◌, ◌*◌, ◌<◌, ◌==◌, ◌&&◌, nat_le, nat_lt, if◌then◌else◌, false, true, List, [], ◌++◌, length, get_or, Option, Some}
use Rattle.std.specs.List.{position}
use Rattle.mig_mem.specs.declared.place.Place.{Place}
use Rattle.mig_mem.specs.RamTable.{RamTable}
use Rattle.mig_mem.specs.Place.{IsPlace, has_place}
use Rattle.mig_mem.specs.PlaceSet.{PlaceSet}
use Rattle.mig_mem.specs.Image.{Image, content_at, zero_page, zero_image}
use Rattle.mig_stream.specs.PageRecord.{PageRecord}
use Rattle.zimgasol_reading.specs.Recorded.{with_records}
use Rattle.zimgasol_filling.specs.declared.run.Run.{Run}
use Rattle.zimgasol_filling.specs.declared.filling.Filling.{Filling}
use Rattle.zimgasol_filling.specs.declared.block_files.BlockFiles.{BlockFiles}

-- no two blocks have the same file
abbrev pub HaveOneBlock : (ℕ → Option ℕ) → Type 0
HaveOneBlock file = (a b i : ℕ) → file a ≡ Some i → file b ≡ Some i → a ≡ b

-- the bytes of a file, with these at an offset
abbrev pub over : (ℕ → ℕ) → ℕ → List ℕ → ℕ → ℕ
over f at bytes k = if nat_le at k && nat_lt (k - at) (length bytes) then get_or bytes (k - at) 0 else f k

-- the bytes of file j, if these are written to file i at an offset
abbrev pub written : ℕ → ℕ → List ℕ → ℕ → (ℕ → ℕ) → ℕ → ℕ
written i at bytes j f k = if i == j then over f at bytes k else f k

-- These bytes were written to file i at an offset, and nothing else changed.
abbrev pub WritesAt : (ℕ → (ℕ → ℕ) → Type 0) → (ℕ → (ℕ → ℕ) → Type 0) → ℕ → ℕ → List ℕ → Type 0
WritesAt old new i at bytes = (j : ℕ) (g : ℕ → ℕ) → new j g → (f : ℕ → ℕ) × old j f × ((k : ℕ) → g k ≡ written i at bytes j f k)

-- the bytes of a file once those that wait are written
abbrev pub with_run : Run → ℕ → (ℕ → ℕ) → ℕ → ℕ
with_run run = written run.file run.start run.bytes.items

-- Each block's file has its pages of a memory, once the bytes that wait are written. A page that
-- isn't among those that may have something else than zeros is zeros.
pub record IsFilled {F : Type 0} (has : ℕ → (ℕ → ℕ) → Type 0) (file : ℕ → Option ℕ) (f : Filling F) (memory : Image) : Type 0 where
  pub same_size : f.page_size ≡ memory.table.page_size
  pub has_zeros : f.zeros.items ≡ zero_page memory.table.page_size
  pub marked : List Place
  pub has_marks : f.written ≡ Some (record { table = memory.table; marked = marked })
  pub has_pages : (p : Place) (i : ℕ) (g : ℕ → ℕ) → IsPlace memory.table p → file p.block ≡ Some i → has i g
      → (k : ℕ) → k < memory.table.page_size → with_run f.run i g (p.page * memory.table.page_size + k) ≡ get_or (content_at memory p) k 0
  pub are_zeros : (p : Place) (i : ℕ) → IsPlace memory.table p → file p.block ≡ Some i → has_place marked p ≡ false
      → content_at memory p ≡ zero_page memory.table.page_size

-- each block's file has its pages of a memory
abbrev pub HaveMemory : (ℕ → (ℕ → ℕ) → Type 0) → (ℕ → Option ℕ) → Image → Type 0
HaveMemory has file memory = (p : Place) (i : ℕ) (g : ℕ → ℕ) → IsPlace memory.table p → file p.block ≡ Some i → has i g
    → (k : ℕ) → k < memory.table.page_size → g (p.page * memory.table.page_size + k) ≡ get_or (content_at memory p) k 0

-- The files have the memory that these records make of zeros, after some others: those with the
-- pages of an older folder.
abbrev pub HasTakenPages : {F : Type 0} → (ℕ → (ℕ → ℕ) → Type 0) → (ℕ → Option ℕ) → Filling F → RamTable → List PageRecord → Type 0
HasTakenPages has file f table records =
    (before : List PageRecord) × IsFilled has file f (with_records (zero_image table) (before ++ records))

-- Pages that were put before those of any record are among those that were put.
abbrev pub KeepsPages : {F : Type 0} → (ℕ → (ℕ → ℕ) → Type 0) → (ℕ → Option ℕ) → Filling F → (ℕ → (ℕ → ℕ) → Type 0) → (ℕ → Option ℕ) → Filling F → Type 0
KeepsPages has file old has_new file_new new = (table : RamTable) → HasTakenPages has file old table [] → HasTakenPages has_new file_new new table []

-- the files have zeros alone
abbrev pub AreZeros : (ℕ → (ℕ → ℕ) → Type 0) → Type 0
AreZeros has = (i : ℕ) (g : ℕ → ℕ) → has i g → (k : ℕ) → g k ≡ 0

-- the files have the memory that they had
abbrev pub StillFilled : {F : Type 0} → (ℕ → (ℕ → ℕ) → Type 0) → (ℕ → Option ℕ) → Filling F → (ℕ → (ℕ → ℕ) → Type 0) → (ℕ → Option ℕ) → Filling F → Type 0
StillFilled has file old has_new file_new new = (memory : Image) → IsFilled has file old memory → IsFilled has_new file_new new memory

-- the page is among those that may have something else than zeros
abbrev pub Marks : {F : Type 0} → Filling F → Place → Type 0
Marks f place = (set : PlaceSet) → f.written ≡ Some set → has_place set.marked place ≡ true

-- ---- the files of the system

-- Nothing is known of the bytes of a file.
abbrev pub unknown : ℕ → (ℕ → ℕ) → Type 0
unknown i g = ⊥

-- the file of a block, by the blocks of all files
abbrev pub file_in : List ℕ → ℕ → Option ℕ
file_in blocks block = position (λ other. other == block) blocks

-- These records were put into the files of the system, as `HasTakenPages` says.
abbrev pub HasTakenInto : {F : Type 0} → Filling (BlockFiles F) → RamTable → List PageRecord → Type 0
HasTakenInto f = HasTakenPages unknown (file_in f.target.blocks.items) f

-- pages that were put before those of any record are among those that were put
abbrev pub KeepsInto : {F : Type 0} → Filling (BlockFiles F) → Filling (BlockFiles F) → Type 0
KeepsInto old new = KeepsPages unknown (file_in old.target.blocks.items) old unknown (file_in new.target.blocks.items) new
