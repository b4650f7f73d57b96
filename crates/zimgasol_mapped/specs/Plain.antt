-- The plain stream of a file with mapped-ram: a stream of the same memory without the capability.
use Rattle.std.specs.Prelude.{ℕ, List, [], ◌∷◌, ◌++◌, take, drop, Option, Some, None, if◌then◌else◌}
use Rattle.std.specs.List.{flat_map}
use Rattle.mig_mem.specs.declared.place.Place.{Place}
use Rattle.mig_mem.specs.RamTable.{RamTable}
use Rattle.mig_mem.specs.Place.{places}
use Rattle.mig_stream.specs.Text.{record_bytes, entry}
use Rattle.mig_mapped.specs.Bitmap.{is_set}
use Rattle.mig_mapped.specs.Block.{table_of, mapped_block, page_in}
use Rattle.mig_mapped.specs.Head.{MappedProgress}
use Rattle.mig_mapped.specs.Load.{has_come}
use Rattle.zimgasol_mapped.specs.Records.{record_of}
use Rattle.zimgasol_mapped.specs.Sparse.{with_raw_format}

-- ---- the pages of a file

-- the content that a file has of a page: None if its bit isn't set
abbrev pub content_of : MappedProgress → List ℕ → Place → Option (List ℕ)
content_of c file p =
    if is_set c.given.order (mapped_block c.blocks p.block).bitmap p.page
    then Some (page_in c.given file (mapped_block c.blocks p.block) p.page)
    else None

-- the guest's table
abbrev pub index_table : MappedProgress → RamTable
index_table c = table_of c.given.page_size c.blocks

-- A record for each of these pages, and what follows them. The file may end before a page does:
-- then its record isn't there, and nothing follows.
abbrev pub pages_bytes : MappedProgress → List ℕ → List ℕ → List Place → List ℕ
pages_bytes c file rest [] = rest
pages_bytes c file rest (p ∷ others) =
    if has_come c.given file (mapped_block c.blocks p.block) p.page
    then record_bytes (index_table c) (record_of p (content_of c file p)) ++ pages_bytes c file rest others
    else []

-- ---- the stream

-- The stream of a file whose heads are in this index. Before it the file has `before` bytes, and
-- its front without the capability is `front`. It has the size list, a record for each page, and
-- the file's bytes after the last block's pages.
abbrev pub plain_stream : List ℕ → ℕ → List ℕ → MappedProgress → List ℕ
plain_stream file before front c =
    with_raw_format (take before file)
    ++ (front ++ flat_map (entry c.given.page_size) (index_table c).blocks
    ++ pages_bytes c file (drop c.place file) (places (index_table c)))
