-- The page records of a plain stream: a record for each page of a block, of which the first one has
-- the block's id.
use Rattle.std.specs.Prelude.{ℕ, ◌+◌, ◌-◌, ◌*◌, ◌==◌, not, List, slice_range, Option, Some, None}
use Rattle.std.specs.List.{flat_map}
use Rattle.mig_mem.specs.declared.place.Place.{Place}
use Rattle.mig_mem.specs.RamTable.{RamTable}
use Rattle.mig_mem.specs.Place.{place_at}
use Rattle.mig_stream.specs.Text.{Record, PageOf, record_bytes}

-- the record of a page with this content, or of zeros: the first one of each block has its id
abbrev pub record_of : Place → Option (List ℕ) → Record
record_of p content = PageOf (not (p.page == 0)) (record { place = p; content = content })

-- the records of these pages, each with its content
abbrev pub records_bytes : RamTable → ℕ → (ℕ → Option (List ℕ)) → List ℕ → List ℕ
records_bytes table b content pages = flat_map (λ page. record_bytes table (record_of (place_at b page) (content page))) pages

-- pages of zeros
abbrev pub no_content : ℕ → Option (List ℕ)
no_content page = None

-- pages whose contents follow each other, from the page `first` on
abbrev pub part_of : ℕ → List ℕ → ℕ → ℕ → Option (List ℕ)
part_of size contents first page = Some (slice_range contents ((page - first) * size) ((page - first) * size + size))
