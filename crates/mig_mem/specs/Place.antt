-- Where a page is, and the places that a table has.
use Rattle.std.specs.Prelude.{ℕ, ◌<◌, List, map, length, Bool, ◌&&◌, ◌||◌, ◌==◌, nat_lt, IsTrue, AllPairs}
use Rattle.std.specs.List.{range_with_len, flat_map, list_any}
use Rattle.mig_mem.specs.declared.place.Place.{Place}
use Rattle.mig_mem.specs.RamTable.{RamTable, Block, block}

abbrev pub place_at : ℕ → ℕ → Place
place_at b page = record { block = b; page = page }

abbrev pub place_eq : Place → Place → Bool
place_eq p q = p.block == q.block && p.page == q.page

-- places order by block, then page
abbrev pub place_lt : Place → Place → Bool
place_lt p q = nat_lt p.block q.block || (p.block == q.block && nat_lt p.page q.page)

abbrev pub IsAscending : List Place → Type 0
IsAscending ps = AllPairs (λ p q. IsTrue (place_lt p q)) ps

-- the place is among these
abbrev pub has_place : List Place → Place → Bool
has_place ps p = list_any (λ q. place_eq q p) ps

-- the table has a page at the place
pub record IsPlace (table : RamTable) (p : Place) : Type 0 where
  pub has_block : p.block < length table.blocks
  pub has_page : p.page < (block table.blocks p.block).pages

-- the places of a block, and of the whole table, ascending
abbrev pub block_places : List Block → ℕ → List Place
block_places blocks b = map (place_at b) (range_with_len 0 (block blocks b).pages)

unfoldable pub places : RamTable → List Place
places table = flat_map (block_places table.blocks) (range_with_len 0 (length table.blocks))
