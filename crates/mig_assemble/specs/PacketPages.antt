-- The two halves of a packet's pages, as they are written into a block.
use Rattle.std.specs.Prelude.{ℕ, ◌+◌, ◌<◌, ◌/◌, List, map}
use Rattle.mig_mem.specs.RamTable.{RamTable}
use Rattle.mig_mem.specs.Place.{IsPlace, place_at}
use Rattle.mig_mem.specs.Image.{Page, zero_page}
use Rattle.mig_packet.specs.Packet.{Fields, normal_count, zero_count, offset_at}
use Rattle.mig_assemble.specs.Judging.{page_in}

-- the pages with contents
abbrev pub normal_pages : RamTable → ℕ → Fields → List Page
normal_pages table b packet = map (λ page. page_in table b page.offset page.content) packet.normal

-- the pages of zeros
abbrev pub zero_pages : RamTable → ℕ → Fields → List Page
zero_pages table b packet = map (λ offset. page_in table b offset (zero_page table.page_size)) packet.zero

-- each page of the packet in these bytes is a page of the block
abbrev pub LiesIn : RamTable → ℕ → List ℕ → Type 0
LiesIn table b bytes = (i : ℕ) → i < normal_count bytes + zero_count bytes → IsPlace table (place_at b (offset_at bytes i / table.page_size))
