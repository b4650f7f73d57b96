-- Pages that a head names lie in a block.
use Rattle.std.proofs.Common.{ℕ, ◌<◌, ◌/◌, List, length, get_or, arith}
use Rattle.mig_mem.specs.RamTable.{RamTable}
use Rattle.mig_mem.specs.Place.{IsPlace, place_at}
use Rattle.mig_packet.specs.PacketHead.{offsets_in, as_zeros}
use Rattle.mig_packet.proofs.Heads.{count, offset_is}
use Rattle.mig_assemble.specs.PacketPages.{LiesIn}
use Rattle.mig_assemble.specs.HeadPlaces.{LieIn}
use Rattle.mig_assemble.proofs.PacketParts.{right_offsets}

-- pages that lie in a block are pages of it
pub lies : (table : RamTable) (b : ℕ) (head : List ℕ) → LieIn table b head → LiesIn table b head
lies table b head lie i lt =
    let within : i < length (offsets_in head) = (let e = count head in omega arith) in
    let there : IsPlace table (place_at b (get_or (offsets_in head) i 0 / table.page_size)) =
    right_offsets table (as_zeros head) b lie.are_right lie.has_block i 0 within in
    rw (offset_is head i within) there
