use Rattle.std.proofs.Common.{ℕ, ◌≡◌, ◌∙◌, sym, ap, subst, List, Option, Some, None}
use Rattle.std.specs.Option.{unwrap_or}
use Rattle.mig_mem.specs.RamTable.{RamTable, block_of}
use Rattle.mig_packet.specs.Packet.{Fields}
use Rattle.mig_packet.specs.Lent.{fields}
use Rattle.mig_assemble.specs.Judging.{pages_in}
use Rattle.mig_assemble.specs.PacketPages.{normal_pages, zero_pages}
use Rattle.mig_assemble.specs.RoundList.{Adds}
use Rattle.mig_assemble.proofs.PacketParts.{unknown_has_none}
use Rattle.mig_assemble.proofs.RoundLists.{adds_none, adds_after}
use Rattle.mig_assemble.proofs.round_list.add_packet.Goals as goal

pub returns-in_default : goal.returns-in_default
returns-in_default g c =
    let table : RamTable = c.args.table.now in
    let packet : Fields = fields c.args.packet.now in
    let unknown : block_of table.blocks packet.id ≡ None =
    ap (λ (id : List ℕ). block_of table.blocks id) (sym c.id.ensures) ∙ sym c.find.ensures ∙ c.in_default.is in
    rw (unknown_has_none table packet c.requires.lawful unknown) (adds_none table.page_size c.args.list.now.items)

pub returns : goal.returns
returns g c =
    let table : RamTable = c.args.table.now in
    let packet : Fields = fields c.args.packet.now in
    let b : ℕ = c.in-Some.block in
    let known : block_of table.blocks packet.id ≡ Some b =
    ap (λ (id : List ℕ). block_of table.blocks id) (sym c.id.ensures) ∙ sym c.find.ensures ∙ c.in-Some.is in
    subst (λ (o : Option ℕ). Adds table.page_size c.args.list.now.items c.add_zeros.new.list.items (pages_in table packet (unwrap_or o 0))) (sym known)
    (adds_after table.page_size c.args.list.now.items c.add_normal.new.list.items c.add_zeros.new.list.items
    (normal_pages table b packet) (zero_pages table b packet)
    c.in_ok-add_normal.ensures c.in_ok-add_zeros.ensures)
