use Rattle.std.proofs.Common.{◌∙◌, sym, ap, subst, List}
use Rattle.mig_mem.specs.RamTable.{RamTable}
use Rattle.mig_mem.specs.Image.{Image, Page}
use Rattle.mig_mem.specs.Round.{with_round}
use Rattle.mig_packet.specs.declared.packet.Packet.{Packet}
use Rattle.mig_packet.specs.Lent.{fields}
use Rattle.mig_assemble.specs.declared.places.Pages.{Pages}
use Rattle.mig_assemble.specs.declared.places.Pages.TheVariants.{In}
use Rattle.mig_assemble.specs.HeadPlaces.{Lie}
use Rattle.mig_assemble.specs.AtOnce.{head_of}
use Rattle.mig_assemble.proofs.Putting.{put_none}
use Rattle.mig_assemble.proofs.PacketParts.{lies, put_halves}
use Rattle.mig_assemble.proofs.AtOnce.{names_block, not_in_none}
use Rattle.mig_assemble.proofs.put.put_packet.Goals as goal

pub returns-in_default : goal.returns-in_default
returns-in_default g c =
    let before : Image = g.M.GuestTarget.image c.args.memory.now in
    let p : Packet = c.args.placed.now.packet in
    put_none before c.table-table.ensures.image
    ∙ ap (λ (l : List Page). with_round before l)
    (sym (not_in_none before.table p c.args.placed.now.pages c.requires.lie c.requires.lawful c.in_default.not-In))

pub put_normal-requires-clause-lies : goal.put_normal-requires-clause-lies
put_normal-requires-clause-lies g c =
    let table : RamTable = (g.M.GuestTarget.image c.args.memory.now).table in
    let p : Packet = c.args.placed.now.packet in
    let lie : Lie table (head_of p) (In c.in-In.block) = subst (λ (o : Pages). Lie table (head_of p) o) c.in-In.is c.requires.lie in
    lies table p.page_size p.bytes.now c.in-In.block c.requires.lawful (names_block table p c.in-In.block lie.1)

pub put_zeros-requires-clause-lies : goal.put_zeros-requires-clause-lies
put_zeros-requires-clause-lies g c =
    let table : RamTable = (g.M.GuestTarget.image c.args.memory.now).table in
    let p : Packet = c.args.placed.now.packet in
    let lie : Lie table (head_of p) (In c.in-In.block) = subst (λ (o : Pages). Lie table (head_of p) o) c.in-In.is c.requires.lie in
    rw (ap (λ (m : Image). m.table) c.put_normal.ensures)
    (lies table p.page_size p.bytes.now c.in-In.block c.requires.lawful (names_block table p c.in-In.block lie.1))

pub returns : goal.returns
returns g c =
    let before : Image = g.M.GuestTarget.image c.args.memory.now in
    let p : Packet = c.args.placed.now.packet in
    let lie : Lie before.table (head_of p) (In c.in-In.block) = subst (λ (o : Pages). Lie before.table (head_of p) o) c.in-In.is c.requires.lie in
    put_halves before (g.M.GuestTarget.image c.put_normal.new.memory) (g.M.GuestTarget.image c.put_zeros.new.memory)
    (fields p) c.in-In.block (names_block before.table p c.in-In.block lie.1) c.put_normal.ensures c.put_zeros.ensures
