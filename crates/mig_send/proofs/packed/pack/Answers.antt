use Rattle.std.proofs.Common.{◌≡◌, ◌∙◌, sym, ap, subst}
use Rattle.mig_mem.specs.RamTable.{RamTable, IsTable}
use Rattle.mig_send.specs.Packing.{IsPacked}
use Rattle.mig_send.proofs.Packing.{made, is_packed}
use Rattle.mig_send.proofs.packed.pack.Goals as goal

pub invariant_of-result : goal.invariant_of-result
invariant_of-result g c =
    let m = g.M.GuestPages.image c.args.memory.now in
    let is : IsTable m.table = rw (← c.table.ensures.value) c.keeps_limits.ensures in
    let size : c.page_size.result ≡ m.table.page_size = c.page_size.ensures ∙ ap (λ (t : RamTable). t.page_size) c.table-2.ensures.value in
    let packet = made m c.args.batch.now c.args.number c.page_size.result c.new-bytes.result.items c.append_packet.new.text.items
    size c.new-bytes.ensures.items c.in_ok-append_packet.ensures.ok in
    subst IsPacked (sym packet) (is_packed m c.args.batch.now c.args.number is c.table.ensures.image c.requires c.ranges.number.fits)

pub returns : goal.returns
returns g c =
    let m = g.M.GuestPages.image c.args.memory.now in
    let size : c.page_size.result ≡ m.table.page_size = c.page_size.ensures ∙ ap (λ (t : RamTable). t.page_size) c.table-2.ensures.value in
    made m c.args.batch.now c.args.number c.page_size.result c.new-bytes.result.items c.append_packet.new.text.items size
    c.new-bytes.ensures.items c.in_ok-append_packet.ensures.ok
