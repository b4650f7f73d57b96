use Rattle.std.proofs.Common.{◌≡◌, ◌∙◌, ◌*◌, ◌<◌, ◌≤◌, ◌^◌, ap, arith, length}
use Rattle.mig_mem.specs.RamTable.{RamTable}
use Rattle.mig_packet.specs.PageSize.{page_limit, head_len}
use Rattle.mig_send.proofs.Packing.{packet_small}
use Rattle.mig_send.proofs.packed.append_pages.Goals as goal

pub overflow_mul-normal : goal.overflow_mul-normal
overflow_mul-normal g c =
    let m = g.M.GuestPages.image c.args.memory.now in
    let size : c.page_size-page_size.result ≡ m.table.page_size =
    c.page_size-page_size.ensures ∙ ap (λ (t : RamTable). t.page_size) c.table-table.ensures.value in
    let few : length c.args.normal.now ≤ page_limit m.table.page_size = omega (arith, c.requires.few) in
    let product : length c.args.normal.now * c.page_size-page_size.result < 2 ^ 21 =
    rw size (packet_small m.table.page_size (length c.args.normal.now) c.requires.table.has_page_size few).1 in
    omega (arith, product)

pub overflow_add-head_len : goal.overflow_add-head_len
overflow_add-head_len g c =
    let m = g.M.GuestPages.image c.args.memory.now in
    let size : c.page_size-page_size.result ≡ m.table.page_size =
    c.page_size-page_size.ensures ∙ ap (λ (t : RamTable). t.page_size) c.table-table.ensures.value in
    let few : length c.args.normal.now ≤ page_limit m.table.page_size = omega (arith, c.requires.few) in
    let small = packet_small m.table.page_size (length c.args.normal.now) c.requires.table.has_page_size few in
    let product : length c.args.normal.now * c.page_size-page_size.result < 2 ^ 21 = rw size small.1 in
    let head : c.head_len.result ≡ head_len m.table.page_size = c.head_len.ensures ∙ ap head_len size in
    omega (arith, product, head, small.0)
