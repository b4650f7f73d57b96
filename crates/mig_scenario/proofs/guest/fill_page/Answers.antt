use Rattle.std.proofs.Common.{◌≡◌, ◌≤◌, ◌∙◌, ap, sym, refl}
use Rattle.mig_mem.specs.RamTable.{RamTable}
use Rattle.mig_scenario.proofs.Filled.{page_bound, front_len, page_filled}
use Rattle.mig_scenario.proofs.guest.fill_page.Goals as goal

pub returns-then-byte-eq0 : goal.returns-then-byte-eq0
returns-then-byte-eq0 g c = rw c.if-byte-eq0.true c.put_zero_page.ensures

pub slice_bounds-put_page-end : goal.slice_bounds-put_page-end
slice_bounds-put_page-end g c =
    let of : c.page_size-size.result ≡ c.args.image.now.table.page_size = c.page_size-size.ensures
    ∙ ap (λ (t : RamTable). t.page_size) c.table-2.ensures.value in
    let bound : c.page_size-size.result ≤ 8192 = page_bound _ _ c.page_size-size.result c.keeps_limits.ensures c.table.ensures.value of in
    sym (front_len c.page_size-size.result c.page_size-size.result 8192 c.args.byte c.bytes_of-content.result refl bound c.bytes_of-content.ensures)

pub put_page-requires-clause-bytes : goal.put_page-requires-clause-bytes
put_page-requires-clause-bytes g c =
    let of : c.page_size-size.result ≡ c.args.image.now.table.page_size = c.page_size-size.ensures
    ∙ ap (λ (t : RamTable). t.page_size) c.table-2.ensures.value in
    let bound : c.page_size-size.result ≤ 8192 = page_bound _ _ c.page_size-size.result c.keeps_limits.ensures c.table.ensures.value of in
    front_len c.page_size-size.result c.args.image.now.table.page_size 8192 c.args.byte c.bytes_of-content.result of bound c.bytes_of-content.ensures

pub returns : goal.returns
returns g c =
    let of : c.page_size-size.result ≡ c.args.image.now.table.page_size = c.page_size-size.ensures
    ∙ ap (λ (t : RamTable). t.page_size) c.table-2.ensures.value in
    let bound : c.page_size-size.result ≤ 8192 = page_bound _ _ c.page_size-size.result c.keeps_limits.ensures c.table.ensures.value of in
    page_filled _ c.args.image.now c.args.place c.page_size-size.result 8192 c.args.byte c.bytes_of-content.result
    c.put_page.ensures of bound c.bytes_of-content.ensures
