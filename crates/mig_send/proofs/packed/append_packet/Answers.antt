use Rattle.std.proofs.Common.{◌≡◌, ◌∙◌, ◌++◌, ℕ, List, OnOk, ap, subst}
use Rattle.mig_mem.specs.RamTable.{IsTable}
use Rattle.mig_mem.proofs.PageSizes.{page_size_some}
use Rattle.mig_send.specs.Batches.{BatchOfPages, batch_places}
use Rattle.mig_send.specs.Packing.{normal_offsets, zero_offsets, packet_at}
use Rattle.mig_send.proofs.Packing.{few_kinds, batch_block, packet_is}
use Rattle.mig_send.proofs.packed.append_packet.Goals as goal

pub append_pages-requires-clause-block : goal.append_pages-requires-clause-block
append_pages-requires-clause-block g c =
    let lt = batch_block (g.M.GuestPages.image c.args.memory.now).table c.args.batch.now c.requires in
    rw (ap (λ (b : BatchOfPages). b.block) c.batch.view_is) lt

pub append_pages-requires-clause-few : goal.append_pages-requires-clause-few
append_pages-requires-clause-few g c =
    let m = g.M.GuestPages.image c.args.memory.now in
    let same = ap (λ (l : List ℕ). record { block = c.batch.inside.block; pages = l }) c.deref.ensures.value ∙ c.batch.view_is in
    let normal = c.deref-2.ensures.value ∙ c.in_ok-put_offsets.ensures.normal ∙ ap (λ (b : BatchOfPages). normal_offsets m (batch_places b)) same in
    let zeros = c.deref-3.ensures.value ∙ c.in_ok-put_offsets.ensures.zero ∙ ap (λ (b : BatchOfPages). zero_offsets m (batch_places b)) same in
    few_kinds m c.args.batch.now c.deref-2.result.now c.deref-3.result.now c.requires normal zeros

pub returns-clause-ok : goal.returns-clause-ok
returns-clause-ok g c =
    let m = g.M.GuestPages.image c.args.memory.now in
    let is : IsTable m.table = rw (← c.table.ensures.value) c.keeps_limits.ensures in
    let same = ap (λ (l : List ℕ). record { block = c.batch.inside.block; pages = l }) c.deref.ensures.value ∙ c.batch.view_is in
    let normal = c.deref-2.ensures.value ∙ c.in_ok-put_offsets.ensures.normal ∙ ap (λ (b : BatchOfPages). normal_offsets m (batch_places b)) same in
    let zeros = c.deref-3.ensures.value ∙ c.in_ok-put_offsets.ensures.zero ∙ ap (λ (b : BatchOfPages). zero_offsets m (batch_places b)) same in
    let packet = ap (λ (b : BatchOfPages). packet_at m b.block c.args.number c.deref-2.result.now c.deref-3.result.now) c.batch.view_is
    ∙ packet_is m c.args.batch.now c.args.number c.deref-2.result.now c.deref-3.result.now (page_size_some m.table.page_size is.has_page_size) normal zeros in
    subst (λ (l : List ℕ). OnOk c.append_pages.result (c.append_pages.new.text.items ≡ c.args.text.now.items ++ l)) packet c.append_pages.ensures.ok
