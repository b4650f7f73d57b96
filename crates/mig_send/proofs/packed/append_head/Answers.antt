use Rattle.std.proofs.Common.{◌≡◌, ◌≤◌, ◌+◌, ◌∙◌, List, ℕ, length, sym, ap, subst}
use Rattle.std.specs.Prelude.{zip}
use Rattle.mig_packet.specs.PageSize.{page_limit}
use Rattle.mig_send.specs.Batches.{BatchOfPages}
use Rattle.mig_send.specs.Heads.{zeros_at, others_at}
use Rattle.mig_send.proofs.Packing.{batch_block}
use Rattle.mig_send.proofs.Heads.{few_flagged}
use Rattle.mig_send.proofs.packed.append_head.Goals as goal

pub id-id-requires : goal.id-id-requires
id-id-requires g c =
    let lt = batch_block c.args.table.now c.args.batch.now c.requires.batch in rw (ap (λ (b : BatchOfPages). b.block) c.batch.view_is) lt

pub put_packet_head-requires-clause-few : goal.put_packet_head-requires-clause-few
put_packet_head-requires-clause-few g c =
    let size : ℕ = c.args.table.now.page_size in
    let same : c.deref.result.now ≡ c.args.batch.now.pages = c.deref.ensures.value ∙ ap (λ (b : BatchOfPages). b.pages) c.batch.view_is in
    let normal : c.deref-2.result.now ≡ others_at size (zip c.args.batch.now.pages c.args.zeros.now) =
    c.deref-2.ensures.value ∙ c.in-Ok.ensures.normal ∙ ap (λ (l : List ℕ). others_at size (zip l c.args.zeros.now)) same in
    let zero : c.deref-3.result.now ≡ zeros_at size (zip c.args.batch.now.pages c.args.zeros.now) =
    c.deref-3.ensures.value ∙ c.in-Ok.ensures.zero ∙ ap (λ (l : List ℕ). zeros_at size (zip l c.args.zeros.now)) same in
    subst (λ (n : ℕ). length c.deref-2.result.now + length c.deref-3.result.now ≤ page_limit n) (sym c.page_size.ensures)
    (few_flagged c.args.table.now c.args.batch.now c.args.zeros.now c.deref-2.result.now c.deref-3.result.now c.requires.batch normal zero)
