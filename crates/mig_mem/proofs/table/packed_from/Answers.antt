use Rattle.std.proofs.Common.{◌≡◌, ◌+◌, length, refl, rules}
use Rattle.mig_mem.specs.declared.table.Span.{Span}
use Rattle.mig_mem.proofs.Packing.{packing}
use Rattle.mig_mem.proofs.table.packed_from.Goals as goal

pub loop-id-preserved : goal.loop-id-preserved
loop-id-preserved g c =
    let s : Span = record { start = c.len-start.result; len = c.len.result; pages = c.loop-id-item.result.1 } in
    let at : c.len-start.result ≡ length c.loop-id.ids.items = search rules in
    let len : c.len.result ≡ length c.loop-id-item.result.0.items = search rules in
    let both = packing c.args.list.now c.loop-id.ids.items c.loop-id.spans.items c.loop-id.id-index (c.loop-id.id-index + 1) c.loop-id-item.result s
    c.loop-id.invariant.same c.loop-id.invariant.within c.loop-id-test.true refl c.loop-id-item.is at len refl in
    rw (c.in_ok-push.ensures.items, c.in_ok-extend_from_slice.ensures.items, c.deref.ensures.value) (record { same = both.0; within = both.1 })
