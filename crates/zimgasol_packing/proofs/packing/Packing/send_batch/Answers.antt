use Rattle.std.proofs.Common.{rules, ◌≡◌, ◌<◌, ◌+◌, ℕ, List, length, refl, subst, arith}
use Rattle.zimgasol_packing.specs.Packing.{HaveTexts, with_bytes}
use Rattle.zimgasol_packing.proofs.Steps.{batch_sent, limit_fits}
use Rattle.zimgasol_packing.proofs.packing.Packing.send_batch.Goals as goal

pub returns-clause-sent : goal.returns-clause-sent
returns-clause-sent g c = λ begun packets pages has before.
    let contents = g.F.Write.contents in
    let old = c.args.self.now in
    let fits = limit_fits begun.table.page_size (length pages) has.are_few in
    let counted : c.len.result ≡ length pages = c.len.ensures begun.table.page_size pages has.has_pages fits in
    let some : 0 < length pages = omega (arith, counted, c.if-len-eq0.false) in
    let next : c.in-Some.next ≡ old.number + 1 = search rules in
    let many : c.len-2.result ≡ length c.put_on.new.channels.items = search rules in
    batch_sent contents begun old _ packets pages c.write_batch.new.bytes.items has some c.in_ok-write_batch.ensures refl c.in_ok-put_on.ensures.len
    (λ texts have. subst (λ (l : List ℕ). HaveTexts contents c.put_on.new.channels.items (with_bytes texts old.turn l)) c.deref.ensures.value
    (c.in_ok-put_on.ensures.put texts have))
    next (λ low. omega (arith, many, c.next_turn-self.ensures (omega (arith, many, low)))) c.clear.ensures
