use Rattle.std.proofs.Common.{rules, ◌≡◌, ◌+◌, ◌++◌, ◌<◌, ◌^◌, ℕ, List, length, refl, subst}
use Rattle.std.specs.Io.KnownBytes.{Appends}
use Rattle.mig_send.specs.Dealing.{sync_packet}
use Rattle.zimgasol_packing.specs.Packing.{HaveTexts}
use Rattle.zimgasol_packing.proofs.Steps.{is_ended}
use Rattle.zimgasol_packing.proofs.packing.Packing.finish.Goals as goal

pub returns-clause-all : goal.returns-clause-all
returns-clause-all g c = λ begun pages is.
    let mid = c.send_batch.new.self in
    let channels = c.put_syncs.new.channels.items in
    let size : c.page_size.result ≡ mid.main.table.page_size = search rules in
    let fits : mid.number + length mid.channels.items < 2 ^ 64 = search rules in
    is_ended g.F.Write.contents begun pages c.args.self mid channels (g.W.Write.contents c.args.out.now) (g.W.Write.contents c.write.new.out)
    c.flush_part.new.self c.in_ok-last.last.items
    (mid.number + length mid.channels.items) c.in_ok-send_batch.ensures.sent is c.in_ok-put_syncs.ensures.len refl fits
    (λ texts have. subst (λ (s : ℕ). HaveTexts g.F.Write.contents channels (λ k. texts k ++ sync_packet s (mid.number + k))) size
    (c.in_ok-put_syncs.ensures.put texts have))
    c.in_ok-flush_part.ensures.table c.in_ok-flush_part.ensures.ok c.in_ok-last.ensures
    (subst (λ (b : List ℕ). Appends (g.W.Write.contents c.args.out.now) (g.W.Write.contents c.write.new.out) b) c.deref.ensures.value c.in_ok-write.ensures)
