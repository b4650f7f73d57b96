use Rattle.std.proofs.Common.{rules, ◌≡◌, ◌+◌, ◌++◌, ◌<◌, ℕ, [], length, refl, subst, ◌∙◌}
use Rattle.std.specs.Option.{option_copied}
use Rattle.mig_packet.specs.Hello.{written_hello}
use Rattle.mig_send.specs.Dealing.{sync_packet}
use Rattle.zimgasol_packing.specs.Packing.{Begun, HaveTexts, drained_of}
use Rattle.zimgasol_packing.proofs.Steps.{is_begun}
use Rattle.zimgasol_packing.proofs.packing.Packing.begin.Goals as goal

pub returns-clause-begun : goal.returns-clause-begun
returns-clause-begun g c = λ have.
    let begun : Begun = record { name = option_copied c.args.name; uuid = c.args.uuid; table = c.args.table.now } in
    let channels = c.put_syncs.new.channels.items in
    let some : 0 < length channels = search rules in
    let number : c.in_ok-number.number ≡ length channels = search rules in
    let size : c.page_size.result ≡ begun.table.page_size = search rules in
    let hellos = c.in_ok-put_hellos.ensures.put have in
    is_begun g.F.Write.contents begun _ channels some (c.in_ok-flush_part.ensures.table ∙ c.in_ok-written.ensures.table)
    (c.in_ok-flush_part.ensures.ok (drained_of begun.name) [] c.in_ok-written.ensures.none) number refl c.new.ensures
    (subst (λ (s : ℕ). HaveTexts g.F.Write.contents channels (λ k. written_hello begun.uuid k ++ sync_packet s (0 + k))) size
    (c.in_ok-number.ensures.put (written_hello begun.uuid) hellos))
