use Rattle.std.proofs.Common.{ℕ, ◌∙◌, ◌++◌, sym, ap, subst, List, []}
use Rattle.std.specs.List.{flat_map}
use Rattle.std.proofs.lemmas.List.{take_all, append-nil}
use Rattle.std.proofs.lemmas.List.Folds.{flat_map-map}
use Rattle.std.proofs.lemmas.List.Elements.{All-nil}
use Rattle.mig_mem.specs.declared.putting.RoundPage.{RoundPage}
use Rattle.mig_mem.specs.RamTable.{RamTable}
use Rattle.mig_mem.specs.Image.{Page}
use Rattle.mig_mem.specs.Puts.{HasPageSize}
use Rattle.mig_packet.specs.declared.packet.Packet.{Packet}
use Rattle.mig_packet.specs.Lent.{fields}
use Rattle.mig_assemble.specs.Judging.{packet_pages}
use Rattle.mig_assemble.specs.Target.{pages_of_round}
use Rattle.mig_assemble.specs.RoundList.{Adds}
use Rattle.mig_assemble.proofs.RoundLists.{adds_part}
use Rattle.mig_assemble.proofs.round_list.round_list.Goals as goal

pub loop-packet-init : goal.loop-packet-init
loop-packet-init g c =
    let round = c.args.round.now in
    let pages : List Page = pages_of_round round in
    let new : List RoundPage = c.add_records.new.list.items in
    subst (λ (n : ℕ). Adds n [] new (pages ++ [])) c.requires.fits.has_page_size
    (subst (λ (l : List Page). Adds round.page_size [] new l) (sym (append-nil pages))
    (subst (λ (l : List RoundPage). Adds round.page_size l new pages) c.in_ok-list.ensures.items c.in_ok-add_records.ensures))

pub loop-packet-preserved : goal.loop-packet-preserved
loop-packet-preserved g c =
    let table : RamTable = c.args.table.now in
    let packets : List Packet = c.args.packets.now in
    let packet : Packet = c.packet-item.result in
    let i : ℕ = c.loop-packet.packet-index in
    let f : Packet → List Page = λ p. packet_pages table (fields p) in
    adds_part table.page_size [] c.loop-packet.list.items c.add_packet.new.list.items (pages_of_round c.args.round.now) f packets i packet
    c.loop-packet.invariant c.loop-packet-test.true
    (subst (λ (p : Packet). Adds table.page_size c.loop-packet.list.items c.add_packet.new.list.items (f p)) c.packet-item.is c.in_ok-add_packet.ensures)

pub returns-clause-stands_for : goal.returns-clause-stands_for
returns-clause-stands_for g c =
    let table : RamTable = c.args.table.now in
    let packets : List Packet = c.args.packets.now in
    let pages : List Page = pages_of_round c.args.round.now in
    let f : Packet → List Page = λ p. packet_pages table (fields p) in
    c.loop-packet.invariant.stands_for
    ∙ ap (λ (l : List Packet). pages ++ flat_map f l) (take_all c.loop-packet.packet-index packets c.loop-packet-test.false)
    ∙ ap (λ (l : List Page). pages ++ l) (sym (flat_map-map (packet_pages table) fields packets))

pub returns-clause-has_sizes : goal.returns-clause-has_sizes
returns-clause-has_sizes g c = c.loop-packet.invariant.has_sizes (All-nil (HasPageSize c.args.table.now.page_size))
