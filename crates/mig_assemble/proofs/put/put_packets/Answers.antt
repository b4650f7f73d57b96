use Rattle.std.proofs.Common.{ℕ, ◌≡◌, ◌∙◌, sym, ap, List, get_or}
use Rattle.std.specs.List.{flat_map}
use Rattle.std.proofs.lemmas.List.{take_all}
use Rattle.std.proofs.lemmas.List.Folds.{flat_map-map}
use Rattle.mig_mem.specs.RamTable.{RamTable}
use Rattle.mig_mem.specs.Image.{Image, Page}
use Rattle.mig_mem.specs.Round.{with_round}
use Rattle.mig_packet.specs.declared.packet.Packet.{Packet}
use Rattle.mig_packet.specs.Lent.{fields}
use Rattle.mig_assemble.specs.declared.judge.Placed.{Placed}
use Rattle.mig_assemble.specs.Judging.{packet_pages}
use Rattle.mig_assemble.specs.AtOnce.{packets_of}
use Rattle.mig_assemble.proofs.Putting.{put_none, put_part_more}
use Rattle.mig_assemble.proofs.put.put_packets.Goals as goal

pub loop-one-init : goal.loop-one-init
loop-one-init g c = put_none (g.M.GuestTarget.image c.args.memory.now) c.table-table.ensures.image

pub loop-one-preserved : goal.loop-one-preserved
loop-one-preserved g c =
    let here : Image = g.M.GuestTarget.image c.loop-one.memory in
    let next : Image = g.M.GuestTarget.image c.put_packet.new.memory in
    let table : RamTable = (g.M.GuestTarget.image c.args.memory.now).table in
    let i : ℕ = c.loop-one.one-index in
    let one : Placed = c.one-item.result in
    let put : next ≡ with_round here (packet_pages table (fields (get_or c.args.placed.now i one).packet)) =
    c.put_packet.ensures ∙ ap (λ (t : RamTable). with_round here (packet_pages t (fields one.packet)))
    (ap (λ (m : Image). m.table) c.loop-one.invariant)
    ∙ ap (λ (x : Placed). with_round here (packet_pages table (fields x.packet))) c.one-item.is in
    put_part_more (g.M.GuestTarget.image c.args.memory.now) here next
    (λ (x : Placed). packet_pages table (fields x.packet)) c.args.placed.now i one c.loop-one.invariant c.loop-one-test.true put

pub returns : goal.returns
returns g c =
    let before : Image = g.M.GuestTarget.image c.args.memory.now in
    let table : RamTable = before.table in
    let placed : List Placed = c.args.placed.now in
    let f : Packet → List Page = λ p. packet_pages table (fields p) in
    c.loop-one.invariant
    ∙ ap (λ (l : List Placed). with_round before (flat_map (λ (x : Placed). f x.packet) l)) (take_all c.loop-one.one-index placed c.loop-one-test.false)
    ∙ ap (λ (l : List Page). with_round before l)
    (sym (flat_map-map f (λ (x : Placed). x.packet) placed) ∙ sym (flat_map-map (packet_pages table) fields (packets_of placed)))
