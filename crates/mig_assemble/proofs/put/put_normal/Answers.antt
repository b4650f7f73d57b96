use Rattle.std.proofs.Common.{ℕ, ◌≡◌, ◌<◌, ◌/◌, ◌∙◌, sym, ap, arith, map, List}
use Rattle.mig_mem.specs.Place.{place_at}
use Rattle.mig_mem.specs.RamTable.{RamTable}
use Rattle.mig_mem.specs.Image.{Image, Page}
use Rattle.mig_mem.specs.Round.{with_round}
use Rattle.std.specs.List.{range_with_len}
use Rattle.mig_packet.specs.Packet.{normal_count}
use Rattle.mig_assemble.proofs.Putting.{put_none, put_numbered}
use Rattle.mig_assemble.proofs.PacketParts.{place_there, place_is, normal_page_at, normal_by_number}
use Rattle.mig_assemble.proofs.put.put_normal.Goals as goal

pub loop-i-init : goal.loop-i-init
loop-i-init g c = put_none (g.M.GuestTarget.image c.args.memory.now) c.table.ensures.image

pub put_page-requires-clause-place : goal.put_page-requires-clause-place
put_page-requires-clause-place g c =
    let table : RamTable = (g.M.GuestTarget.image c.args.memory.now).table in
    let low : c.loop-i.i < normal_count c.args.packet.now.bytes.now = omega (arith, c.normal_len-normal_count.ensures, c.loop-i-test.true) in
    place_there table (g.M.GuestTarget.image c.loop-i.memory).table c.args.block c.args.packet.now.bytes.now c.loop-i.i
    c.offset.result c.page_size-page_size.result (ap (λ (m : Image). m.table) c.loop-i.invariant) c.requires.lies (omega (arith, low)) c.offset.ensures
    (c.page_size-page_size.ensures ∙ ap (λ (t : RamTable). t.page_size) c.table.ensures.value)

pub put_page-requires-clause-bytes : goal.put_page-requires-clause-bytes
put_page-requires-clause-bytes g c = c.page.ensures.size ∙ c.requires.page_size ∙ sym (ap (λ (m : Image). m.table.page_size) c.loop-i.invariant)

pub loop-i-preserved : goal.loop-i-preserved
loop-i-preserved g c =
    let table : RamTable = (g.M.GuestTarget.image c.args.memory.now).table in
    let packet = c.args.packet.now in
    put_numbered (g.M.GuestTarget.image c.args.memory.now) (g.M.GuestTarget.image c.loop-i.memory) (g.M.GuestTarget.image c.put_page.new.self)
    (normal_page_at table c.args.block packet.page_size packet.bytes.now) 0 c.loop-i.i c.loop-i.i
    (place_at c.args.block (c.offset.result / c.page_size-page_size.result)) c.page.result.now c.loop-i.invariant (omega arith)
    (place_is table c.args.block packet.bytes.now c.loop-i.i c.offset.result c.page_size-page_size.result c.offset.ensures
    (c.page_size-page_size.ensures ∙ ap (λ (t : RamTable). t.page_size) c.table.ensures.value))
    c.page.ensures.content c.put_page.ensures.image

pub returns : goal.returns
returns g c =
    let before : Image = g.M.GuestTarget.image c.args.memory.now in
    let table : RamTable = before.table in
    let packet = c.args.packet.now in
    let all : c.loop-i.i ≡ normal_count packet.bytes.now = omega (arith, c.normal_len-normal_count.ensures) in
    c.loop-i.invariant
    ∙ ap (λ (n : ℕ). with_round before (map (normal_page_at table c.args.block packet.page_size packet.bytes.now) (range_with_len 0 n))) all
    ∙ ap (λ (l : List Page). with_round before l) (normal_by_number table c.args.block packet.page_size packet.bytes.now)
