use Rattle.std.proofs.Common.{ℕ, ◌≡◌, ◌<◌, ◌+◌, ◌/◌, ◌∙◌, ap, refl, arith, map, List}
use Rattle.std.specs.List.{range_with_len}
use Rattle.mig_mem.specs.Place.{place_at}
use Rattle.mig_mem.specs.RamTable.{RamTable}
use Rattle.mig_mem.specs.Image.{Image, Page, zero_page}
use Rattle.mig_mem.specs.Round.{with_round}
use Rattle.mig_packet.specs.Packet.{normal_count, zero_count}
use Rattle.mig_assemble.proofs.Putting.{put_none, put_numbered}
use Rattle.mig_assemble.proofs.PacketParts.{place_there, place_is, zero_page_at, zero_by_number}
use Rattle.mig_assemble.proofs.put.put_zeros.Goals as goal

pub loop-i-init : goal.loop-i-init
loop-i-init g c = put_none (g.M.GuestTarget.image c.args.memory.now) c.table.ensures.image

pub put_zero_page-requires : goal.put_zero_page-requires
put_zero_page-requires g c =
    let table : RamTable = (g.M.GuestTarget.image c.args.memory.now).table in
    let bytes : List ℕ = c.args.packet.now.bytes.now in
    let low : c.normal_len-normal_count.result + c.loop-i.i < normal_count bytes + zero_count bytes =
    omega (arith, c.normal_len-normal_count.ensures, c.zero_len-zero_count.ensures, c.loop-i-test.true) in
    place_there table (g.M.GuestTarget.image c.loop-i.memory).table c.args.block bytes (c.normal_len-normal_count.result + c.loop-i.i)
    c.offset.result c.page_size-page_size.result (ap (λ (m : Image). m.table) c.loop-i.invariant) c.requires.lies low c.offset.ensures
    (c.page_size-page_size.ensures ∙ ap (λ (t : RamTable). t.page_size) c.table.ensures.value)

pub loop-i-preserved : goal.loop-i-preserved
loop-i-preserved g c =
    let table : RamTable = (g.M.GuestTarget.image c.args.memory.now).table in
    let bytes : List ℕ = c.args.packet.now.bytes.now in
    let i : ℕ = c.normal_len-normal_count.result + c.loop-i.i in
    put_numbered (g.M.GuestTarget.image c.args.memory.now) (g.M.GuestTarget.image c.loop-i.memory) (g.M.GuestTarget.image c.put_zero_page.new.self)
    (zero_page_at table c.args.block bytes) c.normal_len-normal_count.result c.loop-i.i i
    (place_at c.args.block (c.offset.result / c.page_size-page_size.result)) (zero_page table.page_size) c.loop-i.invariant refl
    (place_is table c.args.block bytes i c.offset.result c.page_size-page_size.result c.offset.ensures
    (c.page_size-page_size.ensures ∙ ap (λ (t : RamTable). t.page_size) c.table.ensures.value))
    refl (rw (← ap (λ (m : Image). m.table.page_size) c.loop-i.invariant) c.put_zero_page.ensures.image)

pub returns : goal.returns
returns g c =
    let before : Image = g.M.GuestTarget.image c.args.memory.now in
    let table : RamTable = before.table in
    let packet = c.args.packet.now in
    let all : c.loop-i.i ≡ zero_count packet.bytes.now = omega (arith, c.zero_len-zero_count.ensures) in
    c.loop-i.invariant
    ∙ ap (λ (n : ℕ). with_round before
    (map (zero_page_at table c.args.block packet.bytes.now) (range_with_len c.normal_len-normal_count.result n))) all
    ∙ ap (λ (n : ℕ). with_round before
    (map (zero_page_at table c.args.block packet.bytes.now) (range_with_len n (zero_count packet.bytes.now)))) c.normal_len-normal_count.ensures
    ∙ ap (λ (l : List Page). with_round before l) (zero_by_number table c.args.block packet.page_size packet.bytes.now)
