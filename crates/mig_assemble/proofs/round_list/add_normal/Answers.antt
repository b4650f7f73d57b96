use Rattle.std.proofs.Common.{ℕ, ◌≡◌, ◌/◌, ◌∙◌, ap, subst, arith, List, map, Some}
use Rattle.std.specs.List.{range_with_len}
use Rattle.mig_mem.specs.declared.putting.RoundPage.{RoundPage}
use Rattle.mig_mem.specs.Place.{place_at}
use Rattle.mig_mem.specs.RamTable.{RamTable}
use Rattle.mig_mem.specs.Image.{Page}
use Rattle.mig_mem.specs.Puts.{round_page}
use Rattle.mig_packet.specs.Packet.{normal_count, offset_at}
use Rattle.mig_assemble.specs.Judging.{page_in}
use Rattle.mig_assemble.specs.RoundList.{Adds}
use Rattle.mig_assemble.proofs.PacketParts.{normal_page_at, normal_by_number}
use Rattle.mig_assemble.proofs.RoundLists.{adds_none, adds_numbered}
use Rattle.mig_assemble.proofs.round_list.add_normal.Goals as goal

pub loop-i-init : goal.loop-i-init
loop-i-init g c = adds_none c.args.table.now.page_size c.args.list.now.items

pub loop-i-preserved : goal.loop-i-preserved
loop-i-preserved g c =
    let table : RamTable = c.args.table.now in
    let packet = c.args.packet.now in
    let b : ℕ = c.args.block in
    let i : ℕ = c.loop-i.i in
    let x : RoundPage = record { place = place_at b (c.offset.result / c.page_size-page_size.result); content = Some c.page.result } in
    let same : round_page table.page_size x ≡ normal_page_at table b packet.page_size packet.bytes.now i =
    ap (λ (page : ℕ). record { place = place_at b page; content = c.page.result.now })
    (ap (λ (n : ℕ). n / c.page_size-page_size.result) c.offset.ensures ∙ ap (λ (n : ℕ). offset_at packet.bytes.now i / n) c.page_size-page_size.ensures)
    ∙ ap (λ (l : List ℕ). page_in table b (offset_at packet.bytes.now i) l) c.page.ensures.content in
    adds_numbered table.page_size c.args.list.now.items c.loop-i.list.items c.push.new.self.items x
    (normal_page_at table b packet.page_size packet.bytes.now) 0 i i
    c.loop-i.invariant (omega arith) c.in_ok-push.ensures.items same (c.page.ensures.size ∙ c.requires.page_size)

pub returns : goal.returns
returns g c =
    let table : RamTable = c.args.table.now in
    let packet = c.args.packet.now in
    let all : c.loop-i.i ≡ normal_count packet.bytes.now = omega (arith, c.normal_len-normal_count.ensures) in
    let f : ℕ → Page = normal_page_at table c.args.block packet.page_size packet.bytes.now in
    subst (λ (l : List Page). Adds table.page_size c.args.list.now.items c.loop-i.list.items l)
    (ap (λ (n : ℕ). map f (range_with_len 0 n)) all ∙ normal_by_number table c.args.block packet.page_size packet.bytes.now) c.loop-i.invariant
