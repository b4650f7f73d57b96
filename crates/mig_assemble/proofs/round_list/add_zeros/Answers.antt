use Rattle.std.proofs.Common.{ℕ, ◌≡◌, ◌+◌, ◌/◌, ◌∙◌, ap, subst, refl, arith, List, map, None}
use Rattle.std.specs.List.{range_with_len}
use Rattle.mig_mem.specs.declared.putting.RoundPage.{RoundPage}
use Rattle.mig_mem.specs.Place.{place_at}
use Rattle.mig_mem.specs.RamTable.{RamTable}
use Rattle.mig_mem.specs.Image.{Page, zero_page}
use Rattle.mig_mem.specs.Puts.{round_page}
use Rattle.mig_packet.specs.Packet.{zero_count, offset_at}
use Rattle.mig_assemble.specs.RoundList.{Adds}
use Rattle.mig_assemble.proofs.PacketParts.{zero_page_at, zero_by_number}
use Rattle.mig_assemble.proofs.RoundLists.{adds_none, adds_numbered}
use Rattle.mig_assemble.proofs.round_list.add_zeros.Goals as goal

pub loop-i-init : goal.loop-i-init
loop-i-init g c = adds_none c.args.table.now.page_size c.args.list.now.items

pub loop-i-preserved : goal.loop-i-preserved
loop-i-preserved g c =
    let table : RamTable = c.args.table.now in
    let packet = c.args.packet.now in
    let b : ℕ = c.args.block in
    let first : ℕ = c.normal_len-normal_count.result in
    let i : ℕ = first + c.loop-i.i in
    let x : RoundPage = record { place = place_at b (c.offset.result / c.page_size-page_size.result); content = None } in
    let same : round_page table.page_size x ≡ zero_page_at table b packet.bytes.now i =
    ap (λ (page : ℕ). record { place = place_at b page; content = zero_page table.page_size })
    (ap (λ (n : ℕ). n / c.page_size-page_size.result) c.offset.ensures ∙ ap (λ (n : ℕ). offset_at packet.bytes.now i / n) c.page_size-page_size.ensures) in
    adds_numbered table.page_size c.args.list.now.items c.loop-i.list.items c.push.new.self.items x (zero_page_at table b packet.bytes.now) first c.loop-i.i i
    c.loop-i.invariant refl c.in_ok-push.ensures.items same tt

pub returns : goal.returns
returns g c =
    let table : RamTable = c.args.table.now in
    let packet = c.args.packet.now in
    let f : ℕ → Page = zero_page_at table c.args.block packet.bytes.now in
    let all : c.loop-i.i ≡ zero_count packet.bytes.now = omega (arith, c.zero_len-zero_count.ensures) in
    subst (λ (l : List Page). Adds table.page_size c.args.list.now.items c.loop-i.list.items l)
    (ap (λ (n : ℕ). map f (range_with_len c.normal_len-normal_count.result n)) all
    ∙ ap (λ (n : ℕ). map f (range_with_len n (zero_count packet.bytes.now))) c.normal_len-normal_count.ensures
    ∙ zero_by_number table c.args.block packet.page_size packet.bytes.now) c.loop-i.invariant
