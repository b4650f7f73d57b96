use Rattle.std.proofs.Common.{ℕ, ◌≡◌, ◌+◌, ◌<◌, ◌∙◌, List, refl, sym, ap, subst, arith}
use Rattle.mig_mem.specs.declared.place.Place.{Place}
use Rattle.mig_mem.specs.RamTable.{RamTable}
use Rattle.mig_mem.specs.Place.{IsPlace}
use Rattle.mig_mem.specs.Image.{Image, zero_page}
use Rattle.mig_packet.specs.Packet.{normal_count, zero_count}
use Rattle.mig_assemble.specs.PacketPages.{LiesIn}
use Rattle.mig_uses.specs.Straight.{page_place}
use Rattle.mig_uses.proofs.StraightPages.{writes_more, zeros_more}
use Rattle.mig_uses.proofs.straight.clear_pages.Goals as goal

pub put_zero_page-requires : goal.put_zero_page-requires
put_zero_page-requires g c =
    let old : RamTable = (g.M.GuestTarget.image c.loop-i.memory).table in
    let head : List ℕ = c.args.head.now.bytes.now in
    let j : ℕ = normal_count head + c.loop-i.i in
    let same : c.place_of-place.result ≡ page_place old c.args.block head j = c.place_of-place.ensures
    ∙ ap (λ (n : ℕ). page_place old c.args.block head (n + c.loop-i.i)) c.normal_len.ensures in
    let low : j < normal_count head + zero_count head = omega (arith, c.loop-i-test.true, c.loop-i.auto.i-end, c.zero_len-i-end.ensures) in
    subst (λ (p : Place). IsPlace old p) (sym same)
    (subst (λ (t : RamTable). LiesIn t c.args.block head) (sym c.loop-i.invariant.writes.same_table) c.requires.lies j low)

pub loop-i-preserved : goal.loop-i-preserved
loop-i-preserved g c =
    let first : Image = g.M.GuestTarget.image c.args.memory.now in
    let old : Image = g.M.GuestTarget.image c.loop-i.memory in
    let new : Image = g.M.GuestTarget.image c.put_zero_page.new.self in
    let head : List ℕ = c.args.head.now.bytes.now in
    let b : ℕ = c.args.block in
    let j : ℕ = normal_count head + c.loop-i.i in
    let p : Place = c.place_of-place.result in
    let same : p ≡ page_place old.table b head j = c.place_of-place.ensures
    ∙ ap (λ (n : ℕ). page_place old.table b head (n + c.loop-i.i)) c.normal_len.ensures in
    let less : c.loop-i.i < zero_count head = omega (arith, c.loop-i-test.true, c.loop-i.auto.i-end, c.zero_len-i-end.ensures) in
    let here = c.loop-i.invariant.writes.same_table in
    record {
      writes = writes_more b head first old new j p (zero_page old.table.page_size) (omega (arith, less))
          (same ∙ ap (λ (t : RamTable). page_place t b head j) here) c.loop-i.invariant.writes c.put_zero_page.ensures.image;
      zeros = zeros_more b head old new c.loop-i.i p (zero_page old.table.page_size)
          (subst (λ (t : RamTable). LiesIn t b head) (sym here) c.requires.lies) less same refl c.put_zero_page.ensures.image c.loop-i.invariant.zeros;
    }
