use Rattle.std.proofs.Common.{ℕ, ◌+◌, ◌<◌, ◌∙◌, List, ap, arith}
use Rattle.mig_mem.specs.RamTable.{RamTable}
use Rattle.mig_packet.specs.Packet.{normal_count, zero_count}
use Rattle.mig_uses.specs.Straight.{page_place}
use Rattle.mig_uses.proofs.StraightPages.{writes_more}
use Rattle.mig_uses.proofs.straight.read_pages.Goals as goal

pub returns-in_err-read_page : goal.returns-in_err-read_page
returns-in_err-read_page g c =
    let head : List ℕ = c.args.head.now.bytes.now in
    let b : ℕ = c.args.block in
    let same = c.place_of-place.ensures ∙ ap (λ (t : RamTable). page_place t b head c.loop-i.i) c.loop-i.invariant.same_table in
    let low : c.loop-i.i < normal_count head + zero_count head = omega (arith, c.loop-i-test.true, c.loop-i.auto.i-end, c.normal_len-i-end.ensures) in
    writes_more b head (g.M.GuestTarget.image c.args.memory.now) (g.M.GuestTarget.image c.loop-i.memory)
    (g.M.GuestTarget.image c.read_page.new.self) c.loop-i.i c.place_of-place.result c.read_page.ensures.0 low same c.loop-i.invariant c.read_page.ensures.1

pub returns-then-not-branch : goal.returns-then-not-branch
returns-then-not-branch g c =
    let head : List ℕ = c.args.head.now.bytes.now in
    let b : ℕ = c.args.block in
    let same = c.place_of-place.ensures ∙ ap (λ (t : RamTable). page_place t b head c.loop-i.i) c.loop-i.invariant.same_table in
    let low : c.loop-i.i < normal_count head + zero_count head = omega (arith, c.loop-i-test.true, c.loop-i.auto.i-end, c.normal_len-i-end.ensures) in
    writes_more b head (g.M.GuestTarget.image c.args.memory.now) (g.M.GuestTarget.image c.loop-i.memory)
    (g.M.GuestTarget.image c.read_page.new.self) c.loop-i.i c.place_of-place.result c.read_page.ensures.0 low same c.loop-i.invariant c.read_page.ensures.1

pub loop-i-preserved : goal.loop-i-preserved
loop-i-preserved g c =
    let head : List ℕ = c.args.head.now.bytes.now in
    let b : ℕ = c.args.block in
    let same = c.place_of-place.ensures ∙ ap (λ (t : RamTable). page_place t b head c.loop-i.i) c.loop-i.invariant.same_table in
    let low : c.loop-i.i < normal_count head + zero_count head = omega (arith, c.loop-i-test.true, c.loop-i.auto.i-end, c.normal_len-i-end.ensures) in
    writes_more b head (g.M.GuestTarget.image c.args.memory.now) (g.M.GuestTarget.image c.loop-i.memory)
    (g.M.GuestTarget.image c.read_page.new.self) c.loop-i.i c.place_of-place.result c.read_page.ensures.0 low same c.loop-i.invariant c.read_page.ensures.1
