use Rattle.std.proofs.Common.{ℕ, ◌≡◌, ◌+◌, [], List, take, refl, sym, ap, ◌∙◌, subst}
use Rattle.std.proofs.lemmas.List.Elements.{All-nil}
use Rattle.mig_mem.specs.RamTable.{RamTable}
use Rattle.mig_mem.specs.Image.{Page}
use Rattle.mig_packet.specs.declared.packet.Packet.{Packet}
use Rattle.mig_assemble.specs.declared.judge.Placed.{Placed}
use Rattle.mig_assemble.specs.Target.{pages_of_round}
use Rattle.mig_assemble.specs.HeadPlaces.{Lie}
use Rattle.mig_assemble.specs.AtOnce.{head_of, came_at_once, packets_of, LieEach}
use Rattle.mig_assemble.proofs.AtOnce.{came_table, came_more, placed_more, lie_more}
use Rattle.mig_assemble.proofs.judge.arrive.Goals as goal

pub returns-in_err-placed-clause-table : goal.returns-in_err-placed-clause-table
returns-in_err-placed-clause-table g c =
    let table : RamTable = c.args.arrivals.now.seen.table in
    came_table table (came_at_once (pages_of_round c.args.round.now) []) c.records.new.self (c.records.ensures.come table [] c.requires.none)

pub loop-packet-init : goal.loop-packet-init
loop-packet-init g c = record {
  came = c.records.ensures.come c.args.arrivals.now.seen.table [] c.requires.none;
  placed = ap (λ (l : List Placed). packets_of l) c.in_ok-placed.ensures.items;
  lie = subst (λ (l : List Placed). LieEach c.args.arrivals.now.seen.table l) (sym c.in_ok-placed.ensures.items)
      (All-nil (λ (x : Placed). Lie c.args.arrivals.now.seen.table (head_of x.packet) x.pages));
}

pub returns-in_err-push-clause-table : goal.returns-in_err-push-clause-table
returns-in_err-push-clause-table g c =
    let table : RamTable = c.args.arrivals.now.seen.table in
    let records : List Page = pages_of_round c.args.round.now in
    let packets : List Packet = c.args.packets.now in
    let i : ℕ = c.loop-packet.packet-index in
    let here : c.loop-packet.arrivals.seen.table ≡ table =
    came_table table (came_at_once records (take i packets)) c.loop-packet.arrivals c.loop-packet.invariant.came in
    came_table table (came_at_once records (take (i + 1) packets)) c.packet.new.self
    (came_more table records packets i c.packet-item.result c.head.result.bytes.now c.loop-packet.arrivals c.packet.new.self
    c.loop-packet-test.true c.packet-item.is c.head.ensures.bytes c.loop-packet.invariant.came c.in_ok-pages.ensures.come)

pub loop-packet-preserved : goal.loop-packet-preserved
loop-packet-preserved g c =
    let table : RamTable = c.args.arrivals.now.seen.table in
    let records : List Page = pages_of_round c.args.round.now in
    let packets : List Packet = c.args.packets.now in
    let i : ℕ = c.loop-packet.packet-index in
    let q : Packet = c.packet-item.result in
    let x : Placed = record { packet = q; pages = c.in_ok-pages.pages } in
    let here : c.loop-packet.arrivals.seen.table ≡ table =
    came_table table (came_at_once records (take i packets)) c.loop-packet.arrivals c.loop-packet.invariant.came in
    let lie : Lie table (head_of q) x.pages =
    subst (λ (head : List ℕ). Lie table head x.pages) c.head.ensures.bytes
    (subst (λ (t : RamTable). Lie t c.head.result.bytes.now x.pages) here c.in_ok-pages.ensures.lie) in
    record {
      came = came_more table records packets i q c.head.result.bytes.now c.loop-packet.arrivals c.packet.new.self
          c.loop-packet-test.true c.packet-item.is c.head.ensures.bytes c.loop-packet.invariant.came c.in_ok-pages.ensures.come;
      placed = ap (λ (l : List Placed). packets_of l) c.in_ok-push.ensures.items
          ∙ placed_more packets c.loop-packet.placed.items i q x c.loop-packet-test.true c.packet-item.is refl c.loop-packet.invariant.placed;
      lie = subst (λ (l : List Placed). LieEach table l) (sym c.in_ok-push.ensures.items)
          (lie_more table c.loop-packet.placed.items x lie c.loop-packet.invariant.lie);
    }
