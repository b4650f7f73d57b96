use Rattle.std.proofs.Common.{◌<◌, length, arith, subst, sym}
use Rattle.mig_relay.proofs.GoingThrough.{all_go_on, Has, has_already, has_now, is_below, has_item, gives_goes_on}
use Rattle.mig_relay.proofs.taking.item_at.Goals as goal
use Rattle.mig_relay.proofs.taking.item_at.Goals.{then-at-received+in_ok-next, else-at-received}

pub returns-in_err-next-clause-continues : goal.returns-in_err-next-clause-continues
returns-in_err-next-clause-continues g c = rw (c.in_err-next.ensures.err) (all_go_on c.args.collector.now)

has : (g : _) (c : goal.After-received-2 g) → Has c.args.j c.args.at c.args.collector.now c.if-at-received.collector
has g c = elim c.if-at-received.branch [
  | then-at-received+in_ok-next w ↦ subst (Has c.args.j c.args.at c.args.collector.now) (sym w.collector-is)
      (has_now c.args.j c.args.at c.args.collector.now w.next.new.self c.received.result.now w.in_ok-next.field-0 w.in_ok-next.ensures.ok c.requires.open
      c.received.ensures.items c.received.ensures.page_size w.if-at-received.true)
  | else-at-received w ↦ subst (Has c.args.j c.args.at c.args.collector.now) (sym w.collector-is)
      (has_already c.args.j c.args.at c.args.collector.now c.received.result.now c.requires.j c.requires.open c.received.ensures.items w.if-at-received.false)
]

pub bounds-received-at : goal.bounds-received-at
bounds-received-at g c = is_below c.args.j c.args.at c.args.collector.now c.if-at-received.collector c.received-2.result.now
    (has g c) c.received-2.ensures.items

pub offset_bounds-received-at : goal.offset_bounds-received-at
offset_bounds-received-at g c =
    let below : c.args.at < length c.received-2.result.now = bounds-received-at g c in
    let most = c.received-2.type_inv.1 in
    omega (arith, below, most)

pub returns-clause-item : goal.returns-clause-item
returns-clause-item g c =
    has_item c.args.j c.args.at c.args.collector.now c.if-at-received.collector c.received-2.result.now c.index-received-at.result (has g c.before)
    c.received-2.ensures.items c.received-2.ensures.begun c.received-2.ensures.page_size c.received-2.ensures.page_sizes (sym c.index-received-at.is)

pub returns-clause-continues : goal.returns-clause-continues
returns-clause-continues g c = gives_goes_on c.args.j c.args.at c.args.collector.now c.if-at-received.collector (has g c.before)

pub returns-clause-few : goal.returns-clause-few
returns-clause-few g c =
    let below : c.args.at < length c.received-2.result.now = bounds-received-at g c.before in
    let most = c.received-2.type_inv.1 in
    omega (arith, below, most)
