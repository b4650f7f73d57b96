use Rattle.std.proofs.Common.{◌≡◌, ◌+◌, ◌++◌, [], ◌∷◌, List, arith, sym, ap, ◌∙◌, append_assoc, subst}
use Rattle.std.proofs.lemmas.List.{append-nil}
use Rattle.mig_packet.specs.declared.packet.Packet.{Packet}
use Rattle.mig_answer.specs.declared.status.Status.{Status}
use Rattle.mig_relay.specs.Relayed.{GivesItem, GoesThrough}
use Rattle.mig_relay.proofs.GoingThrough.{all_go_further}
use Rattle.mig_relay.proofs.GoneThrough.{going_starts, going_opens, going_within, going_hello, going_packet, gone_whole, gone_stop}
use Rattle.mig_relay.proofs.taking.take_of_channel.Goals as goal

pub loop-init : goal.loop-init
loop-init g c = ([], sym (append-nil c.args.gathered.now), going_starts c.args.j c.args.at c.requires.at.0 c.args.collector.now c.requires.j c.requires.at.1)

pub item_at-requires-clause-open : goal.item_at-requires-clause-open
item_at-requires-clause-open g c = going_opens c.args.j c.args.at c.loop.at c.args.collector.now c.loop.collector c.loop.invariant.0 c.loop.invariant.2

pub returns-in_err-item-clause-continues : goal.returns-in_err-item-clause-continues
returns-in_err-item-clause-continues g c =
    all_go_further c.args.collector.now c.loop.collector c.item_at.new.collector
    (going_within c.args.j c.args.at c.loop.at c.args.collector.now c.loop.collector c.loop.invariant.0 c.loop.invariant.2) c.item_at.ensures.continues

pub overflow_add-at : goal.overflow_add-at
overflow_add-at g c = let few = c.in_ok-item.ensures.few in omega (arith, few)

pub loop-preserved-in-Hello : goal.loop-preserved-in-Hello
loop-preserved-in-Hello g c =
    let gives = subst (GivesItem c.args.j c.loop.at c.loop.collector c.item_at.new.collector) c.in-Hello.is c.in_ok-item.ensures.item in (
      c.loop.invariant.0,
      c.loop.invariant.1,
      going_hello c.args.j c.args.at c.loop.at c.in-Hello.field-0 c.args.collector.now c.loop.collector c.item_at.new.collector
          c.loop.invariant.0 c.loop.invariant.2 gives,
    )

pub returns-in-Stop-clause-ok : goal.returns-in-Stop-clause-ok
returns-in-Stop-clause-ok g c =
    let gives = subst (GivesItem c.args.j c.loop.at c.loop.collector c.item_at.new.collector) c.in-Stop.is c.in_ok-item.ensures.item in (
      c.loop.invariant.0,
      c.loop.invariant.1,
      subst (λ (s : Status). GoesThrough c.args.j c.args.at c.args.collector.now c.item_at.new.collector
          (c.loop.at + 1) s c.loop.invariant.0) (sym c.stop_status.ensures)
          (gone_stop c.args.j c.args.at c.loop.at c.in-Stop.end c.args.collector.now c.loop.collector c.item_at.new.collector
          c.loop.invariant.0 c.loop.invariant.2 gives),
    )

pub returns-in-Stop-clause-continues : goal.returns-in-Stop-clause-continues
returns-in-Stop-clause-continues g c =
    all_go_further c.args.collector.now c.loop.collector c.item_at.new.collector
    (going_within c.args.j c.args.at c.loop.at c.args.collector.now c.loop.collector c.loop.invariant.0 c.loop.invariant.2) c.item_at.ensures.continues

pub returns-in_err-push-in-Page-clause-continues : goal.returns-in_err-push-in-Page-clause-continues
returns-in_err-push-in-Page-clause-continues g c =
    all_go_further c.args.collector.now c.loop.collector c.item_at.new.collector
    (going_within c.args.j c.args.at c.loop.at c.args.collector.now c.loop.collector c.loop.invariant.0 c.loop.invariant.2) c.item_at.ensures.continues

-- the packets so far, and one more
pushed : (old gathered new packets : List Packet) (packet : Packet) → gathered ≡ old ++ packets → new ≡ gathered ++ packet ∷ []
    → new ≡ old ++ (packets ++ packet ∷ [])
pushed old gathered new packets packet so_far push = push ∙ ap (λ (l : List Packet). l ++ packet ∷ []) so_far ∙ append_assoc old packets (packet ∷ [])

pub returns-then-sync-clause-ok : goal.returns-then-sync-clause-ok
returns-then-sync-clause-ok g c =
    let packets = c.loop.invariant.0 in
    let packet = c.in-Page.packet in
    let gives = subst (GivesItem c.args.j c.loop.at c.loop.collector c.item_at.new.collector) c.in-Page.is c.in_ok-item.ensures.item in (
      packets ++ packet ∷ [],
      pushed c.args.gathered.now c.loop.gathered c.push.new.self packets packet c.loop.invariant.1 c.in_ok-push-in-Page.ensures.ok,
      gone_whole c.args.j c.args.at c.loop.at packet c.args.collector.now c.loop.collector c.item_at.new.collector packets
          c.loop.invariant.2 gives (sym c.sync.ensures ∙ c.if-sync.true),
    )

pub returns-then-sync-clause-continues : goal.returns-then-sync-clause-continues
returns-then-sync-clause-continues g c =
    all_go_further c.args.collector.now c.loop.collector c.item_at.new.collector
    (going_within c.args.j c.args.at c.loop.at c.args.collector.now c.loop.collector c.loop.invariant.0 c.loop.invariant.2) c.item_at.ensures.continues

pub loop-preserved : goal.loop-preserved
loop-preserved g c =
    let packets = c.loop.invariant.0 in
    let packet = c.in-Page.packet in
    let gives = subst (GivesItem c.args.j c.loop.at c.loop.collector c.item_at.new.collector) c.in-Page.is c.in_ok-item.ensures.item in (
      packets ++ packet ∷ [],
      pushed c.args.gathered.now c.loop.gathered c.push.new.self packets packet c.loop.invariant.1 c.in_ok-push-in-Page.ensures.ok,
      going_packet c.args.j c.args.at c.loop.at packet c.args.collector.now c.loop.collector c.item_at.new.collector packets
          c.loop.invariant.2 gives (sym c.sync.ensures ∙ c.if-sync.false),
    )
