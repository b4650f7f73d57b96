use Rattle.std.proofs.Common.{ℕ, ◌≡◌, ◌+◌, ◌<◌, ◌∙◌, List, Option, Some, None, arith, sym, map, length, refl, subst, replicate, false}
use Rattle.std.proofs.lemmas.List.{get_or-replicate}
use Rattle.mig_answer.specs.Received.{hello_in}
use Rattle.mig_relay.specs.Relayed.{received_of}
use Rattle.mig_answer.proofs.Hellos.{HaveSeen, seen_nothing, seen_more_none, seen_more, seen_again, seen_none}
use Rattle.mig_relay.proofs.RelayHellos.{hello_at, as_many}
use Rattle.mig_relay.proofs.hellos.repeated_hello.Goals as goal
use Rattle.mig_relay.proofs.hellos.repeated_hello.Goals.{in-Some+else-seen-id, in_default}

pub loop-j-init : goal.loop-j-init
loop-j-init g c = seen_nothing (map hello_in (received_of c.args.collector.now)) (replicate 256 false) refl (λ id few. get_or-replicate 256 id false false few)

pub returns-then-seen-id : goal.returns-then-seen-id
returns-then-seen-id g c =
    let ends = c.args.collector.now in
    let below : c.loop-j.j < length ends = omega (arith, c.loop-j-test.true, c.len-j-end.ensures) in
    let few : c.in-Some.id < 256 = search in
    seen_again c.loop-j.j c.in-Some.id (map hello_in (received_of ends)) c.loop-j.seen c.loop-j.invariant (omega (arith, below, as_many ends))
    (hello_at ends c.loop-j.j (Some c.in-Some.id) c.received.result.now below c.received.ensures.items c.in-Some.ensures) few c.if-seen-id.true

pub loop-j-preserved : goal.loop-j-preserved
loop-j-preserved g c =
    let ends = c.args.collector.now in
    let ids : List (Option ℕ) = map hello_in (received_of ends) in
    let below : c.loop-j.j < length ends = omega (arith, c.loop-j-test.true, c.len-j-end.ensures) in
    let inside : c.loop-j.j < length ids = omega (arith, below, as_many ends) in
    elim c.match-first_hello.branch [
      | in-Some+else-seen-id w ↦
          let few : w.in-Some.id < 256 = search in
          subst (HaveSeen (c.loop-j.j + 1) ids) (sym w.seen-is)
          (seen_more c.loop-j.j w.in-Some.id ids c.loop-j.seen c.loop-j.invariant inside
          (hello_at ends c.loop-j.j (Some w.in-Some.id) c.received.result.now below c.received.ensures.items w.in-Some.ensures) few w.if-seen-id.false)
      | in_default w ↦
          let none : c.first_hello.result ≡ None = search in
          subst (HaveSeen (c.loop-j.j + 1) ids) (sym w.seen-is)
          (seen_more_none c.loop-j.j ids c.loop-j.seen c.loop-j.invariant inside
          (hello_at ends c.loop-j.j None c.received.result.now below c.received.ensures.items (sym none ∙ c.first_hello.ensures)))
    ]

pub returns : goal.returns
returns g c =
    let ends = c.args.collector.now in
    seen_none c.loop-j.j (map hello_in (received_of ends)) c.loop-j.seen c.loop-j.invariant
    (omega (arith, as_many ends, c.loop-j-test.false, c.len-j-end.ensures))
