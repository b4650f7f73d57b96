use Rattle.std.proofs.Common.{ℕ, ◌≡◌, ◌<◌, ◌++◌, ◌∷◌, [], List, length, arith, refl, get_or, slice_get, Some}
use Rattle.std.specs.declared.vec.Vec.{Vec}
use Rattle.std.proofs.lemmas.Option.{slice_get_read}
use Rattle.std.proofs.lemmas.List.Elements.{All-nil}
use Rattle.mig_packet.specs.declared.packet.Packet.{Packet}
use Rattle.mig_relay.specs.Relayed.{GoesThrough}
use Rattle.mig_relay.proofs.GoingThrough.{all_go_on, all_go_further}
use Rattle.mig_relay.proofs.AllGone.{rest_starts, gone_starts, rest_more, gone_more, sizes_more, gone_all, has_place, next_at_round}
use Rattle.mig_relay.proofs.taking.take_of_all.Goals as goal

pub loop-j-init : goal.loop-j-init
loop-j-init g c = record {
  within = omega arith;
  rest = rest_starts c.args.places.now.items c.args.collector.now;
  continues = all_go_on c.args.collector.now;
  gone = λ k are. rw (c.requires.empty.0, c.requires.empty.1) (gone_starts k c.args.places.now.items c.args.collector.now);
  sizes = λ page_size all. rw (c.requires.empty.0) (All-nil (λ (packet : Packet). packet.page_size ≡ page_size));
}

place_is : {A : Type 0} (places : Vec ℕ A) (j at : ℕ) → j < length places.items → at ≡ get_or places.items j at → slice_get places.items j ≡ Some at
place_is places j at below is = slice_get_read places.items (length places.items) j at refl below is

pub index-requires : goal.index-requires
index-requires g c =
    let below : c.loop-j.j < length c.args.collector.now = omega (arith, c.loop-j-test.true, c.len-j-end.ensures) in
    let have = has_place c.requires.places.0 c.loop-j.j c.args.places.now.items c.loop-j.places.items c.args.collector.now
    c.loop-j.collector c.loop-j.invariant.rest c.requires.places.1 below in
    omega (arith, have, c.loop-j.places.ok.0)

pub take_of_channel-requires-clause-at : goal.take_of_channel-requires-clause-at
take_of_channel-requires-clause-at g c =
    let below : c.loop-j.j < length c.args.collector.now = omega (arith, c.loop-j-test.true, c.len-j-end.ensures) in
    let have = has_place c.requires.places.0 c.loop-j.j c.args.places.now.items c.loop-j.places.items c.args.collector.now
    c.loop-j.collector c.loop-j.invariant.rest c.requires.places.1 below in (
      c.requires.places.0,
      next_at_round c.requires.places.0 c.loop-j.j c.index.result.now c.args.places.now.items c.loop-j.places.items
          c.args.collector.now c.loop-j.collector c.loop-j.invariant.rest c.requires.places.1 below
          (place_is c.loop-j.places c.loop-j.j c.index.result.now have c.index.ensures),
    )

pub returns-in_err-status-clause-continues : goal.returns-in_err-status-clause-continues
returns-in_err-status-clause-continues g c =
    all_go_further c.args.collector.now c.loop-j.collector c.take_of_channel.new.collector c.loop-j.invariant.continues c.take_of_channel.ensures.continues

pub index_mut-requires : goal.index_mut-requires
index_mut-requires g c =
    let below : c.loop-j.j < length c.args.collector.now = omega (arith, c.loop-j-test.true, c.len-j-end.ensures) in
    let have = has_place c.requires.places.0 c.loop-j.j c.args.places.now.items c.loop-j.places.items c.args.collector.now
    c.loop-j.collector c.loop-j.invariant.rest c.requires.places.1 below in
    omega (arith, have, c.loop-j.places.ok.0)

pub returns-in_err-push-clause-continues : goal.returns-in_err-push-clause-continues
returns-in_err-push-clause-continues g c =
    all_go_further c.args.collector.now c.loop-j.collector c.take_of_channel.new.collector c.loop-j.invariant.continues c.take_of_channel.ensures.continues

pub loop-j-preserved : goal.loop-j-preserved
loop-j-preserved g c =
    let j = c.loop-j.j in
    let old = c.args.collector.now in
    let now = c.loop-j.collector in
    let new = c.take_of_channel.new.collector in
    let places_before = c.args.places.now.items in
    let places = c.loop-j.places.items in
    let status = c.in_ok-status.status in
    let to = c.in_ok-status.to in
    let below : j < length old = omega (arith, c.loop-j-test.true, c.len-j-end.ensures) in
    let have = has_place c.requires.places.0 j places_before places old now c.loop-j.invariant.rest c.requires.places.1 below in
    let found = c.in_ok-status.ensures.ok in
    let more : List Packet = found.0 in
    let at = c.index.result.now in
    let goes : GoesThrough j at now new to status more = found.2 in
    let push : c.push.new.self.items ≡ c.loop-j.statuses.items ++ status ∷ [] = c.in_ok-push.ensures.items in
    record {
      within = omega (arith, below);
      rest = rest_more j at to places_before places old now new status more c.loop-j.invariant.rest goes;
      continues = all_go_further old now new c.loop-j.invariant.continues c.take_of_channel.ensures.continues;
      gone = λ k are. rw (push, found.1)
          (gone_more k j at to places_before places old now new c.loop-j.statuses.items status c.loop-j.gathered more c.loop-j.invariant.rest are
          (place_is c.loop-j.places j at have c.index.ensures) (c.loop-j.invariant.gone k are) goes);
      sizes = λ page_size all. rw found.1
          (sizes_more page_size j at to places_before places old now new status c.loop-j.gathered more c.loop-j.invariant.rest
          goes all (c.loop-j.invariant.sizes page_size all));
    }

pub returns-clause-ok : goal.returns-clause-ok
returns-clause-ok g c = λ k are.
    gone_all k c.loop-j.j c.args.places.now.items c.loop-j.places.items c.args.collector.now c.loop-j.collector
    c.loop-j.statuses.items c.loop-j.gathered c.loop-j.invariant.rest are (c.loop-j.invariant.gone k are)
    (omega (arith, c.loop-j-test.false, c.len-j-end.ensures))
