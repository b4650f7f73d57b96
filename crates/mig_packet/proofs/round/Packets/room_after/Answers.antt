use Rattle.std.proofs.Common.{◌≡◌, ◌+◌, ◌<◌, List, ℕ, ◌∙◌, length, get_or, take, refl, ap, rules}
use Rattle.std.proofs.lemmas.List.{take_more}
use Rattle.mig_packet.specs.Waiting.{weight, less_room}
use Rattle.mig_packet.proofs.Rounds.{room_again, room_longer}
use Rattle.mig_packet.proofs.round.Packets.room_after.Goals as goal

pub loop-text-init : goal.loop-text-init
loop-text-init g c = room_again c.args.waiting _ refl

pub loop-text-preserved : goal.loop-text-preserved
loop-text-preserved g c =
    let texts : List (List ℕ) = c.deref-text-items.result.now in
    let i : ℕ = c.loop-text.text-index in
    let lt : i < length texts = search rules in
    let weighs : c.weight_of.result ≡ weight (get_or texts i c.text-item.result) = c.weight_of.ensures ∙ ap weight (c.as_slice.ensures ∙ c.text-item.is) in
    room_longer c.args.waiting c.loop-text.room c.less_room-room.result (take i texts) (take (i + 1) texts) (get_or texts i c.text-item.result)
    c.loop-text.invariant (c.less_room-room.ensures ∙ ap (less_room c.loop-text.room) weighs) (take_more texts i c.text-item.result lt)
