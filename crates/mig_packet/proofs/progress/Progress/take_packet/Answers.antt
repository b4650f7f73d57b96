use Rattle.std.proofs.Common.{◌≡◌, ◌∙◌, sym, ap, rules}
use Rattle.mig_packet.specs.Progress.{ChannelProgress as Read}
use Rattle.mig_packet.specs.Waiting.{weight, less_room}
use Rattle.mig_packet.proofs.Rounds.{made_whole, made_longer, room_longer, room_again}
use Rattle.mig_packet.proofs.progress.Progress.take_packet.Goals as goal

pub invariant_of-self-2 : goal.invariant_of-self-2
invariant_of-self-2 g c = (
  made_whole c.self.inside.page_size c.args.self.now.page_size c.self.inside.packets _ c.args.packet c.self.inside.rounds.items _ c.self.invariant.0
      (sym (ap (λ (x : Read). x.page_size) c.self.view_is)) c.requires (c.replace-round.ensures.after ∙ c.new.ensures) (search rules),
  room_again c.self.inside.waiting _ (c.replace-round.ensures.after ∙ c.new.ensures),
)

pub invariant_of-self-then-be32-ne-MULTIFD_FLAG_SYNC : goal.invariant_of-self-then-be32-ne-MULTIFD_FLAG_SYNC
invariant_of-self-then-be32-ne-MULTIFD_FLAG_SYNC g c =
    let weighs : c.weight_of.result ≡ weight c.args.packet = c.weight_of.ensures ∙ ap weight c.as_slice.ensures in (
      made_longer c.self.inside.page_size c.args.self.now.page_size c.self.inside.packets _ c.args.packet c.self.inside.rounds.items c.self.invariant.0
          (sym (ap (λ (x : Read). x.page_size) c.self.view_is)) c.requires c.in_ok-push.ensures.ok,
      room_longer c.self.inside.waiting c.self.inside.room _ c.self.inside.packets _ c.args.packet c.self.invariant.1
          (c.less_room-room.ensures ∙ ap (less_room c.self.inside.room) weighs) c.in_ok-push.ensures.ok,
    )
