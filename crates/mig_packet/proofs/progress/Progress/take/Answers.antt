use Rattle.std.proofs.Common.{◌≡◌, false, List, ℕ, sym, subst, rules}
use Rattle.std.specs.Prelude.{is_none}
use Rattle.mig_packet.specs.Packet.{IsPacketText}
use Rattle.mig_packet.proofs.Fronts.{item_text}
use Rattle.mig_packet.proofs.Rounds.{some_there}
use Rattle.mig_packet.proofs.progress.Progress.take.Goals as goal

pub take_packet-requires : goal.take_packet-requires
take_packet-requires g c =
    let off : is_none c.args.self.now.hello ≡ false = search rules in
    subst (λ (x : List ℕ). IsPacketText c.args.self.now.page_size x) (sym c.in_ok-packet.ensures)
    (item_text c.args.self.now c.args.self.now.hello c.args.item.now (some_there c.args.self.now.hello off) c.requires.whole c.requires.faultless)
