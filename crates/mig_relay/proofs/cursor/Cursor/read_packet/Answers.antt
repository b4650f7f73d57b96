use Rattle.std.proofs.Common.{List, ℕ, ◌≡◌, false, sym, ap, subst, ◌∙◌, arith}
use Rattle.mig_stream.proofs.ZeroRecords.{tail_from}
use Rattle.mig_packet.specs.declared.front.PacketRead.TheVariants as packet
use Rattle.mig_packet.specs.FrontRead.{ReadsPacketWithin}
use Rattle.mig_packet.specs.Packet.{IsPacketText, is_sync}
use Rattle.mig_packet.specs.Waiting.{weight, is_over, next_room}
use Rattle.mig_relay.specs.declared.message.Message.{Message}
use Rattle.mig_relay.specs.Cursor.{Finds}
use Rattle.mig_relay.proofs.Finding.{finds_packet, finds_bad_packet, finds_cut_packet, finds_unsynced, finds_clean}
use Rattle.mig_relay.proofs.cursor.Cursor.read_packet.Goals as goal

pub returns-in-Whole : goal.returns-in-Whole
returns-in-Whole c =
    let k = c.args.self in
    let text = c.args.text.now in
    let found = c.in-Whole.packet in
    let both = subst (λ (rest : List ℕ). ReadsPacketWithin k.page_size k.room rest (packet.Whole found c.in-Whole.len))
    (tail_from text k.at) c.in-Whole.ensures in
    let read = both.0 in
    finds_packet k text c.in-Whole.len c.sync.result c.next_room.result c.requires.behind c.requires.within read.1
    (subst (λ (x : ℕ × List ℕ). IsPacketText x.0 x.1) (λ i. (read.0 i, read.2 i)) found.is_packet)
    (subst (λ (bytes : List ℕ). is_over k.room (weight bytes) ≡ false) read.2 both.1)
    (c.sync.ensures ∙ ap is_sync read.2) (c.next_room.ensures ∙ ap (next_room k.waiting k.room) read.2)

pub returns-in-Bad : goal.returns-in-Bad
returns-in-Bad c =
    let k = c.args.self in
    let text = c.args.text.now in
    let read = subst (λ (rest : List ℕ). ReadsPacketWithin k.page_size k.room rest (packet.Bad c.in-Bad.fault)) (tail_from text k.at) c.in-Bad.ensures in
    subst (λ (m : Message). Finds k text m k) (sym c.stop.ensures) (finds_bad_packet k text c.in-Bad.fault c.requires.behind c.requires.within read)

pub returns-in-Cut : goal.returns-in-Cut
returns-in-Cut c =
    let k = c.args.self in
    let text = c.args.text.now in
    let read = subst (λ (rest : List ℕ). ReadsPacketWithin k.page_size k.room rest packet.Cut) (tail_from text k.at) c.in-Cut.ensures in
    subst (λ (m : Message). Finds k text m k) (sym c.stop-in-Cut.ensures) (finds_cut_packet k text c.requires.behind read (omega arith))

pub returns-in-Cut-2 : goal.returns-in-Cut-2
returns-in-Cut-2 c =
    let k = c.args.self in
    let text = c.args.text.now in
    let read = subst (λ (rest : List ℕ). ReadsPacketWithin k.page_size k.room rest packet.Cut) (tail_from text k.at) c.in-Cut.ensures in
    subst (λ (m : Message). Finds k text m k) (sym c.stop-in-Cut-2.ensures) (finds_unsynced k text c.requires.behind read (omega arith) c.if-self.true)

pub returns-in-Cut-3 : goal.returns-in-Cut-3
returns-in-Cut-3 c =
    let k = c.args.self in
    let text = c.args.text.now in
    let read = subst (λ (rest : List ℕ). ReadsPacketWithin k.page_size k.room rest packet.Cut) (tail_from text k.at) c.in-Cut.ensures in
    finds_clean k text c.requires.behind read (omega arith) c.if-self.false
