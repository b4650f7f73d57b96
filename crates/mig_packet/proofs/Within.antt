-- The packet at the beginning of bytes, where its round has some room.
use Rattle.std.proofs.Common.{◌≡◌, ℕ, ◌≤◌, false, leb, List, ◌++◌, length, take, drop, Option, Some, None, sym, ap, subst, ◌∙◌, arith}
use Rattle.std.proofs.lemmas.List.{take-append-drop}
use Rattle.mig_packet.specs.declared.front.PacketRead.{PacketRead}
use Rattle.mig_packet.specs.declared.front.PacketRead.TheVariants as packet
use Rattle.mig_packet.specs.Faults.{first_of}
use Rattle.mig_packet.specs.PageSize.{head_len}
use Rattle.mig_packet.specs.Packet.{IsPacketText}
use Rattle.mig_packet.specs.Waiting.{weight, is_over, packet_faults_within}
use Rattle.mig_packet.specs.FrontRead.{ReadsPacket, ReadsPacketWithin}
use Rattle.mig_packet.proofs.Judging.{cond_none, due_free}
use Rattle.mig_packet.proofs.Waiting.{faultless_within, weight-front}

-- a packet counts as its head does, whatever follows it
weight_of_front : (page_size len : ℕ) (bytes front : List ℕ) → IsPacketText page_size front → front ≡ take len bytes → weight bytes ≡ weight front
weight_of_front page_size len bytes front is e =
    let long = is.has_length in
    let whole : bytes ≡ front ++ drop len bytes = sym (take-append-drop len bytes) ∙ ap (λ (x : List ℕ). x ++ drop len bytes) (sym e) in
    ap weight whole ∙ weight-front page_size front (drop len bytes) (omega (arith, long))

-- where the head has no fault within the room, what is read has room
pub read_within : (page_size : ℕ) (room : Option ℕ) (bytes : List ℕ) (r : PacketRead) → ReadsPacket page_size bytes r → head_len page_size ≤ length bytes
    → first_of (packet_faults_within page_size room bytes) ≡ None → ReadsPacketWithin page_size room bytes r
read_within page_size room bytes (packet.Whole found len) reads le free =
    let own : IsPacketText page_size found.bytes.now = subst (λ (size : ℕ). IsPacketText size found.bytes.now) reads.0 found.is_packet in
    let same : weight bytes ≡ weight found.bytes.now = weight_of_front page_size len bytes found.bytes.now own reads.2 in
    (reads, subst (λ (n : ℕ). is_over room n ≡ false) same (faultless_within page_size room bytes free).1)
read_within page_size room bytes packet.Cut reads le free =
    (cond_none (leb (head_len page_size) (length bytes)) (first_of (packet_faults_within page_size room bytes)) free, reads.1)
read_within page_size room bytes (packet.Bad f) reads le free =
    absurd (let clash : None ≡ Some f = sym (due_free page_size bytes (faultless_within page_size room bytes free).0) ∙ reads in cc)
