-- The hello or the packet at the beginning of bytes is found, and is the only one there.
use Rattle.std.proofs.Common.{◌≡◌, ℕ, ◌+◌, ◌*◌, ◌<◌, ◌≤◌, leb, List, [], ◌++◌, length, get_or, take, drop, Some, None, refl, sym, ap, subst, ◌∙◌, arith}
use Rattle.std.proofs.lemmas.List.{append-nil, length-take-le, take-append-drop, get_or_append_left, take_at, drop_at}
use Rattle.mig_packet.specs.declared.front.PacketRead.{PacketRead}
use Rattle.mig_packet.specs.declared.front.PacketRead.TheVariants as packet
use Rattle.mig_packet.specs.Faults.{first_of}
use Rattle.mig_packet.specs.PageSize.{head_len}
use Rattle.mig_packet.specs.Hello.{IsHello, hello_len, hello_faults}
use Rattle.mig_packet.specs.Packet.{normal_count, Fields, fields_of, IsPacketText, IsPacket, packet_faults}
use Rattle.mig_packet.specs.FrontRead.{ReadsPacket, FindsPacket}
use Rattle.mig_packet.proofs.Judging.{cond_none, free_hello, hello_free, hello_faults-front, text_free, packet_faults-front, normal_count-front}

-- ---- a hello

-- bytes without faults begin with a hello
pub hello_at_front : (uuid : List ℕ) (channels : ℕ) (bytes : List ℕ) → hello_len ≤ length bytes → first_of (hello_faults uuid channels bytes) ≡ None
    → (get_or bytes 24 0 < channels) × IsHello uuid (get_or bytes 24 0) (take hello_len bytes)
hello_at_front uuid channels bytes le free =
    let front = take hello_len bytes in
    let len : length front ≡ hello_len = length-take-le hello_len bytes le in
    let whole : front ++ drop hello_len bytes ≡ bytes = take-append-drop hello_len bytes in
    let same : hello_faults uuid channels bytes ≡ hello_faults uuid channels front =
    ap (hello_faults uuid channels) (sym whole) ∙ hello_faults-front uuid channels front (drop hello_len bytes) (omega (arith, len)) in
    let told : get_or bytes 24 0 ≡ get_or front 24 0 =
    ap (λ (x : List ℕ). get_or x 24 0) (sym whole) ∙ get_or_append_left front (drop hello_len bytes) 0 24 (omega (arith, len)) in
    let is = free_hello uuid channels front len (ap first_of (sym same) ∙ free) in
    subst (λ (id : ℕ). (id < channels) × IsHello uuid id front) (sym told) is

-- bytes that begin with a hello of the channels have no fault
pub begins_with_hello : (uuid : List ℕ) (channels id : ℕ) (bytes front more : List ℕ) → bytes ≡ front ++ more → IsHello uuid id front → id < channels
    → first_of (hello_faults uuid channels bytes) ≡ None
begins_with_hello uuid channels id bytes front more e is lt =
    let len : length front ≡ hello_len = is.has_length in
    ap (λ (x : List ℕ). first_of (hello_faults uuid channels x)) e ∙ ap first_of (hello_faults-front uuid channels front more (omega (arith, len)))
    ∙ hello_free uuid channels id front is lt

-- ---- a packet

-- of two packets at one place one is the other
pub one_packet : (page_size : ℕ) (a b x y : List ℕ) → IsPacketText page_size a → IsPacketText page_size b → a ++ x ≡ b ++ y → (a ≡ b) × (x ≡ y)
one_packet page_size a b x y s t e =
    let la = s.has_length in
    let lb = t.has_length in
    let same : normal_count a ≡ normal_count b =
    sym (normal_count-front page_size a x (omega (arith, la))) ∙ ap normal_count e ∙ normal_count-front page_size b y (omega (arith, lb)) in
    let len : length a ≡ length b = la ∙ ap (λ (n : ℕ). head_len page_size + n * page_size) same ∙ sym lb in
    let whole : a ≡ b = sym (take_at a x (length a) refl) ∙ ap (take (length a)) e ∙ take_at b y (length a) (sym len) in
    (whole, sym (drop_at a x (length a) refl) ∙ ap (drop (length a)) e ∙ drop_at b y (length a) (sym len))

-- no packet is a proper prefix of another
pub no_longer : (page_size : ℕ) (a b : List ℕ) → IsPacketText page_size a → IsPacketText page_size (a ++ b) → b ≡ []
no_longer page_size a b s t = sym (one_packet page_size (a ++ b) a [] b t s (append-nil (a ++ b))).1

-- if a front is a packet, that packet is read
pub found : (page_size : ℕ) (bytes front more : List ℕ) (said : Fields) (r : PacketRead) → ReadsPacket page_size bytes r → bytes ≡ front ++ more
    → IsPacket page_size front said → FindsPacket front said r
found page_size bytes front more said (packet.Whole k n) reads e is =
    let own : IsPacketText page_size k.bytes.now = subst (λ (size : ℕ). IsPacketText size k.bytes.now) reads.0 k.is_packet in
    let split : k.bytes.now ++ drop n bytes ≡ front ++ more = ap (λ (x : List ℕ). x ++ drop n bytes) reads.2 ∙ take-append-drop n bytes ∙ e in
    let same = one_packet page_size k.bytes.now front (drop n bytes) more own is.0 split in (
      same.0,
      sym (length-take-le n bytes reads.1) ∙ ap length (sym reads.2 ∙ same.0),
      ap (λ (size : ℕ). fields_of size k.bytes.now) reads.0 ∙ ap (fields_of page_size) same.0 ∙ sym is.1,
    )
found page_size bytes front more said packet.Cut reads e is = reads.1 front more e is.0
found page_size bytes front more said (packet.Bad f) reads e is =
    let text : IsPacketText page_size front = is.0 in
    let len = text.has_length in
    let free : first_of (packet_faults page_size bytes) ≡ None = ap (λ (x : List ℕ). first_of (packet_faults page_size x)) e
    ∙ ap first_of (packet_faults-front page_size front more (omega (arith, len))) ∙ text_free page_size front text in
    absurd (let clash : None ≡ Some f = sym (cond_none (leb (head_len page_size) (length bytes)) (first_of (packet_faults page_size bytes)) free) ∙ reads in cc)
