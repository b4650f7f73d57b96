-- Free of faults is the layout, for a hello and for a packet; and a packet says its length.
use Rattle.std.proofs.Common.{◌≡◌, ◌≢◌, ℕ, ◌+◌, ◌*◌, ◌<◌, ◌≤◌, Bool, true, false, not, cond, eqb, ltb, leb, List, []}
use Rattle.std.proofs.Common.{◌∷◌, ◌++◌, length, get_or, take, drop, Option, None, refl, sym, ap, ◌∙◌, arith}
use Rattle.std.specs.Prelude.{◌&&◌, slice_range}
use Rattle.std.specs.Str.{bytes_eq}
use Rattle.std.proofs.lemmas.List.{take-append-drop, length-take-le, length-append, get_or_append_left}
use Rattle.std.proofs.lemmas.Bool.{eqb-true, ltb-false, leb-false, le-ltb, lt-leb, not-false}
use Rattle.std.proofs.lemmas.Bool.Decides.{Decides-eqb}
use Rattle.std.proofs.lemmas.Slice.Eq.{bytes_eq-Decides}
use Rattle.mig_packet.specs.declared.fault.ChannelFault.{ChannelFault}
use Rattle.mig_packet.specs.declared.fault.ChannelFault.TheVariants as fault
use Rattle.mig_packet.specs.Faults.{first_of}
use Rattle.mig_packet.specs.Fields.{be32_at}
use Rattle.mig_packet.specs.PageSize.{page_limit, head_len}
use Rattle.mig_packet.specs.Hello.{IsHello, hello_len, hello_faults}
use Rattle.mig_packet.specs.Packet.{normal_count, zero_count, flags_in, contents_len_in, IsPacketText, packet_faults, due_packet_fault}
use Rattle.mig_packet.proofs.Places.{range-front, be32_at-front}

-- ---- tests that were passed

passed : (b : Bool) (f : ChannelFault) (more : List (Bool × ChannelFault)) → first_of ((b, f) ∷ more) ≡ None → (b ≡ false) × (first_of more ≡ None)
passed true f more e = absurd cc
passed false f more e = (refl, e)

pass : (b : Bool) (f : ChannelFault) (more : List (Bool × ChannelFault)) → b ≡ false → first_of more ≡ None → first_of ((b, f) ∷ more) ≡ None
pass true f more e h = absurd cc
pass false f more e h = h

equal-not : (m n : ℕ) → m ≡ n → not (eqb m n) ≡ false
equal-not m n e = ap not ((Decides-eqb m n).1 e)

-- a fault that isn't there isn't there on any condition
pub cond_none : (b : Bool) (x : Option ChannelFault) → x ≡ None → cond b x None ≡ None
cond_none true x e = e
cond_none false x e = refl

-- ---- a hello

-- bytes without faults, as many as a hello has, are one
pub free_hello : (uuid : List ℕ) (channels : ℕ) (bytes : List ℕ) → length bytes ≡ hello_len → first_of (hello_faults uuid channels bytes) ≡ None
    → (get_or bytes 24 0 < channels) × IsHello uuid (get_or bytes 24 0) bytes
free_hello uuid channels bytes len free =
    let id_fault = (leb channels (get_or bytes 24 0), fault.HelloId) ∷ [] in
    let uuid_fault = (not (bytes_eq (slice_range bytes 8 24) uuid), fault.HelloUuid) ∷ id_fault in
    let version_fault = (not (eqb (be32_at 4 bytes) 1), fault.HelloVersion) ∷ uuid_fault in
    let t1 = passed (not (eqb (be32_at 0 bytes) 0x11223344)) fault.HelloMagic version_fault free in
    let t2 = passed (not (eqb (be32_at 4 bytes) 1)) fault.HelloVersion uuid_fault t1.1 in
    let t3 = passed (not (bytes_eq (slice_range bytes 8 24) uuid)) fault.HelloUuid id_fault t2.1 in
    let t4 = passed (leb channels (get_or bytes 24 0)) fault.HelloId [] t3.1 in (
      leb-false channels (get_or bytes 24 0) t4.0,
      record {
        has_length = len;
        has_magic = eqb-true _ _ (not-false _ t1.0);
        has_version = eqb-true _ _ (not-false _ t2.0);
        has_uuid = (bytes_eq-Decides (slice_range bytes 8 24) uuid).0 (not-false _ t3.0);
        has_id = refl;
      },
    )

-- a hello has none
pub hello_free : (uuid : List ℕ) (channels id : ℕ) (bytes : List ℕ) → IsHello uuid id bytes → id < channels → first_of (hello_faults uuid channels bytes) ≡ None
hello_free uuid channels id bytes h lt =
    let id_fault = (leb channels (get_or bytes 24 0), fault.HelloId) ∷ [] in
    let uuid_fault = (not (bytes_eq (slice_range bytes 8 24) uuid), fault.HelloUuid) ∷ id_fault in
    let version_fault = (not (eqb (be32_at 4 bytes) 1), fault.HelloVersion) ∷ uuid_fault in
    pass _ fault.HelloMagic version_fault (equal-not _ _ h.has_magic) (pass _ fault.HelloVersion uuid_fault (equal-not _ _ h.has_version)
    (pass _ fault.HelloUuid id_fault (ap not ((bytes_eq-Decides (slice_range bytes 8 24) uuid).1 h.has_uuid))
    (pass _ fault.HelloId [] (ap (leb channels) h.has_id ∙ lt-leb channels id lt) refl)))

-- what follows it changes nothing
pub hello_faults-front : (uuid : List ℕ) (channels : ℕ) (a b : List ℕ) → hello_len ≤ length a
    → hello_faults uuid channels (a ++ b) ≡ hello_faults uuid channels a
hello_faults-front uuid channels a b le =
    let e0 = be32_at-front 0 a b (omega arith) in
    let e4 = be32_at-front 4 a b (omega arith) in
    let u : slice_range (a ++ b) 8 24 ≡ slice_range a 8 24 = range-front a b 8 24 (omega arith) (omega arith) in
    let i : get_or (a ++ b) 24 0 ≡ get_or a 24 0 = get_or_append_left a b 0 24 (omega arith) in rw (e0, e4, u, i) refl

-- ---- a packet

size_test : (n m k : ℕ) → (not (eqb n 0) && not (eqb m k)) ≡ false → n ≢ 0 → m ≡ k
size_test n m k e some =
    elim (eqb n 0) as (λ b. (eqb n 0 ≡ b) → m ≡ k) [
      | true ↦ λ h. absurd (some (eqb-true n 0 h))
      | false ↦ λ h. eqb-true m k (not-false (eqb m k) (rw h at e))
    ] refl

size_free : (n m k : ℕ) → (n ≢ 0 → m ≡ k) → (not (eqb n 0) && not (eqb m k)) ≡ false
size_free n m k same =
    elim (eqb n 0) as (λ b. (eqb n 0 ≡ b) → (not b && not (eqb m k)) ≡ false) [
      | true ↦ λ h. refl
      | false ↦ λ h. equal-not m k (same (λ e. absurd (let t = (Decides-eqb n 0).1 e in cc)))
    ] refl

-- a head without faults, with its pages, is a packet
pub free_text : (page_size : ℕ) (bytes : List ℕ) → first_of (packet_faults page_size bytes) ≡ None
    → length bytes ≡ head_len page_size + normal_count bytes * page_size
    → IsPacketText page_size bytes
free_text page_size bytes free len =
    let size_fault = (not (eqb (normal_count bytes) 0) && not (eqb (contents_len_in bytes) (normal_count bytes * page_size)), fault.PacketSize) ∷ [] in
    let count_fault = (ltb (page_limit page_size) (normal_count bytes + zero_count bytes), fault.PageCount) ∷ size_fault in
    let flags_fault = (ltb 1 (flags_in bytes), fault.PacketFlags (flags_in bytes)) ∷ count_fault in
    let version_fault = (not (eqb (be32_at 4 bytes) 1), fault.PacketVersion) ∷ flags_fault in
    let t1 = passed (not (eqb (be32_at 0 bytes) 0x11223344)) fault.PacketMagic version_fault free in
    let t2 = passed (not (eqb (be32_at 4 bytes) 1)) fault.PacketVersion flags_fault t1.1 in
    let t3 = passed (ltb 1 (flags_in bytes)) (fault.PacketFlags (flags_in bytes)) count_fault t2.1 in
    let t4 = passed (ltb (page_limit page_size) (normal_count bytes + zero_count bytes)) fault.PageCount size_fault t3.1 in
    let t5 = passed (not (eqb (normal_count bytes) 0) && not (eqb (contents_len_in bytes) (normal_count bytes * page_size))) fault.PacketSize [] t4.1 in
    record {
      has_magic = eqb-true _ _ (not-false _ t1.0);
      has_version = eqb-true _ _ (not-false _ t2.0);
      has_flags = ltb-false _ _ t3.0;
      has_few = ltb-false _ _ t4.0;
      has_size = size_test (normal_count bytes) (contents_len_in bytes) (normal_count bytes * page_size) t5.0;
      has_length = len;
    }

-- a packet's head has no fault
pub text_free : (page_size : ℕ) (bytes : List ℕ) → IsPacketText page_size bytes → first_of (packet_faults page_size bytes) ≡ None
text_free page_size bytes t =
    let size_fault = (not (eqb (normal_count bytes) 0) && not (eqb (contents_len_in bytes) (normal_count bytes * page_size)), fault.PacketSize) ∷ [] in
    let count_fault = (ltb (page_limit page_size) (normal_count bytes + zero_count bytes), fault.PageCount) ∷ size_fault in
    let flags_fault = (ltb 1 (flags_in bytes), fault.PacketFlags (flags_in bytes)) ∷ count_fault in
    let version_fault = (not (eqb (be32_at 4 bytes) 1), fault.PacketVersion) ∷ flags_fault in
    pass _ fault.PacketMagic version_fault (equal-not _ _ t.has_magic) (pass _ fault.PacketVersion flags_fault (equal-not _ _ t.has_version)
    (pass _ (fault.PacketFlags (flags_in bytes)) count_fault (le-ltb 1 (flags_in bytes) t.has_flags)
    (pass _ fault.PageCount size_fault (le-ltb (page_limit page_size) (normal_count bytes + zero_count bytes) t.has_few)
    (pass _ fault.PacketSize [] (size_free (normal_count bytes) (contents_len_in bytes) (normal_count bytes * page_size) t.has_size) refl))))

-- ---- what follows a packet's head changes nothing

-- the faults of a packet's head stay if more bytes follow it
pub packet_faults-front : (page_size : ℕ) (a b : List ℕ) → head_len page_size ≤ length a → packet_faults page_size (a ++ b) ≡ packet_faults page_size a
packet_faults-front page_size a b le =
    let e0 = be32_at-front 0 a b (omega arith) in
    let e4 = be32_at-front 4 a b (omega arith) in
    let e8 = be32_at-front 8 a b (omega arith) in
    let e16 = be32_at-front 16 a b (omega arith) in
    let e20 = be32_at-front 20 a b (omega arith) in
    let e32 = be32_at-front 32 a b (omega arith) in rw (e0, e4, e8, e16, e20, e32) refl

-- the number of pages with contents stays if more bytes follow the head
pub normal_count-front : (page_size : ℕ) (a b : List ℕ) → head_len page_size ≤ length a → normal_count (a ++ b) ≡ normal_count a
normal_count-front page_size a b le = be32_at-front 16 a b (omega arith)

-- a packet without faults has none that is due
pub due_free : (page_size : ℕ) (bytes : List ℕ) → first_of (packet_faults page_size bytes) ≡ None → due_packet_fault page_size bytes ≡ None
due_free page_size bytes free = cond_none (leb (head_len page_size) (length bytes)) (first_of (packet_faults page_size bytes)) free

-- fewer bytes than the head says: no front is a packet
pub cut_short : (page_size : ℕ) (bytes : List ℕ) → length bytes < head_len page_size + normal_count bytes * page_size
    → (front more : List ℕ) → bytes ≡ front ++ more → IsPacketText page_size front → ⊥
cut_short page_size bytes lt front more e text =
    let len = text.has_length in
    let same : normal_count bytes ≡ normal_count front = ap normal_count e ∙ normal_count-front page_size front more (omega arith) in
    let n : head_len page_size + normal_count bytes * page_size ≡ length front = ap (λ (n : ℕ). head_len page_size + n * page_size) same ∙ sym len in
    omega (arith, n, ap length e, length-append front more)

-- the front as long as the head says is a packet
pub text_of_front : (page_size : ℕ) (bytes : List ℕ) → first_of (packet_faults page_size bytes) ≡ None
    → head_len page_size + normal_count bytes * page_size ≤ length bytes
    → IsPacketText page_size (take (head_len page_size + normal_count bytes * page_size) bytes)
text_of_front page_size bytes free le =
    let n = head_len page_size + normal_count bytes * page_size in
    let front = take n bytes in
    let len : length front ≡ n = length-take-le n bytes le in
    let whole : front ++ drop n bytes ≡ bytes = take-append-drop n bytes in
    let same : normal_count bytes ≡ normal_count front = ap normal_count (sym whole) ∙ normal_count-front page_size front (drop n bytes) (omega arith) in
    free_text page_size front (ap first_of (sym (packet_faults-front page_size front (drop n bytes) (omega arith)) ∙ ap (packet_faults page_size) whole) ∙ free)
    (len ∙ ap (λ (n : ℕ). head_len page_size + n * page_size) same)
