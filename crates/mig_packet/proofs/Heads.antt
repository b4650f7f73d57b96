-- What a packet says by its head: its number, its id and its offsets. Its pages' contents follow.
use Rattle.std.proofs.Common.{ℕ, zero, suc, ◌≡◌, ◌<◌, ◌≤◌, ◌+◌, ◌*◌, Bool, List, [], ◌∷◌, ◌++◌, length, map, take, drop, get_or, refl, sym, ap, ◌∙◌, arith}
use Rattle.std.proofs.Common.{None}
use Rattle.std.specs.Prelude.{◌==◌, replicate}
use Rattle.std.specs.List.{range_with_len, before_first}
use Rattle.std.specs.Int.{from_be_bytes, w64}
use Rattle.std.proofs.lemmas.List.{length-append, length-replicate, length-take, take-append-drop}
use Rattle.std.proofs.lemmas.List.FromFn.{length-map-range_with_len, get_or-map-range_with_len}
use Rattle.mig_packet.specs.Fields.{be32_at, be64_at}
use Rattle.mig_packet.specs.PageSize.{page_limit, head_len}
use Rattle.mig_packet.specs.Faults.{first_of}
use Rattle.mig_packet.specs.Packet.{fields_of, number_in, is_sync, id_in, normal_count, zero_count, offset_at, packet_faults, IsPacketText}
use Rattle.mig_packet.specs.PacketHead.{IsPacketHead, offsets_in, as_zeros}
use Rattle.mig_packet.proofs.Places.{range-front, be32_at-front}
use Rattle.mig_packet.proofs.Judging.{packet_faults-front, normal_count-front, free_text, text_free}

-- a head lists an offset for each of its pages
pub count : (head : List ℕ) → normal_count head + zero_count head ≡ length (offsets_in head)
count head = sym (length-map-range_with_len (offset_at head) 0 (normal_count head + zero_count head))

-- an offset of the list is the number at its place in the head
pub offset_is : (head : List ℕ) (i : ℕ) → i < length (offsets_in head) → offset_at head i ≡ get_or (offsets_in head) i 0
offset_is head i lt =
    let within : i < normal_count head + zero_count head = (let e = count head in omega arith) in
    sym (get_or-map-range_with_len (offset_at head) 0 (normal_count head + zero_count head) i i 0 within (omega arith))

-- a head without a fault has no more pages than a packet may have
pub few : (p : ℕ) (head : List ℕ) → IsPacketHead p head → length (offsets_in head) ≤ page_limit p
few p head is =
    let pad : List ℕ = replicate (normal_count head * p) 0 in
    let le : head_len p ≤ length head = omega (arith, is.has_length) in
    let n : normal_count (head ++ pad) ≡ normal_count head = normal_count-front p head pad le in
    let z : be32_at 32 (head ++ pad) ≡ be32_at 32 head = be32_at-front 32 head pad (omega (arith, le)) in
    let free : first_of (packet_faults p (head ++ pad)) ≡ None = ap first_of (packet_faults-front p head pad le) ∙ is.has_no_fault in
    let len : length (head ++ pad) ≡ head_len p + normal_count (head ++ pad) * p =
    length-append head pad ∙ ap (λ (k : ℕ). k + length pad) is.has_length
    ∙ ap (λ (k : ℕ). head_len p + k) (length-replicate (normal_count head * p) 0) ∙ ap (λ (k : ℕ). head_len p + k * p) (sym n) in
    let text = free_text p (head ++ pad) free len in
    omega (arith, text.has_few, n, z, count head)

-- ---- more bytes behind a head say nothing else

-- a number of eight bytes stays if more bytes follow
pub be64_at-front : (at : ℕ) (a b : List ℕ) → at + 8 ≤ length a → be64_at at (a ++ b) ≡ be64_at at a
unfolding be64_at
be64_at-front at a b le = ap (λ (l : List ℕ). from_be_bytes w64 l) (range-front a b at (at + 8) (omega arith) le)

-- functions that agree below the end of a range map it to one list
pub same_map : {Y : Type 0} (f g : ℕ → Y) (a n : ℕ) → ((i : ℕ) → i < a + n → f i ≡ g i) → map f (range_with_len a n) ≡ map g (range_with_len a n)
same_map f g a zero same = refl
same_map {Y} f g a (suc n) same =
    ap (λ (y : Y). y ∷ map f (range_with_len (a + 1) n)) (same a (omega arith))
    ∙ ap (λ (ys : List Y). g a ∷ ys) (same_map f g (a + 1) n (λ i below. same i (omega (arith, below))))

-- its offsets
pub offsets_front : (p : ℕ) (head more : List ℕ) → IsPacketHead p head → offsets_in (head ++ more) ≡ offsets_in head
offsets_front p head more is =
    let most = few p head is in
    let n = be32_at-front 16 head more (omega (arith, is.has_length)) in
    let z = be32_at-front 32 head more (omega (arith, is.has_length)) in
    ap (λ (k : ℕ). map (offset_at (head ++ more)) (range_with_len 0 (k + zero_count (head ++ more)))) n
    ∙ ap (λ (k : ℕ). map (offset_at (head ++ more)) (range_with_len 0 (normal_count head + k))) z
    ∙ same_map (offset_at (head ++ more)) (offset_at head) 0 (normal_count head + zero_count head)
    (λ i below. be64_at-front (320 + 8 * i) head more (let c = count head in omega (arith, is.has_length, most, c, below)))

-- a packet as if all its pages were zeros is that of its head
pub zeros_front : (p : ℕ) (head more : List ℕ) → IsPacketHead p head → as_zeros (head ++ more) ≡ as_zeros head
zeros_front p head more is =
    let number : number_in (head ++ more) ≡ number_in head = be64_at-front 24 head more (omega (arith, is.has_length)) in
    let sync : is_sync (head ++ more) ≡ is_sync head = ap (λ (n : ℕ). n == 1) (be32_at-front 8 head more (omega (arith, is.has_length))) in
    let id : id_in (head ++ more) ≡ id_in head =
    ap (λ (l : List ℕ). before_first (λ byte. byte == 0) l) (range-front head more 64 319 (omega arith) (omega (arith, is.has_length))) in
    ap (λ (n : ℕ). record { number = n; sync = is_sync (head ++ more); id = id_in (head ++ more); normal = []; zero = offsets_in (head ++ more) }) number
    ∙ ap (λ (b : Bool). record { number = number_in head; sync = b; id = id_in (head ++ more); normal = []; zero = offsets_in (head ++ more) }) sync
    ∙ ap (λ (l : List ℕ). record { number = number_in head; sync = is_sync head; id = l; normal = []; zero = offsets_in (head ++ more) }) id
    ∙ ap (λ (os : List ℕ). record { number = number_in head; sync = is_sync head; id = id_in head; normal = []; zero = os }) (offsets_front p head more is)

-- the offsets of its pages of zeros
pub zero_offsets_front : (p : ℕ) (head more : List ℕ) → IsPacketHead p head → (fields_of p (head ++ more)).zero ≡ (fields_of p head).zero
zero_offsets_front p head more is =
    let most = few p head is in
    let n = be32_at-front 16 head more (omega (arith, is.has_length)) in
    let z = be32_at-front 32 head more (omega (arith, is.has_length)) in
    ap (λ (k : ℕ). map (offset_at (head ++ more)) (range_with_len k (zero_count (head ++ more)))) n
    ∙ ap (λ (k : ℕ). map (offset_at (head ++ more)) (range_with_len (normal_count head) k)) z
    ∙ same_map (offset_at (head ++ more)) (offset_at head) (normal_count head) (zero_count head)
    (λ i below. be64_at-front (320 + 8 * i) head more (let c = count head in omega (arith, is.has_length, most, c, below)))

-- ---- the head of a packet

-- a packet is its head, and the contents of its pages
front_len : (p : ℕ) (bytes : List ℕ) → IsPacketText p bytes → length (take (head_len p) bytes) ≡ head_len p
front_len p bytes is = (let e = length-take (head_len p) bytes in omega (arith, e, is.has_length))

-- its first bytes are a head
pub head_front : (p : ℕ) (bytes : List ℕ) → IsPacketText p bytes → IsPacketHead p (take (head_len p) bytes)
head_front p bytes is =
    let n : ℕ = head_len p in
    record {
      has_length = front_len p bytes is;
      has_no_fault = ap first_of (sym (packet_faults-front p (take n bytes) (drop n bytes)
          (let e = front_len p bytes is in omega (arith, e))) ∙ ap (packet_faults p) (take-append-drop n bytes)) ∙ text_free p bytes is;
    }

-- which say of the packet all but the contents
pub head_zeros : (p : ℕ) (bytes : List ℕ) → IsPacketText p bytes → as_zeros (take (head_len p) bytes) ≡ as_zeros bytes
head_zeros p bytes is =
    sym (zeros_front p (take (head_len p) bytes) (drop (head_len p) bytes) (head_front p bytes is)) ∙ ap as_zeros (take-append-drop (head_len p) bytes)
