-- What was written is a hello, or a packet, of what it was written for.
use Rattle.std.proofs.Common.{◌≡◌, ℕ, ◌+◌, ◌*◌, ◌<◌, ◌≤◌, ◌^◌, ◌==◌, Bool, List, [], ◌∷◌, ◌++◌, length, get_or}
use Rattle.std.proofs.Common.{map, replicate, refl, sym, ap, ◌∙◌, append_assoc, arith, inl, inr}
use Rattle.std.specs.Prelude.{slice_range}
use Rattle.std.specs.List.{before_first, range_with_len}
use Rattle.std.proofs.lemmas.List.{length-append, get_or_append_left, same_lists, take_at, get_or_at, get_or-append-add, get_or_default}
use Rattle.std.proofs.lemmas.List.FromFn.{fill_by_all, length-map-range_with_len, get_or-map-range_with_len}
use Rattle.std.proofs.lemmas.Nat.{mul-le}
use Rattle.mig_packet.specs.Fields.{be32_at, be64_at, be32}
use Rattle.mig_packet.specs.PageSize.{IsPageSize, page_limit, head_len}
use Rattle.mig_packet.specs.Hello.{IsHello, written_hello}
use Rattle.mig_packet.specs.Packet.{normal_count, zero_count, number_in, is_sync, id_in, offset_at, content_at, NormalPage, Fields, IsPacket}
use Rattle.mig_packet.specs.Written.{written_counts, written_id, written_offsets, written_packet, normal_pages, written_fields, IsWritable}
use Rattle.mig_packet.proofs.Places.{range-past, be64_at-past}
use Rattle.mig_packet.proofs.Parts.{length-counts, magic_back, version_back, flags_back, normals_back, size_back, number_back, zeros_back}
use Rattle.mig_packet.proofs.Parts.{sync_back, flags_small, length-written_id, id_back, length-written_offsets, offset_written}

-- ---- a hello

-- a hello that is written is one for its id and UUID
pub hello_back : (uuid : List ℕ) (id : ℕ) → length uuid ≡ 16 → IsHello uuid id (written_hello uuid id)
unfolding be32 be32_at
hello_back uuid id len =
    let first : List ℕ = 0x11 ∷ 0x22 ∷ 0x33 ∷ 0x44 ∷ 0 ∷ 0 ∷ 0 ∷ 1 ∷ [] in
    let more : List ℕ = id ∷ replicate 39 0 in
    record {
      has_length = omega (arith, len, length-append first (uuid ++ more), length-append uuid more);
      has_magic = refl;
      has_version = refl;
      has_uuid = range-past first (uuid ++ more) 8 0 16 refl ∙ take_at uuid more 16 len;
      has_id = ap (λ (x : List ℕ). get_or x 24 0) (sym (append_assoc first uuid more))
          ∙ get_or_at (first ++ uuid) id (replicate 39 0) 0 24 (omega (arith, length-append first uuid, len));
    }

-- ---- a packet

limits : (size : ℕ) → IsPageSize size → (page_limit size ≤ 128) × (size ≤ 8192)
limits size (inl is) = let limit : page_limit size ≡ 128 = ap page_limit is in (omega (arith, limit), omega (arith, is))
limits size (inr is) = let limit : page_limit size ≡ 64 = ap page_limit is in (omega (arith, limit), omega (arith, is))

fields_same : (m n : ℕ) (s t : Bool) (i j : List ℕ) (a b : List NormalPage) (y z : List ℕ) → m ≡ n → s ≡ t → i ≡ j → a ≡ b → y ≡ z
    → ◌≡◌ {A = Fields} (record { number = m; sync = s; id = i; normal = a; zero = y }) (record { number = n; sync = t; id = j; normal = b; zero = z })
fields_same m n s t i j a b y z number sync id normal zero = cc

-- pages of equal offsets and contents are equal
pub page_same : (m n : ℕ) (x y : List ℕ) → m ≡ n → x ≡ y → ◌≡◌ {A = NormalPage} (record { offset = m; content = x }) (record { offset = n; content = y })
page_same m n x y offset content = cc

-- the normal pages that are read are those that were written
pages_are : (size count : ℕ) (normal contents : List ℕ) (offset : ℕ → ℕ) (content : ℕ → List ℕ) → count ≡ length normal
    → ((i : ℕ) → i < length normal → offset i ≡ get_or normal i 0)
    → ((i : ℕ) → content i ≡ slice_range contents (i * size) (i * size + size))
    → normal_pages size normal contents ≡ map (λ i. record { offset = offset i; content = content i }) (range_with_len 0 count)
pages_are size count normal contents offset content all here there =
    let written : ℕ → NormalPage = λ i. record { offset = get_or normal i 0; content = slice_range contents (i * size) (i * size + size) } in
    let read : ℕ → NormalPage = λ i. record { offset = offset i; content = content i } in
    let none : NormalPage = record { offset = 0; content = [] } in
    fill_by_all read (normal_pages size normal contents) (length normal) none (length-map-range_with_len written 0 (length normal))
    (λ k lt. get_or-map-range_with_len written 0 (length normal) k k none lt (omega arith)
    ∙ page_same (get_or normal k 0) (offset k) (slice_range contents (k * size) (k * size + size)) (content k) (sym (here k lt)) (sym (there k)))
    ∙ ap (λ (n : ℕ). map read (range_with_len 0 n)) (sym all)

-- what is read after the first is the second
tail_is : (from count : ℕ) (xs ys : List ℕ) (f : ℕ → ℕ) → from ≡ length xs → count ≡ length ys
    → ((i : ℕ) → i < length xs + length ys → f i ≡ get_or (xs ++ ys) i 0)
    → map f (range_with_len from count) ≡ ys
tail_is from count xs ys f from_is count_is all =
    let len : length (map f (range_with_len from count)) ≡ length ys = length-map-range_with_len f from count ∙ count_is in
    same_lists (map f (range_with_len from count)) ys len (λ k d lt.
    let in_ys : k < length ys = omega (arith, lt, len) in
    get_or-map-range_with_len f from count k (length xs + k) d (omega (arith, in_ys, count_is)) (omega (arith, from_is))
    ∙ all (length xs + k) (omega (arith, in_ys)) ∙ get_or-append-add xs ys k 0 ∙ get_or_default ys k 0 d in_ys)

-- The packet that was written is the packet of its fields.
pub packet_back : (size number : ℕ) (sync : Bool) (id normal contents zeros : List ℕ) → IsWritable size number id normal contents zeros
    → IsPacket size (written_packet size number sync id normal contents zeros) (written_fields size number sync id normal contents zeros)
packet_back size number sync id normal contents zeros w =
    let n = length normal in
    let z = length zeros in
    let C = written_counts size number sync n z in
    let I = written_id id in
    let O = written_offsets size (normal ++ zeros) in
    let head : List ℕ = C ++ (I ++ O) in
    let bytes : List ℕ = head ++ contents in
    let rest : List ℕ = I ++ (O ++ contents) in
    let whole : bytes ≡ C ++ rest = append_assoc C (I ++ O) contents ∙ ap (λ (x : List ℕ). C ++ x) (append_assoc I O contents) in
    let bounds = limits size w.has_page_size in
    let both : length (normal ++ zeros) ≡ n + z = length-append normal zeros in
    let few : n + z ≤ page_limit size = w.has_few in
    let product : n * size < 2 ^ 32 = omega (arith, bounds.0, bounds.1, few, mul-le n size 128 8192 (omega (arith, bounds.0, few)) bounds.1) in
    let lenC : length C ≡ 64 = length-counts size number n z sync in
    let lenI : length I ≡ 256 = length-written_id id w.has_short_id in
    let lenO : length O ≡ 8 * page_limit size = length-written_offsets size (normal ++ zeros) (omega (arith, both, few)) in
    let lenH : length head ≡ head_len size = omega (arith, lenC, lenI, lenO, length-append C (I ++ O), length-append I O) in
    let normals : normal_count bytes ≡ n = ap normal_count whole ∙ normals_back size number n z sync rest (omega (arith, bounds.0, few)) in
    let zeroes : zero_count bytes ≡ z = ap zero_count whole ∙ zeros_back size number n z sync rest (omega (arith, bounds.0, few)) in
    let flags = ap (be32_at 8) whole ∙ flags_back size number n z sync rest in
    let offset : (i : ℕ) → i < n + z → offset_at bytes i ≡ get_or (normal ++ zeros) i 0 = λ i lt.
    ap (λ (x : List ℕ). offset_at x i) whole ∙ ap (λ (k : ℕ). be64_at k (C ++ rest)) (let e : 320 + 8 * i ≡ 64 + (256 + 8 * i) = omega arith in e)
    ∙ be64_at-past C rest 64 (256 + 8 * i) lenC ∙ be64_at-past I (O ++ contents) 256 (8 * i) lenI
    ∙ offset_written size (normal ++ zeros) i contents w.has_offsets (omega (arith, both, lt)) in
    let content : (i : ℕ) → content_at size bytes i ≡ slice_range contents (i * size) (i * size + size) = λ i.
    ap (λ (k : ℕ). slice_range bytes (head_len size + i * size) k)
    (let e : head_len size + i * size + size ≡ head_len size + (i * size + size) = omega arith in e)
    ∙ range-past head contents (head_len size) (i * size) (i * size + size) lenH in (
      record {
        has_magic = ap (be32_at 0) whole ∙ magic_back size number n z sync rest;
        has_version = ap (be32_at 4) whole ∙ version_back size number n z sync rest;
        has_flags = omega (arith, flags, flags_small sync);
        has_few = omega (arith, normals, zeroes, few);
        has_size = λ _. ap (be32_at 20) whole ∙ size_back size number n z sync rest product ∙ ap (λ (k : ℕ). k * size) (sym normals);
        has_length = length-append head contents ∙ ap (λ (k : ℕ). k + length contents) lenH
            ∙ ap (λ (k : ℕ). head_len size + k) (w.has_contents ∙ ap (λ (k : ℕ). k * size) (sym normals));
      },
      fields_same number (number_in bytes) sync (is_sync bytes) id (id_in bytes)
          (normal_pages size normal contents)
          (map (λ i. record { offset = offset_at bytes i; content = content_at size bytes i }) (range_with_len 0 (normal_count bytes)))
          zeros (map (offset_at bytes) (range_with_len (normal_count bytes) (zero_count bytes)))
          (sym (ap number_in whole ∙ number_back size number n z sync rest w.has_number))
          (sym (ap (λ (k : ℕ). k == 1) flags ∙ sync_back sync))
          (sym (ap id_in whole ∙ ap (before_first (λ byte. byte == 0)) (range-past C rest 64 0 255 lenC)
          ∙ id_back id (O ++ contents) w.has_short_id w.has_whole_id))
          (pages_are size (normal_count bytes) normal contents (offset_at bytes) (content_at size bytes) normals
          (λ i lt. offset i (omega (arith, lt)) ∙ get_or_append_left normal zeros 0 i lt) content)
          (sym (tail_is (normal_count bytes) (zero_count bytes) normal zeros (offset_at bytes) normals zeroes offset)),
    )
