-- The fields of a packet that was written are read back, part by part.
use Rattle.std.proofs.Common.{◌≡◌, ◌≢◌, ℕ, zero, suc, ◌+◌, ◌-◌, ◌*◌, ◌<◌, ◌≤◌, ◌^◌, ◌==◌, Bool, true, false, List, []}
use Rattle.std.proofs.Common.{◌∷◌, ◌++◌, length, get_or, take, replicate, refl, sym, ap, ◌∙◌, append_assoc, arith}
use Rattle.std.specs.Prelude.{slice_range}
use Rattle.std.specs.List.{All, flat_map, before_first, position_or_len}
use Rattle.std.proofs.lemmas.List.{length-append, length-replicate, take-replicate, get_or_append_left, take_at, get_or_at}
use Rattle.std.proofs.lemmas.List.Sums.{position_or_len_is}
use Rattle.std.proofs.lemmas.List.Elements.{All-head, All-tail}
use Rattle.std.proofs.lemmas.List.Concat.{flat_map-cons}
use Rattle.std.proofs.lemmas.Nat.{from_be_bytes-to_be_bytes_4, from_be_bytes-to_be_bytes_8}
use Rattle.std.proofs.Math.Seq.{take-append-add}
use Rattle.std.proofs.lemmas.Bool.{ne_eqb}
use Rattle.mig_packet.specs.Fields.{be32_at, be64_at, be32, be64}
use Rattle.mig_packet.specs.PageSize.{page_limit}
use Rattle.mig_packet.specs.Written.{flags_of, written_counts, written_id, written_offsets}
use Rattle.mig_packet.proofs.Places.{range-front, be64_at-past}

-- ---- the first 64 bytes

-- the counts of a packet's head have 64 bytes
pub length-counts : (size number normal_len zero_len : ℕ) (sync : Bool) → length (written_counts size number sync normal_len zero_len) ≡ 64
unfolding written_counts be32 be64
length-counts size number normal_len zero_len sync = refl

-- the written counts begin with the magic number
pub magic_back : (size number normal_len zero_len : ℕ) (sync : Bool) (rest : List ℕ)
    → be32_at 0 (written_counts size number sync normal_len zero_len ++ rest) ≡ 0x11223344
unfolding written_counts be32 be64 be32_at
magic_back size number normal_len zero_len sync rest = refl

-- the version that is read of the written counts is 1
pub version_back : (size number normal_len zero_len : ℕ) (sync : Bool) (rest : List ℕ)
    → be32_at 4 (written_counts size number sync normal_len zero_len ++ rest) ≡ 1
unfolding written_counts be32 be64 be32_at
version_back size number normal_len zero_len sync rest = refl

-- the flags that are read of the written counts are those of SYNC
pub flags_back : (size number normal_len zero_len : ℕ) (sync : Bool) (rest : List ℕ)
    → be32_at 8 (written_counts size number sync normal_len zero_len ++ rest) ≡ flags_of sync
unfolding written_counts be32 be64 be32_at
flags_back size number n z true rest = refl
flags_back size number n z false rest = refl

-- the number of pages with contents is read as it was written
pub normals_back : (size number normal_len zero_len : ℕ) (sync : Bool) (rest : List ℕ) → normal_len < 2 ^ 32
    → be32_at 16 (written_counts size number sync normal_len zero_len ++ rest) ≡ normal_len
unfolding written_counts be32 be64 be32_at
normals_back size number normal_len zero_len sync rest lt = from_be_bytes-to_be_bytes_4 normal_len lt

-- the size of the contents is read as it was written
pub size_back : (size number normal_len zero_len : ℕ) (sync : Bool) (rest : List ℕ) → normal_len * size < 2 ^ 32
    → be32_at 20 (written_counts size number sync normal_len zero_len ++ rest) ≡ normal_len * size
unfolding written_counts be32 be64 be32_at
size_back size number normal_len zero_len sync rest lt = from_be_bytes-to_be_bytes_4 (normal_len * size) lt

-- the packet's number is read as it was written
pub number_back : (size number normal_len zero_len : ℕ) (sync : Bool) (rest : List ℕ) → number < 2 ^ 64
    → be64_at 24 (written_counts size number sync normal_len zero_len ++ rest) ≡ number
unfolding written_counts be32 be64 be64_at
number_back size number normal_len zero_len sync rest lt = from_be_bytes-to_be_bytes_8 number lt

-- the number of pages of zeros is read as it was written
pub zeros_back : (size number normal_len zero_len : ℕ) (sync : Bool) (rest : List ℕ) → zero_len < 2 ^ 32
    → be32_at 32 (written_counts size number sync normal_len zero_len ++ rest) ≡ zero_len
unfolding written_counts be32 be64 be32_at
zeros_back size number normal_len zero_len sync rest lt = from_be_bytes-to_be_bytes_4 zero_len lt

-- SYNC is read of the flags as it was written
pub sync_back : (sync : Bool) → (flags_of sync == 1) ≡ sync
sync_back true = refl
sync_back false = refl

-- the flags are 0 or 1
pub flags_small : (sync : Bool) → flags_of sync ≤ 1
flags_small true = omega arith
flags_small false = omega arith

-- ---- the id

-- an id is written in 256 bytes
pub length-written_id : (id : List ℕ) → length id ≤ 255 → length (written_id id) ≡ 256
unfolding written_id
length-written_id id le = omega (arith, length-append id (replicate (256 - length id) 0), length-replicate {A = ℕ} (256 - length id) 0)

no_zero : (id zs : List ℕ) (i : ℕ) → i < length id → get_or id i 0 ≢ 0 → (get_or (id ++ zs) i 0 == 0) ≡ false
no_zero id zs i lt other = rw (get_or_append_left id zs 0 i lt) (ne_eqb (get_or id i 0) 0 other)

a_zero : (id : List ℕ) (k : ℕ) → 0 < k → (get_or (id ++ replicate k 0) (length id) 0 == 0) ≡ true
a_zero id zero lt = absurd (omega arith)
a_zero id (suc k) lt = ap (λ (n : ℕ). n == 0) (get_or_at id 0 (replicate k 0) 0 (length id) refl)

zero_ends : (id : List ℕ) (k : ℕ) → All (λ byte. byte ≢ 0) id → before_first (λ byte. byte == 0) (id ++ replicate k 0) ≡ id
zero_ends id k none =
    let xs : List ℕ = id ++ replicate k 0 in
    let len : length xs ≡ length id + k = omega (arith, length-append id (replicate k 0), length-replicate {A = ℕ} k 0) in
    let at : position_or_len (λ byte. byte == 0) xs ≡ length id =
    position_or_len_is (λ byte. byte == 0) xs (length id) 0 (omega (arith, len))
    (λ i lt. no_zero id (replicate k 0) i lt (none i 0 lt))
    (λ lt. a_zero id k (omega (arith, len, lt))) in
    ap (λ (n : ℕ). take n xs) at ∙ take_at id (replicate k 0) (length id) refl

-- an id without a byte 0 is read as it was written
pub id_back : (id rest : List ℕ) → length id ≤ 255 → All (λ byte. byte ≢ 0) id
    → before_first (λ byte. byte == 0) (slice_range (written_id id ++ rest) 0 255) ≡ id
unfolding written_id
id_back id rest le none =
    let zs : List ℕ = replicate (256 - length id) 0 in
    let k : ℕ = 255 - length id in
    let whole : length (id ++ zs) ≡ 256 = omega (arith, length-append id zs, length-replicate {A = ℕ} (256 - length id) 0) in
    let n : length id + k ≡ 255 = omega arith in
    let part : take 255 (id ++ zs) ≡ id ++ replicate k 0 =
    ap (λ (m : ℕ). take m (id ++ zs)) (sym n) ∙ take-append-add id zs k ∙ ap (λ (x : List ℕ). id ++ x) (take-replicate k (256 - length id) 0 (omega arith)) in
    ap (before_first (λ byte. byte == 0)) (range-front (id ++ zs) rest 0 255 (omega arith) (omega (arith, whole)) ∙ part) ∙ zero_ends id k none

-- ---- the offsets

length-be64 : (n : ℕ) → length (be64 n) ≡ 8
unfolding be64
length-be64 n = refl

be64_first : (n : ℕ) (rest : List ℕ) → n < 2 ^ 64 → be64_at 0 (be64 n ++ rest) ≡ n
unfolding be64 be64_at
be64_first n rest lt = from_be_bytes-to_be_bytes_8 n lt

length-offsets : (xs : List ℕ) → length (flat_map be64 xs) ≡ 8 * length xs
length-offsets [] = refl
length-offsets (x ∷ xs) = ap length (flat_map-cons be64 x xs) ∙ omega (arith, length-append (be64 x) (flat_map be64 xs), length-be64 x, length-offsets xs)

offset_in : (xs : List ℕ) (i : ℕ) (rest : List ℕ) → All (λ x. x < 2 ^ 64) xs → i < length xs → be64_at (8 * i) (flat_map be64 xs ++ rest) ≡ get_or xs i 0
offset_in [] i rest small lt = absurd (omega arith)
offset_in (x ∷ xs) zero rest small lt =
    ap (λ (y : List ℕ). be64_at 0 (y ++ rest)) (flat_map-cons be64 x xs) ∙ ap (be64_at 0) (append_assoc (be64 x) (flat_map be64 xs) rest)
    ∙ be64_first x (flat_map be64 xs ++ rest) (All-head (λ x. x < 2 ^ 64) x xs small)
offset_in (x ∷ xs) (suc i) rest small lt =
    let n : 8 * suc i ≡ 8 + 8 * i = omega arith in
    ap (λ (k : ℕ). be64_at k (flat_map be64 (x ∷ xs) ++ rest)) n
    ∙ ap (λ (y : List ℕ). be64_at (8 + 8 * i) (y ++ rest)) (flat_map-cons be64 x xs) ∙ ap (be64_at (8 + 8 * i)) (append_assoc (be64 x) (flat_map be64 xs) rest)
    ∙ be64_at-past (be64 x) (flat_map be64 xs ++ rest) 8 (8 * i) (length-be64 x)
    ∙ offset_in xs i rest (All-tail (λ x. x < 2 ^ 64) x xs small) (omega arith)

-- the offsets are written in 8 bytes for each page that a packet may have
pub length-written_offsets : (size : ℕ) (xs : List ℕ) → length xs ≤ page_limit size → length (written_offsets size xs) ≡ 8 * page_limit size
unfolding written_offsets
length-written_offsets size xs le =
    omega (
      arith,
      length-append (flat_map be64 xs) (replicate (8 * (page_limit size - length xs)) 0),
      length-offsets xs,
      length-replicate {A = ℕ} (8 * (page_limit size - length xs)) 0,
    )

-- an offset is read as it was written
pub offset_written : (size : ℕ) (xs : List ℕ) (i : ℕ) (rest : List ℕ) → All (λ x. x < 2 ^ 64) xs → i < length xs
    → be64_at (8 * i) (written_offsets size xs ++ rest) ≡ get_or xs i 0
unfolding written_offsets
offset_written size xs i rest small lt =
    ap (be64_at (8 * i)) (append_assoc (flat_map be64 xs) (replicate (8 * (page_limit size - length xs)) 0) rest)
    ∙ offset_in xs i (replicate (8 * (page_limit size - length xs)) 0 ++ rest) small lt
