-- A channel's bytes in two parts, packet by packet and piece by piece.
use Rattle.std.proofs.Common.{ℕ, zero, suc, ◌≡◌, ◌+◌, ◌-◌, ◌^◌, ◌<◌, ◌≤◌, Bool, true, false, cond, List, [], ◌∷◌, ◌++◌, length, take, drop, refl, sym, ap, ◌∙◌}
use Rattle.std.proofs.Common.{append_assoc, inl, inr, arith, ◌⊎◌, subst}
use Rattle.std.specs.Prelude.{min, nat_lt, nat_le}
use Rattle.std.proofs.lemmas.Bool.{cases_lt, lt-ltb, le-ltb, le-leb, lt-leb}
use Rattle.std.proofs.lemmas.List.{append-nil, length-append, length-drop, length-take, take-append-drop, take_at}
use Rattle.std.proofs.lemmas.List.{drop_at, take-append-le, drop-append-le, take-take, drop-drop, drop-take, drop_all}
use Rattle.std.proofs.Math.Seq.{drop-append-add, drop-nil, take-nil}
use Rattle.zimgasol_page_packets.specs.Packets.{front_len, is_device, state_len, is_of_pages, rest_len}
use Rattle.zimgasol_page_packets.specs.Parted.{Parted, all_given, with_front, with_device, part_on, part_packets, part}
use Rattle.zimgasol_page_packets.specs.Passing.{Passing, part_next, with_counts, to_come, has_any, keeps_in, keeps, from_piece, waits, IsPart, next_after}
use Rattle.zimgasol_page_packets.specs.declared.page_packets.Next.{Next}
use Rattle.zimgasol_page_packets.specs.declared.page_packets.Next.TheVariants as coming

-- ---- packets

-- of the bytes after a packet, `part` is asked of no more than there are
part_on_same : (s : ℕ) (p q : List ℕ → Parted) (front more : List ℕ) → ((xs : List ℕ) → length xs ≤ length more → p xs ≡ q xs)
    → part_on s p front more ≡ part_on s q front more
part_on_same s p q front more same =
    let n : ℕ = state_len front in
    let r : ℕ = rest_len s front in
    ap (λ (x : Parted). cond (is_device front) (cond (nat_le n (length more)) (with_device (front_len + n) x) (all_given front))
    (cond (is_of_pages s front) (with_front (front ++ take r more) (p (drop r more))) (all_given (front ++ more))))
    (same (drop n more) (omega (arith, length-drop n more)))
    ∙ ap (λ (x : Parted). cond (is_device front) (cond (nat_le n (length more)) (with_device (front_len + n) (q (drop n more))) (all_given front))
    (cond (is_of_pages s front) (with_front (front ++ take r more) x) (all_given (front ++ more))))
    (same (drop r more) (omega (arith, length-drop r more)))

short_is : (s n : ℕ) (bytes : List ℕ) → length bytes < front_len → part_packets s (suc n) bytes ≡ all_given bytes
short_is s n bytes short = ap (λ (b : Bool). cond b (all_given bytes)
    (part_on s (λ more. part_packets s n more) (take front_len bytes) (drop front_len bytes))) (lt-ltb (length bytes) front_len short)

long_is : (s n : ℕ) (bytes : List ℕ) → front_len ≤ length bytes
    → part_packets s (suc n) bytes ≡ part_on s (λ more. part_packets s n more) (take front_len bytes) (drop front_len bytes)
long_is s n bytes long = ap (λ (b : Bool). cond b (all_given bytes)
    (part_on s (λ more. part_packets s n more) (take front_len bytes) (drop front_len bytes))) (le-ltb (length bytes) front_len long)

none_is : (s n : ℕ) → part_packets s n [] ≡ all_given []
none_is s zero = refl
none_is s (suc n) = short_is s n [] (omega arith)

-- more packets than there are bytes say nothing else
enough : (s n m : ℕ) (bytes : List ℕ) → length bytes ≤ n → length bytes ≤ m → part_packets s n bytes ≡ part_packets s m bytes
enough s zero m [] a b = sym (none_is s m)
enough s zero m (x ∷ xs) a b = absurd (omega (arith, a))
enough s (suc n) zero [] a b = none_is s (suc n)
enough s (suc n) zero (x ∷ xs) a b = absurd (omega (arith, b))
enough s (suc n) (suc m) bytes a b = elim (cases_lt (length bytes) front_len) [
  | inl short ↦ short_is s n bytes short ∙ sym (short_is s m bytes short)
  | inr long ↦ long_is s n bytes long
      ∙ part_on_same s (λ more. part_packets s n more) (λ more. part_packets s m more) (take front_len bytes) (drop front_len bytes)
      (λ xs le. enough s n m xs (omega (arith, le, long, a, length-drop front_len bytes)) (omega (arith, le, long, b, length-drop front_len bytes)))
      ∙ sym (long_is s m bytes long)
]

-- too few bytes for the front of a packet are passed on
pub part_short : (s : ℕ) (bytes : List ℕ) → length bytes < front_len → part s bytes ≡ all_given bytes
part_short s [] short = refl
part_short s (x ∷ xs) short = short_is s (length xs) (x ∷ xs) short

-- the bytes from the front of a packet on
pub part_front : (s : ℕ) (front more : List ℕ) → length front ≡ front_len → part s (front ++ more) ≡ part_on s (λ xs. part s xs) front more
part_front s front more full =
    let bytes : List ℕ = front ++ more in
    let len : length bytes ≡ front_len + length more = length-append front more ∙ ap (λ (k : ℕ). k + length more) full in
    let all : List ℕ → Parted = λ xs. part_packets s (length bytes) xs in
    enough s (length bytes) (suc (length bytes)) bytes (omega arith) (omega arith)
    ∙ long_is s (length bytes) bytes (omega (arith, len))
    ∙ ap (λ (f : List ℕ). part_on s all f (drop front_len bytes)) (take_at front more front_len full)
    ∙ ap (λ (m : List ℕ). part_on s all front m) (drop_at front more front_len full)
    ∙ part_on_same s all (λ xs. part s xs) front more (λ xs le. enough s (length bytes) (length xs) xs (omega (arith, le, len)) (omega arith))

cases_of : (s : ℕ) (front more : List ℕ) (d p : Bool)
    → cond d (cond (nat_le (state_len front) (length more)) (with_device (front_len + state_len front) (part s (drop (state_len front) more)))
    (all_given front))
    (cond p (with_front (front ++ take (rest_len s front) more) (part s (drop (rest_len s front) more))) (all_given (front ++ more)))
    ≡ part_next s (cond d (coming.State (state_len front)) (cond p (coming.Bytes (rest_len s front)) coming.Rest)) front more
cases_of s front more true p = refl
cases_of s front more false true = refl
cases_of s front more false false = refl

-- what follows the front of a packet
pub judged : (s : ℕ) (front more : List ℕ) → length front ≡ front_len → part s (front ++ more) ≡ part_next s (next_after s front) front more
judged s front more full = part_front s front more full ∙ cases_of s front more (is_device front) (is_of_pages s front)

-- ---- counts

sat : (a k c m : ℕ) → min (a + (k + c)) m ≡ min (min (a + k) m + c) m
sat a k c m = omega arith

-- a packet that is passed over is counted
pub counted : (a b n : ℕ) (p : Parted) → with_counts a b (with_device n p) ≡ with_counts (min (a + 1) (2 ^ 64 - 1)) (min (b + n) (2 ^ 64 - 1)) p
counted a b n p =
    let most : ℕ = 2 ^ 64 - 1 in
    let make : ℕ → ℕ → Parted = λ x y. record { given = p.given; packets = x; bytes = y } in
    ap (λ (x : ℕ). make x (min (b + (n + p.bytes)) most)) (sat a 1 p.packets most)
    ∙ ap (λ (y : ℕ). make (min (min (a + 1) most + p.packets) most) y) (sat b n p.bytes most)

-- ---- pieces

-- of a device's state the piece has a part
pub state_less : (s left : ℕ) (kept piece more : List ℕ) → length piece < left
    → part_next s (coming.State left) kept (piece ++ more) ≡ part_next s (coming.State (left - length piece)) kept more
state_less s left kept piece more less =
    let k : ℕ = left - length piece in
    let sum : left ≡ length piece + k = omega (arith, less) in
    let same : nat_le left (length (piece ++ more)) ≡ nat_le k (length more) = elim (cases_lt (length more) k) [
      | inl below ↦ lt-leb left (length (piece ++ more)) (omega (arith, below, sum, length-append piece more)) ∙ sym (lt-leb k (length more) below)
      | inr past ↦ le-leb left (length (piece ++ more)) (omega (arith, past, sum, length-append piece more)) ∙ sym (le-leb k (length more) past)
    ] in
    let make : Bool → List ℕ → Parted = λ b xs. cond b (with_device (front_len + state_len kept) (part s xs)) (all_given kept) in
    ap (λ (b : Bool). make b (drop left (piece ++ more))) same
    ∙ ap (λ (xs : List ℕ). make (nat_le k (length more)) xs) (ap (λ (n : ℕ). drop n (piece ++ more)) sum ∙ drop-append-add piece more k)

-- the piece has all of it
pub state_all : (s left : ℕ) (kept piece more : List ℕ) → left ≤ length piece
    → part_next s (coming.State left) kept (piece ++ more) ≡ with_device (front_len + state_len kept) (part s (drop left piece ++ more))
state_all s left kept piece more le =
    let make : Bool → List ℕ → Parted = λ b xs. cond b (with_device (front_len + state_len kept) (part s xs)) (all_given kept) in
    ap (λ (b : Bool). make b (drop left (piece ++ more))) (le-leb left (length (piece ++ more)) (omega (arith, le, length-append piece more)))
    ∙ ap (λ (xs : List ℕ). make true xs) (drop-append-le left piece more le)

-- bytes of the piece that are kept
pub kept_more : (kept piece more : List ℕ) (n : ℕ) → kept ++ (piece ++ more) ≡ (kept ++ take n piece) ++ (drop n piece ++ more)
kept_more kept piece more n =
    ap (λ (xs : List ℕ). kept ++ (xs ++ more)) (sym (take-append-drop n piece))
    ∙ ap (λ (xs : List ℕ). kept ++ xs) (append_assoc (take n piece) (drop n piece) more)
    ∙ sym (append_assoc kept (take n piece) (drop n piece ++ more))

-- ---- what waits

pub has_any-drop : (n : ℕ) (bytes : List ℕ) → nat_lt n (length bytes) ≡ has_any (drop n bytes)
has_any-drop n [] = le-ltb n 0 (omega arith) ∙ ap has_any (sym (drop-nil n))
has_any-drop zero (x ∷ xs) = lt-ltb 0 (suc (length xs)) (omega arith)
has_any-drop (suc n) (x ∷ xs) = elim (cases_lt n (length xs)) [
  | inl below ↦ lt-ltb (suc n) (suc (length xs)) (omega (arith, below)) ∙ sym (lt-ltb n (length xs) below) ∙ has_any-drop n xs
  | inr past ↦ le-ltb (suc n) (suc (length xs)) (omega (arith, past)) ∙ sym (le-ltb n (length xs) past) ∙ has_any-drop n xs
]

pub none_kept : (bytes : List ℕ) → has_any bytes ≡ false → bytes ≡ []
none_kept [] none = refl
none_kept (x ∷ xs) none = absurd (let no : true ≡ false = none in cc)

pub front_twice : (a b : List ℕ) (p : Parted) → with_front (a ++ b) p ≡ with_front a (with_front b p)
front_twice a b p = ap (λ (xs : List ℕ). record { given = xs; packets = p.packets; bytes = p.bytes }) (append_assoc a b p.given)

pub keeps_is : (next : Next) (given n : ℕ) (items : List ℕ) → n ≡ length items → ((left : ℕ) × (next ≡ coming.Bytes left)) ⊎ (next ≡ coming.Rest)
    → nat_lt given n ≡ keeps_in next (drop given items)
keeps_is (coming.Bytes left) given n items e is = ap (λ (k : ℕ). nat_lt given k) e ∙ has_any-drop given items
keeps_is coming.Rest given n items e is = ap (λ (k : ℕ). nat_lt given k) e ∙ has_any-drop given items
keeps_is coming.Front given n items e (inl (left, is)) = absurd cc
keeps_is coming.Front given n items e (inr is) = absurd cc
keeps_is (coming.State k) given n items e (inl (left, is)) = absurd cc
keeps_is (coming.State k) given n items e (inr is) = absurd cc

-- ---- what is taken

-- of bytes that are kept
pub kept_taken : (s len : ℕ) (next : Next) (kept xs : List ℕ) → keeps_in next kept ≡ true
    → part_next s next kept xs ≡ with_front (take len kept) (part_next s next (drop len kept) xs)
kept_taken s len (coming.Bytes left) kept xs keeps =
    let after : Parted = part s (drop left xs) in
    ap (λ (l : List ℕ). with_front (l ++ take left xs) after) (sym (take-append-drop len kept))
    ∙ ap (λ (l : List ℕ). with_front l after) (append_assoc (take len kept) (drop len kept) (take left xs))
    ∙ front_twice (take len kept) (drop len kept ++ take left xs) after
kept_taken s len coming.Rest kept xs keeps =
    ap (λ (l : List ℕ). all_given (l ++ xs)) (sym (take-append-drop len kept))
    ∙ ap all_given (append_assoc (take len kept) (drop len kept) xs)
kept_taken s len coming.Front kept xs keeps = absurd cc
kept_taken s len (coming.State left) kept xs keeps = absurd cc

take_both : (n m : ℕ) (xs : List ℕ) → take (n + m) xs ≡ take n xs ++ take m (drop n xs)
take_both n m xs =
    sym (take-append-drop n (take (n + m) xs)) ∙ ap (λ (l : List ℕ). l ++ drop n (take (n + m) xs)) (take-take n (n + m) xs (omega arith))
    ∙ ap (λ (l : List ℕ). take n xs ++ l) (drop-take n m xs)

-- of the piece, in a packet of pages
pub bytes_taken : (s left len : ℕ) (piece more : List ℕ) → len ≤ length (take left piece)
    → part_next s (coming.Bytes left) [] (piece ++ more)
    ≡ with_front (take len (take left piece)) (part_next s (coming.Bytes (left - len)) [] (drop len piece ++ more))
bytes_taken s left len piece more le =
    let xs : List ℕ = piece ++ more in
    let m : ℕ = left - len in
    let most : len ≤ left = omega (arith, le, length-take left piece) in
    let there : len ≤ length piece = omega (arith, le, length-take left piece) in
    let sum : left ≡ len + m = omega (arith, most) in
    let tail : drop len xs ≡ drop len piece ++ more = drop-append-le len piece more there in
    let front : take len xs ≡ take len (take left piece) = take-append-le len piece more there ∙ sym (take-take len left piece most) in
    ap (λ (l : List ℕ). with_front l (part s (drop left xs))) (ap (λ (k : ℕ). take k xs) sum ∙ take_both len m xs)
    ∙ ap (λ (l : List ℕ). with_front (take len xs ++ take m (drop len xs)) (part s l)) (ap (λ (k : ℕ). drop k xs) sum ∙ sym (drop-drop m len xs))
    ∙ ap (λ (l : List ℕ). with_front (take len xs ++ take m l) (part s (drop m l))) tail
    ∙ ap (λ (l : List ℕ). with_front (l ++ take m (drop len piece ++ more)) (part s (drop m (drop len piece ++ more)))) front
    ∙ front_twice (take len (take left piece)) (take m (drop len piece ++ more)) (part s (drop m (drop len piece ++ more)))

-- of the piece, where all bytes are passed on
pub rest_taken : (s len : ℕ) (piece more : List ℕ)
    → part_next s coming.Rest [] (piece ++ more) ≡ with_front (take len piece) (part_next s coming.Rest [] (drop len piece ++ more))
rest_taken s len piece more =
    ap (λ (l : List ℕ). all_given (l ++ more)) (sym (take-append-drop len piece)) ∙ ap all_given (append_assoc (take len piece) (drop len piece) more)

pub keeps_any : (next : Next) (kept : List ℕ) → keeps_in next kept ≡ true → has_any kept ≡ true
keeps_any (coming.Bytes left) kept keep = keep
keeps_any coming.Rest kept keep = keep
keeps_any coming.Front kept keep = absurd cc
keeps_any (coming.State left) kept keep = absurd cc

-- some of the bytes that wait are taken, and are kept ones
pub take_of_kept : (p : Passing) (len : ℕ) (kept : List ℕ) → keeps p ≡ true → (len ≤ length p.kept → kept ≡ drop len p.kept) → (piece more : List ℕ)
    → len ≤ length (waits p piece)
    → to_come p (piece ++ more) ≡ with_front (take len (waits p piece)) (to_come (record p { kept = kept }) (piece ++ more))
take_of_kept p len kept keep same piece more le =
    let w : waits p piece ≡ p.kept = ap (λ (b : Bool). cond b p.kept (from_piece p.next piece)) keep in
    let rest : List ℕ → Parted = λ l. with_counts p.packets p.bytes (part_next p.page_size p.next l (piece ++ more)) in
    ap (λ (x : Parted). with_counts p.packets p.bytes x) (kept_taken p.page_size len p.next p.kept (piece ++ more) keep)
    ∙ ap (λ (l : List ℕ). with_front (take len l) (rest (drop len p.kept))) (sym w)
    ∙ ap (λ (l : List ℕ). with_front (take len (waits p piece)) (rest l)) (sym (same (subst (λ (l : List ℕ). len ≤ length l) w le)))

-- of the hello or a packet of pages
pub take_of_bytes : (p : Passing) (len left : ℕ) → keeps p ≡ false → p.next ≡ coming.Bytes left → (piece more : List ℕ) → len ≤ length (waits p piece)
    → to_come p (piece ++ more)
    ≡ with_front (take len (waits p piece)) (to_come (record p { next = coming.Bytes (left - len) }) (drop len piece ++ more))
take_of_bytes p len left none is piece more le =
    let here : p.kept ≡ [] = none_kept p.kept (ap (λ (n : Next). keeps_in n p.kept) (sym is) ∙ none) in
    let w : waits p piece ≡ take left piece = ap (λ (b : Bool). cond b p.kept (from_piece p.next piece)) none
    ∙ ap (λ (n : Next). from_piece n piece) is in
    let make : Next → List ℕ → List ℕ → Parted = λ n k l. with_counts p.packets p.bytes (part_next p.page_size n k l) in
    ap (λ (n : Next). make n p.kept (piece ++ more)) is
    ∙ ap (λ (k : List ℕ). make (coming.Bytes left) k (piece ++ more)) here
    ∙ ap (λ (x : Parted). with_counts p.packets p.bytes x) (bytes_taken p.page_size left len piece more (subst (λ (l : List ℕ). len ≤ length l) w le))
    ∙ ap (λ (l : List ℕ). with_front (take len l) (make (coming.Bytes (left - len)) [] (drop len piece ++ more))) (sym w)
    ∙ ap (λ (k : List ℕ). with_front (take len (waits p piece)) (make (coming.Bytes (left - len)) k (drop len piece ++ more))) (sym here)

-- where all bytes are passed on
pub take_of_rest : (p : Passing) (len : ℕ) → keeps p ≡ false → p.next ≡ coming.Rest → (piece more : List ℕ) → len ≤ length (waits p piece)
    → to_come p (piece ++ more) ≡ with_front (take len (waits p piece)) (to_come p (drop len piece ++ more))
take_of_rest p len none is piece more le =
    let here : p.kept ≡ [] = none_kept p.kept (ap (λ (n : Next). keeps_in n p.kept) (sym is) ∙ none) in
    let w : waits p piece ≡ piece = ap (λ (b : Bool). cond b p.kept (from_piece p.next piece)) none ∙ ap (λ (n : Next). from_piece n piece) is in
    let make : Next → List ℕ → List ℕ → Parted = λ n k l. with_counts p.packets p.bytes (part_next p.page_size n k l) in
    ap (λ (n : Next). make n p.kept (piece ++ more)) is
    ∙ ap (λ (k : List ℕ). make coming.Rest k (piece ++ more)) here
    ∙ ap (λ (x : Parted). with_counts p.packets p.bytes x) (rest_taken p.page_size len piece more)
    ∙ ap (λ (l : List ℕ). with_front (take len l) (make coming.Rest [] (drop len piece ++ more))) (sym w)
    ∙ ap (λ (k : List ℕ). with_front (take len (waits p piece)) (make coming.Rest k (drop len piece ++ more))) (sym here)
    ∙ ap (λ (n : Next). with_front (take len (waits p piece)) (make n p.kept (drop len piece ++ more))) (sym is)

-- ---- the end

pub end_is : (s given : ℕ) (next : Next) (items : List ℕ) → IsPart next given items
    → part_next s next (drop given items) [] ≡ all_given (drop given items ++ [])
end_is s given (coming.Bytes left) items is =
    let kept : List ℕ = drop given items in
    ap (λ (l : List ℕ). with_front (kept ++ l) (part s (drop left []))) (take-nil left)
    ∙ ap (λ (l : List ℕ). with_front (kept ++ []) (part s l)) (drop-nil left)
    ∙ ap all_given (append-nil (kept ++ []))
end_is s given coming.Front items is =
    let kept : List ℕ = drop given items in
    part_short s (kept ++ []) (omega (arith, is.1, length-drop given items, length-append kept []))
end_is s given (coming.State left) items is =
    let kept : List ℕ = drop given items in
    ap (λ (b : Bool). cond b (with_device (front_len + state_len kept) (part s (drop left []))) (all_given kept)) (lt-leb left 0 is.2)
    ∙ ap all_given (sym (append-nil kept))
end_is s given coming.Rest items is = refl

pub end_waits : (kept : List ℕ) → cond (has_any kept) kept [] ≡ kept ++ []
end_waits [] = refl
end_waits (x ∷ xs) = sym (append-nil (x ∷ xs))

-- ---- calls

-- a part of a device's state is dropped
pub over_less : (p : Passing) (left n : ℕ) (piece : List ℕ) → p.next ≡ coming.State left → n ≡ length piece → n < left → (more : List ℕ)
    → to_come p (piece ++ more) ≡ to_come (record p { next = coming.State (left - n) }) (drop n piece ++ more)
over_less p left n piece is all less more =
    let make : Next → List ℕ → Parted = λ x l. with_counts p.packets p.bytes (part_next p.page_size x p.kept l) in
    let none : drop n piece ++ more ≡ more = ap (λ (l : List ℕ). l ++ more) (drop_all n piece (omega (arith, all))) in
    ap (λ (x : Next). make x (piece ++ more)) is
    ∙ ap (λ (x : Parted). with_counts p.packets p.bytes x) (state_less p.page_size left p.kept piece more (omega (arith, all, less)))
    ∙ ap (λ (k : ℕ). make (coming.State (left - k)) more) (sym all)
    ∙ ap (λ (l : List ℕ). make (coming.State (left - n)) l) (sym none)

-- all of it
pub over_all : (p q : Passing) (left n : ℕ) (piece : List ℕ) → p.next ≡ coming.State left → n ≡ left → left ≤ length piece
    → q ≡ record {
      page_size = p.page_size;
      next = coming.Front;
      kept = [];
      packets = min (p.packets + 1) (2 ^ 64 - 1);
      bytes = min (p.bytes + (front_len + state_len p.kept)) (2 ^ 64 - 1);
    } → (more : List ℕ)
    → to_come p (piece ++ more) ≡ to_come q (drop n piece ++ more)
over_all p q left n piece is same le new more =
    let size : ℕ = front_len + state_len p.kept in
    ap (λ (x : Next). with_counts p.packets p.bytes (part_next p.page_size x p.kept (piece ++ more))) is
    ∙ ap (λ (x : Parted). with_counts p.packets p.bytes x) (state_all p.page_size left p.kept piece more le)
    ∙ counted p.packets p.bytes size (part p.page_size (drop left piece ++ more))
    ∙ ap (λ (k : ℕ). with_counts (min (p.packets + 1) (2 ^ 64 - 1)) (min (p.bytes + size) (2 ^ 64 - 1)) (part p.page_size (drop k piece ++ more))) (sym same)
    ∙ ap (λ (x : Passing). to_come x (drop n piece ++ more)) (sym new)

-- the front of a packet is complete
pub front_all : (p : Passing) (n : ℕ) (piece kept : List ℕ) → p.next ≡ coming.Front → kept ≡ p.kept ++ take n piece → length kept ≡ front_len
    → (more : List ℕ)
    → to_come p (piece ++ more) ≡ to_come (record p { next = next_after p.page_size kept; kept = kept }) (drop n piece ++ more)
front_all p n piece kept is grown full more =
    ap (λ (x : Next). with_counts p.packets p.bytes (part_next p.page_size x p.kept (piece ++ more))) is
    ∙ ap (λ (l : List ℕ). with_counts p.packets p.bytes (part p.page_size l)) (kept_more p.kept piece more n)
    ∙ ap (λ (l : List ℕ). with_counts p.packets p.bytes (part p.page_size (l ++ (drop n piece ++ more)))) (sym grown)
    ∙ ap (λ (x : Parted). with_counts p.packets p.bytes x) (judged p.page_size kept (drop n piece ++ more) full)

-- and begins a device's packet without state
pub front_over : (p q : Passing) (n : ℕ) (piece kept : List ℕ) → p.next ≡ coming.Front → kept ≡ p.kept ++ take n piece → length kept ≡ front_len
    → next_after p.page_size kept ≡ coming.State 0
    → q ≡ record {
      page_size = p.page_size;
      next = coming.Front;
      kept = [];
      packets = min (p.packets + 1) (2 ^ 64 - 1);
      bytes = min (p.bytes + (front_len + state_len kept)) (2 ^ 64 - 1);
    } → (more : List ℕ)
    → to_come p (piece ++ more) ≡ to_come q (drop n piece ++ more)
front_over p q n piece kept is grown full none new more =
    let xs : List ℕ = drop n piece ++ more in
    let r : Passing = record p { next = coming.State 0; kept = kept } in
    front_all p n piece kept is grown full more
    ∙ ap (λ (x : Next). to_come (record p { next = x; kept = kept }) xs) none
    ∙ over_all r q 0 0 [] refl refl (omega arith) new xs
