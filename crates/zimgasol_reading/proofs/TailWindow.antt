-- What a window keeps as bytes are taken.
use Rattle.std.proofs.Common.{ℕ, ◌≡◌, ◌≢◌, ◌+◌, ◌-◌, ◌<◌, ◌^◌, inl, inr, List, [], ◌∷◌, ◌++◌, length, take, drop, get_or, min, sym, ap, ◌∙◌, subst, arith, All}
use Rattle.std.proofs.lemmas.Bool.{cases_lt}
use Rattle.std.proofs.lemmas.List.{append_assoc, drop_all, drop-append-le, get_or_past, get_or_append_left, get_or_at, length-append, length-drop}
use Rattle.std.proofs.lemmas.List.{take_all, take_min}
use Rattle.std.proofs.lemmas.List.Elements.{All-append, All-drop, All-nil, All-same}
use Rattle.zimgasol_reading.specs.TailSeen.{last_of, most_kept, IsWindow}
use Rattle.zimgasol_reading.specs.declared.tail.Window.{Window}
use Rattle.zimgasol_reading.proofs.TailLists.{drop_append, take_append, last_back, last_front, length-last}

recent_is : (bytes next piece : List ℕ) → last_of 6 next ≡ last_of 6 piece → last_of 6 (last_of 6 bytes ++ piece) ≡ last_of 6 (bytes ++ next)
recent_is bytes next piece same =
    last_front 6 bytes piece ∙ sym (last_back 6 bytes piece) ∙ ap (λ (l : List ℕ). last_of 6 (bytes ++ l)) (sym same) ∙ last_back 6 bytes next

ends_with_zero : (bytes next : List ℕ) → (front : List ℕ) × (next ≡ front ++ 0 ∷ []) → get_or (bytes ++ next) (length (bytes ++ next) - 1) 1 ≡ 0
ends_with_zero bytes next (front, is) =
    let all : bytes ++ next ≡ (bytes ++ front) ++ 0 ∷ [] = ap (λ (l : List ℕ). bytes ++ l) is ∙ sym (append_assoc bytes front (0 ∷ [])) in
    let place : length (bytes ++ front) ≡ length (bytes ++ next) - 1 =
    omega (arith, ap (λ (l : List ℕ). length l) all, length-append (bytes ++ front) (0 ∷ [])) in
    ap (λ (l : List ℕ). get_or l (length (bytes ++ next) - 1) 1) all ∙ get_or_at (bytes ++ front) 0 [] 1 (length (bytes ++ next) - 1) place

-- the window begins anew with the last bytes, of which the last one is zero
begun : (all : List ℕ) (w : Window) → get_or all (length all - 1) 1 ≡ 0 → w.len ≡ length all → w.recent.items ≡ last_of 6 all
    → w.start ≡ w.len - length w.recent.items → w.kept.items ≡ w.recent.items → IsWindow all w
begun all w zero is_len is_recent is_start is_kept =
    let count : length w.recent.items ≡ min 6 (length all) = ap (λ (l : List ℕ). length l) is_recent ∙ length-last 6 all in
    let start : w.start ≡ length all - 6 = omega (arith, is_len, is_start, count) in
    let kept : w.kept.items ≡ drop w.start all = is_kept ∙ is_recent ∙ ap (λ (k : ℕ). drop k all) (sym start) in
    record {
      has_len = is_len;
      has_recent = is_recent;
      has_start = omega (arith, start);
      has_kept = kept ∙ sym (take_all most_kept (drop w.start all) (omega (arith, start, length-drop w.start all)));
      has_zero = elim (cases_lt 6 (length all)) [
        | inl long ↦ inr (ap (λ (k : ℕ). get_or all k 1) (let at : w.start + 5 ≡ length all - 1 = omega (arith, start, long) in at) ∙ zero)
        | inr short ↦ inl (omega (arith, start, short))
      ];
      has_no_more = All-same (λ byte. byte ≢ 0) (drop (w.start + 6) all) [] (drop_all (w.start + 6) all (omega (arith, start))) (All-nil (λ byte. byte ≢ 0));
    }

pub restarted : (bytes next piece : List ℕ) (w v : Window) (count : ℕ) → length bytes + count < 2 ^ 63 → length next ≡ count
    → last_of 6 next ≡ last_of 6 piece → (front : List ℕ) × (next ≡ front ++ 0 ∷ []) → IsWindow bytes w
    → v.len ≡ min (w.len + count) (2 ^ 64 - 1) → v.recent.items ≡ last_of 6 (w.recent.items ++ piece)
    → v.start ≡ v.len - length v.recent.items → v.kept.items ≡ v.recent.items → IsWindow (bytes ++ next) v
restarted bytes next piece w v count small is_count same zero at is_len is_recent is_start is_kept =
    begun (bytes ++ next) v (ends_with_zero bytes next zero)
    (omega (arith, small, is_count, at.has_len, is_len, length-append bytes next))
    (is_recent ∙ ap (λ (l : List ℕ). last_of 6 (l ++ piece)) at.has_recent ∙ recent_is bytes next piece same) is_start is_kept

-- a byte that is there is the same in a longer list
still_zero : (bytes piece : List ℕ) (i : ℕ) → get_or bytes i 1 ≡ 0 → get_or (bytes ++ piece) i 1 ≡ 0
still_zero bytes piece i zero = elim (cases_lt i (length bytes)) [
  | inl there ↦ get_or_append_left bytes piece 1 i there ∙ zero
  | inr past ↦ absurd (let one : 1 ≡ 0 = sym (get_or_past bytes i 1 past) ∙ zero in omega (arith, one))
]

pub extended : (bytes piece : List ℕ) (w v : Window) → length (bytes ++ piece) < 2 ^ 63 → All (λ byte. byte ≢ 0) piece → IsWindow bytes w
    → v.len ≡ min (w.len + length piece) (2 ^ 64 - 1) → v.recent.items ≡ last_of 6 (w.recent.items ++ piece) → v.start ≡ w.start
    → v.kept.items ≡ w.kept.items ++ take (min (most_kept - length w.kept.items) (length piece)) piece → IsWindow (bytes ++ piece) v
extended bytes piece w v small nonzero at is_len is_recent is_start is_kept =
    let room : ℕ = most_kept - length w.kept.items in
    let rest : List ℕ = drop w.start bytes in
    record {
      has_len = omega (arith, small, at.has_len, is_len, length-append bytes piece);
      has_recent = is_recent ∙ ap (λ (l : List ℕ). last_of 6 (l ++ piece)) at.has_recent ∙ last_front 6 bytes piece;
      has_start = omega (arith, is_start, at.has_start, length-append bytes piece);
      has_kept = is_kept ∙ ap (λ (l : List ℕ). w.kept.items ++ l) (take_min room piece)
          ∙ ap (λ (l : List ℕ). l ++ take (most_kept - length l) piece) at.has_kept ∙ take_append most_kept rest piece
          ∙ ap (λ (l : List ℕ). take most_kept l) (sym (drop-append-le w.start bytes piece at.has_start))
          ∙ ap (λ (k : ℕ). take most_kept (drop k (bytes ++ piece))) (sym is_start);
      has_zero = elim at.has_zero [
        | inl none ↦ inl (is_start ∙ none)
        | inr zero ↦ inr (ap (λ (k : ℕ). get_or (bytes ++ piece) (k + 5) 1) is_start ∙ still_zero bytes piece (w.start + 5) zero)
      ];
      has_no_more = subst (λ (k : ℕ). All (λ byte. byte ≢ 0) (drop (k + 6) (bytes ++ piece))) (sym is_start)
          (All-same (λ byte. byte ≢ 0) (drop (w.start + 6) (bytes ++ piece)) (drop (w.start + 6) bytes ++ drop (w.start + 6 - length bytes) piece)
          (drop_append (w.start + 6) bytes piece) (All-append (λ byte. byte ≢ 0) (drop (w.start + 6) bytes) (drop (w.start + 6 - length bytes) piece)
          at.has_no_more (All-drop (λ byte. byte ≢ 0) (w.start + 6 - length bytes) piece nonzero)));
    }
