-- The head of a description, by its bytes.
use Rattle.std.proofs.Common.{ℕ, zero, suc, ◌≡◌, ◌+◌, ◌<◌, ◌≤◌, List, [], ◌∷◌, ◌++◌, length, drop, get_or, refl, sym, ap, ◌∙◌, subst, arith}
use Rattle.std.specs.Int.{w32, to_be_bytes, from_be_bytes}
use Rattle.std.proofs.lemmas.Nat.{be_bytes_4}
use Rattle.std.proofs.lemmas.List.{drop_more}
use Rattle.zimgasol_reading.specs.TailSeen.{IsHeaded}

eight : (bytes : List ℕ) → 8 ≤ length bytes → bytes ≡ get_or bytes 0 0 ∷ get_or bytes 1 0 ∷ get_or bytes 2 0 ∷ get_or bytes 3 0 ∷ get_or bytes 4 0
    ∷ get_or bytes 5 0 ∷ get_or bytes 6 0 ∷ get_or bytes 7 0 ∷ drop 8 bytes
eight bytes long =
    let one : (i : ℕ) → i < 8 → drop i bytes ≡ get_or bytes i 0 ∷ drop (i + 1) bytes = λ i less. drop_more bytes i 0 (omega (arith, less, long)) in
    let then : (i : ℕ) (l : List ℕ) → i < 8 → drop (i + 1) bytes ≡ l → drop i bytes ≡ get_or bytes i 0 ∷ l =
    λ i l less is. one i less ∙ ap (λ (l : List ℕ). get_or bytes i 0 ∷ l) is in
    then 0 _ (omega arith) (then 1 _ (omega arith) (then 2 _ (omega arith) (then 3 _ (omega arith) (then 4 _ (omega arith) (then 5 _ (omega arith)
    (then 6 _ (omega arith) (one 7 (omega arith))))))))

four : (a b c d : ℕ) → a < 256 → b < 256 → c < 256 → d < 256 → (i : ℕ) → get_or (a ∷ b ∷ c ∷ d ∷ []) i 0 < 256
four a b c d la lb lc ld zero = la
four a b c d la lb lc ld (suc zero) = lb
four a b c d la lb lc ld (suc (suc zero)) = lc
four a b c d la lb lc ld (suc (suc (suc zero))) = ld
four a b c d la lb lc ld (suc (suc (suc (suc i)))) = omega arith

headed_eight : (end kind a b c d brace quote : ℕ) (rest : List ℕ) (len : ℕ) → end ≡ 0 → kind ≡ 6 → brace ≡ 123 → quote ≡ 34
    → to_be_bytes w32 len ≡ a ∷ b ∷ c ∷ d ∷ [] → IsHeaded len (end ∷ kind ∷ a ∷ b ∷ c ∷ d ∷ brace ∷ quote ∷ rest)
headed_eight end kind a b c d brace quote rest len is_end is_kind is_brace is_quote field = record {
  text = brace ∷ quote ∷ rest;
  is_text = ap (λ (k : ℕ). k ∷ kind ∷ a ∷ b ∷ c ∷ d ∷ brace ∷ quote ∷ rest) is_end ∙ ap (λ (k : ℕ). 0 ∷ k ∷ a ∷ b ∷ c ∷ d ∷ brace ∷ quote ∷ rest) is_kind
      ∙ ap (λ (l : List ℕ). 0 ∷ 6 ∷ l ++ brace ∷ quote ∷ rest) (sym field);
  begins = ap (λ (k : ℕ). k ∷ quote ∷ []) is_brace ∙ ap (λ (k : ℕ). 123 ∷ k ∷ []) is_quote;
}

pub headed_by : (bytes : List ℕ) (len : ℕ) → 8 ≤ length bytes → ((i : ℕ) → get_or bytes i 0 < 256) → get_or bytes 0 0 ≡ 0 → get_or bytes 1 0 ≡ 6
    → get_or bytes 6 0 ≡ 123 → get_or bytes 7 0 ≡ 34
    → len ≡ from_be_bytes w32 (get_or bytes 2 0 ∷ get_or bytes 3 0 ∷ get_or bytes 4 0 ∷ get_or bytes 5 0 ∷ []) → IsHeaded len bytes
headed_by bytes len long small is_end is_kind is_brace is_quote is_len =
    let field : to_be_bytes w32 len ≡ get_or bytes 2 0 ∷ get_or bytes 3 0 ∷ get_or bytes 4 0 ∷ get_or bytes 5 0 ∷ [] =
    be_bytes_4 (get_or bytes 2 0 ∷ get_or bytes 3 0 ∷ get_or bytes 4 0 ∷ get_or bytes 5 0 ∷ []) len refl
    (four (get_or bytes 2 0) (get_or bytes 3 0) (get_or bytes 4 0) (get_or bytes 5 0) (small 2) (small 3) (small 4) (small 5)) is_len in
    subst (λ (l : List ℕ). IsHeaded len l) (sym (eight bytes long)) (headed_eight (get_or bytes 0 0) (get_or bytes 1 0) (get_or bytes 2 0)
    (get_or bytes 3 0) (get_or bytes 4 0) (get_or bytes 5 0) (get_or bytes 6 0) (get_or bytes 7 0) (drop 8 bytes) len is_end is_kind is_brace is_quote field)
