-- A buffer that is written at one page, or at one byte.
use Rattle.std.proofs.Common.{ℕ, ◌≡◌, ◌<◌, ◌≤◌, ◌+◌, ◌-◌, ◌*◌, ◌/◌, ◌%◌, ◌++◌, List, set, length, take, drop, refl, sym, ap, subst, ◌∙◌, arith, inl, inr}
use Rattle.std.proofs.Math.Nat.{mul_comm}
use Rattle.std.proofs.lemmas.Nat.{div-mul-add, mod-mul-add}
use Rattle.std.proofs.lemmas.List.{length-set, drop-set-add, drop-set-lt, take-set-le, length-append, length-take-le, length-drop, take-append-le}
use Rattle.std.proofs.lemmas.List.{drop-append-le, take-append-drop, append_assoc, drop_at, take_at, drop-drop}
use Rattle.std.proofs.lemmas.Slice.{put_mid-paste}
use Rattle.std.proofs.lemmas.Bool.{cases_order}
use borrow.Rule.Slice.PartMut.{put_mid}
use Rattle.std.proofs.Math.Seq.{take-length, take-set-lt}
use lib.Seq.{paste}
use Rattle.mig_mem.specs.Parts.{part_at, ChangesPart}
use Rattle.mig_mem.proofs.PageSizes.{page_before}

-- a page within the front of a list
pub page_front : {T : Type 0} (size : ℕ) (xs ys : List T) (q : ℕ) → q * size + size ≤ length xs → part_at size (xs ++ ys) q ≡ part_at size xs q
page_front {T} size xs ys q h =
    let le : q * size ≤ length xs = omega arith in
    let room : size ≤ length (drop (q * size) xs) = simp length-drop (omega arith) in
    rw (drop-append-le (q * size) xs ys le, take-append-le size (drop (q * size) xs) ys room) refl

changes_middle : {T : Type 0} (size : ℕ) (old bytes : List T) (page : ℕ) → page * size + size ≤ length old → length bytes ≡ size
    → ChangesPart size old (take (page * size) old ++ bytes ++ drop (page * size + size) old) page bytes
changes_middle {T} size old bytes page room len =
    let a : ℕ = page * size in
    let front : List T = take a old in
    let rest : List T = drop (a + size) old in
    let long : length front ≡ a = length-take-le a old (omega arith) in
    let past : length (front ++ bytes) ≡ a + size = length-append front bytes ∙ omega arith in
    record {
      len = omega (arith, length-append (front ++ bytes) rest, length-drop (a + size) old);
      here = rw (append_assoc front bytes rest, drop_at front (bytes ++ rest) a long, take_at bytes rest size len) refl;
      others = λ q other. elim (cases_order q page) [
        | inl same ↦ absurd (other same)
        | inr way ↦ elim way [
          | inl below ↦
              let le : q * size + size ≤ a = page_before size page q below in
              page_front size (front ++ bytes) rest q (omega arith) ∙ page_front size front bytes q (omega arith)
              ∙ sym (page_front size front (drop a old) q (omega arith)) ∙ ap (λ (l : List T). part_at size l q) (take-append-drop a old)
          | inr above ↦
              let le : a + size ≤ q * size = page_before size q page above in
              let m : ℕ = q * size - (a + size) in
              let e : q * size ≡ (a + size) + m = omega arith in
              rw e (ap (λ (l : List T). take size l) (
              sym (drop-drop m (a + size) (front ++ bytes ++ rest))
              ∙ ap (λ (l : List T). drop m l) (drop_at (front ++ bytes) rest (a + size) past) ∙ drop-drop m (a + size) old))
        ]
      ];
    }

changes_paste : {T : Type 0} (size : ℕ) (old bytes : List T) (page : ℕ) → page * size + size ≤ length old → length bytes ≡ size
    → ChangesPart size old (paste old (page * size) bytes size) page bytes
changes_paste {T} size old bytes page room len =
    let same : take size bytes ≡ bytes = ap (λ (n : ℕ). take n bytes) (sym len) ∙ take-length bytes in
    rw same (changes_middle size old bytes page room len)

-- bytes that are written at a page's place change that page alone
pub changes_part : {T : Type 0} (size : ℕ) (old ys bytes : List T) (page k : ℕ) → page * size + size ≤ length old → length bytes ≡ size → ys ≡ bytes → k ≡ size
    → ChangesPart size old (put_mid (page * size) k old ys) page bytes
changes_part {T} size old ys bytes page k room len same ek =
    rw (put_mid-paste (page * size) k old ys bytes size same (sym ek) (sym len)) (changes_paste size old bytes page room len)

-- ---- one byte

-- to set one element is to change the part in which it lies
pub changes_byte : {T : Type 0} (size : ℕ) (old : List T) (at : ℕ) (b : T) → 0 < size
    → ChangesPart size old (set old at b) (at / size) (set (part_at size old (at / size)) (at % size) b)
changes_byte {T} size old at b some =
    let page : ℕ = at / size in
    let i : ℕ = at % size in
    let split : at ≡ page * size + i = omega (arith, mul_comm size page) in
    let inside : i < size = omega arith in
    record {
      len = length-set old at b;
      here = ap (λ (k : ℕ). take size (drop (page * size) (set old k b))) split
          ∙ ap (λ (l : List T). take size l) (drop-set-add (page * size) old i b) ∙ take-set-lt size (drop (page * size) old) i b inside;
      others = λ q other. elim (cases_order q page) [
        | inl same ↦ absurd (other same)
        | inr way ↦ elim way [
          | inl below ↦
              let le : q * size + size ≤ page * size = page_before size page q below in
              let j : ℕ = at - q * size in
              let e : at ≡ q * size + j = omega arith in
              rw e (ap (λ (l : List T). take size l) (drop-set-add (q * size) old j b) ∙ take-set-le size (drop (q * size) old) j b (omega arith))
          | inr above ↦
              let le : page * size + size ≤ q * size = page_before size q page above in
              ap (λ (l : List T). take size l) (drop-set-lt (q * size) old at b (omega arith))
        ]
      ];
    }

-- the same, by the page and the place in it
pub changes_byte_in : {T : Type 0} (size : ℕ) (old : List T) (page offset : ℕ) (b : T) → offset < size
    → ChangesPart size old (set old (page * size + offset) b) page (set (part_at size old page) offset b)
changes_byte_in {T} size old page offset b inside =
    let at : ℕ = page * size + offset in
    let P : ℕ → ℕ → Type 0 = λ q i. ChangesPart size old (set old at b) q (set (part_at size old q) i b) in
    let one : P (at / size) (at % size) = changes_byte size old at b (omega arith) in
    subst (λ (i : ℕ). P page i) (mod-mul-add page size offset inside) (subst (λ (q : ℕ). P q (at % size)) (div-mul-add page size offset inside) one)
