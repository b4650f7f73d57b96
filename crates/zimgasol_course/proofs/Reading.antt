-- A stream that is read in pieces, from a byte of the input on.
use Rattle.std.proofs.Common.{ℕ, ◌≡◌, ◌≢◌, ◌+◌, ◌-◌, ◌<◌, ◌^◌, List, [], ◌++◌, length, drop}
use Rattle.std.proofs.Common.{Option, Some, None, inl, inr, refl, sym, ap, ◌∙◌, subst, append_assoc, arith}
use Rattle.std.specs.Io.KnownBytes.{Consumes, IsAtEnd}
use Rattle.std.proofs.Math.Seq.{drop-append-add}
use Rattle.std.proofs.lemmas.Bool.{cases_lt}
use Rattle.std.proofs.lemmas.List.{append-nil, length-append, drop-append-le, length-drop, drop_all}
use Rattle.mig_mem.specs.RamTable.{RamTable}
use Rattle.mig_stream.specs.declared.item.StreamState.TheVariants.{Closed}
use Rattle.mig_stream.specs.PageRecord.{PageRecord}
use Rattle.mig_stream.specs.Reading.{Settings}
use Rattle.mig_stream.specs.Giving.{Paused}
use Rattle.zimgasol_course.specs.Course.{Stands}
use Rattle.zimgasol_course.specs.Seen.{Seen, HasSeen}
use Rattle.zimgasol_course.proofs.Taking.{stands_over}
use Rattle.zimgasol_course.proofs.Seeing.{sees_bad}
use Rattle.zimgasol_course.specs.declared.course.Course.{Course}

-- the course stands at the end of these bytes
abbrev pub StandsAt : (Option RamTable → List PageRecord → Type 0) → Settings → List ℕ → Course → Type 0
StandsAt holds given text c = Stands holds given text c.pause c.state c.sections c.valid c.has_begun

-- and the taker has seen what was read of them
abbrev pub SeesAt : (Option RamTable → List PageRecord → Type 0) → (Seen → Type 0) → Settings → List ℕ → Course → Type 0
SeesAt holds sees given text c = StandsAt holds given text c × HasSeen sees text c.pause c.state c.valid

-- `whole` was read but for the piece in the buffer and what is left of the input: this holds of the
-- bytes that were read
pub record PartRead (at : List ℕ → Type 0) (before : ℕ) (whole piece : List ℕ) (remaining : Option (List ℕ)) (skip : ℕ) : Type 0 where
  pub read : List ℕ
  pub left : List ℕ
  pub is_left : remaining ≡ Some left
  pub is_whole : whole ≡ (read ++ piece) ++ left
  pub is_skip : skip ≡ before - length read
  pub stands : at (drop before read)

-- from the beginning to here
abbrev pub ReadsTo : (Settings → List ℕ → Type 0) → Option (List ℕ) → ℕ → List ℕ → (Settings → List ℕ → Type 0)
    → Option (List ℕ) → ℕ → List ℕ → Type 0
ReadsTo old input before first new remaining skip piece = (given : Settings) (rest : List ℕ) → input ≡ Some rest → length (first ++ rest) < 2 ^ 63
    → old given []
    → PartRead (new given) before (first ++ rest) piece remaining skip

consumes_left : (left : List ℕ) (r : Option (List ℕ)) (bs : List ℕ) → Consumes (Some left) r bs → (l : List ℕ) × (r ≡ Some l) × (left ≡ bs ++ l)
consumes_left left None bs c = absurd c
consumes_left left (Some l) bs c = (l, refl, c)

end_left : (left : List ℕ) (r : Option (List ℕ)) → r ≡ Some left → IsAtEnd r → left ≡ []
end_left left r is end = subst IsAtEnd is end

drop_both : (n : ℕ) (xs ys : List ℕ) → drop n (xs ++ ys) ≡ drop n xs ++ drop (n - length xs) ys
drop_both n xs ys = elim (cases_lt n (length xs)) [
  | inl lt ↦ drop-append-le n xs ys (omega (arith, lt)) ∙ ap (λ k. drop n xs ++ drop k ys) (let none : 0 ≡ n - length xs = omega (arith, lt) in none)
  | inr ge ↦ let is : n ≡ length xs + (n - length xs) = omega (arith, ge) in
      ap (λ k. drop k (xs ++ ys)) is ∙ drop-append-add xs ys (n - length xs) ∙ ap (λ (l : List ℕ). l ++ drop (n - length xs) ys) (sym (drop_all n xs ge))
]

-- nothing was read before the first piece
pub read_first : (at : List ℕ → Type 0) (before : ℕ) (piece rest : List ℕ) (remaining : Option (List ℕ)) → remaining ≡ Some rest → at []
    → PartRead at before (piece ++ rest) piece remaining before
read_first at before piece rest remaining is stands = record {
  read = [];
  left = rest;
  is_left = is;
  is_whole = refl;
  is_skip = omega arith;
  stands = subst at (sym (drop_all before [] (omega arith))) stands;
}

-- nothing is left
pub read_whole : (at : List ℕ → Type 0) (before : ℕ) (whole piece : List ℕ) (remaining : Option (List ℕ)) (skip : ℕ)
    → PartRead at before whole piece remaining skip → piece ≡ [] → IsAtEnd remaining → at (drop before whole)
read_whole at before whole piece remaining skip part none end =
    let all : (part.read ++ piece) ++ part.left ≡ part.read =
    ap (λ (l : List ℕ). (part.read ++ l) ++ part.left) none ∙ ap (λ (l : List ℕ). (part.read ++ []) ++ l) (end_left part.left remaining part.is_left end) ∙
    append-nil (part.read ++ []) ∙ append-nil part.read in
    subst (λ (l : List ℕ). at (drop before l)) (sym (part.is_whole ∙ all)) part.stands

-- one piece more
pub part_more : (old new : List ℕ → Type 0) (before : ℕ) (whole piece next : List ℕ)
    (remaining after : Option (List ℕ)) (skip then len : ℕ)
    → length whole < 2 ^ 63 → len ≡ length piece → then ≡ skip - len
    → ((text : List ℕ) → length (text ++ drop skip piece) < 2 ^ 63 → old text → new (text ++ drop skip piece))
    → Consumes remaining after next → PartRead old before whole piece remaining skip → PartRead new before whole next after then
part_more old new before whole piece next remaining after skip then len few has_len is_then ok consumes part =
    let from = consumes_left part.left after next (subst (λ (o : Option (List ℕ)). Consumes o after next) part.is_left consumes) in
    let is : drop before (part.read ++ piece) ≡ drop before part.read ++ drop skip piece =
    drop_both before part.read piece ∙ ap (λ k. drop before part.read ++ drop k piece) (sym part.is_skip) in
    let short : length (drop before part.read ++ drop skip piece) < 2 ^ 63 =
    omega (
      arith,
      few,
      ap (λ (l : List ℕ). length l) part.is_whole,
      length-append (part.read ++ piece) part.left,
      length-append part.read piece,
      length-append (drop before part.read) (drop skip piece),
      length-drop before part.read,
      length-drop skip piece,
    ) in
    record {
      read = part.read ++ piece;
      left = from.0;
      is_left = from.1;
      is_whole = part.is_whole ∙ ap (λ (l : List ℕ). (part.read ++ piece) ++ l) from.2 ∙ sym (append_assoc (part.read ++ piece) next from.0);
      is_skip = omega (arith, is_then, has_len, part.is_skip, length-append part.read piece);
      stands = subst (λ (l : List ℕ). new l) (sym is) (ok (drop before part.read) short part.stands);
    }

-- a stream with a fault doesn't change with more bytes
pub over_more : (holds : Option RamTable → List PageRecord → Type 0) (given : Settings) (text more : List ℕ) (c : Course) → c.pause ≡ None
    → StandsAt holds given text c → StandsAt holds given (text ++ more) c
over_more holds given text more c over s =
    subst (λ (p : Option Paused). Stands holds given (text ++ more) p c.state c.sections c.valid c.has_begun) (sym over)
    (stands_over holds given text more c.state c.sections c.valid c.has_begun
    (subst (λ (p : Option Paused). Stands holds given text p c.state c.sections c.valid c.has_begun) over s))

-- so nothing more need be read
pub read_over : (old new : List ℕ → Type 0) (before : ℕ) (whole piece : List ℕ) (remaining : Option (List ℕ)) (skip : ℕ)
    → length whole < 2 ^ 63
    → ((text : List ℕ) → length (text ++ drop skip piece) < 2 ^ 63 → old text → new (text ++ drop skip piece))
    → PartRead old before whole piece remaining skip → ((text more : List ℕ) → new text → new (text ++ more)) → new (drop before whole)
read_over old new before whole piece remaining skip few ok part over =
    let first : List ℕ = drop before part.read ++ drop skip piece in
    let more : List ℕ = drop (before - length (part.read ++ piece)) part.left in
    let is : drop before (part.read ++ piece) ≡ first =
    drop_both before part.read piece ∙ ap (λ k. drop before part.read ++ drop k piece) (sym part.is_skip) in
    let all : drop before whole ≡ first ++ more =
    ap (λ (l : List ℕ). drop before l) part.is_whole ∙ drop_both before (part.read ++ piece) part.left ∙ ap (λ (l : List ℕ). l ++ more) is in
    let short : length first < 2 ^ 63 =
    omega (
      arith,
      few,
      ap (λ (l : List ℕ). length l) part.is_whole,
      length-append (part.read ++ piece) part.left,
      length-append part.read piece,
      length-append (drop before part.read) (drop skip piece),
      length-drop before part.read,
      length-drop skip piece,
    ) in
    subst (λ (l : List ℕ). new l) (sym all) (over first more (ok (drop before part.read) short part.stands))

-- nor does what was seen of it
pub over_sees : (holds : Option RamTable → List PageRecord → Type 0) (sees : Seen → Type 0) (given : Settings) (text more : List ℕ) (c : Course)
    → c.pause ≡ None → c.state ≢ Closed → SeesAt holds sees given text c → SeesAt holds sees given (text ++ more) c
over_sees holds sees given text more c over other at =
    (over_more holds given text more c over at.0, sees_bad sees (text ++ more) c.pause c.state c.valid over other)
