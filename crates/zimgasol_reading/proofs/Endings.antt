-- What a survey says of the bytes after RAM.
use Rattle.std.proofs.Common.{ℕ, ◌≡◌, ◌≢◌, ◌≤◌, ◌<◌, ◌^◌, Bool, true, false, List, [], ◌++◌, length, drop, Option, Some, None, refl, sym, ap, ◌∙◌, subst, arith}
use Rattle.std.specs.Prelude.{All, IsNone, ◌↔◌}
use Rattle.std.specs.Io.KnownBytes.{Consumes, IsAtEnd}
use Rattle.std.proofs.lemmas.List.{length-drop}
use Rattle.std.proofs.lemmas.List.Elements.{All-drop}
use Rattle.mig_mem.specs.RamTable.{RamTable}
use Rattle.mig_stream.specs.declared.item.StreamState.{StreamState}
use Rattle.mig_stream.specs.declared.item.StreamState.TheVariants.{Closed}
use Rattle.mig_stream.specs.PageRecord.{PageRecord}
use Rattle.mig_stream.specs.Reading.{Settings}
use Rattle.mig_stream.specs.Reader.{IsValidUpTo}
use Rattle.mig_stream.specs.Giving.{Paused}
use Rattle.mig_stream.proofs.Valid.{one_place}
use Rattle.zimgasol_course.specs.Course.{Stands}
use Rattle.zimgasol_course.specs.Seen.{OfStream, AfterIt, HasSeen}
use Rattle.zimgasol_course.proofs.Seeing.{closed_sees}
use Rattle.zimgasol_reading.specs.declared.libvirt.LibvirtHeader.{LibvirtHeader}
use Rattle.zimgasol_reading.specs.declared.survey.Survey.{Survey}
use Rattle.zimgasol_reading.specs.declared.tail.Tail.{Tail}
use Rattle.zimgasol_reading.specs.declared.tail.TailFault.{TailFault}
use Rattle.zimgasol_reading.specs.Ending.{IsWholeEnding}
use Rattle.zimgasol_reading.specs.Libvirt.{IsBefore}
use Rattle.zimgasol_reading.specs.Surveyed.{IsAsked, HasWholeEnding, IsEnded, before_of}
use Rattle.zimgasol_reading.specs.TailSeen as SeenTail
use Rattle.zimgasol_reading.specs.Tailed.{HasSeenBytes, HasEnding}
use Rattle.zimgasol_reading.proofs.Headers.{before_whole}
use Rattle.zimgasol_reading.proofs.Surveying.{consumes_left, given_of, given_as_asked}

-- ---- the ending

-- the bytes after a closed stream, if they are checked
tail_of : (holds : Option RamTable → List PageRecord → Type 0) (given : Settings) (stream : List ℕ) (pause : Option Paused) (found : StreamState)
    (n valid fed : ℕ) (begun : Bool) (tail : Tail) → found ≡ Closed
    → Stands holds given stream pause found n valid begun → HasSeen (HasSeenBytes fed tail) stream pause found valid → SeenTail.HasSeen (drop valid stream) tail
tail_of holds given stream pause found n valid fed begun tail closed s had =
    closed_sees holds (HasSeenBytes fed tail) given stream pause n valid
    (subst (λ (f : StreamState). Stands holds given stream pause f n valid begun) closed s)
    (subst (λ (f : StreamState). HasSeen (HasSeenBytes fed tail) stream pause f valid) closed had)

pub ended : (holds : Option RamTable → List PageRecord → Type 0) (given : Settings) (stream : List ℕ) (pause : Option Paused) (found : StreamState)
    (n valid : ℕ) (begun checks : Bool) (tail : Tail) (fault : Option TailFault)
    → length stream < 2 ^ 63 → All (λ byte. byte < 2 ^ 8) stream → found ≡ Closed → Stands holds given stream pause found n valid begun
    → (checks ≡ true → (fed : ℕ) × HasSeen (HasSeenBytes fed tail) stream pause found valid)
    → HasEnding checks tail fault → IsEnded (checks ≡ true) given stream fault
ended holds given stream pause found n valid begun checks tail fault few bytes closed s seen ending = (to, back checks refl)
  where
    exact : checks ≡ true → IsNone fault ↔ IsWholeEnding (drop valid stream)
    exact is =
        let had = seen is in
        ending.checked is (drop valid stream) (omega (arith, few, length-drop valid stream)) (All-drop (λ byte. byte < 2 ^ 8) valid stream bytes)
        (tail_of holds given stream pause found n valid had.0 begun tail closed s had.1)

    to : IsNone fault → checks ≡ true → HasWholeEnding given stream
    to none is = (valid, s.has_valid, (exact is).0 none)

    -- the valid bytes are one number
    same : (m : ℕ) → IsValidUpTo given stream m → m ≡ valid
    same m other = let place = one_place given stream s.is_page_size in place.4 m other ∙ sym (place.4 valid s.has_valid)

    back : (b : Bool) → checks ≡ b → (checks ≡ true → HasWholeEnding given stream) → IsNone fault
    back false is whole = ending.unchecked is
    back true is whole =
        let w = whole is in
        (exact is).1 (subst (λ k. IsWholeEnding (drop k stream)) (same w.0 w.1) w.2)

-- a stream of which nothing was read
pub begin_sees : (fed : ℕ) (tail : Tail) (pause : Option Paused) (found : StreamState) (valid : ℕ) → pause ≢ None → fed ≡ 0 → SeenTail.HasSeen [] tail
    → HasSeen (HasSeenBytes fed tail) [] pause found valid
begin_sees fed tail (Some p) found valid going none seen = (none, seen)
begin_sees fed tail None found valid going none seen = absurd (going refl)

-- The first piece was read, with libvirt's header, then the others, to the end.
pub ended_of : (asked first last : Survey) (holds : Option RamTable → List PageRecord → Type 0) (text piece : List ℕ) (before : ℕ)
    (input after : Option (List ℕ)) (pause : Option Paused) (found : StreamState) (n valid : ℕ) (begun : Bool) (tail : Tail)
    → IsAsked asked first → before ≡ before_of first.libvirt
    → last.libvirt ≡ first.libvirt → last.state ≡ found
    → input ≡ Some text → length text < 2 ^ 63 → All (λ byte. byte < 2 ^ 8) text → last.state ≡ Closed → Consumes input after piece
    → ((rest : List ℕ) → after ≡ Some rest → length (piece ++ rest) < 2 ^ 63
    → Stands holds (given_of first) (drop before (piece ++ rest)) pause found n valid begun)
    → (first.checks_tail ≡ true → (rest : List ℕ) → after ≡ Some rest → length (piece ++ rest) < 2 ^ 63
    → (fed : ℕ) × HasSeen (HasSeenBytes fed tail) (drop before (piece ++ rest)) pause found valid)
    → (found ≡ Closed → HasEnding first.checks_tail tail last.ending.fault)
    → IsEnded (asked.checks_tail ≡ true) (given_of asked) (drop (before_of last.libvirt) text) last.ending.fault
ended_of asked first last holds text piece before input after pause found n valid begun tail same_asked same libvirt state is few bytes closed consumes
    stands seen ending =
    let from = consumes_left text after piece (subst (λ (o : Option (List ℕ)). Consumes o after piece) is consumes) in
    let k : ℕ = before_of last.libvirt in
    let whole : drop before (piece ++ from.0) ≡ drop k text =
    ap (λ m. drop m (piece ++ from.0)) (same ∙ ap (λ (l : Option LibvirtHeader). before_of l) (sym libvirt)) ∙ ap (λ (l : List ℕ). drop k l) (sym from.2) in
    let short : length (piece ++ from.0) < 2 ^ 63 = subst (λ (l : List ℕ). length l < 2 ^ 63) from.2 few in
    let checks : first.checks_tail ≡ asked.checks_tail = same_asked.5 in
    let over : found ≡ Closed = sym state ∙ closed in
    ended holds (given_of asked) (drop k text) pause found n valid begun asked.checks_tail tail last.ending.fault
    (omega (arith, few, length-drop k text)) (All-drop (λ byte. byte < 2 ^ 8) k text bytes) over
    (subst (λ (g : Settings). Stands holds g (drop k text) pause found n valid begun) (given_as_asked asked first same_asked)
    (subst (λ (l : List ℕ). Stands holds (given_of first) l pause found n valid begun) whole (stands from.0 from.1 short)))
    (λ checked.
    let had = seen (checks ∙ checked) from.0 from.1 short in
    (had.0, subst (λ (l : List ℕ). HasSeen (HasSeenBytes had.0 tail) l pause found valid) whole had.1))
    (subst (λ (b : Bool). HasEnding b tail last.ending.fault) checks (ending over))

-- the same bytes are checked
pub ended_alike : {A B : Type 0} (given : Settings) (stream : List ℕ) (fault : Option TailFault) → A ↔ B → IsEnded A given stream fault
    → IsEnded B given stream fault
ended_alike given stream fault same ended = (λ none b. ended.0 none (same.1 b), λ whole. ended.1 (λ a. whole (same.0 a)))

-- ---- the bytes before the stream

end_left : (left : List ℕ) (r : Option (List ℕ)) → r ≡ Some left → IsAtEnd r → left ≡ []
end_left left r is end = subst IsAtEnd is end

-- as a first piece has it, which is full unless the input is read to its end
pub before_text : (text piece : List ℕ) (input after : Option (List ℕ)) (room : ℕ) (first last : Option LibvirtHeader) → 16 ≤ room
    → last ≡ first → input ≡ Some text → Consumes input after piece → (length piece < room → IsAtEnd after)
    → IsBefore piece (before_of first) → IsBefore text (before_of last)
before_text text piece input after room first last enough same is consumes end before =
    let from = consumes_left text after piece (subst (λ (o : Option (List ℕ)). Consumes o after piece) is consumes) in
    let whole : IsBefore (piece ++ from.0) (before_of first) =
    before_whole piece from.0 first (λ short. end_left from.0 after from.1 (end (omega (arith, short, enough)))) before in
    subst (λ (l : Option LibvirtHeader). IsBefore text (before_of l)) (sym same) (subst (λ (l : List ℕ). IsBefore l (before_of first)) (sym from.2) whole)
