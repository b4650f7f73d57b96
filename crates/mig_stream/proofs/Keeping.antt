-- Records and their buffers, and rounds whose records are whole.
use Rattle.std.proofs.Common.{◌≡◌, ℕ, zero, suc, ◌+◌, ◌-◌, ◌<◌, ◌≤◌, List, [], ◌∷◌, ◌++◌, length, get_or, set, take, drop, Some, refl, sym, ap, subst, ◌∙◌, inl}
use Rattle.std.proofs.Common.{inr, append_assoc, arith}
use Rattle.std.specs.Prelude.{IfSome}
use Rattle.std.specs.List.{All}
use Rattle.std.proofs.lemmas.Bool.{cases_lt}
use Rattle.std.proofs.lemmas.List.{append-nil, length-append, length-map, length-drop, length-set, length-take, get_or-take, get_or_append_left}
use Rattle.std.proofs.lemmas.List.{get_or-set_same, take_all, take-append-le, drop-append-le, map-set}
use Rattle.std.proofs.Math.Seq.{drop-append_seam}
use Rattle.mig_mem.specs.Place.{place_at}
use Rattle.std.proofs.lemmas.List.Elements.{All-nil, All-push}
use Rattle.mig_stream.specs.declared.record.Span.{Span}
use Rattle.mig_stream.specs.declared.record.Record.{Record}
use Rattle.mig_stream.specs.declared.record.Record.TheVariants.{Zeros, Kept, Behind, Lent}
use Rattle.mig_stream.specs.PageRecord.{PageRecord}
use Rattle.mig_stream.specs.Round.{AreWhole}
use Rattle.mig_stream.specs.Kept.{buffer_of, buffers_of_records, bytes_at, IsWithin, place_of, content_in, record_in, IsHeld, IsGrown, records_after}
use Rattle.mig_stream.specs.Kept.{AreHeldAfter}

-- ---- records that follow, and the first records alone

-- a record that is kept is listed after those before it
pub records_push : {A : Type 0} (before : List (List ℕ)) (rs : List (Record A)) (r : Record A)
    → records_after before (rs ++ r ∷ []) ≡ records_after before rs ++ record_in (before ++ buffers_of_records rs) r ∷ []
records_push before [] r = ap (λ b. record_in b r ∷ []) (sym (append-nil before))
records_push before (x ∷ rs) r =
    ap (λ l. record_in before x ∷ l) (records_push (before ++ buffer_of x ∷ []) rs r
    ∙ ap (λ b. records_after (before ++ buffer_of x ∷ []) rs ++ record_in b r ∷ []) (append_assoc before (buffer_of x ∷ []) (buffers_of_records rs)))

-- records stay held if one more is
pub held_push : {A : Type 0} (before : List (List ℕ)) (rs : List (Record A)) (r : Record A)
    → AreHeldAfter before rs → IsHeld (before ++ buffers_of_records rs) r → AreHeldAfter before (rs ++ r ∷ [])
held_push before [] r held is = (subst (λ b. IsHeld b r) (append-nil before) is, tt)
held_push before (x ∷ rs) r held is = (
  held.0,
  held_push (before ++ buffer_of x ∷ []) rs r held.1
      (subst (λ b. IsHeld b r) (sym (append_assoc before (buffer_of x ∷ []) (buffers_of_records rs))) is),
)

-- the first records that are kept are listed as the first ones
pub records_take : {A : Type 0} (before : List (List ℕ)) (rs : List (Record A)) (n : ℕ) → records_after before (take n rs) ≡ take n (records_after before rs)
records_take before rs zero = refl
records_take before [] (suc n) = refl
records_take before (r ∷ rs) (suc n) = ap (λ l. record_in before r ∷ l) (records_take (before ++ buffer_of r ∷ []) rs n)

-- the first of some records that are held are held
pub held_take : {A : Type 0} (before : List (List ℕ)) (rs : List (Record A)) (n : ℕ) → AreHeldAfter before rs → AreHeldAfter before (take n rs)
held_take before rs zero held = tt
held_take before [] (suc n) held = tt
held_take before (r ∷ rs) (suc n) held = (held.0, held_take (before ++ buffer_of r ∷ []) rs n held.1)

-- as many records are listed as are kept
pub records_length : {A : Type 0} (before : List (List ℕ)) (rs : List (Record A)) → length (records_after before rs) ≡ length rs
records_length before [] = refl
records_length before (r ∷ rs) = ap suc (records_length (before ++ buffer_of r ∷ []) rs)

-- the record of a number, by the buffers before it
pub record_is : {A : Type 0} (before : List (List ℕ)) (rs : List (Record A)) (i : ℕ) (d : PageRecord) (e : Record A) → i < length rs
    → get_or (records_after before rs) i d ≡ record_in (before ++ take i (buffers_of_records rs)) (get_or rs i e)
record_is before [] i d e lt = absurd (omega arith)
record_is before (r ∷ rs) zero d e lt = ap (λ b. record_in b r) (sym (append-nil before))
record_is before (r ∷ rs) (suc i) d e lt =
    record_is (before ++ buffer_of r ∷ []) rs i d e (omega arith)
    ∙ ap (λ b. record_in b (get_or rs i e)) (append_assoc before (buffer_of r ∷ []) (take i (buffers_of_records rs)))

-- a record's content lies where it says, in the buffers up to it
pub held_is : {A : Type 0} (before : List (List ℕ)) (rs : List (Record A)) (i : ℕ) (e : Record A) → i < length rs → AreHeldAfter before rs
    → IsHeld (before ++ take i (buffers_of_records rs)) (get_or rs i e)
held_is before [] i e lt held = absurd (omega arith)
held_is before (r ∷ rs) zero e lt held = subst (λ b. IsHeld b r) (sym (append-nil before)) held.0
held_is before (r ∷ rs) (suc i) e lt held =
    subst (λ b. IsHeld b (get_or rs i e)) (append_assoc before (buffer_of r ∷ []) (take i (buffers_of_records rs)))
    (held_is (before ++ buffer_of r ∷ []) rs i e (omega arith) held.1)

-- a span of the first buffers, in all of them
within_all : (buffers : List (List ℕ)) (i : ℕ) (s : Span) → IsWithin (take i buffers) s
    → IsWithin buffers s × (bytes_at (take i buffers) s ≡ bytes_at buffers s)
within_all buffers i s is =
    let there : get_or (take i buffers) s.owner [] ≡ get_or buffers s.owner [] =
    get_or-take i buffers s.owner [] (omega (arith, is.has_owner, length-take i buffers)) in (
      record {
        has_owner = omega (arith, is.has_owner, length-take i buffers);
        has_order = is.has_order;
        has_bytes = subst (λ (b : List ℕ). s.end ≤ length b) there is.has_bytes;
      },
      ap (λ (b : List ℕ). take (s.end - s.start) (drop s.start b)) there,
    )

content_all : {A : Type 0} (buffers : List (List ℕ)) (i : ℕ) (r : Record A) → IsHeld (take i buffers) r
    → IsHeld buffers r × (content_in (take i buffers) r ≡ content_in buffers r)
content_all buffers i (Zeros block page) is = (tt, refl)
content_all buffers i (Kept block page end buffer) is = (is, refl)
content_all buffers i (Behind block page s) is = let all = within_all buffers i s is in (all.0, ap (λ (b : List ℕ). Some b) all.1)
content_all buffers i (Lent block page bytes) is = (tt, refl)

-- what a record has of its page, by the buffers of all
held_first : {A : Type 0} (rs : List (Record A)) (i : ℕ) (r : Record A) → i < length rs → r ≡ get_or rs i r → AreHeldAfter [] rs
    → IsHeld (take i (buffers_of_records rs)) r
held_first {A} rs i r lt is held = subst (λ (x : Record A). IsHeld (take i (buffers_of_records rs)) x) (sym is) (held_is [] rs i r lt held)

-- each of the records that are held is held
pub held_there : {A : Type 0} (rs : List (Record A)) (i : ℕ) (r : Record A) → i < length rs → r ≡ get_or rs i r
    → AreHeldAfter [] rs → IsHeld (buffers_of_records rs) r
held_there rs i r lt is held = (content_all (buffers_of_records rs) i r (held_first rs i r lt is held)).0

-- a record's content, read from the buffers of all records, is its own
pub content_there : {A : Type 0} (rs : List (Record A)) (i : ℕ) (d : PageRecord) (r : Record A) → i < length rs → r ≡ get_or rs i r → AreHeldAfter [] rs
    → content_in (buffers_of_records rs) r ≡ (get_or (records_after [] rs) i d).content
content_there {A} rs i d r lt is held =
    let buffers : List (List ℕ) = buffers_of_records rs in
    sym (ap (λ (x : PageRecord). x.content) (record_is [] rs i d r lt) ∙ ap (λ (x : Record A). content_in (take i buffers) x) (sym is)
    ∙ (content_all buffers i r (held_first rs i r lt is held)).1)

-- and where the page is
pub place_there : {A : Type 0} (rs : List (Record A)) (i : ℕ) (d : PageRecord) (r : Record A) → i < length rs → r ≡ get_or rs i r
    → (get_or (records_after [] rs) i d).place ≡ place_of r
place_there {A} rs i d r lt is = ap (λ (x : PageRecord). x.place) (record_is [] rs i d r lt) ∙ ap (λ (x : Record A). place_of x) (sym is)

-- ---- buffers that grow

-- as many buffers, and each span of them has the bytes that it had
abbrev pub KeepsSpans : List (List ℕ) → List (List ℕ) → Type 0
KeepsSpans old new = (length new ≡ length old) × ((s : Span) → IsWithin old s → IsWithin new s × (bytes_at new s ≡ bytes_at old s))

last_at : (xs : List (List ℕ)) (x : List ℕ) (i : ℕ) → i ≡ length xs → get_or (xs ++ x ∷ []) i [] ≡ x
last_at [] x i is = rw is refl
last_at (y ∷ xs) x i is = rw is (last_at xs x (length xs) refl)

-- a span that is there in both, if its buffers have the same bytes at it
span_kept : (old new : List (List ℕ)) (s : Span) (x y : List ℕ) → IsWithin old s → get_or old s.owner [] ≡ x
    → get_or new s.owner [] ≡ y → s.owner < length new → s.end ≤ length y
    → take (s.end - s.start) (drop s.start y) ≡ take (s.end - s.start) (drop s.start x) → IsWithin new s × (bytes_at new s ≡ bytes_at old s)
span_kept old new s x y is was now lt fits same = (
  record { has_owner = lt; has_order = is.has_order; has_bytes = subst (λ (b : List ℕ). s.end ≤ length b) (sym now) fits },
  ap (λ (b : List ℕ). take (s.end - s.start) (drop s.start b)) now ∙ same ∙ ap (λ (b : List ℕ). take (s.end - s.start) (drop s.start b)) (sym was),
)

kept_more : (old new : List (List ℕ)) (x : List ℕ) → KeepsSpans old new → KeepsSpans (old ++ x ∷ []) (new ++ x ∷ [])
kept_more old new x keeps = (
  omega (arith, keeps.0, length-append old (x ∷ []), length-append new (x ∷ [])),
  λ s is. elim (cases_lt s.owner (length old)) [
    | inl lt ↦
        let was : get_or (old ++ x ∷ []) s.owner [] ≡ get_or old s.owner [] = get_or_append_left old (x ∷ []) [] s.owner lt in
        let now : get_or (new ++ x ∷ []) s.owner [] ≡ get_or new s.owner [] = get_or_append_left new (x ∷ []) [] s.owner (omega (arith, keeps.0)) in
        let here : IsWithin old s = record {
          has_owner = lt;
          has_order = is.has_order;
          has_bytes = subst (λ (b : List ℕ). s.end ≤ length b) was is.has_bytes;
        } in
        let both = keeps.1 s here in
        span_kept (old ++ x ∷ []) (new ++ x ∷ []) s (get_or old s.owner []) (get_or new s.owner []) is was now
        (omega (arith, length-append new (x ∷ []), both.0.has_owner)) both.0.has_bytes both.1
    | inr le ↦
        let at : s.owner ≡ length old = omega (arith, le, is.has_owner, length-append old (x ∷ [])) in
        let was : get_or (old ++ x ∷ []) s.owner [] ≡ x = last_at old x s.owner at in
        span_kept (old ++ x ∷ []) (new ++ x ∷ []) s x x is was (last_at new x s.owner (at ∙ sym keeps.0))
        (omega (arith, at, keeps.0, length-append new (x ∷ [])))
        (subst (λ (b : List ℕ). s.end ≤ length b) was is.has_bytes) refl
  ],
)

-- some bytes of a list that has others after them
bytes_front : (xs ys : List ℕ) (start end : ℕ) → start ≤ end → end ≤ length xs → take (end - start) (drop start (xs ++ ys)) ≡ take (end - start) (drop start xs)
bytes_front xs ys start end order fits =
    ap (take (end - start)) (drop-append-le start xs ys (omega (arith, order, fits)))
    ∙ take-append-le (end - start) (drop start xs) ys (omega (arith, length-drop start xs))

grown_last : (before : List (List ℕ)) (x more : List ℕ) → KeepsSpans (before ++ x ∷ []) (before ++ (x ++ more) ∷ [])
grown_last before x more = (
  omega (arith, length-append before (x ∷ []), length-append before ((x ++ more) ∷ [])),
  λ s is. elim (cases_lt s.owner (length before)) [
    | inl lt ↦
        let was : get_or (before ++ x ∷ []) s.owner [] ≡ get_or before s.owner [] = get_or_append_left before (x ∷ []) [] s.owner lt in
        let now : get_or (before ++ (x ++ more) ∷ []) s.owner [] ≡ get_or before s.owner [] = get_or_append_left before ((x ++ more) ∷ []) [] s.owner lt in
        span_kept (before ++ x ∷ []) (before ++ (x ++ more) ∷ []) s (get_or before s.owner [])
        (get_or before s.owner []) is was now (omega (arith, length-append before ((x ++ more) ∷ [])))
        (subst (λ (b : List ℕ). s.end ≤ length b) was is.has_bytes) refl
    | inr le ↦
        let at : s.owner ≡ length before = omega (arith, le, is.has_owner, length-append before (x ∷ [])) in
        let was : get_or (before ++ x ∷ []) s.owner [] ≡ x = last_at before x s.owner at in
        let fits : s.end ≤ length x = subst (λ (b : List ℕ). s.end ≤ length b) was is.has_bytes in
        span_kept (before ++ x ∷ []) (before ++ (x ++ more) ∷ []) s x (x ++ more) is was (last_at before (x ++ more) s.owner at)
        (omega (arith, at, length-append before ((x ++ more) ∷ [])))
        (omega (arith, fits, length-append x more)) (bytes_front x more s.start s.end is.has_order fits)
  ],
)

record_kept : {A : Type 0} (old new : List (List ℕ)) (r : Record A) → KeepsSpans old new → IsHeld old r → IsHeld new r × (record_in new r ≡ record_in old r)
record_kept old new (Zeros block page) keeps is = (tt, refl)
record_kept old new (Kept block page end buffer) keeps is = (is, refl)
record_kept old new (Behind block page s) keeps is = let both = keeps.1 s is in
    (both.0, ap (λ (b : List ℕ). record { place = place_at block page; content = Some b }) both.1)
record_kept old new (Lent block page bytes) keeps is = (tt, refl)

records_kept : {A : Type 0} (old new : List (List ℕ)) (rs : List (Record A)) → KeepsSpans old new → AreHeldAfter old rs
    → AreHeldAfter new rs × (records_after new rs ≡ records_after old rs)
records_kept old new [] keeps held = (tt, refl)
records_kept old new (r ∷ rs) keeps held =
    let first = record_kept old new r keeps held.0 in
    let others = records_kept (old ++ buffer_of r ∷ []) (new ++ buffer_of r ∷ []) rs (kept_more old new (buffer_of r) keeps) held.1 in (
      (first.0, others.0),
      ap (λ (x : PageRecord). x ∷ records_after (new ++ buffer_of r ∷ []) rs) first.1 ∙ ap (λ (l : List PageRecord). record_in old r ∷ l) others.1,
    )

-- a record whose buffer has grown, in its place
pub records_grown : {A : Type 0} (before : List (List ℕ)) (rs : List (Record A)) (o : ℕ) (d new : Record A) (more : List ℕ)
    → o < length rs → IsGrown (get_or rs o d) new more
    → AreHeldAfter before rs → AreHeldAfter before (set rs o new) × (records_after before (set rs o new) ≡ records_after before rs)
records_grown before [] o d new more lt grown held = absurd (omega arith)
records_grown before (r ∷ rs) zero d new more lt grown held =
    let first = grown.says_the_same before held.0 in
    let others = subst (λ (b : List ℕ). AreHeldAfter (before ++ b ∷ []) rs
    × (records_after (before ++ b ∷ []) rs ≡ records_after (before ++ buffer_of r ∷ []) rs)) (sym grown.has_buffer)
    (records_kept (before ++ buffer_of r ∷ []) (before ++ (buffer_of r ++ more) ∷ []) rs (grown_last before (buffer_of r) more) held.1) in (
      (first.0, others.0),
      ap (λ (x : PageRecord). x ∷ records_after (before ++ buffer_of new ∷ []) rs) first.1 ∙ ap (λ (l : List PageRecord). record_in before r ∷ l) others.1,
    )
records_grown before (r ∷ rs) (suc o) d new more lt grown held =
    let others = records_grown (before ++ buffer_of r ∷ []) rs o d new more (omega arith) grown held.1 in
    ((held.0, others.0), ap (λ (l : List PageRecord). record_in before r ∷ l) others.1)

-- the bytes that it grew by
pub span_grown : {A : Type 0} (rs : List (Record A)) (o : ℕ) (d new : Record A) (more : List ℕ) (s : Span) → o < length rs
    → IsGrown (get_or rs o d) new more → s.owner ≡ o
    → s.start ≡ length (buffer_of (get_or rs o d)) → s.end ≡ length (buffer_of new)
    → IsWithin (buffers_of_records (set rs o new)) s × (bytes_at (buffers_of_records (set rs o new)) s ≡ more)
span_grown {A} rs o d new more s lt grown at from to =
    let old : List ℕ = buffer_of (get_or rs o d) in
    let buffers : List (List ℕ) = buffers_of_records (set rs o new) in
    let there : get_or buffers s.owner [] ≡ old ++ more =
    ap (λ (i : ℕ). get_or buffers i []) at
    ∙ ap (λ (l : List (List ℕ)). get_or l o []) (map-set (λ (r : Record A). buffer_of r) rs o new)
    ∙ get_or-set_same (buffers_of_records rs) o (buffer_of new) [] (omega (arith, length-map rs (λ (r : Record A). buffer_of r)))
    ∙ grown.has_buffer in
    let long : s.end ≡ length old + length more = to ∙ ap (λ (b : List ℕ). length b) grown.has_buffer ∙ length-append old more in
    let count : length buffers ≡ length rs = length-map (set rs o new) (λ (r : Record A). buffer_of r) ∙ length-set rs o new in (
      record {
        has_owner = omega (arith, at, count);
        has_order = omega (arith, from, long);
        has_bytes = subst (λ (b : List ℕ). s.end ≤ length b) (sym there) (omega (arith, long, length-append old more));
      },
      ap (λ (b : List ℕ). take (s.end - s.start) (drop s.start b)) there
          ∙ ap (λ (n : ℕ). take (s.end - s.start) (drop n (old ++ more))) from
          ∙ ap (λ (l : List ℕ). take (s.end - s.start) l) (drop-append_seam old more)
          ∙ take_all (s.end - s.start) more (omega (arith, from, long)),
    )

-- ---- rounds

-- a round that ends keeps each content whole: its records become the last round
pub round_ended : (size : ℕ) (records dest : List PageRecord) (rounds new : List (List PageRecord)) → AreWhole size records × All (AreWhole size) rounds
    → dest ≡ [] → new ≡ rounds ++ records ∷ [] → AreWhole size dest × All (AreWhole size) new
round_ended size records dest rounds new are none is = (
  subst (AreWhole size) (sym none) (All-nil (λ (r : PageRecord). IfSome r.content (λ bytes. length bytes ≡ size))),
  subst (All (AreWhole size)) (sym is) (All-push (AreWhole size) rounds records are.1 are.0),
)
