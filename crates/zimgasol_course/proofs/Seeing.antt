-- What a taker sees of a stream that is read in pieces.
use Rattle.std.proofs.Common.{ℕ, ◌≡◌, ◌≢◌, ◌≤◌, ◌+◌, ◌<◌, ◌^◌, false, List, ◌++◌, length, take, drop}
use Rattle.std.proofs.Common.{Option, Some, None, inl, inr, refl, sym, ap, ◌∙◌, subst, arith}
use Rattle.std.specs.Prelude.{OnOk, Result, Ok, Err, IfOk}
use Rattle.std.proofs.Math.Seq.{take-length}
use Rattle.std.proofs.lemmas.Bool.{cases_lt}
use Rattle.std.proofs.lemmas.List.{take-append-le, take-append-drop, drop-append-le, length-append, length-drop}
use Rattle.mig_mem.specs.RamTable.{RamTable}
use Rattle.mig_stream.specs.declared.item.StreamState.{StreamState}
use Rattle.mig_stream.specs.declared.item.StreamState.TheVariants.{Reading, Closed, Bad}
use Rattle.mig_stream.specs.PageRecord.{PageRecord}
use Rattle.mig_stream.specs.Progress.{StreamProgress, start}
use Rattle.mig_stream.specs.Reading.{Settings, Reads, IsReading}
use Rattle.mig_stream.specs.Reader.{HasState, IsClosedAt}
use Rattle.mig_stream.specs.Giving.{GivenSoFar, Paused, all_read, PausesAt}
use Rattle.mig_stream.proofs.Closing.{closed_is_first}
use Rattle.mig_stream.proofs.Later.{Reads-more}
use Rattle.mig_stream.proofs.Unique.{one_reading}
use Rattle.zimgasol_course.specs.Course.{Stands}
use Rattle.zimgasol_course.specs.Seen.{Seen, OfStream, AfterIt, StillSees, SeesPiece, SeesAfter, HasSeen}

abbrev from : Settings → StreamProgress
from given = start given.frame given.mode given.page_size given.limit given.waiting

-- ---- where a closed stream ends

-- a stream that goes on isn't closed by any of its first bytes
open_within : (given : Settings) (text : List ℕ) (so_far : GivenSoFar) (p : Paused) (m : ℕ) → PausesAt given text so_far p
    → HasState given (take m text) false Closed → ⊥
open_within given text so_far p m at s =
    let is : IsReading given (take m text) s.0 = s.1 in
    let there : Reads (from given) (take m text) is.to is.rest Closed =
    subst (λ (x : StreamState). Reads (from given) (take m text) is.to is.rest x) (sym s.2) is.reads in
    let on = Reads-more (from given) (take m text) is.to is.rest (drop m text) Closed (λ e. absurd cc) there in
    let whole : Reads (from given) text is.to (is.rest ++ drop m text) Closed =
    subst (λ (x : List ℕ). Reads (from given) x is.to (is.rest ++ drop m text) Closed) (take-append-drop m text) on in
    let here : Reads (from given) text (all_read so_far p.progress) p.pending Reading =
    record { front = at.front; has_text = at.has_text; leads = at.leads; ends = at.ends } in
    let same = one_reading (from given) text (all_read so_far p.progress) is.to p.pending (is.rest ++ drop m text) Reading Closed here whole in
    absurd (let e : Reading ≡ Closed = same.2 in cc)

-- so it is closed after them, or right behind them
closed_later : (given : Settings) (text piece : List ℕ) (so_far : GivenSoFar) (p : Paused) (n : ℕ) → PausesAt given text so_far p
    → IsClosedAt given (text ++ piece) n → length text ≤ n
closed_later given text piece so_far p n at c = elim (cases_lt n (length text)) [
  | inl lt ↦ absurd (within lt)
  | inr ge ↦ ge
]
  where
    within : n < length text → ⊥
    within lt = elim ((closed_is_first given (text ++ piece) n c).is_closed) [
      | inl closed ↦ open_within given text so_far p n at
          (subst (λ (l : List ℕ). HasState given l false Closed) (take-append-le n text piece (omega (arith, lt))) closed)
      | inr snapshot ↦ open_within given text so_far p (n + 1) at
          (subst (λ (l : List ℕ). HasState given l false Closed) (take-append-le (n + 1) text piece (omega (arith, lt))) snapshot.3)
    ]

-- where a stream that was read is closed
pub closed_at : (holds : Option RamTable → List PageRecord → Type 0) (given : Settings) (text : List ℕ) (pause : Option Paused) (found : StreamState)
    (sections valid : ℕ) → {begun : _} → Stands holds given text pause found sections valid begun → found ≡ Closed → IsClosedAt given text valid
closed_at holds given text pause found sections valid s closed =
    let h = s.has_reading in
    record { is_closed = (h.reading, h.is_reading, sym (h.has_state ∙ closed)); is_valid_up_to = s.has_valid }

pub closed_within : (given : Settings) (text : List ℕ) (n : ℕ) → IsClosedAt given text n → n ≤ length text
closed_within given text n c = (closed_is_first given text n c).fits

-- ---- what the taker has seen

pub still : (old new : Seen → Type 0) (text : List ℕ) (pause : Option Paused) (found : StreamState) (valid : ℕ) → StillSees old new
    → HasSeen old text pause found valid → HasSeen new text pause found valid
still old new text (Some pause) found valid keeps had = keeps (OfStream text) had
still old new text None Reading valid keeps had = tt
still old new text None Closed valid keeps had = keeps (AfterIt (drop valid text)) had
still old new text None (Bad fault) valid keeps had = tt

-- what a taker still sees, over two steps
pub still_on : (old mid new : Seen → Type 0) → StillSees old mid → StillSees mid new → StillSees old new
still_on old mid new one two = λ seen had. two seen (one seen had)

-- the stream goes on after a piece
pub sees_on : (old new : Seen → Type 0) (text piece : List ℕ) (valid : ℕ) (found : StreamState) → found ≡ Reading → length (text ++ piece) < 2 ^ 63
    → SeesPiece old new piece valid found → old (OfStream text) → new (OfStream (text ++ piece))
sees_on old new text piece valid found is few sees had = (subst (λ (s : StreamState). SeesPiece old new piece valid s) is sees) text few had

-- it is closed in a piece, or has a fault there
pub sees_over : (holds : Option RamTable → List PageRecord → Type 0) (old new : Seen → Type 0) (given : Settings) (text piece : List ℕ)
    (so_far : GivenSoFar) (p : Paused) (sections valid : ℕ) (found : StreamState) → {begun : _} → length (text ++ piece) < 2 ^ 63
    → PausesAt given text so_far p → Stands holds given (text ++ piece) None found sections valid begun
    → SeesPiece old new piece valid found → old (OfStream text) → HasSeen new (text ++ piece) None found valid
sees_over holds old new given text piece so_far p sections valid Reading few at s sees had = tt
sees_over holds old new given text piece so_far p sections valid (Bad fault) few at s sees had = tt
sees_over holds old new given text piece so_far p sections valid Closed few at s sees had =
    let c = closed_at holds given (text ++ piece) None Closed sections valid s refl in
    sees text few (closed_later given text piece so_far p valid at c) (closed_within given (text ++ piece) valid c) had

-- a piece after its end, or after its fault
pub sees_after : (old new : Seen → Type 0) (text piece : List ℕ) (valid : ℕ) (found : StreamState) → length (text ++ piece) < 2 ^ 63
    → (found ≡ Closed → valid ≤ length text) → SeesAfter old new piece
    → HasSeen old text None found valid → HasSeen new (text ++ piece) None found valid
sees_after old new text piece valid Reading few within sees had = tt
sees_after old new text piece valid (Bad fault) few within sees had = tt
sees_after old new text piece valid Closed few within sees had =
    subst (λ (l : List ℕ). new (AfterIt l)) (sym (drop-append-le valid text piece (within refl)))
    (sees (drop valid text) (omega (arith, few, length-append text piece, length-append (drop valid text) piece, length-drop valid text)) had)

-- nothing is seen of a stream after its fault
pub sees_bad : (sees : Seen → Type 0) (text : List ℕ) (pause : Option Paused) (found : StreamState) (valid : ℕ) → pause ≡ None → found ≢ Closed
    → HasSeen sees text pause found valid
sees_bad sees text (Some p) found valid none other = absurd cc
sees_bad sees text None Reading valid none other = tt
sees_bad sees text None Closed valid none other = absurd (other refl)
sees_bad sees text None (Bad fault) valid none other = tt

-- of a closed stream it has seen the bytes after it
pub closed_sees : (holds : Option RamTable → List PageRecord → Type 0) (sees : Seen → Type 0) (given : Settings) (text : List ℕ)
    (pause : Option Paused) (sections valid : ℕ) → {begun : _} → Stands holds given text pause Closed sections valid begun
    → HasSeen sees text pause Closed valid → sees (AfterIt (drop valid text))
closed_sees holds sees given text None sections valid s had = had
closed_sees holds sees given text (Some p) sections valid s had =
    let h = s.has_reading in
    let closed : HasState given text false Closed = (h.reading, h.is_reading, sym h.has_state) in
    absurd (open_within given text s.so_far p (length text) s.pauses
    (subst (λ (l : List ℕ). HasState given l false Closed) (sym (take-length text)) closed))
