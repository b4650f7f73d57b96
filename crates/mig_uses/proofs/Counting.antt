-- A stream that was loaded into a memory that marks its pages.
use Rattle.std.proofs.Common.{◌≡◌, List, refl, ap}
use Rattle.std.specs.Prelude.{All, Result, Ok, Err, MatchResult}
use Rattle.std.specs.Result.{IsErr, IsErrAnd}
use Rattle.mig_mem.specs.Image.{Page, Image, IsImage}
use Rattle.mig_mem.specs.PlaceSet.{IsPlaceSet}
use Rattle.mig_mem.specs.Round.{all_pages, with_rounds}
use Rattle.mig_marking.specs.Marking.{Marked, IsMarked, IsPageOfBytes, seen, none_written, with_written, missing}
use Rattle.mig_marking.proofs.Known.{written_is_seen}

none_marked : (first : Image) → IsMarked (none_written first)
none_marked first = record { same_table = refl; has_bytes = λ p has. absurd cc }

-- its pages are the rounds', and those that it lacks have no page there
pub counted : (first : Image) (m : Marked) (rounds : List (List Page)) → IsImage first → IsMarked m → IsImage m.memory → IsPlaceSet m.written
    → All (IsPageOfBytes first.table.page_size) (all_pages rounds) → seen m ≡ with_rounds (seen (none_written first)) rounds
    → (m.memory ≡ with_rounds first rounds) × (missing m ≡ missing (with_written (none_written first) (all_pages rounds)))
counted first m rounds was is image set are e =
    let all : m ≡ with_written (none_written first) (all_pages rounds) =
    written_is_seen (none_written first) m (all_pages rounds) (none_marked first) is was image set are e in
    (ap (λ (x : Marked). x.memory) all, ap (λ (x : Marked). missing x) all)

-- what holds of the error that was passed on
pub told_err : {X Y : Type 0} {P Q : Y → Type 0} (A : X → Type 0) (r : Result X Y) → IsErr r × IsErrAnd r P → ((y : Y) → P y → Q y) → MatchResult r A Q
told_err A (Ok x) is tells = absurd is.1
told_err A (Err y) is tells = tells y is.1
