-- The records of the main stream's current round are taken.
use Rattle.std.proofs.Common.{ℕ, ◌≡◌, List, [], ◌∷◌, ◌++◌, length, map, Some, sym, ap, subst, ◌∙◌, inl, inr, arith}
use Rattle.std.specs.Prelude.{IsTrue, IsFalse}
use Rattle.std.specs.List.{All}
use Rattle.mig_mem.specs.RamTable.{RamTable}
use Rattle.mig_mem.specs.Place.{IsPlace}
use Rattle.mig_mem.specs.Image.{Page, Image}
use Rattle.mig_mem.specs.Round.{with_round}
use Rattle.mig_stream.specs.PageRecord.{PageRecord, page_of}
use Rattle.mig_stream.specs.Round.{RoundOfRecords}
use Rattle.mig_stream.specs.Reading.{Settings, StreamReading}
use Rattle.mig_stream.specs.Reader.{HasTable, HasRound}
use Rattle.mig_stream.proofs.Exists.{one_reading_law}
use Rattle.mig_stream.proofs.Limits.{limits_law}
use Rattle.mig_assemble.specs.Target.{FitsTable, pages_of_round}
use Rattle.mig_assemble.specs.Arrivals.{Records}
use Rattle.mig_answer.specs.Texts.{Text}
use Rattle.mig_in_place.specs.Round.{KeptRound, AlsoKeeps, KeepsSome}
use Rattle.mig_in_place.specs.Sources.{KeptMain, StandsAt, TakesRecords}
use Rattle.mig_in_place.specs.Session.{IsMainOf}

-- the round that was given
abbrev pub IsGiven : KeptMain → RoundOfRecords → Type 0
IsGiven m round = (given : Settings) (k : ℕ) (text : Text) → StandsAt given k text m
    → (round.page_size ≡ given.page_size) × HasRound given text.bytes k round.records

abbrev pub HasPlaces : KeptMain → RoundOfRecords → Type 0
HasPlaces m round = (given : Settings) (k : ℕ) (text : Text) (table : RamTable) → StandsAt given k text m
    → HasTable given text.bytes (Some table) → All (λ x. IsPlace table x.place) round.records

-- the round that the main stream's reader gave fits the table of the memory
pub fits : (table : RamTable) (m : KeptMain) (round : RoundOfRecords) → IsMainOf table m → IsGiven m round → HasPlaces m round → FitsTable table round
fits table m round is given places =
    let has = given is.given is.k is.text is.stands in
    elim is.is_own [
      | inr own ↦ record { has_page_size = has.0 ∙ is.has_page_size; has_places = places is.given is.k is.text table is.stands own }
      | inl none ↦ absurd (
          let one = one_reading_law is.given is.text.bytes is.is_page_size in
          let same : has.1.0 ≡ none.0 = one.2 has.1.0 has.1.1 ∙ sym (one.2 none.0 none.1) in
          let empty : none.0.rounds ≡ [] = (limits_law is.given is.text.bytes none.0 is.is_page_size none.1).has_table_first (sym none.2) in
          let count : length has.1.0.rounds ≡ 0 = ap (λ (x : StreamReading). length x.rounds) same ∙ ap (λ (l : List (List PageRecord)). length l) empty in
          let below = has.1.2 in omega (arith, count, below))
    ]

-- the same main stream, further on
pub main_still : (table : RamTable) (old new : KeptMain)
    → ((given : Settings) (k : ℕ) (text : Text) → StandsAt given k text old → StandsAt given k text new) → IsMainOf table old → IsMainOf table new
main_still table old new on is = record {
  given = is.given;
  k = is.k;
  text = is.text;
  stands = on is.given is.k is.text is.stands;
  is_page_size = is.is_page_size;
  has_page_size = is.has_page_size;
  is_own = is.is_own;
}

-- a round that keeps some arrivals keeps some with records added
pub also_records : (table : RamTable) (pages : List Page) (old new : KeptRound) → AlsoKeeps (Records pages) old new → KeepsSome table old → KeepsSome table new
also_records table pages old new also some = (some.0 ++ Records pages ∷ [], also table some.0 some.1)

-- with the records of a round kept, and written unless pages are known to be misplaced, the main
-- stream has the current round taken
pub takes_records : (given : Settings) (k : ℕ) (text : Text) (old new : KeptMain) (round : RoundOfRecords) (r after : KeptRound)
    (memory then : Image) → IsGiven old round → IsFalse old.is_whole × IsTrue new.is_whole
    → StandsAt given k text old → StandsAt given k text new → AlsoKeeps (Records (pages_of_round round)) r after → after.has_misplaced ≡ r.has_misplaced
    → (IsFalse r.has_misplaced → then ≡ with_round memory (pages_of_round round)) → (IsTrue r.has_misplaced → then ≡ memory)
    → TakesRecords given k text old r memory new after then
takes_records given k text old new round r after memory then is whole before stands also misplaced right wrong =
    let has = is given k text before in
    let pages : pages_of_round round ≡ map (page_of given.page_size) round.records = ap (λ (n : ℕ). map (page_of n) round.records) has.0 in
    record {
      records = round.records;
      has_records = has.1;
      was_open = whole.0;
      is_whole = whole.1;
      stands = stands;
      also = subst (λ (l : List Page). AlsoKeeps (Records l) r after) pages also;
      same_misplaced = misplaced;
      right = λ f. right f ∙ ap (λ (l : List Page). with_round memory l) pages;
      wrong = wrong;
    }
