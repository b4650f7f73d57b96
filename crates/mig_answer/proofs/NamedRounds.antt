-- The places that the rounds of a load on several channels named, round after round.
use Rattle.std.proofs.Common.{ℕ, ◌≡◌, ◌+◌, List, [], ◌∷◌, ◌++◌, map, sym, ap, ◌∙◌, Option, Some, None, refl, arith}
use Rattle.std.specs.List.{flat_map, range_with_len}
use Rattle.std.specs.Option.{option_map}
use Rattle.std.proofs.lemmas.List.{append-nil}
use Rattle.std.proofs.lemmas.List.Concat.{flat_map-append}
use Rattle.std.proofs.lemmas.List.FromFn.{map-range_with_len_more}
use Rattle.mig_mem.specs.declared.place.Place.{Place}
use Rattle.mig_mem.specs.RamTable.{RamTable}
use Rattle.mig_mem.specs.PlaceSet.{PlaceSet}
use Rattle.mig_mem.specs.Image.{Page}
use Rattle.mig_assemble.specs.Judging.{places_of}
use Rattle.mig_assemble.specs.NamedPlaces.{named_by, left_out}
use Rattle.mig_assemble.specs.Target.{none_named}
use Rattle.mig_assemble.proofs.Naming.{named_by-nil, missing_is}
use Rattle.mig_answer.specs.Texts.{Readings}
use Rattle.mig_answer.specs.Rounds.{pages_at, places_in_rounds, named_at, missing_after, missing_at}

-- no round names a place
pub named_at_first : (table : RamTable) (readings : Readings) → readings.main.table ≡ Some table → named_at 0 readings ≡ Some (none_named table)
named_at_first table readings is =
    ap (option_map (λ t. named_by t (map (λ i. pages_at t i readings) (range_with_len 0 0)))) is ∙ ap (λ (s : PlaceSet). Some s) (sym (named_by-nil table))

-- one round more
pub rounds_more : (table : RamTable) (k : ℕ) (readings : Readings)
    → places_in_rounds table (k + 1) readings ≡ places_in_rounds table k readings ++ places_of (pages_at table k readings)
rounds_more table k readings =
    let rounds : List (List Page) = map (λ i. pages_at table i readings) (range_with_len 0 k) in
    let last : List Page = pages_at table k readings in
    ap (λ (l : List (List Page)). flat_map places_of l) (map-range_with_len_more (λ i. pages_at table i readings) 0 k k (omega arith))
    ∙ flat_map-append places_of rounds (last ∷ [])
    ∙ ap (λ (l : List Place). flat_map places_of rounds ++ l) (append-nil (places_of last))

-- ---- the pages that none named

-- they are those that the set lacks
pub counted_missing : (readings : Readings) (k : ℕ) (named : PlaceSet) → Some named ≡ named_at k readings
    → Some (left_out named.table named.marked) ≡ missing_at k readings
counted_missing readings k named is = go readings.main.table is
  where
    go : (o : Option RamTable) → Some named ≡ option_map (λ t. named_by t (map (λ i. pages_at t i readings) (range_with_len 0 k))) o
        → Some (left_out named.table named.marked) ≡ option_map (λ t. missing_after t k readings) o
    go None e = absurd cc
    go (Some t) e =
        let names : named ≡ named_by t (map (λ i. pages_at t i readings) (range_with_len 0 k)) = cc in
        ap (λ (m : ℕ). Some m) (missing_is t (places_in_rounds t k readings) named names)

-- without a table there are none
pub no_missing : (readings : Readings) (k : ℕ) → None ≡ named_at k readings → None ≡ missing_at k readings
no_missing readings k is = go readings.main.table is
  where
    go : (o : Option RamTable) → None ≡ option_map (λ t. named_by t (map (λ i. pages_at t i readings) (range_with_len 0 k))) o
        → None ≡ option_map (λ t. missing_after t k readings) o
    go None e = refl
    go (Some t) e = absurd cc
