-- A piece is fed into blocks that C lends, whose open round is kept apart.
use Rattle.std.proofs.Common.{ℕ, ◌≡◌, ◌≢◌, ◌∙◌, ◌==◌, Bool, true, false, List, [], ◌∷◌, length, Some, refl, sym, ap, subst, inr, arith}
use Rattle.std.specs.Prelude.{Result, Err, IsTrue, ◌||◌}
use Rattle.std.proofs.lemmas.Bool.{ne_eqb, eqb-true}
use Rattle.mig_mem.specs.RamTable.{RamTable}
use Rattle.mig_mem.specs.PlaceSet.{PlaceSet}
use Rattle.mig_mem.specs.Image.{Image}
use Rattle.mig_mem.specs.Round.{with_round, round_of}
use Rattle.mig_mem.specs.Lent.{FitTable, lent_image}
use Rattle.mig_staged.specs.Staged.{Staging, Opened, staged}
use Rattle.mig_load_types.specs.declared.fault.InPlaceFault.{InPlaceFault}
use Rattle.mig_load_types.specs.declared.fault.InPlaceFault.TheVariants.{OtherTable, NoMemory}
use Rattle.mig_sources.specs.declared.source.Source.{Source}
use Rattle.mig_in_place.specs.Session.{InPlaceLoad}
use Rattle.mig_c_calls.specs.Status.{IsOneOf, done, no_memory, bad_source, is_over, too_long, bad_length}
use Rattle.mig_c_loads.specs.InPlaceSessions.{RefusesPiece}
use Rattle.mig_c_loads.specs.ByRounds.{RoundsLoad, FeedsKept, FeedsRounds}

-- there are two ways in which a piece is refused
pub other_way : (r : Result ℕ InPlaceFault) (e : InPlaceFault) → r ≡ Err e → (r ≡ Err OtherTable → ⊥) → r ≡ Err NoMemory
other_way r OtherTable is not = absurd (not is)
other_way r NoMemory is not = is

-- a memory with the pages of the open round, by its parts
same_staged : (s : Staging) (o : Opened) (kept : Image) → s.kept ≡ kept → (s.apart ≡ o.apart) × (s.named ≡ o.named)
    → staged s ≡ with_round kept (round_of o.apart o.named.marked)
same_staged s o kept k parts =
    ap (λ (m : Image). with_round m (round_of s.apart s.named.marked)) k
    ∙ ap (λ (a : Image). with_round kept (round_of a s.named.marked)) parts.0
    ∙ ap (λ (n : PlaceSet). with_round kept (round_of o.apart n.marked)) parts.1

-- ---- the statuses of a call that feeds

more : (a b others : Bool) → IsTrue (a || (b || false)) → IsTrue (a || (b || others))
more true b others is = refl
more false true others is = refl
more false false others is = absurd cc

-- the two of a piece that is fed are among those of the call
more_named : (n : ℕ) → IsOneOf (done ∷ no_memory ∷ []) n → IsOneOf (done ∷ no_memory ∷ bad_source ∷ is_over ∷ too_long ∷ bad_length ∷ []) n
more_named n is =
    more (done == n) (no_memory == n) ((bad_source == n) || ((is_over == n) || ((too_long == n) || ((bad_length == n) || false)))) is

second : (a b : Bool) → IsTrue (a || (b || false)) → a ≡ false → b ≡ true
second true b is no_first = absurd cc
second false true is no_first = refl
second false false is no_first = absurd cc

-- one that isn't the first of the two is the second
not_done : (n : ℕ) → IsOneOf (done ∷ no_memory ∷ []) n → n ≢ done → n ≡ no_memory
not_done n is other = sym (eqb-true no_memory n (second (done == n) (no_memory == n) is (ne_eqb done n (λ same. other (sym same)))))

neither : (n : ℕ) → IsOneOf (done ∷ no_memory ∷ []) n → n ≢ done → n ≢ no_memory → ⊥
neither n is other another = another (not_done n is other)

-- A load took bytes of a piece, or was refused an allocation, with the blocks before and after, and
-- the open round before and after.
pub rounds_fed : (from : Source) (piece : List ℕ) (before after : List (List ℕ)) (taken status : ℕ) (s0 s1 : Staging) (round0 round1 : Opened)
    (old new : InPlaceLoad)
    → RefusesPiece from (length piece) before done old
    → s0.kept ≡ lent_image old.table before → (s0.apart ≡ round0.apart) × (s0.named ≡ round0.named)
    → s1.kept ≡ lent_image new.table after → (round1.apart ≡ s1.apart) × (round1.named ≡ s1.named) → FitTable new.table after
    → FeedsKept from piece (staged s0) s0.kept (staged s1) s1.kept taken status old new
    → FeedsRounds from piece before after taken status (record { load = old; apart = Some round0 }) (record { load = new; apart = Some round1 })
rounds_fed from piece before after taken status s0 s1 round0 round1 old new may k0 p0 k1 p1 fit fed =
    let first : Image = lent_image old.table before in
    let last : Image = lent_image new.table after in
    let e0 : staged s0 ≡ with_round first (round_of round0.apart round0.named.marked) = same_staged s0 round0 first k0 p0 in
    let e1 : staged s1 ≡ with_round last (round_of round1.apart round1.named.marked) = same_staged s1 round1 last k1 (sym p1.0, sym p1.1) in
    let named : IsOneOf (done ∷ no_memory ∷ []) status = fed.feeds.is_named in
    let here : FeedsKept from piece (with_round first (round_of round0.apart round0.named.marked)) first
    (with_round last (round_of round1.apart round1.named.marked)) last taken status old new =
    subst (λ (m : Image). FeedsKept from piece m first (with_round last (round_of round1.apart round1.named.marked)) last taken status old new) e0
    (subst (λ (m : Image). FeedsKept from piece (staged s0) m (with_round last (round_of round1.apart round1.named.marked)) last taken status old new) k0
    (subst (λ (m : Image). FeedsKept from piece (staged s0) s0.kept m last taken status old new) e1
    (subst (λ (m : Image). FeedsKept from piece (staged s0) s0.kept (staged s1) m taken status old new) k1 fed))) in
    let never : (n : ℕ) → status ≡ n → n ≢ done → n ≢ no_memory → ⊥ =
    λ n e a b. neither n (subst (IsOneOf (done ∷ no_memory ∷ [])) e named) a b in
    record {
      is_named = more_named status named;
      feeds = λ e. subst (λ (n : ℕ). FeedsKept from piece (with_round first (round_of round0.apart round0.named.marked)) first
          (with_round last (round_of round1.apart round1.named.marked)) last taken n old new) e here;
      runs_out = λ e. inr (subst (λ (n : ℕ). FeedsKept from piece (with_round first (round_of round0.apart round0.named.marked)) first
          (with_round last (round_of round1.apart round1.named.marked)) last taken n old new) e here);
      none = λ other. fed.feeds.none (not_done status named other);
      same = λ a b. absurd (neither status named a b);
      same_table = fed.feeds.same_table;
      still_fit = λ _. subst (λ (t : RamTable). FitTable t after) fed.feeds.same_table fit;
      foreign = λ e. absurd (never bad_source e (λ x. omega (arith, x)) (λ x. omega (arith, x)));
      has_source = λ _. may.has_source (λ x. omega (arith, x));
      over = λ e. absurd (never is_over e (λ x. omega (arith, x)) (λ x. omega (arith, x)));
      goes_on = λ _ _. may.goes_on (λ x. omega (arith, x)) (λ x. omega (arith, x));
      long = λ e. absurd (never too_long e (λ x. omega (arith, x)) (λ x. omega (arith, x)));
      short = λ _ _ _. may.short (λ x. omega (arith, x)) (λ x. omega (arith, x)) (λ x. omega (arith, x));
      unfit = λ e. absurd (never bad_length e (λ x. omega (arith, x)) (λ x. omega (arith, x)));
      fits = λ _. may.fits refl;
    }
