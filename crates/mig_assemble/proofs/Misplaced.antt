-- One walk finds the packet of least number among those whose pages are misplaced.
use Rattle.std.proofs.Common.{◌≡◌, ◌<◌, ◌≤◌, List, [], ◌∷◌, ◌++◌, refl, sym, ap, ◌∙◌, Option, Some, None, Bool, true, false, subst}
use Rattle.std.specs.Prelude.{filter, nat_lt, Contains}
use Rattle.std.specs.List.{All}
use Rattle.std.specs.Option.{option_and_then, is_some}
use Rattle.std.specs.Cmp.{IsStrictWeakOrder}
use Rattle.std.proofs.lemmas.Bool.{cond-true, cond-false, lt-ltb, le-ltb}
use Rattle.std.proofs.lemmas.List.{append-nil}
use Rattle.std.proofs.lemmas.List.Elements.{filter-append}
use Rattle.std.proofs.lemmas.List.Sorted.{IsStrictWeakOrder-by_number}
use Rattle.mig_mem.specs.RamTable.{RamTable}
use Rattle.mig_packet.specs.Packet.{Fields}
use Rattle.mig_assemble.specs.declared.fault.RoundFault.{RoundFault}
use Rattle.mig_assemble.specs.Judging.{least, lesser, place_fault, least_misplaced, least_place_fault}
use Rattle.mig_assemble.proofs.Elements.{contains_none, contains_filter, filter_contains, all_from}
use Rattle.mig_assemble.proofs.Least.{newer, least-is, least-push}

abbrev number_lt : Fields → Fields → Bool
number_lt p q = nat_lt p.number q.number

number_order : IsStrictWeakOrder number_lt
number_order = IsStrictWeakOrder-by_number (λ (q : Fields). q.number)

module _ (table : RamTable) where
  abbrev is_bad : Fields → Bool
  is_bad q = is_some (place_fault table q)

  -- a packet that lies right changes nothing
  pub kept : (ps : List Fields) (q : Fields) → place_fault table q ≡ None → least_misplaced table (ps ++ q ∷ []) ≡ least_misplaced table ps
  kept ps q none = ap (λ (l : List Fields). least number_lt l)
      (filter-append is_bad ps (q ∷ []) ∙ ap (λ (l : List Fields). filter is_bad ps ++ l) one ∙ append-nil (filter is_bad ps))
    where
      one : filter is_bad (q ∷ []) ≡ []
      one = cond-false (is_bad q) (q ∷ []) [] (ap (λ (o : Option RoundFault). is_some o) none)

  -- a misplaced packet is the new one, unless the old one has a number that is as low
  more : (ps : List Fields) (q : Fields) → is_bad q ≡ true → least_misplaced table (ps ++ q ∷ []) ≡ Some (newer number_lt (least_misplaced table ps) q)
  more ps q bad =
      ap (λ (l : List Fields). least number_lt l)
      (filter-append is_bad ps (q ∷ []) ∙ ap (λ (l : List Fields). filter is_bad ps ++ l) (cond-true (is_bad q) (q ∷ []) [] bad))
      ∙ least-push number_lt number_order (filter is_bad ps) q

  pub first_bad : (ps : List Fields) (q : Fields) → is_bad q ≡ true → None ≡ least_misplaced table ps → Some q ≡ least_misplaced table (ps ++ q ∷ [])
  first_bad ps q bad none = sym (more ps q bad ∙ ap (λ (o : Option Fields). Some (newer number_lt o q)) (sym none))

  pub lesser_bad : (ps : List Fields) (m q : Fields) → is_bad q ≡ true → Some m ≡ least_misplaced table ps → q.number < m.number
      → Some q ≡ least_misplaced table (ps ++ q ∷ [])
  lesser_bad ps m q bad found lt =
      sym (more ps q bad ∙ ap (λ (o : Option Fields). Some (newer number_lt o q)) (sym found)
      ∙ ap (λ (z : Fields). Some z) (cond-true (nat_lt q.number m.number) q m (lt-ltb q.number m.number lt)))

  pub kept_bad : (ps : List Fields) (m q : Fields) → is_bad q ≡ true → Some m ≡ least_misplaced table ps → m.number ≤ q.number
      → Some m ≡ least_misplaced table (ps ++ q ∷ [])
  kept_bad ps m q bad found le =
      sym (more ps q bad ∙ ap (λ (o : Option Fields). Some (newer number_lt o q)) (sym found)
      ∙ ap (λ (z : Fields). Some z) (cond-false (nat_lt q.number m.number) q m (le-ltb q.number m.number le)))

  -- ---- if none is found

  bad_fault : (q : Fields) → is_bad q ≡ true → place_fault table q ≡ None → ⊥
  bad_fault q bad none = let no : is_bad q ≡ false = ap (λ (o : Option RoundFault). is_some o) none in absurd cc

  none_bad : (ps : List Fields) → least_place_fault table ps ≡ None → (l : List Fields) → filter is_bad ps ≡ l → l ≡ []
  none_bad ps none [] e = refl
  none_bad ps none (x ∷ xs) e =
      let m : Fields = lesser number_lt x (least number_lt xs) in
      let found : least_misplaced table ps ≡ Some m = ap (λ (l : List Fields). least number_lt l) e in
      let bad : is_bad m ≡ true = (filter_contains is_bad ps m (least-is number_lt number_order (filter is_bad ps) m found).0).1 in
      let fault : place_fault table m ≡ None = sym (ap (λ (o : Option Fields). option_and_then (place_fault table) o) found) ∙ none in
      absurd (bad_fault m bad fault)

  -- if no packet is misplaced, each has its pages in the table
  pub all_lawful : (ps : List Fields) → least_place_fault table ps ≡ None → All (λ q. place_fault table q ≡ None) ps
  all_lawful ps none = all_from ps (λ q. place_fault table q ≡ None) (λ q h. go q h (place_fault table q) refl)
    where
      go : (q : Fields) → Contains ps q → (o : Option RoundFault) → place_fault table q ≡ o → place_fault table q ≡ None
      go q h None is = is
      go q h (Some f) is =
          let in_bad : Contains (filter is_bad ps) q = contains_filter is_bad ps q h (ap (λ (r : Option RoundFault). is_some r) is) in
          contains_none q (subst (λ (l : List Fields). Contains l q) (none_bad ps none (filter is_bad ps) refl) in_bad)
