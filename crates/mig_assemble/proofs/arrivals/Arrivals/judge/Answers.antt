use Rattle.std.proofs.Common.{◌≡◌, ◌∷◌, [], List, length, ℕ, Some, None, rules, refl, sym, ap, subst, ◌∙◌}
use Rattle.std.specs.Prelude.{Option, Result, OnOk, IfErr, ⊤, IsPermutation}
use Rattle.std.specs.Option.{option_map}
use Rattle.std.specs.Vec.{with_items}
use Rattle.std.proofs.lemmas.List.{with_items_is}
use Rattle.std.proofs.lemmas.List.Sorted.{length_permutation}
use Rattle.mig_mem.specs.First.{first_some}
use Rattle.mig_assemble.specs.declared.fault.RoundFault.{RoundFault}
use Rattle.mig_assemble.specs.declared.fault.RoundFault.TheVariants.{DoublePage}
use Rattle.mig_assemble.specs.Sorted.{number_refusal}
use Rattle.mig_assemble.specs.Arrivals.{RoundSoFar, HasCome, HasSame, IsJudged}
use Rattle.mig_assemble.proofs.Arriving.{judged, sorted_same}
use Rattle.mig_assemble.proofs.arrivals.Arrivals.judge.Goals as goal
use Rattle.mig_assemble.proofs.arrivals.Arrivals.judge.Goals.{in-Some, in-None}

pub returns-clause-lawful : goal.returns-clause-lawful
returns-clause-lawful g c =
    let i = c.self.inside in
    let old : RoundSoFar = record { numbers = i.numbers.items; misplaced = i.misplaced; double = i.double; seen = i.seen } in
    let wrong : c.unsorted_fault-wrong_number.result ≡ number_refusal c.args.base i.numbers.items = search rules in
    elim c.match-first_fault.branch [
      | in-Some w ↦ subst (λ (x : Result ⊤ RoundFault). OnOk x (IsJudged c.args.base c.args.self.now None)) (sym w.result-is) tt
      | in-None w ↦
          subst (λ (x : Result ⊤ RoundFault). OnOk x (IsJudged c.args.base c.args.self.now None)) (sym w.result-is)
          (λ table came has.
          judged table c.args.base came old (subst (λ (r : RoundSoFar). HasCome table came r) (sym c.self.view_is) has)
          ∙ ap (λ (n : Option RoundFault). first_some (n ∷ option_map (λ m. m.fault) i.misplaced ∷ option_map DoublePage i.double ∷ [])) (sym wrong)
          ∙ sym c.first_fault.ensures ∙ w.in-None.is)
    ]

pub returns-clause-refused : goal.returns-clause-refused
returns-clause-refused g c =
    let i = c.self.inside in
    let old : RoundSoFar = record { numbers = i.numbers.items; misplaced = i.misplaced; double = i.double; seen = i.seen } in
    let wrong : c.unsorted_fault-wrong_number.result ≡ number_refusal c.args.base i.numbers.items = search rules in
    elim c.match-first_fault.branch [
      | in-Some w ↦
          subst (λ (x : Result ⊤ RoundFault). IfErr x (λ fault. IsJudged c.args.base c.args.self.now (Some fault))) (sym w.result-is)
          (λ table came has.
          judged table c.args.base came old (subst (λ (r : RoundSoFar). HasCome table came r) (sym c.self.view_is) has)
          ∙ ap (λ (n : Option RoundFault). first_some (n ∷ option_map (λ m. m.fault) i.misplaced ∷ option_map DoublePage i.double ∷ [])) (sym wrong)
          ∙ sym c.first_fault.ensures ∙ w.in-Some.is)
      | in-None w ↦ subst (λ (x : Result ⊤ RoundFault). IfErr x (λ fault. IsJudged c.args.base c.args.self.now (Some fault))) (sym w.result-is) tt
    ]

pub returns-clause-same : goal.returns-clause-same
returns-clause-same g c =
    let i = c.self.inside in
    let old : RoundSoFar = record { numbers = i.numbers.items; misplaced = i.misplaced; double = i.double; seen = i.seen } in
    let sorted : List ℕ = c.unsorted_fault-wrong_number.new.numbers in
    let perm : IsPermutation i.numbers.items sorted = search rules in
    let same_len : length i.numbers.items ≡ i.numbers.len = search rules in
    let kept : List ℕ = (with_items i.numbers sorted).items in
    let kept_is : kept ≡ sorted = with_items_is i.numbers sorted (length_permutation i.numbers.items sorted perm ∙ same_len) in
    let new : RoundSoFar = record { numbers = kept; misplaced = i.misplaced; double = i.double; seen = i.seen } in
    subst (λ (r : RoundSoFar). HasSame r new) c.self.view_is
    (sorted_same old new (subst (λ (l : List ℕ). IsPermutation i.numbers.items l) (sym kept_is) perm) refl refl refl)
