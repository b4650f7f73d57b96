-- What is known of the front that some bytes begin with.
use Rattle.std.proofs.Common.{ℕ, ◌≡◌, ◌<◌, ◌≤◌, ◌^◌, List, Option, Some, None, sym, ap, subst}
use Rattle.std.specs.Prelude.{IfNone}
use Rattle.mig_mapped.specs.declared.front.MappedFront.{MappedFront}
use Rattle.mig_mapped.specs.Front.{HasFront}

-- its blocks have some bytes together, and at most 1 TiB
pub front_total : (bytes : List ℕ) (front : MappedFront) → HasFront bytes front → (0 < front.total) × (front.total ≤ 2 ^ 40)
front_total bytes front has =
    let t = has.1.is_front.has_total in
    let same = sym (ap (λ (x : MappedFront). x.total) has.1.has_offsets) in
    (subst (λ (n : ℕ). 0 < n) same t.is_some, subst (λ (n : ℕ). n ≤ 2 ^ 40) same t.is_limited)

-- where each front that they begin with would be found, and none is, they begin with none
pub none_found : (bytes : List ℕ) (found : Option MappedFront) → ((front : MappedFront) → HasFront bytes front → found ≡ Some front)
    → IfNone found ((front : MappedFront) → HasFront bytes front → ⊥)
none_found bytes None all = λ front has. absurd (let clash = all front has in cc)
none_found bytes (Some x) all = tt
