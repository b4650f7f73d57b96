use Rattle.std.proofs.Common.{ℕ, ◌≡◌, List, length, take, drop, refl, ap, ◌∙◌, arith, inl, inr}
use Rattle.zimgasol_mapped.proofs.Sparsely.{not_sparse, is_sparse}
use Rattle.zimgasol_mapped.proofs.opening.read_front.Goals as goal

pub returns-in_default-clause-front : goal.returns-in_default-clause-front
returns-in_default-clause-front g c = λ all known.
    let bytes : List ℕ = take c.in_ok-len.len c.read_at.new.buffer in
    let is : bytes ≡ take 262144 all =
    c.in_ok-len.ensures.bytes all known ∙ ap (λ (k : ℕ). take k all) (c.read_at.ensures.len ∙ c.requires) in
    record {
      begins = inr (not_sparse 262144 all bytes (omega arith) is (rw c.in_default.is at c.sparse_place.ensures.none), refl);
      are_first = is;
    }

pub returns-clause-front : goal.returns-clause-front
returns-clause-front g c = λ all known.
    let before = c.in-Some.before in
    let is : take c.in_ok-len.len c.read_at.new.buffer ≡ take 262144 all =
    c.in_ok-len.ensures.bytes all known ∙ ap (λ (k : ℕ). take k all) (c.read_at.ensures.len ∙ c.requires) in
    let room : length c.read_at-2.new.buffer ≡ 262144 = c.read_at-2.ensures.len ∙ c.read_at.ensures.len ∙ c.requires in
    record {
      begins = inl (is_sparse 262144 all (take c.in_ok-len.len c.read_at.new.buffer) before (omega arith) is c.in-Some.ensures.found);
      are_first = c.in_ok-len-2.ensures.bytes all (c.read_at.ensures.same ∙ known) ∙ ap (λ (k : ℕ). take k (drop before all)) room;
    }
