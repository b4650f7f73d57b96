use Rattle.std.proofs.Common.{ℕ, ◌≡◌, ◌∙◌, List, length, replicate, sym, ap, arith, vec_len}
use Rattle.mig_mem.proofs.Leaves.{length-numbers, zero_numbers}
use Rattle.mig_mem.proofs.slots.Slots.clear.Goals as goal

pub returns : goal.returns
returns g c =
    let s = c.self.inside in
    let many : s.count ≡ length c.args.self.now = sym (length-numbers 512 s.count s.leaves.items s.numbers.items)
    ∙ ap (λ (l : List ℕ). length l) c.self.view_is in
    rw (c.fill.ensures.items, c.clear.ensures.items)
    (zero_numbers 512 s.count (vec_len s.leaves) (omega arith) (omega (arith, c.self.invariant.enough, s.leaves.ok.0))
    ∙ ap (λ (n : ℕ). replicate n 0) many)
