use Rattle.std.proofs.Common.{ℕ, ◌∙◌, List, length, sym, ap}
use Rattle.mig_mem.proofs.Leaves.{length-numbers}
use Rattle.mig_mem.proofs.slots.Slots.len.Goals as goal

pub returns : goal.returns
returns g c =
    let s = c.self.inside in
    sym (length-numbers 512 s.count s.leaves.items s.numbers.items) ∙ ap (λ (l : List ℕ). length l) c.self.view_is
