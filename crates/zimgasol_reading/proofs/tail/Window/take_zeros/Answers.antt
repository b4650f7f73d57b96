use Rattle.std.proofs.Common.{rules, ℕ, ◌<◌, ◌∙◌, List, replicate, sym, ap}
use Rattle.std.proofs.lemmas.List.{length-replicate}
use Rattle.std.proofs.lemmas.Result.{on_ok_weaker}
use Rattle.zimgasol_reading.specs.TailSeen.{last_of}
use Rattle.zimgasol_reading.proofs.TailLists.{last_zeros, zeros_end}
use Rattle.zimgasol_reading.proofs.tail.Window.take_zeros.Goals as goal

pub returns : goal.returns
returns c =
    let count : ℕ = c.args.count in
    let some : 0 < count = search rules in
    on_ok_weaker c.restart.result (λ ensured. λ bytes small at. ensured bytes (replicate {A = ℕ} count 0) small (length-replicate {A = ℕ} count 0)
    (last_zeros count ∙ ap (λ (l : List ℕ). last_of 6 l) (sym c.zeros.ensures)) (zeros_end count some) at) c.restart.ensures
