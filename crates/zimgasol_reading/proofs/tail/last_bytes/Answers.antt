use Rattle.std.proofs.Common.{rules, ℕ, ◌≡◌, ◌-◌, List, ◌++◌, length, drop, ap, refl, ◌∙◌}
use Rattle.std.proofs.lemmas.List.{take_rest}
use Rattle.zimgasol_reading.proofs.TailLists.{last_parts}
use Rattle.zimgasol_reading.proofs.tail.last_bytes.Goals as goal

pub returns : goal.returns
returns c =
    let before : List ℕ = c.args.before.now in
    let piece : List ℕ = c.args.piece.now in
    let end : List ℕ = drop (length piece - 6) piece in
    let from : ℕ = c.saturating_sub-from.result in
    let first : c.in_ok-last.last.items ≡ drop from before = search (rules, take_rest) in
    let all : c.extend_from_slice.new.self.items ≡ c.in_ok-last.last.items ++ end = search (rules, take_rest) in
    let at : from ≡ length before - (6 - length end) = search (rules, take_rest) in
    all ∙ ap (λ (l : List ℕ). l ++ end) (first ∙ ap (λ (k : ℕ). drop k before) at) ∙ last_parts 6 before piece end refl
