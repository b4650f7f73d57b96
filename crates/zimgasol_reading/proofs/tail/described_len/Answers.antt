use Rattle.std.proofs.Common.{rules, ℕ, ◌≡◌, ◌<◌, List, [], ◌∷◌, get_or}
use Rattle.std.specs.Int.{w32, from_be_bytes}
use Rattle.zimgasol_reading.proofs.TailHead.{headed_by}
use Rattle.zimgasol_reading.proofs.tail.described_len.Goals as goal

pub returns-in-0-clause-some : goal.returns-in-0-clause-some
returns-in-0-clause-some c =
    let bytes : List ℕ = c.args.bytes.now in
    let is_end : get_or bytes 0 0 ≡ 0 = search rules in
    let is_kind : get_or bytes 1 0 ≡ 6 = search rules in
    let is_brace : get_or bytes 6 0 ≡ 123 = search rules in
    let is_quote : get_or bytes 7 0 ≡ 34 = search rules in
    let is_len : c.from.result ≡ from_be_bytes w32 (get_or bytes 2 0 ∷ get_or bytes 3 0 ∷ get_or bytes 4 0 ∷ get_or bytes 5 0 ∷ []) = search rules in
    let small : (i : ℕ) → get_or bytes i 0 < 256 = λ i. search (rules, c.type_inv.bytes i) in
    (search rules, headed_by bytes c.from.result c.in-0.len_at_least small is_end is_kind is_brace is_quote is_len)
