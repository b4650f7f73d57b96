use Rattle.std.proofs.Common.{◌≡◌, ℕ, List, ap, length, drop, arith}
use Rattle.std.proofs.lemmas.Bool.{leb-true, le-leb}
use Rattle.std.proofs.lemmas.List.{drop_all, length-drop}
use Rattle.mig_c_calls.proofs.waiting.Waiting.is_empty.Goals as goal

pub returns : goal.returns
returns c =
    let given : ℕ = c.args.self.now.given in
    let bytes : List ℕ = c.args.self.now.bytes.items in
    let long : c.len.result ≡ length bytes = omega (arith, c.len.ensures, c.args.self.now.bytes.ok.0) in (
      λ past. drop_all given bytes (omega (arith, leb-true c.len.result given past, long)),
      λ none. let len : length (drop given bytes) ≡ 0 = ap (λ (l : List ℕ). length l) none in
          le-leb c.len.result given (omega (arith, len, length-drop given bytes, long)),
    )
