use Rattle.std.proofs.Common.{◌≡◌, ◌==◌, ℕ, List, take, Option, None, Some, IfOk, sym, subst, arith}
use Rattle.std.proofs.lemmas.Bool.{cond-false, ne_eqb}
use Rattle.mig_c_calls.specs.Sending as one
use Rattle.mig_c_calls.specs.Send.{name_of}
use Rattle.mig_c_calls.proofs.send.made_one.Goals as goal

pub returns : goal.returns
returns c =
    let asked = c.args.asked.now in
    let name : List ℕ = take asked.name_len asked.name in
    let is : name_of asked ≡ Some name =
    cond-false (asked.named == 0) None (Some name) (ne_eqb asked.named 0 (λ none. absurd (omega (arith, none, c.if-asked-eq0.false)))) in
    subst (λ (o : Option (List ℕ)). IfOk c.new_named.result (λ s. one.Starts o (Some c.args.table.now) (Some s))) (sym is)
    (subst (λ (l : List ℕ). IfOk c.new_named.result (λ s. one.Starts (Some l) (Some c.args.table.now) (Some s))) c.name_bytes.ensures c.new_named.ensures)
