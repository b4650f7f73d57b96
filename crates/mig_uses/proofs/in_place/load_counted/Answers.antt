use Rattle.std.proofs.Common.{◌≡◌, ◌≤◌, All, MatchResult, sym, subst, ◌∙◌}
use Rattle.mig_mem.specs.Round.{IsRound, with_rounds}
use Rattle.mig_marking.specs.Marking.{Marked, seen, none_written}
use Rattle.mig_stream.specs.Text.{total_bytes}
use Rattle.mig_stream.specs.Written.{single}
use Rattle.mig_load_types.specs.declared.fault.Fault.TheVariants.{NoMemory as fault_no_memory}
use Rattle.mig_load_types.specs.declared.fault.LoadFault.{LoadFault}
use Rattle.mig_uses.proofs.Counting.{counted, told_err}
use Rattle.mig_uses.proofs.in_place.load_counted.Goals as goal

pub returns-in_err-marking : goal.returns-in_err-marking
returns-in_err-marking g c = λ rounds room are bytes is.
    let start : c.in-Ok.marking ≡ none_written (g.M.GuestTarget.image c.args.memory) = c.in-Ok.ensures.ok in
    let told = c.load_onto.ensures rounds
    (subst (λ (m : Marked). total_bytes (seen m).table ≤ c.args.limit) (sym start) room)
    (subst (λ (m : Marked). All (IsRound (seen m).table) rounds) (sym start) are)
    (subst (λ (m : Marked). c.args.text.now ≡ single (seen m).table rounds) (sym start) is) in
    let lacks = subst (λ r. MatchResult r (λ m. seen m ≡ with_rounds (seen c.in-Ok.marking) rounds)
    (λ fault. fault.fault ≡ fault_no_memory)) c.in_err-marking.was told in
    told_err _ c.from_residual.result c.from_residual.ensures (λ fault same. subst (λ (f : LoadFault). f.fault ≡ fault_no_memory) (sym same) lacks)

pub returns : goal.returns
returns g c = λ rounds room are bytes is.
    let first = g.M.GuestTarget.image c.args.memory in
    let start : c.in-Ok.marking ≡ none_written first = c.in-Ok.ensures.ok in
    let told = c.load_onto.ensures rounds
    (subst (λ (m : Marked). total_bytes (seen m).table ≤ c.args.limit) (sym start) room)
    (subst (λ (m : Marked). All (IsRound (seen m).table) rounds) (sym start) are)
    (subst (λ (m : Marked). c.args.text.now ≡ single (seen m).table rounds) (sym start) is) in
    let loaded : seen c.in_ok-marking.marking ≡ with_rounds (seen c.in-Ok.marking) rounds =
    subst (λ r. MatchResult r (λ m. seen m ≡ with_rounds (seen c.in-Ok.marking) rounds) (λ fault. fault.fault ≡ fault_no_memory)) c.in_ok-marking.was told in
    let all = counted first c.in_ok-marking.marking rounds c.in-Ok.ensures.image c.missing-missing.ensures.marked
    c.missing-missing.ensures.image c.missing-missing.ensures.set bytes
    (subst (λ (m : Marked). seen c.in_ok-marking.marking ≡ with_rounds (seen m) rounds) start loaded) in
    (c.into_parts-memory.ensures.memory ∙ all.0, c.missing-missing.ensures.value ∙ all.1)
