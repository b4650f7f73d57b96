use Rattle.std.proofs.Common.{◌≡◌, ◌≤◌, All, MatchResult, sym, ap, subst, ◌∙◌}
use Rattle.mig_mem.specs.RamTable.{RamTable}
use Rattle.mig_mem.specs.Image.{Image, zero_image}
use Rattle.mig_mem.specs.Round.{IsRound, with_rounds}
use Rattle.mig_stream.specs.Text.{total_bytes}
use Rattle.mig_stream.specs.Written.{single}
use Rattle.mig_load_types.specs.declared.fault.Fault.TheVariants.{NoMemory as fault_no_memory}
use Rattle.mig_load_types.specs.declared.fault.LoadFault.{LoadFault}
use Rattle.mig_uses.proofs.Counting.{told_err}
use Rattle.mig_uses.proofs.in_place.load_fresh.Goals as goal

pub returns-in_err-fresh : goal.returns-in_err-fresh
returns-in_err-fresh g c = λ rounds room are is.
    let start : c.in-Ok-new.fresh ≡ zero_image c.args.table.now = c.in-Ok-new.ensures.ok ∙ c.in-Ok.ensures in
    let table : c.in-Ok-new.fresh.table ≡ c.args.table.now = ap (λ (m : Image). m.table) start in
    let told = c.load_onto.ensures rounds
    (subst (λ (t : RamTable). total_bytes t ≤ c.args.limit) (sym table) room)
    (subst (λ (t : RamTable). All (IsRound t) rounds) (sym table) are)
    (subst (λ (t : RamTable). c.args.text.now ≡ single t rounds) (sym table) is) in
    let lacks = subst (λ r. MatchResult r (λ m. m ≡ with_rounds c.in-Ok-new.fresh rounds) (λ fault. fault.fault ≡ fault_no_memory)) c.in_err-fresh.was told in
    told_err _ c.from_residual.result c.from_residual.ensures (λ fault same. subst (λ (f : LoadFault). f.fault ≡ fault_no_memory) (sym same) lacks)

pub returns : goal.returns
returns g c = λ rounds room are is.
    let start : c.in-Ok-new.fresh ≡ zero_image c.args.table.now = c.in-Ok-new.ensures.ok ∙ c.in-Ok.ensures in
    let table : c.in-Ok-new.fresh.table ≡ c.args.table.now = ap (λ (m : Image). m.table) start in
    let told = c.load_onto.ensures rounds
    (subst (λ (t : RamTable). total_bytes t ≤ c.args.limit) (sym table) room)
    (subst (λ (t : RamTable). All (IsRound t) rounds) (sym table) are)
    (subst (λ (t : RamTable). c.args.text.now ≡ single t rounds) (sym table) is) in
    let loaded = subst (λ r. MatchResult r (λ m. m ≡ with_rounds c.in-Ok-new.fresh rounds) (λ fault. fault.fault ≡ fault_no_memory)) c.in_ok-fresh.was told in
    c.into_memory.ensures ∙ loaded ∙ ap (λ (m : Image). with_rounds m rounds) start
