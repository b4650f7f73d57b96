use Rattle.std.proofs.Common.{ℕ, ◌≡◌, ◌++◌, List, ap, sym, subst, ◌∙◌, length}
use Rattle.mig_send.specs.DealtRounds.{IsSending}
use Rattle.mig_send.specs.MultiSending.{texts_of, whole_texts}
use Rattle.mig_uses.specs.Migration.{drained_to, HaveEachAppended}
use Rattle.mig_uses.proofs.Arriving.{on_ok}
use Rattle.mig_uses.proofs.migration.finish.Goals as goal

pub returns : goal.returns
returns g c =
    let s = c.args.sender in
    let before = drained_to c.args.arrived.now in
    let rest = texts_of c.in-Ok.rest.channels.items in
    let main : c.extend_from_slice.new.self.items ≡ before.main ++ c.in-Ok.rest.main.items =
    c.in_ok-extend_from_slice.ensures.items ∙ ap (λ (l : List ℕ). before.main ++ l) c.deref.ensures.value in
    on_ok c.append_all.result c.append_all.ensures (λ each rounds has.
    let texts : HaveEachAppended (texts_of c.args.arrived.now.channels.items) rest (texts_of c.append_all.new.texts.items) =
    rw c.deref-2.ensures.value at each in
    subst (λ (l : List (List ℕ)). IsSending s.main.table s.uuid s.limit (length s.channels) rounds c.extend_from_slice.new.self.items l) (sym texts)
    (subst (λ (l : List ℕ). IsSending s.main.table s.uuid s.limit (length s.channels) rounds l (whole_texts before rest)) (sym main)
    (c.in-Ok.ensures.ok before rounds has)))
