use Rattle.std.proofs.Common.{◌≡◌, inl, inr, sym, ◌∙◌, ap, rules}
use Rattle.std.proofs.lemmas.Option.{same_Some}
use Rattle.mig_mem.specs.declared.place.Place.{Place}
use Rattle.mig_send.proofs.Cutting.{batch_ends}
use Rattle.mig_send.proofs.batch.unpacked.Goals.{in-Some+then-place-first, then-place-first-via-then-place-first}
use Rattle.mig_send.proofs.batch.unpacked.Goals.{then-place-first-via-else-place-first+then-len-limit, in_default}
use Rattle.mig_send.proofs.batch.unpacked.Goals as goal

pub returns-clause-batch : goal.returns-clause-batch
returns-clause-batch g c =
    let marked = c.args.dirty.now.marked in
    let i = c.pages.invariant in
    elim c.match-next.branch [
      | in-Some+then-place-first w ↦
          let p = w.in-Some.place in
          let next : c.match-next.next ≡ c.pages.next = w.next-is ∙ sym w.in-Some.is in
          rw next (batch_ends c.args.limit marked c.args.first c.pages.pages.items c.pages.next c.requires.set.is_ascending c.requires.limit i.has_all
          i.is_in_set i.has_few i.begins (λ q e.
          let same : p ≡ q = same_Some p q (sym w.in-Some.is ∙ e) in
          elim w.then-place-first.branch [
            | then-place-first-via-then-place-first w' ↦ inl (λ f. w'.if-place-first.true (ap (λ (x : Place). x.block) same ∙ f))
            | then-place-first-via-else-place-first+then-len-limit w' ↦ inr (search rules)
          ]))
      | in_default w ↦
          rw w.next-is (batch_ends c.args.limit marked c.args.first c.pages.pages.items c.pages.next c.requires.set.is_ascending c.requires.limit i.has_all
          i.is_in_set i.has_few i.begins (λ q e. absurd (w.in_default.not-Some q e)))
    ]
