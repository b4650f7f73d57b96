use Rattle.std.proofs.Common.{rules, ◌≡◌, ◌∷◌, ◌++◌, [], true, false, sym, subst, Some}
use Rattle.mig_mem.specs.declared.place.Place.{Place}
use Rattle.mig_mem.specs.Place.{has_place}
use Rattle.mig_assemble.specs.Seen.{HasSeen}
use Rattle.mig_assemble.proofs.Marked.{seen_new, seen_again}
use Rattle.mig_assemble.proofs.doubles.mark.Goals as goal

pub returns-in-Ok-true-clause-seen : goal.returns-in-Ok-true-clause-seen
returns-in-Ok-true-clause-seen g c = λ places h.
    let lacks : has_place c.args.seen.now.marked c.args.place ≡ false = search rules in
    seen_new c.args.seen.now.table places c.args.seen.now c.mark.new.self c.args.double c.args.place h c.requires c.mark.ensures.set lacks

pub returns-in-Ok-false-clause-seen : goal.returns-in-Ok-false-clause-seen
returns-in-Ok-false-clause-seen g c = λ places h.
    let has : has_place c.args.seen.now.marked c.args.place ≡ true = search rules in
    subst (λ (p : Place). HasSeen c.args.seen.now.table (places ++ c.args.place ∷ []) c.mark.new.self (Some p)) (sym c.lesser.ensures)
    (seen_again c.args.seen.now.table places c.args.seen.now c.mark.new.self c.args.double c.args.place h c.requires c.mark.ensures.set has)
