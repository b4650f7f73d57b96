use Rattle.std.proofs.Common.{◌≡◌, ◌+◌, ◌<◌, None, arith, sym, refl, subst, replicate, get_or, false}
use Rattle.std.proofs.lemmas.List.{get_or-replicate}
use Rattle.mig_answer.proofs.Hellos.{HaveSeen, seen_nothing, seen_more_none, seen_more, seen_again, seen_none}
use Rattle.mig_answer.proofs.verdicts.repeated_id.Goals as goal
use Rattle.mig_answer.proofs.verdicts.repeated_id.Goals.{in-Some+else-seen-id, in_default}

pub loop-j-init : goal.loop-j-init
loop-j-init c = seen_nothing c.args.hellos.now (replicate 256 false) refl (λ id few. get_or-replicate 256 id false false few)

pub returns-then-seen-id : goal.returns-then-seen-id
returns-then-seen-id c =
    let few : c.in-Some.id < 256 = search in
    seen_again c.loop-j.j c.in-Some.id c.args.hellos.now c.loop-j.seen c.loop-j.invariant c.loop-j-test.true c.in-Some.is few c.if-seen-id.true

pub loop-j-preserved : goal.loop-j-preserved
loop-j-preserved c =
    elim c.match-hellos-j.branch [
      | in-Some+else-seen-id w ↦
          let few : w.in-Some.id < 256 = search in
          subst (HaveSeen (c.loop-j.j + 1) c.args.hellos.now) (sym w.seen-is)
          (seen_more c.loop-j.j w.in-Some.id c.args.hellos.now c.loop-j.seen c.loop-j.invariant c.loop-j-test.true w.in-Some.is few w.if-seen-id.false)
      | in_default w ↦
          let none : get_or c.args.hellos.now c.loop-j.j None ≡ None = search in
          subst (HaveSeen (c.loop-j.j + 1) c.args.hellos.now) (sym w.seen-is)
          (seen_more_none c.loop-j.j c.args.hellos.now c.loop-j.seen c.loop-j.invariant c.loop-j-test.true none)
    ]

pub returns : goal.returns
returns c = seen_none c.loop-j.j c.args.hellos.now c.loop-j.seen c.loop-j.invariant (omega (arith, c.loop-j-test.false))
