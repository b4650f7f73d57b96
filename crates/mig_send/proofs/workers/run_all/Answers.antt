use Rattle.std.proofs.Common.{◌<◌, length, ◌∙◌, subst, sym, ap, arith, map, get_or}
use Rattle.std.proofs.lemmas.List.{length-map, get_or-map}
use Rattle.mig_send.specs.Workers.{IsDone, slot_text}
use Rattle.mig_send.proofs.Gathering.{zip_of}
use Rattle.mig_send.proofs.workers.run_all.Goals as goal

pub returns : goal.returns
returns g c =
    let deal = c.args.deal.now in
    let image = g.M.GuestPages.image c.args.memory.now in
    let batches = c.args.batches.now in
    let olds = c.args.slots.now in
    let news = c.for_each_mut.new.s in
    let same = c.for_each_mut.auto.s in
    zip_of (IsDone deal image batches) (map slot_text olds) news (length-map olds slot_text ∙ sym same) (λ k text slot lt.
    let within : k < length olds = omega (arith, lt, same) in
    let at = (c.for_each_mut.ensures k slot within).1 in
    subst (λ before. IsDone deal image batches before (get_or news k slot)) (ap slot_text at.argument_is ∙ sym (get_or-map slot_text olds k slot text within))
    (subst (IsDone deal image batches _) at.left at.call))
