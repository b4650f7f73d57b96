use Rattle.std.proofs.Common.{◌++◌, ◌∙◌, sym, subst}
use Rattle.mig_send.specs.ChannelWork.{RoundTerms, HasPackedTo}
use Rattle.mig_c_calls.proofs.Copies.{end_packed}
use Rattle.mig_c_calls.proofs.worker.end_channel.Goals as goal

pub returns-in-Ok-clause-packed : goal.returns-in-Ok-clause-packed
returns-in-Ok-clause-packed c = λ image before drained same packed.
    let old = c.args.worker.now in
    let new = c.step.new.self in
    let stepped = c.step.ensures.step in
    subst (λ (terms : RoundTerms). HasPackedTo image terms before (drained ++ new.text) new.hand) (sym stepped.same_terms)
    (end_packed c.args.memory.now image old.terms c.step.result old.hand new.hand old.text new.text before drained
    (c.requires.table ∙ sym same) c.requires.none c.requires.claimed stepped.is_step packed)
