use Rattle.std.proofs.Common.{◌∙◌, sym, ap}
use Rattle.mig_send.specs.ChannelWork.{RoundTerms}
use Rattle.mig_c_calls.proofs.multi.next_worker.Goals as goal

pub invariant_of-result : goal.invariant_of-result
invariant_of-result c = record {
  same_table =
      c.in_ok-table.ensures ∙ c.table.ensures ∙ sym c.args.dealt.now.of_table
      ∙ ap (λ (t : RoundTerms). t.table) (sym c.in_ok-worker.ensures.ok.worker_terms);
}
