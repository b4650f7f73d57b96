use Rattle.std.proofs.Common.{rules, ◌≡◌, ◌+◌, refl, subst, ◌∙◌, ℕ, List}
use Rattle.mig_send.specs.Dealing.{sync_packet}
use Rattle.zimgasol_packing.specs.Packing.{HaveTexts, with_bytes, syncs_to}
use Rattle.zimgasol_packing.proofs.Steps.{no_syncs, one_sync, all_syncs}
use Rattle.zimgasol_packing.proofs.channels.put_syncs.Goals as goal

pub loop-channel-init : goal.loop-channel-init
loop-channel-init g c = record {
  len = refl;
  put = λ texts. no_syncs g.F.Write.contents c.args.channels.now.items texts c.args.page_size c.args.number;
}

pub loop-channel-preserved : goal.loop-channel-preserved
loop-channel-preserved g c = record {
  len = c.in_ok-put_on.ensures.len ∙ c.loop-channel.invariant.len;
  put = λ texts have.
      let n = c.loop-channel.channel in
      let size = c.args.page_size in
      let number = c.args.number in
      let sync : c.deref.result.now ≡ sync_packet size (number + n) = search rules in
      one_sync g.F.Write.contents c.put_on.new.channels.items texts size number n
      (subst (λ (l : List ℕ). HaveTexts g.F.Write.contents c.put_on.new.channels.items (with_bytes (syncs_to texts size number n) n l)) sync
      (c.in_ok-put_on.ensures.put (syncs_to texts size number n) (c.loop-channel.invariant.put texts have)));
}

pub returns-clause-put : goal.returns-clause-put
returns-clause-put g c = λ texts have.
    all_syncs g.F.Write.contents c.loop-channel.channels.items texts c.args.page_size c.args.number c.loop-channel.channel (search rules)
    (c.loop-channel.invariant.put texts have)
