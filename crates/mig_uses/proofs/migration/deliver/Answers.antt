use Rattle.std.proofs.Common.{ℕ, ◌≡◌, ◌<◌, ◌++◌, List, length, refl, ap, sym, ◌∙◌, arith}
use Rattle.std.specs.Prelude.{Vec}
use Rattle.std.proofs.lemmas.List.{length-set}
use Rattle.mig_send.specs.MultiSending.{with_main, with_channel}
use Rattle.mig_uses.specs.Migration.{drained_to}
use Rattle.mig_uses.proofs.Arriving.{same_drained, appended, counts_kept}
use Rattle.mig_uses.proofs.migration.deliver.Goals as goal

pub loop-channel-init : goal.loop-channel-init
loop-channel-init g c =
    let before = drained_to c.args.arrived.now in
    let bytes = c.drain_main.new.bytes.items in
    let main : before.main ++ bytes ≡ c.extend_from_slice.new.self.items =
    sym (c.in_ok-extend_from_slice.ensures.items ∙ ap (λ (l : List ℕ). before.main ++ l) c.deref.ensures.value) in
    record {
      arrived = λ rounds has. same_drained (with_main before bytes) _ c.drain_main.new.self rounds main (λ j lt. refl)
          (c.drain_main.ensures.drained before rounds has);
      counts = c.drain_main.ensures.counts;
      channels = refl;
    }

pub loop-channel-preserved : goal.loop-channel-preserved
loop-channel-preserved g c =
    let items = λ (text : Vec ℕ _). text.items in
    let so_far = c.loop-channel.invariant in
    let before = drained_to c.loop-channel.arrived in
    let texts = c.loop-channel.arrived.channels.items in
    let at = c.loop-channel.channel in
    let bytes = c.drain_channel.new.bytes.items in
    let old = c.index_mut.result.now in
    let new = c.extend_from_slice-in-loop-channel.new.self in
    let inside : at < length texts = omega (arith, c.loop-channel-test.true, so_far.channels, c.args.arrived.now.channels.ok.0) in
    let is = c.in_ok-extend_from_slice-2.ensures.items
    ∙ (ap (λ (l : List ℕ). old.items ++ l) c.deref-in-loop-channel.ensures.value ∙ ap (λ (l : List ℕ). l ++ bytes) (ap items c.index_mut.ensures.value)) in
    record {
      arrived = λ rounds has. same_drained (with_channel before at bytes) _ c.drain_channel.new.self rounds refl
          (λ j lt. appended texts at j new old bytes inside is)
          (c.drain_channel.ensures.drained before rounds (so_far.arrived rounds has));
      counts = counts_kept c.args.sender.now c.loop-channel.sender c.drain_channel.new.self so_far.counts c.drain_channel.ensures.counts;
      channels = length-set texts at new ∙ so_far.channels;
    }
