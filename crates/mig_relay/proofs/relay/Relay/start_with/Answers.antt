use Rattle.std.proofs.Common.{ℕ, length, List, ◌∷◌, [], ◌++◌, sym, ap, ◌∙◌, map}
use Rattle.mig_packet.specs.Reading.{Settings, settings, with_waiting}
use Rattle.mig_answer.specs.MultiLoad.{bytes_of}
use Rattle.mig_relay.specs.RelayItems.{with_settings}
use Rattle.mig_relay.specs.Relay.{so_far, at_start}
use Rattle.std.proofs.lemmas.List.{take_all}
use Rattle.mig_relay.proofs.Ends.{one_started}
use Rattle.mig_relay.proofs.Relays.{relay_starts}
use Rattle.mig_relay.proofs.relay.Relay.start_with.Goals as goal

pub loop-j-preserved : goal.loop-j-preserved
loop-j-preserved g c =
    let given : Settings = with_waiting c.args.waiting (settings c.args.page_size c.args.uuid.now (length c.args.texts.now)) in (
      one_started so_far (at_start given) c.loop-j.channels.items c.push-in-loop-j.new.self.items c.in_ok-feeder.channel
          c.args.texts.now c.loop-j.j c.index-texts-j.result c.loop-j.invariant.0 c.in_ok-push-2.ensures.items c.loop-j-test.true c.index-texts-j.is
          (c.in_ok-feeder.ensures.start ∙ ap (λ (text : List ℕ). (with_settings given text, [])) c.as_slice.ensures.value),
      c.in_ok-push.ensures.items ∙ (λ i. c.loop-j.invariant.1 i ++ c.in_ok-feeder.ensures.same i ∷ []) ∙ sym c.in_ok-push-2.ensures.items,
    )

pub invariant_of-result : goal.invariant_of-result
invariant_of-result g c = record {
  page_size = c.args.page_size;
  waiting = c.args.waiting;
  uuid = c.args.uuid.now;
  texts = bytes_of c.args.texts.now;
  is_page_size = c.requires.page_size;
  is_relay = relay_starts c.args.page_size c.args.waiting c.args.uuid.now c.args.texts.now c.loop-j.channels.items c.requires.texts.0
      (c.loop-j.invariant.0 ∙ ap (map (at_start
      (with_waiting c.args.waiting (settings c.args.page_size c.args.uuid.now (length c.args.texts.now)))))
      (take_all c.loop-j.j c.args.texts.now c.loop-j-test.false));
}
