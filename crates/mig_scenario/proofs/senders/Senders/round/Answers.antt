use Rattle.std.proofs.Common.{◌≡◌, ap, subst, sym, Option}
use Rattle.std.specs.Prelude.{IfSome}
use Rattle.mig_mem.specs.Tracking.{Snapshot}
use Rattle.mig_send.specs.MultiSending.{MultiSending}
use Rattle.mig_scenario.specs.Playing.{HasDealt}
use Rattle.mig_scenario.proofs.Sendings.{sent_more, dealt_more, none_sent}
use Rattle.mig_scenario.proofs.senders.Senders.round.Goals as goal
use Rattle.mig_scenario.proofs.senders.Senders.round.Goals.{in-Some+in_ok-was_sent, in_default}

pub returns-in_ok-was_sent-2-clause-ok : goal.returns-in_ok-was_sent-2-clause-ok
returns-in_ok-was_sent-2-clause-ok g c = λ snapshots sent.
    let last : Snapshot = record { image = c.args.image.now; dirty = c.args.dirty.now.marked } in
    let same : c.match-self.self.several ≡ c.args.self.now.several = elim c.match-self.branch [
      | in-Some+in_ok-was_sent w ↦ ap (λ s. s.several) w.self-is
      | in_default w ↦ ap (λ s. s.several) w.self-is
    ] in
    let dealt : IfSome c.match-self.self.several (λ s. HasDealt s snapshots) =
    subst (λ (o : Option MultiSending). IfSome o (λ s. HasDealt s snapshots)) (sym same) sent.several_sent in
    record {
      single_sent = elim c.match-self.branch [
        | in-Some+in_ok-was_sent w ↦ rw w.self-is
            (sent_more w.in-Some.single w.round.new.self w.round.result c.args.self.now.single snapshots last w.in-Some.is
            w.round.ensures.ok w.in_ok-was_sent.ensures sent.single_sent)
        | in_default w ↦ rw w.self-is (none_sent c.args.self.now.single _ w.in_default.not-Some)
      ];
      several_sent = dealt_more c.in-Some-several.several c.round-in-Some-several.new.self c.round-in-Some-several.result
          c.match-self.self.several snapshots last c.in-Some-several.is
          c.round-in-Some-several.ensures.ok c.in_ok-was_sent-2.ensures dealt;
    }

pub returns-in_default-several-clause-ok : goal.returns-in_default-several-clause-ok
returns-in_default-several-clause-ok g c = λ snapshots sent.
    let last : Snapshot = record { image = c.args.image.now; dirty = c.args.dirty.now.marked } in
    record {
      single_sent = elim c.match-self.branch [
        | in-Some+in_ok-was_sent w ↦ rw w.self-is
            (sent_more w.in-Some.single w.round.new.self w.round.result c.args.self.now.single snapshots last w.in-Some.is
            w.round.ensures.ok w.in_ok-was_sent.ensures sent.single_sent)
        | in_default w ↦ rw w.self-is (none_sent c.args.self.now.single _ w.in_default.not-Some)
      ];
      several_sent = none_sent c.match-self.self.several _ c.in_default-several.not-Some;
    }
