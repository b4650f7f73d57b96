use Rattle.std.proofs.Common.{List, refl, subst}
use Rattle.mig_send.specs.DealtRounds.{DealtRound}
use Rattle.mig_send.specs.MultiSending.{MultiSending, Drained, HasSentRounds, with_main, texts_of}
use Rattle.mig_send.proofs.Sendings.{drained_main}
use Rattle.mig_send.proofs.multi.MultiSender.drain_main.Goals as goal

pub returns-clause-drained : goal.returns-clause-drained
returns-clause-drained g c =
    let bytes = c.drain_into.new.bytes.items in
    let before : MultiSending = record {
      main = c.self.inside.main;
      uuid = c.self.inside.uuid;
      limit = c.self.inside.limit;
      channels = texts_of c.self.inside.channels.items;
      base = c.self.inside.base;
      rounds = c.self.inside.rounds;
    } in
    let after : MultiSending = record before { main = c.drain_into.new.self } in
    subst (λ (old : MultiSending). (drained : Drained) (rounds : List DealtRound) → HasSentRounds drained old rounds
    → HasSentRounds (with_main drained bytes) after rounds) c.self.view_is
    (drained_main before after bytes record {
      same_setting = record {
        same_table = c.drain_into.ensures.table;
        same_uuid = refl;
        same_limit = refl;
        as_many = refl;
      };
      same_base = refl;
      same_rounds = refl;
    } refl c.drain_into.ensures.drained)
