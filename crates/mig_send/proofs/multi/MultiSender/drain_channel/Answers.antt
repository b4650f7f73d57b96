use Rattle.std.proofs.Common.{ℕ, ◌<◌, List, refl, subst, arith, ◌∙◌, ap, length}
use Rattle.std.specs.Prelude.{Vec}
use Rattle.std.specs.List.{slice_set}
use Rattle.std.proofs.lemmas.List.{length-map, length-set}
use Rattle.mig_send.specs.DealtRounds.{DealtRound}
use Rattle.mig_send.specs.MultiSending.{MultiSending, Drained, HasSentRounds, with_channel, texts_of}
use Rattle.mig_send.proofs.Sendings.{drained_channel, texts_long}
use Rattle.mig_send.proofs.multi.MultiSender.drain_channel.Goals as goal

pub returns-clause-drained : goal.returns-clause-drained
returns-clause-drained g c =
    let texts = c.self.inside.channels.items in
    let text = c.index_mut.result.now in
    let items = λ (text : Vec ℕ _). text.items in
    let bytes = c.swap.new.y.items in
    let inside : c.args.channel < length texts =
    omega (arith, c.requires, ap (λ (s : MultiSending). length s.channels) c.self.view_is, length-map texts items) in
    let before : MultiSending = record {
      main = c.self.inside.main;
      uuid = c.self.inside.uuid;
      limit = c.self.inside.limit;
      channels = texts_of texts;
      base = c.self.inside.base;
      rounds = c.self.inside.rounds;
    } in
    let after : MultiSending = record before { channels = texts_of (slice_set texts c.args.channel c.swap.new.x) } in
    subst (λ (old : MultiSending). (drained : Drained) (rounds : List DealtRound) → HasSentRounds drained old rounds
    → HasSentRounds (with_channel drained c.args.channel bytes) after rounds) c.self.view_is
    (drained_channel before after texts c.args.channel c.swap.new.x text bytes
    record {
      same_setting = record {
        same_table = refl;
        same_uuid = refl;
        same_limit = refl;
        as_many = texts_long (slice_set texts c.args.channel c.swap.new.x) texts (length-set texts c.args.channel c.swap.new.x);
      };
      same_base = refl;
      same_rounds = refl;
    } refl
    refl refl (ap items c.swap.ensures.x_after ∙ c.clear.ensures.items) inside (ap items (c.swap.ensures.y_after ∙ c.index_mut.ensures.value)))
