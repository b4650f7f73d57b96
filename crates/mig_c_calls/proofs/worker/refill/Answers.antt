use Rattle.std.proofs.Common.{◌∙◌, ◌++◌, List, ℕ, refl, sym, ap}
use Rattle.std.proofs.lemmas.List.{append-nil}
use Rattle.mig_send.specs.ChannelWork.{ChannelWork}
use Rattle.mig_c_calls.proofs.Sends.{worker_refills}
use Rattle.mig_c_calls.proofs.worker.refill.Goals as goal

pub returns-then-is_empty : goal.returns-then-is_empty
returns-then-is_empty c =
    let rest = c.drain_into.ensures.rest in
    record {
      keeps = λ image sent given more packs.
          worker_refills image sent given more c.drain_into.new.bytes.items c.args.held.now _
          (c.if-is_empty.ensures.0 refl) refl c.drain_into.ensures.packed packs;
      none = λ _. ap (λ (w : ChannelWork). w.text) rest;
      same_left = ap (λ (w : ChannelWork). c.drain_into.new.bytes.items ++ w.text) rest
          ∙ append-nil c.drain_into.new.bytes.items
          ∙ c.drain_into.ensures.all
          ∙ ap (λ (l : List ℕ). l ++ c.args.held.now.worker.text) (sym (c.if-is_empty.ensures.0 refl));
      same_work = (ap (λ (w : ChannelWork). w.terms) rest, ap (λ (w : ChannelWork). w.channel) rest, ap (λ (w : ChannelWork). w.hand) rest);
    }

pub returns-else-is_empty : goal.returns-else-is_empty
returns-else-is_empty c = record {
  keeps = λ image sent given more packs. packs;
  none = λ waits. absurd (let yes = c.is_empty.ensures.1 waits in let other = c.if-is_empty.false in cc);
  same_left = refl;
  same_work = (refl, refl, refl);
}
