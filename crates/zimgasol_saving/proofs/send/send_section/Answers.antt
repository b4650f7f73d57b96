use Rattle.std.proofs.Common.{◌≡◌, ◌∙◌, ℕ, List, [], IfSome, ap, subst, sym}
use Rattle.mig_mem.specs.Image.{Page}
use Rattle.mig_mem.specs.Round.{IsRound}
use Rattle.mig_stream.specs.Writer.{Writer, HasPut}
use Rattle.mig_send.specs.Sending.{HasSentDrained}
use Rattle.zimgasol_files.specs.Differing.{piece_of, AreSent}
use Rattle.zimgasol_saving.proofs.send.send_section.Goals as goal

pub returns-in-Ok-end_round : goal.returns-in-Ok-end_round
returns-in-Ok-end_round c =
    let all = subst
    (λ o. IfSome o (λ (_ : ℕ). HasPut c.in-Ok.round [] → (sent : List Page)
    × AreSent c.args.block c.args.first (piece_of c.args.pages.now) 256 sent × HasPut c.put_all_differing.new.round sent))
    c.in-Some.is c.in_ok-count.ensures.sent in
    let sent = all c.in-Ok.ensures.none in
    let same : c.put_all_differing.new.round.before ≡ c.args.sender = c.in_ok-count.ensures.before ∙ c.in-Ok.ensures.before in
    record {
      sent = record {
        sent = sent.0;
        are_sent = sent.1;
        same_table = c.in-Ok-end_round.ensures.table ∙ ap (λ (w : Writer). w.table) same;
        is_round = subst (λ (w : Writer). IsRound w.table sent.0) same sent.2.is_round;
        goes_on = λ drained rounds has.
            c.in-Ok-end_round.ensures.ok sent.0 sent.2 drained rounds (subst (λ s. HasSentDrained drained s rounds) (sym same) has);
      };
    }
