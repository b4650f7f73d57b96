-- A round that is taken back before a worker of it was given out.
use Rattle.std.proofs.Common.{ℕ, ◌≡◌, ◌∙◌, ◌++◌, List, [], length, get_or, replicate, ap, sym, subst, arith}
use Rattle.mig_deal.specs.Deal.{SeatView}
use Rattle.mig_stream.specs.Written.{FlushPart}
use Rattle.mig_mem.specs.declared.place.Place.{Place}
use Rattle.mig_mem.specs.Image.{Image}
use Rattle.mig_send.specs.DealtRounds.{DealtRound}
use Rattle.mig_send.specs.MultiSending.{MultiSending, Drained, HasSentRounds}
use Rattle.mig_send.specs.MultiRound.{OpenMulti, IsTakenBack}
use Rattle.mig_stream.specs.Writer.{HasDrained}
use Rattle.mig_c_calls.specs.Multi.{MultiSetting, IsSenderOf, IsInRound}

-- its sender has sent what it had before
pub goes_back : (r : OpenMulti) (s : MultiSending) (setting : MultiSetting) (image : Image) (dirty : List Place) (drained : Drained) (rounds : List DealtRound)
    → IsTakenBack r s → IsInRound setting image dirty drained rounds r → IsSenderOf setting s × HasSentRounds drained s rounds
goes_back r s setting image dirty drained rounds taken is =
    let same : s ≡ is.old = taken.had_come image is.in_round is.old is.has_come in
    let none : length r.spents ≡ 0 = ap (λ (l : List SeatView). length l) taken.none_back in
    let many : length is.old.channels ≡ setting.channels = is.is_of.as_many in
    let sent = is.has_sent in
    subst (λ (m : MultiSending). IsSenderOf setting m × HasSentRounds drained m rounds) (sym same) (
      is.is_of,
      record {
        are_dealt = sent.are_dealt;
        are_numbered = sent.are_numbered;
        has_main = subst (λ (l : List ℕ). HasDrained l is.old.main (replicate (length rounds) FlushPart)) (sym is.same_main) sent.has_main;
        has_texts = λ channel lt. ap (λ (l : List ℕ). l ++ get_or is.old.channels channel [])
            (is.others channel (omega arith) (omega arith)) ∙ sent.has_texts channel lt;
        has_base = sent.has_base;
        has_rounds = sent.has_rounds;
      },
    )
