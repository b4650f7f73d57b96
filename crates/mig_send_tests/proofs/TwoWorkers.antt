-- Two workers that are stepped, one after another or at once.
use Rattle.std.proofs.Common.{ℕ, ◌≡◌, ◌∙◌, List, [], get_or, ap, refl, subst, sym}
use Rattle.mig_mem.specs.declared.place.Place.{Place}
use Rattle.mig_mem.specs.Image.{Image, IsImage}
use Rattle.mig_mem.specs.PlaceSet.{PlaceSet}
use Rattle.mig_send.specs.ChannelWork.{ChannelWork, HasPacked}
use Rattle.mig_send.specs.MultiSending.{MultiSending, HasSentOne}
use Rattle.mig_send.specs.MultiRound.{OpenMulti, IsRoundSoFar, HasBegun, HandsOut, TakesBack, EndsRound, dirty_of, none_drained}
use Rattle.mig_send_tests.specs.Stepped.{HasRun}

-- with no step a worker has run from its state to the same one
pub rests : (image : Image) (work : ChannelWork) → HasRun image work work
rests image work = record { same_terms = refl; same_channel = refl; has_packed = λ before drained packed. packed }

-- a worker that has run from one state to a second, and on to a third, has run from first to third
pub runs_on : (image : Image) (old mid new : ChannelWork) → HasRun image old mid → HasRun image mid new → HasRun image old new
runs_on image old mid new first then = record {
  same_terms = then.same_terms ∙ first.same_terms;
  same_channel = then.same_channel ∙ first.same_channel;
  has_packed = λ before drained packed. then.has_packed before drained (first.has_packed before drained packed);
}

-- the packets of a worker that was run stay its channel's, and its round has advanced so far
runs_back : (image : Image) (sender : MultiSending) (before after : OpenMulti) (work done : ChannelWork) → HasRun image work done → TakesBack done before after
    → HasPacked image (get_or sender.channels work.channel []) work.text work → IsRoundSoFar image none_drained sender before
    → IsRoundSoFar image none_drained sender after
runs_back image sender before after work done run back packed come =
    back.has_come image none_drained sender come
    (subst (λ (channel : ℕ). HasPacked image (get_or sender.channels channel []) done.text done) (sym run.same_channel)
    (run.has_packed (get_or sender.channels work.channel []) [] packed))

-- A round of two workers in any interleaving is a round like any other.
pub sent_by_two : (image : Image) (dirty : PlaceSet) (sender : MultiSending) (begun one two back both : OpenMulti)
    (a b a_done b_done : ChannelWork) (new : MultiSending)
    → IsImage image → image.table ≡ sender.main.table → HasBegun dirty sender begun → HandsOut begun one a → HandsOut one two b
    → HasRun image a a_done → HasRun image b b_done → TakesBack a_done two back → TakesBack b_done back both → EndsRound both new
    → HasSentOne (record { image = image; dirty = dirty.marked }) sender new
sent_by_two image dirty sender begun one two back both a b a_done b_done new is of_table began out_a out_b run_a run_b back_a back_b ends =
    let with_a = out_a.has_come image none_drained sender (began.has_come image none_drained) in
    let with_b = out_b.has_come image none_drained sender with_a.0 in
    let come : IsRoundSoFar image none_drained sender both =
    runs_back image sender back both b b_done run_b back_b with_b.1
    (runs_back image sender two back a a_done run_a back_a with_a.1 with_b.0) in
    let terms : both.terms ≡ begun.terms = back_b.same_terms ∙ (back_a.same_terms ∙ (out_b.same_terms ∙ out_a.same_terms)) in
    let all : dirty_of both.terms ≡ dirty.marked = ap dirty_of terms ∙ began.is_of in
    let same : image.table ≡ both.sender.main.table = of_table ∙ sym (ap (λ (s : MultiSending). s.main.table) come.same_sender) in
    subst (λ (places : List Place). HasSentOne (record { image = image; dirty = places }) sender new) all (ends.has_sent_undrained image sender is same come)
