-- A sender on several channels, as C holds it: its rounds, their workers, and what is copied out.
use Rattle.std.proofs.Common.{ℕ, ◌≡◌, ◌≢◌, ◌+◌, ◌<◌, ◌≤◌, ◌∙◌, ◌==◌, List, [], ◌∷◌, ◌++◌, length, replicate, take, get_or, if◌then◌else◌}
use Rattle.std.proofs.Common.{refl, sym, ap, subst, arith, inl, inr}
use Rattle.std.specs.Prelude.{Result, Err, IsOk, is_ok}
use Rattle.std.proofs.lemmas.Bool.{cases_lt, cond-true, cond-false, eq-eqb, ne_eqb}
use Rattle.std.proofs.lemmas.List.{append-nil, append_assoc, append_cancel_left, length-append}
use Rattle.mig_mem.specs.declared.place.Place.{Place}
use Rattle.mig_mem.specs.Image.{Image, IsImage}
use Rattle.mig_mem.specs.PlaceSet.{PlaceSet}
use Rattle.mig_stream.specs.Written.{FlushPart}
use Rattle.mig_stream.specs.Writer.{HasDrained}
use Rattle.mig_deal.specs.Deal.{SeatView}
use Rattle.mig_send.specs.declared.channel_worker.Hand.{Hand}
use Rattle.mig_send.specs.declared.channel_worker.Hand.TheVariants.{Drawing, Claimed, Ending, Ended, Moving}
use Rattle.mig_send.specs.DealtRounds.{DealtRound, channel_text}
use Rattle.mig_send.specs.MultiSending.{MultiSending, Drained, HasSentRounds, KeepsSetting, with_channel}
use Rattle.mig_send.specs.ChannelWork.{ChannelWork, HasPacked, HasEnded, seats_of}
use Rattle.mig_send.specs.MultiRound as round
use Rattle.mig_send.specs.MultiRound.{OpenMulti, IsRoundSoFar, HasBegun, TakesBack, dirty_of, with_channels}
use Rattle.mig_c_calls.specs.declared.waiting.Waiting.{Waiting}
use Rattle.mig_c_calls.specs.declared.sending.HeldWorker.{HeldWorker}
use Rattle.mig_c_calls.specs.Multi.{MultiSetting, IsSenderOf, IsInRound, Packs, GivesNext, CanComeBack, waiting_in}

-- ---- what was drained

-- the same bytes of the main stream and of the channels that there are
pub same_drained : (a b : Drained) (s : MultiSending) (rounds : List DealtRound) → HasSentRounds a s rounds → b.main ≡ a.main
    → ((channel : ℕ) → channel < length s.channels → b.channel channel ≡ a.channel channel) → HasSentRounds b s rounds
same_drained a b s rounds sent main channels = record {
  are_dealt = sent.are_dealt;
  are_numbered = sent.are_numbered;
  has_main = subst (λ (l : List ℕ). HasDrained l s.main (replicate (length rounds) FlushPart)) (sym main) sent.has_main;
  has_texts = λ channel lt. ap (λ (l : List ℕ). l ++ get_or s.channels channel []) (channels channel lt) ∙ sent.has_texts channel lt;
  has_base = sent.has_base;
  has_rounds = sent.has_rounds;
}

-- a sender that keeps its setting is still of it
pub still_of : (setting : MultiSetting) (old new : MultiSending) → KeepsSetting old new → IsSenderOf setting old → IsSenderOf setting new
still_of setting old new keeps is = record {
  same_table = keeps.same_table ∙ is.same_table;
  same_uuid = keeps.same_uuid ∙ is.same_uuid;
  same_limit = keeps.same_limit ∙ is.same_limit;
  as_many = keeps.as_many ∙ is.as_many;
}

-- ---- a round is begun

-- a round begun on the dirty pages, after rounds that were sent, is open on these pages
pub begins : (dirty : PlaceSet) (s : MultiSending) (r : OpenMulti) (setting : MultiSetting) (image : Image) (drained : Drained) (rounds : List DealtRound)
    → HasBegun dirty s r → IsSenderOf setting s → HasSentRounds drained s rounds → IsInRound setting image dirty.marked drained rounds r
begins dirty s r setting image drained rounds begun is sent = record {
  old = s;
  before = drained;
  in_round = λ _. [];
  is_of = is;
  has_sent = sent;
  is_dirty = begun.is_of;
  has_come = begun.has_come image (λ _. []);
  same_main = refl;
  back = λ channel lt. sym (append-nil (drained.channel channel));
  others = λ channel from lt. refl;
}

-- ---- a worker is given out

-- a round that gives out its next worker stays open, and the worker has packed nothing yet
pub hands : (old new : OpenMulti) (w : HeldWorker) (setting : MultiSetting) (image : Image) (dirty : List Place) (drained : Drained) (rounds : List DealtRound)
    → GivesNext old new w → 0 < length old.seats → IsInRound setting image dirty drained rounds old
    → IsInRound setting image dirty drained rounds new × Packs image (channel_text setting.uuid rounds w.worker.channel) (drained.channel w.worker.channel) [] w
hands old new w setting image dirty drained rounds gives left is =
    let h = gives.hands in
    let at : ℕ = w.worker.channel in
    let own : List ℕ = get_or is.old.channels at [] in
    let come = h.has_come image is.in_round is.old is.has_come in
    let from : length old.spents ≤ at = omega (arith, gives.few, h.is_next) in
    let lt : at < length is.old.channels = omega (arith, gives.few, h.is_next, left, is.has_come.same_channels) in
    let lt' : at < setting.channels = omega (arith, lt, is.is_of.as_many) in (
      record {
        old = is.old;
        before = is.before;
        in_round = is.in_round;
        is_of = is.is_of;
        has_sent = is.has_sent;
        is_dirty = ap (λ (t : Rattle.mig_send.specs.ChannelWork.RoundTerms). dirty_of t) h.same_terms ∙ is.is_dirty;
        has_come = come.0;
        same_main = is.same_main;
        back = λ channel within. is.back channel (subst (λ (l : List SeatView). channel < length l) h.same_spents within);
        others = λ channel after within. is.others channel (subst (λ (l : List SeatView). length l ≤ channel) h.same_spents after) within;
      },
      record {
        own = own;
        has_sent =
            ap (λ (uuid : List ℕ). channel_text uuid rounds at) (sym is.is_of.same_uuid)
            ∙ sym (is.has_sent.has_texts at lt)
            ∙ ap (λ (l : List ℕ). l ++ own) (sym (is.others at from lt'));
        has_packed = subst (λ (l : List ℕ). HasPacked image own (l ++ w.worker.text) w.worker) (sym gives.none_wait) come.1;
      },
    )

-- ---- a worker is given back

-- its seat is one
pub one_seat : (hand : Hand) → HasEnded hand → length (seats_of hand) ≡ 1
one_seat (Drawing seat) is = absurd is
one_seat (Claimed seat number) is = absurd is
one_seat (Ending spent last) is = absurd is
one_seat (Ended spent) is = refl
one_seat Moving is = absurd is

-- what was drained of the channels in the round, and of this one
abbrev with_drained : ℕ → List ℕ → (ℕ → List ℕ) → ℕ → List ℕ
with_drained at more drained channel = if channel == at then more else drained channel

at_own : (at : ℕ) (more : List ℕ) (drained : ℕ → List ℕ) → with_drained at more drained at ≡ more
at_own at more drained = cond-true (at == at) more (drained at) (eq-eqb at at refl)

at_other : (at channel : ℕ) (more : List ℕ) (drained : ℕ → List ℕ) → channel ≢ at → with_drained at more drained channel ≡ drained channel
at_other at channel more drained other = cond-false (channel == at) more (drained channel) (ne_eqb channel at other)

-- the workers that were given back before drained what they did
other_drained : (image : Image) (at : ℕ) (more : List ℕ) (drained : ℕ → List ℕ) (sender : MultiSending) (r : OpenMulti) → length r.spents ≤ at
    → IsRoundSoFar image drained sender r → IsRoundSoFar image (with_drained at more drained) sender r
other_drained image at more drained sender r from come = record {
  same_sender = come.same_sender;
  same_channels = come.same_channels;
  shares = come.shares;
  have_shares = come.have_shares;
  have_texts = λ channel lt.
      ap (λ (l : List ℕ). l ++ get_or r.sender.channels channel []) (at_other at channel more drained (λ same. absurd (omega (arith, lt, from, same))))
      ∙ come.have_texts channel lt;
  are_waiting = come.are_waiting;
}

-- of a channel whose worker is back: of the one that is given back now, or of an earlier one
given_now : (at : ℕ) (more : List ℕ) (drained before : Drained) (in_round : ℕ → List ℕ) → drained.channel at ≡ before.channel at
    → (with_channel drained at more).channel at ≡ before.channel at ++ with_drained at more in_round at
given_now at more drained before in_round own =
    cond-true (at == at) (drained.channel at ++ more) (drained.channel at) (eq-eqb at at refl)
    ∙ ap (λ (l : List ℕ). l ++ more) own
    ∙ ap (λ (l : List ℕ). before.channel at ++ l) (sym (at_own at more in_round))

given_earlier : (at channel : ℕ) (more : List ℕ) (drained before : Drained) (in_round : ℕ → List ℕ) → channel ≢ at
    → drained.channel channel ≡ before.channel channel ++ in_round channel
    → (with_channel drained at more).channel channel ≡ before.channel channel ++ with_drained at more in_round channel
given_earlier at channel more drained before in_round other was =
    cond-false (channel == at) (drained.channel channel ++ more) (drained.channel channel) (ne_eqb channel at other)
    ∙ was
    ∙ ap (λ (l : List ℕ). before.channel channel ++ l) (sym (at_other at channel more in_round other))

given_back : (at channel : ℕ) (more : List ℕ) (drained before : Drained) (in_round : ℕ → List ℕ) (spents : ℕ) → at ≡ spents
    → drained.channel at ≡ before.channel at
    → ((channel : ℕ) → channel < spents → drained.channel channel ≡ before.channel channel ++ in_round channel) → channel < spents + 1
    → (with_channel drained at more).channel channel ≡ before.channel channel ++ with_drained at more in_round channel
given_back at channel more drained before in_round spents next own back lt =
    elim (cases_lt channel at) [
      | inl lower ↦ given_earlier at channel more drained before in_round (λ same. absurd (omega (arith, lower, same)))
          (back channel (omega (arith, lower, next)))
      | inr upper ↦ subst (λ (n : ℕ). (with_channel drained at more).channel n ≡ before.channel n
          ++ with_drained at more in_round n) (omega (arith, upper, lt, next))
          (given_now at more drained before in_round own)
    ]

-- a round that takes back a worker stays open, with the bytes that were copied out of it drained of
-- its channel
pub takes : (old new : OpenMulti) (w : HeldWorker) (setting : MultiSetting) (image : Image) (dirty : List
    Place) (drained : Drained) (rounds : List DealtRound) (more : List ℕ)
    → TakesBack w.worker old new → CanComeBack w old → IsInRound setting image dirty drained rounds old
    → Packs image (channel_text setting.uuid rounds w.worker.channel) (drained.channel w.worker.channel) more w
    → IsInRound setting image dirty (with_channel drained w.worker.channel more) rounds new
takes old new w setting image dirty drained rounds more back can is packs =
    let at : ℕ = w.worker.channel in
    let own : List ℕ = get_or is.old.channels at [] in
    let from : length old.spents ≤ at = omega (arith, can.is_next) in
    let same_long = ap (λ (s : MultiSending). length s.channels) is.has_come.same_sender in
    let lt : at < length is.old.channels = omega (arith, can.is_next, can.is_out, is.has_come.same_channels) in
    let lt' : at < setting.channels = omega (arith, lt, is.is_of.as_many) in
    let before : drained.channel at ≡ is.before.channel at = is.others at from lt' in
    let text : channel_text setting.uuid rounds at ≡ drained.channel at ++ own =
    ap (λ (uuid : List ℕ). channel_text uuid rounds at) (sym is.is_of.same_uuid)
    ∙ sym (is.has_sent.has_texts at lt)
    ∙ ap (λ (l : List ℕ). l ++ own) (sym before) in
    let its : packs.own ≡ own = append_cancel_left (drained.channel at) packs.own own (sym packs.has_sent ∙ text) in
    let drained' : ℕ → List ℕ = with_drained at more is.in_round in
    let whole : ((more ++ waiting_in w.drained) ++ w.worker.text) ≡ drained' at ++ w.worker.text =
    ap (λ (l : List ℕ). l ++ w.worker.text)
    (ap (λ (l : List ℕ). more ++ l) can.none_wait ∙ append-nil more ∙ sym (at_own at more is.in_round)) in
    let packed : HasPacked image own (drained' at ++ w.worker.text) w.worker =
    subst (λ (l : List ℕ). HasPacked image l (drained' at ++ w.worker.text) w.worker) its
    (subst (λ (l : List ℕ). HasPacked image packs.own l w.worker) whole packs.has_packed) in
    let longer : length new.spents ≡ length old.spents + 1 =
    ap (λ (l : List SeatView). length l) back.one_more ∙ length-append old.spents (seats_of w.worker.hand)
    ∙ ap (λ (n : ℕ). length old.spents + n) (one_seat w.worker.hand can.has_ended) in
    record {
      old = is.old;
      before = is.before;
      in_round = drained';
      is_of = is.is_of;
      has_sent = is.has_sent;
      is_dirty = ap (λ (t : Rattle.mig_send.specs.ChannelWork.RoundTerms). dirty_of t) back.same_terms ∙ is.is_dirty;
      has_come = back.has_come image drained' is.old (other_drained image at more is.in_round is.old old from is.has_come) packed;
      same_main = is.same_main;
      back = λ channel within. given_back at channel more drained is.before is.in_round
          (length old.spents) can.is_next before is.back (omega (arith, within, longer));
      others = λ channel after within.
          cond-false (channel == at) (drained.channel channel ++ more) (drained.channel channel)
          (ne_eqb channel at (λ same. absurd (omega (arith, after, longer, can.is_next, same))))
          ∙ is.others channel (omega (arith, after, longer)) within;
    }

-- ---- a round is ended

-- a round whose workers all came back, and is ended, is sent with the image and the dirty pages it
-- was open on
pub ends : (r : OpenMulti) (s : MultiSending) (setting : MultiSetting) (image : Image) (dirty : List Place) (drained : Drained) (rounds : List DealtRound)
    → round.EndsRound r s → length r.spents ≡ length r.sender.channels → IsImage image → image.table ≡ setting.table
    → IsInRound setting image dirty drained rounds r
    → (last : DealtRound) × (last.snapshot ≡ record { image = image; dirty = dirty }) × (IsSenderOf setting s × HasSentRounds drained s (rounds ++ last ∷ []))
ends r s setting image dirty drained rounds end all lawful table is =
    let of_round : r.sender.main.table ≡ is.old.main.table = ap (λ (m : MultiSending). m.main.table) is.has_come.same_sender in
    let sent = end.has_sent image is.in_round is.old lawful (table ∙ sym is.is_of.same_table ∙ sym of_round) is.has_come in
    let of_sender : IsSenderOf setting r.sender =
    record {
      same_table = of_round ∙ is.is_of.same_table;
      same_uuid = ap (λ (m : MultiSending). m.uuid) is.has_come.same_sender ∙ is.is_of.same_uuid;
      same_limit = ap (λ (m : MultiSending). m.limit) is.has_come.same_sender ∙ is.is_of.same_limit;
      as_many = is.has_come.same_channels ∙ is.is_of.as_many;
    } in (
      sent.round,
      sent.is_of ∙ ap (λ (d : List Place). record { image = image; dirty = d }) is.is_dirty,
      (
        still_of setting r.sender s end.same_setting of_sender,
        same_drained (with_channels is.before is.in_round) drained s (rounds ++ sent.round ∷ []) (sent.has_sent is.before rounds is.has_sent) is.same_main
            (λ channel lt. is.back channel (omega (arith, lt, all, end.same_setting.as_many))),
      ),
    )

-- ---- a worker's bytes

-- what waits of a worker's channel is copied out
pub worker_hands : (image : Image) (sent given more front : List ℕ) (old new : HeldWorker) → front ++ waiting_in new.drained ≡ waiting_in old.drained
    → new.worker ≡ old.worker → Packs image sent given more old → Packs image sent given (more ++ front) new
worker_hands image sent given more front old new has_front same packs = record {
  own = packs.own;
  has_sent = packs.has_sent;
  has_packed =
      subst (λ (w : ChannelWork). HasPacked image packs.own (((more ++ front) ++ waiting_in new.drained) ++ w.text) w) (sym same)
      (subst (λ (l : List ℕ). HasPacked image packs.own (l ++ old.worker.text) old.worker)
      (ap (λ (l : List ℕ). more ++ l) (sym has_front) ∙ sym (append_assoc more front (waiting_in new.drained))) packs.has_packed);
}

-- what it wrote is taken out of it, if nothing waits
pub worker_refills : (image : Image) (sent given more bytes : List ℕ) (old new : HeldWorker) → waiting_in old.drained ≡ [] → waiting_in new.drained ≡ bytes
    → ((image : Image) (before drained : List ℕ) → HasPacked image before (drained ++ old.worker.text) old.worker
    → HasPacked image before ((drained ++ bytes) ++ new.worker.text) new.worker)
    → Packs image sent given more old → Packs image sent given more new
worker_refills image sent given more bytes old new none waits packed packs = record {
  own = packs.own;
  has_sent = packs.has_sent;
  has_packed =
      subst (λ (l : List ℕ). HasPacked image packs.own ((more ++ l) ++ new.worker.text) new.worker) (sym waits)
      (packed image packs.own more
      (subst (λ (l : List ℕ). HasPacked image packs.own (l ++ old.worker.text) old.worker)
      (ap (λ (l : List ℕ). more ++ l) none ∙ append-nil more) packs.has_packed));
}

-- it steps
pub worker_steps : (image : Image) (sent given more : List ℕ) (old new : HeldWorker) → new.drained ≡ old.drained
    → ((before drained : List ℕ) → HasPacked image before (drained ++ old.worker.text) old.worker
    → HasPacked image before (drained ++ new.worker.text) new.worker)
    → Packs image sent given more old → Packs image sent given more new
worker_steps image sent given more old new same packed packs = record {
  own = packs.own;
  has_sent = packs.has_sent;
  has_packed =
      subst (λ (w : Waiting). HasPacked image packs.own ((more ++ waiting_in w) ++ new.worker.text) new.worker) (sym same)
      (packed packs.own (more ++ waiting_in old.drained) packs.has_packed);
}

-- if nothing was copied out, and nothing waits before, nothing waits after
pub nothing_left : (count : ℕ) (out left waiting : List ℕ) → count ≡ 0 → take count out ++ left ≡ waiting → waiting ≡ [] → left ≡ []
nothing_left count out left waiting zero front none = ap (λ (n : ℕ). take n out ++ left) (sym zero) ∙ front ∙ none

-- ---- results

-- a result that is an error isn't Ok
pub err_not_ok : {R E : Type 0} (r : Result R E) (e : E) → r ≡ Err e → IsOk r → ⊥
err_not_ok {R} {E} r e is ok = absurd (let other = ap (λ (x : Result R E). is_ok x) is in cc)
