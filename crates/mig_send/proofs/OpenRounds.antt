-- An open round: begun, its workers given out and given back, and ended.
use Rattle.std.proofs.Common.{ℕ, ◌≡◌, ◌+◌, ◌-◌, ◌<◌, List, [], ◌∷◌, ◌++◌, length, get_or, ap, sym, subst, refl, ◌∙◌, ◌==◌, cond, false, arith, inl, inr}
use Rattle.std.proofs.Common.{append-nil, append_assoc}
use Rattle.std.specs.List.{All, slice_set}
use Rattle.std.proofs.lemmas.List.{length-append, length-set, length-replicate, get_or-set_other, get_or_append_left, get_or_push}
use Rattle.std.proofs.lemmas.List.Elements.{All-nil, All-push, All-replicate}
use Rattle.std.proofs.lemmas.Bool.{cases_Bool, cases_lt, cond-true, cond-false, eqb-true, eq-eqb}
use Rattle.std.proofs.lemmas.Grind.{get_or-set_at}
use Rattle.std.proofs.lemmas.Slice.Zip.{AllZip-long}
use Rattle.mig_mem.specs.RamTable.{RamTable}
use Rattle.mig_mem.specs.declared.place.Place.{Place}
use Rattle.mig_mem.specs.Image.{Image, IsImage}
use Rattle.mig_mem.specs.PlaceSet.{PlaceSet, IsPlaceSet}
use Rattle.mig_mem.specs.Tracking.{Snapshot}
use Rattle.mig_deal.specs.Deal.{SeatView, HasEachOnce, new_seat, all_drawn, end_of_work, end_of_deal}
use Rattle.mig_stream.specs.Writer.{Writer}
use Rattle.mig_send.specs.declared.channel_worker.Hand.{Hand}
use Rattle.mig_send.specs.declared.channel_worker.Hand.TheVariants.{Drawing, Ended}
use Rattle.mig_send.specs.Batches.{IsCut}
use Rattle.mig_send.specs.Work.{Share, HasShare, no_batch}
use Rattle.mig_send.specs.Dealing.{IsDealing, share_text}
use Rattle.mig_send.specs.DealtRounds.{DealtRound, IsDealtRound, packet_count, no_share}
use Rattle.mig_send.specs.MultiSending.{MultiSending, HasSentOne, KeepsSetting}
use Rattle.mig_send.specs.ChannelWork.{RoundTerms, ChannelWork, HasPackedTo, HasPackedSoFar, HasPackedShare, seats_of}
use Rattle.mig_send.specs.Copies.{HasPagesOf, HasPagesBelow, HasPagesPacked}
use Rattle.mig_send.specs.MultiRound.{OpenMulti, IsOpenMulti, AreWaiting, IsRoundSoFar, IsRoundOfEach, HasPagesSent, HasSentRound, HasSentEach, HandsOut}
use Rattle.mig_send.specs.MultiRound.{TakesBack, EndsRound, HasBegun, IsDealtOut, dirty_of, handed_out, none_drained, with_channels, with_memories}
use Rattle.mig_send.proofs.Dealings.{shares_are_dealt}
use Rattle.mig_send.proofs.Gathering.{zip_push, all_end}
use Rattle.mig_send.proofs.Sendings.{HasFlushed, sent_on}
use Rattle.mig_send.proofs.SentImages.{sent_image, sent_table, sent_is_image, sent_has_pages, drawn_by}

-- ---- begun

-- a dirty set dealt out to a sender of its table, with no worker given back, is an open round
pub begun_open : (dirty : PlaceSet) (sender : MultiSending) (terms : RoundTerms) (seats spents : List SeatView) → IsPlaceSet dirty
    → dirty.table ≡ sender.main.table
    → IsDealtOut dirty sender terms seats → spents ≡ [] → IsOpenMulti record { sender = sender; terms = terms; seats = seats; spents = spents }
begun_open dirty sender terms seats spents set same dealt none =
    let is = dealt.is_dealt in
    let all : dirty_of terms ≡ dirty.marked = dealt.are_cut.has_all in
    let of_table : dirty.table ≡ terms.table = same ∙ sym is.same_table in
    let long : length seats ≡ length sender.channels = ap length is.are_seats ∙ length-replicate (length sender.channels) (new_seat terms.deal) in
    record {
      same_table = is.same_table;
      claims = is.claims;
      are_cut = subst (λ (places : List Place). IsCut sender.limit places terms.batches) (sym all) dealt.are_cut;
      are_places = subst (λ (t : RamTable). IsPlaceSet (record { table = t; marked = dirty_of terms })) of_table
          (subst (λ (places : List Place). IsPlaceSet (record { table = dirty.table; marked = places })) (sym all) set);
      has_base = is.has_base;
      base_fits = dealt.base_fits;
      as_many = is.as_many;
      are_new = subst (All (λ seat. seat ≡ new_seat terms.deal)) (sym is.are_seats)
          (All-replicate (λ seat. seat ≡ new_seat terms.deal) (length sender.channels) (new_seat terms.deal) refl);
      are_own = subst (All (λ spent. spent.deal ≡ terms.deal)) (sym none) (All-nil (λ (spent : SeatView). spent.deal ≡ terms.deal));
      are_few = omega (arith, long, ap length none);
    }

-- before a worker is given back, a round is that of any image, with any bytes drained
pub begun : (image : Image) (drained : ℕ → List ℕ) (old : MultiSending) (terms : RoundTerms) (seats spents : List SeatView) → spents ≡ []
    → IsRoundSoFar image drained old record { sender = old; terms = terms; seats = seats; spents = spents }
begun image drained old terms seats [] none = record {
  same_sender = refl;
  same_channels = refl;
  shares = [];
  have_shares = tt;
  have_texts = λ channel lt. absurd (omega (arith, lt));
  are_waiting = λ channel from lt. refl;
}
begun image drained old terms seats (s ∷ spents) none = absurd (omega (arith, ap length none))

-- a dirty set dealt out to a sender of its table, with no worker given back, is a round begun
pub has_begun : (dirty : PlaceSet) (sender : MultiSending) (terms : RoundTerms) (seats spents : List SeatView) → dirty.table ≡ sender.main.table
    → IsDealtOut dirty sender terms seats → spents ≡ [] → HasBegun dirty sender record { sender = sender; terms = terms; seats = seats; spents = spents }
has_begun dirty sender terms seats spents same dealt none = record {
  same_table = same;
  of_table = dealt.is_dealt.same_table;
  is_of = dealt.are_cut.has_all;
  same_sender = refl;
  all_left = ap length dealt.is_dealt.are_seats ∙ length-replicate (length sender.channels) (new_seat terms.deal);
  none_back = none;
  has_come = λ image drained. begun image drained sender terms seats spents none;
  each_come = λ memories drained. record {
    same_channels = refl;
    are_waiting = λ channel from lt. refl;
    is_of_each = λ image same pages. begun image drained sender terms seats spents none;
  };
}

-- ---- a worker given out

-- the other channels' bytes stay
out_waiting : (sender : MultiSending) (old : OpenMulti) (seats : List SeatView) (at : ℕ) → IsOpenMulti old → at ≡ handed_out old
    → length old.seats ≡ length seats + 1 → AreWaiting sender old
    → AreWaiting sender record old { sender = record old.sender { channels = slice_set old.sender.channels at [] }; seats = seats }
out_waiting sender old seats at is next fewer waiting = λ channel from lt.
    let channels = old.sender.channels in
    let long = length-set channels at [] in
    let few = is.are_few in
    get_or-set_other channels at channel [] [] (λ same. absurd (omega (arith, from, next, fewer, few, same, long)))
    ∙ waiting channel (omega (arith, from, next, fewer, few, long)) lt

-- one channel's bytes are out
pub out : (image : Image) (drained : ℕ → List ℕ) (sender : MultiSending) (old : OpenMulti) (seats : List SeatView) (at : ℕ) → IsOpenMulti old
    → at ≡ handed_out old → length old.seats ≡ length seats + 1 → IsRoundSoFar image drained sender old
    → IsRoundSoFar image drained sender record old { sender = record old.sender { channels = slice_set old.sender.channels at [] }; seats = seats }
out image drained sender old seats at is next fewer come =
    let channels = old.sender.channels in
    let long = length-set channels at [] in
    let few = is.are_few in
    record {
      same_sender = ap (λ (s : MultiSending). record s { channels = slice_set channels at [] }) come.same_sender;
      same_channels = long ∙ come.same_channels;
      shares = come.shares;
      have_shares = come.have_shares;
      have_texts = λ channel lt.
          ap (λ (l : List ℕ). drained channel ++ l)
          (get_or-set_other channels at channel [] [] (λ same. absurd (omega (arith, lt, next, fewer, few, same))))
          ∙ come.have_texts channel lt;
      are_waiting = out_waiting sender old seats at is next fewer come.are_waiting;
    }

out_each : (memories : ℕ → ℕ → Image) (drained : ℕ → List ℕ) (sender : MultiSending) (old : OpenMulti) (seats : List SeatView) (at : ℕ) → IsOpenMulti old
    → at ≡ handed_out old → length old.seats ≡ length seats + 1 → IsRoundOfEach memories drained sender old
    → IsRoundOfEach memories drained sender record old { sender = record old.sender { channels = slice_set old.sender.channels at [] }; seats = seats }
out_each memories drained sender old seats at is next fewer come = record {
  same_channels = length-set old.sender.channels at [] ∙ come.same_channels;
  are_waiting = out_waiting sender old seats at is next fewer come.are_waiting;
  is_of_each = λ image same pages. out image drained sender old seats at is next fewer (come.is_of_each image same pages);
}

-- a new worker has packed nothing
new_packed : (image : Image) (first : MultiSending) (old : OpenMulti) (seats : List SeatView) (seat : SeatView) (at : ℕ) (text : List ℕ) → IsOpenMulti old
    → at ≡ handed_out old → old.seats ≡ seats ++ seat ∷ [] → text ≡ get_or old.sender.channels at [] → length old.sender.channels ≡ length first.channels
    → AreWaiting first old → HasPackedSoFar image old.terms seat (get_or first.channels at []) text
new_packed image first old seats seat at text is next last has_text same waiting =
    let fewer : length old.seats ≡ length seats + 1 = ap length last ∙ length-append seats (seat ∷ []) in
    record {
      numbers = [];
      has_drawn = all_end (λ (s : SeatView). s ≡ new_seat old.terms.deal) seats seat
          (subst (All (λ (s : SeatView). s ≡ new_seat old.terms.deal)) last is.are_new);
      claim_batches = λ i d lt. absurd (omega (arith, lt));
      rise = λ i j d before within. absurd (omega (arith, within));
      has_text = has_text ∙ waiting at (omega (arith, next)) (omega (arith, next, fewer, is.are_few, same)) ∙ sym (append-nil (get_or first.channels at []));
    }

-- a worker with the last seat left and the next channel's bytes is the next one given out
pub hands_out : (old : OpenMulti) (sender : MultiSending) (seats : List SeatView) (seat : SeatView) (at : ℕ) (text : List ℕ) → IsOpenMulti old
    → at ≡ handed_out old → old.seats ≡ seats ++ seat ∷ []
    → sender ≡ record old.sender { channels = slice_set old.sender.channels at [] } → text ≡ get_or old.sender.channels at []
    → HandsOut old (record old { sender = sender; seats = seats }) (record { terms = old.terms; channel = at; hand = Drawing seat; text = text })
hands_out old sender seats seat at text is next last same has_text =
    let fewer : length old.seats ≡ length seats + 1 = ap length last ∙ length-append seats (seat ∷ []) in
    let few = is.are_few in
    record {
      same_terms = refl;
      worker_terms = refl;
      is_next = next;
      one_fewer = fewer;
      same_spents = refl;
      same_sender = same;
      has_come = λ image drained first come. (
        subst (λ (s : MultiSending). IsRoundSoFar image drained first (record old { sender = s; seats = seats })) (sym same)
            (out image drained first old seats at is next fewer come),
        new_packed image first old seats seat at text is next last has_text come.same_channels come.are_waiting,
      );
      each_come = λ memories drained first come. (
        subst (λ (s : MultiSending). IsRoundOfEach memories drained first (record old { sender = s; seats = seats })) (sym same)
            (out_each memories drained first old seats at is next fewer come),
        λ own image _ _. new_packed image first old seats seat at text is next last has_text come.same_channels come.are_waiting,
      );
    }

-- ---- a worker given back

-- a round stays open if a worker of its deal is given back, and fewer came back than went out
pub back_open : (old : OpenMulti) (sender : MultiSending) (spents : List SeatView) (spent : SeatView) (at : ℕ) (text : List ℕ) → IsOpenMulti old
    → length old.spents < handed_out old → spent.deal ≡ old.terms.deal
    → sender ≡ record old.sender { channels = slice_set old.sender.channels at text } → spents ≡ old.spents ++ spent ∷ []
    → IsOpenMulti (record old { sender = sender; spents = spents })
back_open old sender spents spent at text is few own same more =
    let long = length-set old.sender.channels at text in
    let grown : length spents ≡ length old.spents + 1 = ap length more ∙ length-append old.spents (spent ∷ []) in
    let P : SeatView → Type 0 = λ seat. seat.deal ≡ old.terms.deal in
    subst (λ (s : MultiSending). IsOpenMulti (record old { sender = s; spents = spents })) (sym same)
    record {
      same_table = is.same_table;
      claims = is.claims;
      are_cut = is.are_cut;
      are_places = is.are_places;
      has_base = is.has_base;
      base_fits = is.base_fits;
      as_many = is.as_many ∙ sym long;
      are_new = is.are_new;
      are_own = subst (All P) (sym more) (All-push P old.spents spent is.are_own own);
      are_few = omega (arith, few, grown, long);
    }

-- the other channels' bytes stay
back_waiting : (sender : MultiSending) (old : OpenMulti) (spents : List SeatView) (at : ℕ) (text : List ℕ) → IsOpenMulti old → at ≡ length old.spents
    → length old.spents < handed_out old → AreWaiting sender old
    → AreWaiting sender record old { sender = record old.sender { channels = slice_set old.sender.channels at text }; spents = spents }
back_waiting sender old spents at text is turn few waiting = λ channel from lt.
    let channels = old.sender.channels in
    let long = length-set channels at text in
    get_or-set_other channels at channel text [] (λ same. absurd (omega (arith, from, turn, few, same, long)))
    ∙ waiting channel (omega (arith, from, long)) lt

-- a round of an image goes on as such if the next worker comes back with its share of it packed
pub back : (image : Image) (drained : ℕ → List ℕ) (sender : MultiSending) (old : OpenMulti) (spent : SeatView) (at : ℕ) (text : List ℕ) → IsOpenMulti old
    → at ≡ length old.spents → length old.spents < handed_out old
    → IsRoundSoFar image drained sender old → HasPackedShare image old.terms spent (get_or sender.channels at []) (drained at ++ text)
    → IsRoundSoFar image drained sender record old {
      sender = record old.sender {
        channels =
            slice_set old.sender.channels at text;
      };
      spents = old.spents ++ spent ∷ [];
    }
back image drained sender old spent at text is turn few come packed =
    let channels = old.sender.channels in
    let long = length-set channels at text in
    let as_many : length come.shares ≡ length old.spents = AllZip-long (HasShare (new_seat old.terms.deal)) old.spents come.shares come.have_shares in
    let inside : at < length channels = omega (arith, turn, few) in
    let shares = come.shares ++ packed.share ∷ [] in
    let share_bytes : Share → List ℕ = share_text old.terms.deal.base image old.terms.batches in
    record {
      same_sender = ap (λ (s : MultiSending). record s { channels = slice_set channels at text }) come.same_sender;
      same_channels = long ∙ come.same_channels;
      shares = shares;
      have_shares = zip_push (HasShare (new_seat old.terms.deal)) old.spents come.shares spent packed.share come.have_shares packed.has_share;
      have_texts = λ channel lt. elim (cases_lt channel (length old.spents)) as
          (λ _. drained channel ++ get_or (slice_set channels at text) channel [] ≡ get_or sender.channels channel []
          ++ share_bytes (get_or shares channel no_share)) [
            | inl below ↦
                ap (λ (l : List ℕ). drained channel ++ l) (get_or-set_other channels at channel text [] (λ same. absurd (omega (arith, below, turn, same))))
                ∙ come.have_texts channel below
                ∙ ap (λ (s : Share). get_or sender.channels channel [] ++ share_bytes s)
                (sym (get_or_append_left come.shares (packed.share ∷ []) no_share channel (omega (arith, below, as_many))))
            | inr above ↦
                let here : channel ≡ at = omega (arith, lt, above, turn, length-append old.spents (spent ∷ [])) in
                let last : channel ≡ length come.shares = omega (arith, here, turn, as_many) in
                ap (λ (l : List ℕ). drained channel ++ l) (get_or-set_at channels at channel text [] here inside)
                ∙ ap (λ (n : ℕ). drained n ++ text) here
                ∙ packed.has_text
                ∙ ap (λ (n : ℕ). get_or sender.channels n [] ++ share_bytes packed.share) (sym here)
                ∙ ap (λ (s : Share). get_or sender.channels channel [] ++ share_bytes s)
                (sym (get_or_push come.shares packed.share no_share channel (sym last)))
          ];
      are_waiting = back_waiting sender old (old.spents ++ spent ∷ []) at text is turn few come.are_waiting;
    }

-- an image that has the pages of all channels has those of the earlier ones, and of this one
earlier_sent : (memories : ℕ → ℕ → Image) (own : ℕ
    → Image) (old : OpenMulti) (sender : MultiSending) (spent : SeatView) (at : ℕ) (image : Image) → at ≡ length old.spents
    → HasPagesSent (with_memories memories at own) (record old { sender = sender; spents = old.spents ++ spent ∷ [] }) image
    → HasPagesSent memories old image × HasPagesBelow (end_of_work old.terms.deal) image old.terms spent own
earlier_sent memories own old sender spent at image turn pages =
    let deal = old.terms.deal in
    let more = length-append old.spents (spent ∷ []) in
    let Has : SeatView → (ℕ → Image) → Type 0 = HasPagesBelow (end_of_work deal) image old.terms in (
      λ channel lt.
          subst (λ (own : ℕ → Image). Has (get_or old.spents channel (new_seat deal)) own)
          (cond-false (channel == at) own (memories channel) (other_channel channel at (omega (arith, lt, turn))))
          (subst (λ (s : SeatView). Has s (cond (channel == at) own (memories channel))) (get_or_append_left old.spents (spent ∷ []) (new_seat deal) channel lt)
          (pages channel (omega (arith, lt, more)))),
      subst (λ (own : ℕ → Image). Has spent own) (cond-true (at == at) own (memories at) (eq-eqb at at refl))
          (subst (λ (s : SeatView). Has s (cond (at == at) own (memories at))) (get_or_push old.spents spent (new_seat deal) at (sym turn))
          (pages at (omega (arith, turn, more)))),
    )
  where
    other_channel : (channel at : ℕ) → channel < at → (channel == at) ≡ false
    other_channel channel at lt = elim (cases_Bool (channel == at)) [
      | inl same ↦ absurd (omega (arith, lt, eqb-true channel at same))
      | inr other ↦ other
    ]

back_each : (memories : ℕ → ℕ → Image) (own : ℕ → Image) (drained : ℕ
    → List ℕ) (sender : MultiSending) (old : OpenMulti) (spent : SeatView) (at : ℕ) (text : List ℕ) → IsOpenMulti old
    → at ≡ length old.spents → length old.spents < handed_out old → IsRoundOfEach memories drained sender old
    → ((image : Image) → image.table ≡ old.terms.table → HasPagesBelow (end_of_work old.terms.deal) image old.terms spent own
    → HasPackedShare image old.terms spent (get_or sender.channels at []) (drained at ++ text))
    → IsRoundOfEach (with_memories memories at own) drained
    sender record old { sender = record old.sender { channels = slice_set old.sender.channels at text }; spents = old.spents ++ spent ∷ [] }
back_each memories own drained sender old spent at text is turn few come packed = record {
  same_channels = length-set old.sender.channels at text ∙ come.same_channels;
  are_waiting = back_waiting sender old (old.spents ++ spent ∷ []) at text is turn few come.are_waiting;
  is_of_each = λ image same pages.
      let have = earlier_sent memories own old (record old.sender { channels = slice_set old.sender.channels at text }) spent at image turn pages in
      back image drained sender old spent at text is turn few (come.is_of_each image same have.0) (packed image same have.1);
}

-- its bytes are its channel's, and its seat is the round's
pub takes_back : (worker : ChannelWork) (old : OpenMulti) (sender : MultiSending) (spents : List SeatView) (spent : SeatView) → IsOpenMulti old
    → worker.terms ≡ old.terms → worker.channel ≡ length old.spents → length old.spents < handed_out old → worker.hand ≡ Ended spent
    → sender ≡ record old.sender { channels = slice_set old.sender.channels worker.channel worker.text } → spents ≡ old.spents ++ spent ∷ []
    → TakesBack worker old (record old { sender = sender; spents = spents })
takes_back worker old sender spents spent is own_terms turn few ended same more = record {
  same_terms = refl;
  same_seats = refl;
  one_more = more ∙ ap (λ (hand : Hand). old.spents ++ seats_of hand) (sym ended);
  same_sender = same;
  has_come = λ image drained first come packed.
      let before = get_or first.channels worker.channel [] in
      let whole = drained worker.channel ++ worker.text in
      let share : HasPackedShare image old.terms spent before whole =
      subst (λ (terms : RoundTerms). HasPackedTo image terms before whole (Ended spent)) own_terms
      (subst (λ (hand : Hand). HasPackedTo image worker.terms before whole hand) ended packed) in
      subst (λ (s : MultiSending). IsRoundSoFar image drained first (record old { sender = s; spents = spents })) (sym same)
      (subst (λ (l : List SeatView). IsRoundSoFar image drained first
      (record old { sender = record old.sender { channels = slice_set old.sender.channels worker.channel worker.text }; spents = l })) (sym more)
      (back image drained first old spent worker.channel worker.text is turn few come share));
  each_come = λ memories own drained first come packed.
      let before = get_or first.channels worker.channel [] in
      let whole = drained worker.channel ++ worker.text in
      let all = with_memories memories worker.channel own in
      let share : (image : Image) → image.table ≡ old.terms.table
      → HasPagesBelow (end_of_work old.terms.deal) image old.terms spent own → HasPackedShare image old.terms spent before whole =
      subst (λ (terms : RoundTerms). (image : Image) → image.table ≡ terms.table → HasPagesPacked image terms own (Ended spent)
      → HasPackedTo image terms before whole (Ended spent)) own_terms
      (subst (λ (hand : Hand). (image : Image) → image.table ≡ worker.terms.table → HasPagesPacked image worker.terms own hand
      → HasPackedTo image worker.terms before whole hand) ended packed) in
      subst (λ (s : MultiSending). IsRoundOfEach all drained first (record old { sender = s; spents = spents })) (sym same)
      (subst (λ (l : List SeatView). IsRoundOfEach all drained first
      (record old { sender = record old.sender { channels = slice_set old.sender.channels worker.channel worker.text }; spents = l })) (sym more)
      (back_each memories own drained first old spent worker.channel worker.text is turn few come share));
}

-- ---- ended

-- a round of an image is sent once all workers are back, if they drew each number of the deal once
-- and the main stream has a FLUSH more
pub ended : (image : Image) (drained : ℕ → List ℕ) (old : MultiSending) (round : OpenMulti) (main : Writer) (base rounds next : ℕ) → IsImage image
    → image.table ≡ round.sender.main.table → IsOpenMulti round → IsRoundSoFar image drained old round → length round.spents ≡ length round.sender.channels
    → next ≡ end_of_deal round.terms.deal → HasEachOnce round.terms.deal.base next (all_drawn round.spents)
    → main.table ≡ round.sender.main.table → HasFlushed round.sender.main main
    → base ≡ round.sender.base + (length round.terms.batches + length round.sender.channels) → rounds ≡ round.sender.rounds + 1
    → HasSentRound drained (record { image = image; dirty = dirty_of round.terms }) old (record round.sender { main = main; base = base; rounds = rounds })
ended image drained old round main base rounds next is_image of_table is come all end once same_table flushed has_base has_rounds =
    let terms = round.terms in
    let deal = terms.deal in
    let same = come.same_sender in
    let channels = round.sender.channels in
    let new : MultiSending = record round.sender { main = main; base = base; rounds = rounds } in
    let as_many : length come.shares ≡ length round.spents = AllZip-long (HasShare (new_seat deal)) round.spents come.shares come.have_shares in
    let dealt : DealtRound = record {
      snapshot = record { image = image; dirty = dirty_of terms };
      batches = terms.batches;
      base = old.base;
      shares = come.shares;
    } in
    let old_main : round.sender.main ≡ old.main = ap (λ (s : MultiSending). s.main) same in
    let old_base : round.sender.base ≡ old.base = ap (λ (s : MultiSending). s.base) same in
    let old_rounds : round.sender.rounds ≡ old.rounds = ap (λ (s : MultiSending). s.rounds) same in
    let old_limit : round.sender.limit ≡ old.limit = ap (λ (s : MultiSending). s.limit) same in
    let old_table : round.sender.main.table ≡ old.main.table = ap (λ (w : Writer). w.table) old_main in
    let deal_base : deal.base ≡ old.base = is.has_base ∙ old_base in
    let keeps : KeepsSetting old new = record {
      same_table = same_table ∙ old_table;
      same_uuid = ap (λ (s : MultiSending). s.uuid) same;
      same_limit = old_limit;
      as_many = come.same_channels;
    } in
    let is_dealing : IsDealing deal.base deal.batches come.shares =
    shares_are_dealt deal round.spents come.shares come.have_shares (all ∙ sym is.as_many)
    (subst (λ n. HasEachOnce deal.base n (all_drawn round.spents)) end once) in
    let is_dealt : IsDealtRound old.main.table old.limit (length old.channels) dealt = record {
      has_image = is_image;
      has_table = of_table ∙ old_table;
      has_places = subst (λ (t : RamTable). IsPlaceSet (record { table = t; marked = dirty_of terms })) (is.same_table ∙ old_table) is.are_places;
      has_batches = rw (sym old_limit) is.are_cut;
      has_shares = subst (λ n. IsDealing n (length terms.batches) come.shares) deal_base
          (subst (λ n. IsDealing deal.base n come.shares) (sym is.claims.as_many) is_dealing);
      as_many = as_many ∙ all ∙ come.same_channels;
    } in
    let base_is : new.base ≡ old.base + packet_count dealt = omega (arith, has_base, old_base, as_many, all) in
    let rounds_is : new.rounds ≡ old.rounds + 1 = omega (arith, has_rounds, old_rounds) in
    record {
      round = dealt;
      is_of = refl;
      is_dealt = is_dealt;
      goes_on = refl;
      has_base = base_is;
      has_rounds = rounds_is;
      has_sent = λ before some sent. sent_on old new dealt before (with_channels before drained) keeps is_dealt refl base_is rounds_is
          (subst (λ (w : Writer). HasFlushed w main) old_main flushed) refl
          (λ channel below.
          append_assoc (before.channel channel) (drained channel) (get_or channels channel [])
          ∙ ap (λ (l : List ℕ). before.channel channel ++ l)
          (come.have_texts channel (omega (arith, below, all, come.same_channels))
          ∙ ap (λ n. get_or old.channels channel [] ++ share_text n image terms.batches (get_or come.shares channel no_share)) deal_base)
          ∙ sym (append_assoc (before.channel channel) (get_or old.channels channel [])
          (share_text old.base image terms.batches (get_or come.shares channel no_share))))
          some sent;
    }

-- if none of its bytes was drained, it is a round as any other
pub undrained : (snapshot : Snapshot) (old new : MultiSending) → HasSentRound none_drained snapshot old new → HasSentOne snapshot old new
undrained snapshot old new sent = record {
  round = sent.round;
  is_of = sent.is_of;
  is_dealt = sent.is_dealt;
  goes_on = sent.goes_on;
  has_base = sent.has_base;
  has_rounds = sent.has_rounds;
  has_sent = λ drained rounds before.
      let after = sent.has_sent drained rounds before in
      record {
        are_dealt = after.are_dealt;
        are_numbered = after.are_numbered;
        has_main = after.has_main;
        has_texts = λ channel lt.
            ap (λ (l : List ℕ). l ++ get_or new.channels channel []) (sym (append-nil (drained.channel channel))) ∙ after.has_texts channel lt;
        has_base = after.has_base;
        has_rounds = after.has_rounds;
      };
}

-- if the steps had different memories, it has sent an image that has the pages of each
sent_each : (memories : ℕ → ℕ → Image) (drained : ℕ → List ℕ) (old : MultiSending) (round : OpenMulti) (main : Writer)
    (base rounds next : ℕ) → IsOpenMulti round
    → ((channel number : ℕ) → IsImage (memories channel number) × ((memories channel number).table ≡ round.terms.table))
    → IsRoundOfEach memories drained old round
    → length round.spents ≡ length round.sender.channels
    → next ≡ end_of_deal round.terms.deal → HasEachOnce round.terms.deal.base next (all_drawn round.spents)
    → main.table ≡ round.sender.main.table → HasFlushed round.sender.main main
    → base ≡ round.sender.base + (length round.terms.batches + length round.sender.channels) → rounds ≡ round.sender.rounds + 1
    → HasSentEach memories drained round old (record round.sender { main = main; base = base; rounds = rounds })
sent_each memories drained old round main base rounds next is are come all end once same_table flushed has_base has_rounds =
    let terms = round.terms in
    let deal = terms.deal in
    let image = sent_image terms.table deal.base terms.batches round.spents memories in
    let of_table = sent_table terms.table deal.base terms.batches round.spents memories in
    let is_image = sent_is_image terms.table deal.base terms.batches round.spents memories are in
    let pages : HasPagesSent memories round image = λ channel within number drew below.
    sent_has_pages terms.table deal.base next terms.batches round.spents memories channel number
    (new_seat deal) is.claims.are_batches is.are_places.is_ascending once
    (omega (arith, below, end)) (omega (arith, below, is.claims.as_many)) within drew in
    record {
      image = image;
      is_image = is_image;
      has_table = of_table;
      has_pages = pages;
      has_batches = λ i lt.
          let number = deal.base + i in
          let before : number < next = omega (arith, lt, end, is.claims.as_many) in
          let by = drawn_by deal.base next number round.spents (new_seat deal) once (omega arith) before in
          let back : number - deal.base ≡ i = omega arith in
          record {
            channel = by.0;
            is_back = by.1;
            has_drawn = by.2;
            has_pages = subst (λ k. HasPagesOf image (get_or terms.batches k no_batch) (memories by.0 number)) back
                (pages by.0 by.1 number by.2 (omega (arith, lt, is.claims.as_many)));
          };
      has_sent = ended image drained old round main base rounds next is_image (of_table ∙ is.same_table) is
          (come.is_of_each image of_table pages) all end once same_table flushed has_base
          has_rounds;
    }

-- an open round whose workers are all back ends with a FLUSH more, if they drew each number once
pub ends_round : (round : OpenMulti) (main : Writer) (base rounds next : ℕ) → IsOpenMulti round → length round.spents ≡ length round.sender.channels
    → next ≡ end_of_deal round.terms.deal → HasEachOnce round.terms.deal.base next (all_drawn round.spents)
    → main.table ≡ round.sender.main.table → HasFlushed round.sender.main main
    → base ≡ round.sender.base + (length round.terms.batches + length round.sender.channels) → rounds ≡ round.sender.rounds + 1
    → EndsRound round (record round.sender { main = main; base = base; rounds = rounds })
ends_round round main base rounds next is all end once same_table flushed has_base has_rounds = record {
  same_setting = record { same_table = same_table; same_uuid = refl; same_limit = refl; as_many = refl };
  has_sent = λ image drained old is_image of_table come.
      ended image drained old round main base rounds next is_image of_table is come all end once same_table flushed has_base has_rounds;
  has_sent_undrained = λ image old is_image of_table come.
      undrained _ old _ (ended image none_drained old round main base rounds next is_image of_table is come all end once
      same_table flushed has_base has_rounds);
  has_sent_each = λ memories drained old are come.
      sent_each memories drained old round main base rounds next is are come all end once same_table flushed has_base has_rounds;
}
