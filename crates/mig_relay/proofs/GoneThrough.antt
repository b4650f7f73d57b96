-- A channel processed, item by item, up to the end of a round or the stop.
use Rattle.std.proofs.Common.{ℕ, ◌≡◌, ◌≢◌, ◌+◌, ◌<◌, ◌≤◌, true, false, List, [], ◌∷◌, ◌++◌, length, map, take, drop, refl, sym, ap, ◌∙◌, inl, inr, Option, Some}
use Rattle.std.proofs.Common.{arith, subst, append_assoc, get_or}
use Rattle.std.specs.Prelude.{IfSome, slice_get, slice_set}
use Rattle.std.specs.List.{All, AllZip}
use Rattle.std.proofs.lemmas.List.{append-nil, length-append, map-append, take-append-drop}
use Rattle.std.proofs.lemmas.List.Elements.{All-nil, All-append, All-cons}
use Rattle.mig_mem.specs.PageSize.{IsPageSize}
use Rattle.mig_packet.specs.declared.packet.Packet.{Packet}
use Rattle.mig_packet.specs.Lent.{fields}
use Rattle.mig_packet.specs.Packet.{Fields}
use Rattle.mig_packet.specs.ChannelItems.{ChannelItem, Hello, Page, Stop, AreItems}
use Rattle.mig_single_load.proofs.Sections.{of_some}
use Rattle.mig_relay.specs.declared.item.ChannelEnd.{ChannelEnd}
use Rattle.mig_relay.specs.declared.item.ChannelEnd.TheVariants as channel_end
use Rattle.mig_relay.specs.declared.item.Item.{Item}
use Rattle.mig_relay.specs.declared.item.Item.TheVariants as item
use Rattle.mig_relay.specs.declared.log.ChannelText.{ChannelText}
use Rattle.mig_answer.specs.declared.status.Status.TheVariants.{Whole, Pending}
use Rattle.mig_answer.specs.Received.{rounds_in, end_in, round_count, IsFront}
use Rattle.mig_relay.specs.RelayItems.{given, end_fault, as_channel_item, IsOfPageSize, QueueEnd, BeginsItems, IsThrough}
use Rattle.mig_relay.specs.Relayed.{stop_status, Continues, IsOpenAt, IsAt, IsAtRound, HasGone, GivesItem, GoesThrough}
use Rattle.mig_answer.proofs.Statuses.{status_whole, status_end}
use Rattle.mig_answer.proofs.Received.{stop_law, counted_law}
use Rattle.mig_answer.proofs.ReceivedSteps.{HoldsRounds, holds_hello, holds_packet, holds_sync, holds_stop, holds_count, end_comes}
use Rattle.mig_relay.proofs.GoingThrough.{set_there, set_same, set_twice, is_there, goes_on, goes_further, one_goes_on}

-- ---- on the way

-- channel j was processed from one place to another, and brought these packets, without the end of
-- a round
pub record Going (j at : ℕ) (old new : List QueueEnd) (to : ℕ) (packets : List Packet) : Type 0 where
  pub before : QueueEnd
  pub behind : QueueEnd
  pub has_before : slice_get old j ≡ Some before
  pub has_new : new ≡ slice_set old j behind
  pub continues : Continues before behind
  pub is_open : IsOpenAt to behind
  pub of_size : All (λ packet. packet.page_size ≡ before.source.page_size) packets
  pub holds : (rounds : List (List Fields)) → IsAt at before.passed rounds → HoldsRounds (take to behind.passed) rounds (map fields packets)

-- a channel that is at round k at an index was processed from there to there, without packets
pub going_starts : (j at k : ℕ) (old : List QueueEnd) → j < length old → IfSome (slice_get old j) (λ p. IsAtRound k at p.passed) → Going j at old old at []
going_starts j at k old within h =
    let found = is_there old j within in
    let p : QueueEnd = found.0 in
    let here : IsAtRound k at p.passed = of_some (λ (p : QueueEnd). IsAtRound k at p.passed) (slice_get old j) p found.1 h in
    record {
      before = p;
      behind = p;
      has_before = found.1;
      has_new = sym (set_same old j p found.1);
      continues = goes_on p;
      is_open = (here.is_at.within, here.is_at.is_open);
      of_size = All-nil (λ (packet : Packet). packet.page_size ≡ p.source.page_size);
      holds = λ rounds is. is.has_rounds;
    }

-- the items of a channel up to which it was processed, without the end of a round, were taken,
-- and the stop isn't among them
pub going_opens : (j at to : ℕ) (old new : List QueueEnd) (packets : List Packet) → Going j at old new to packets → IfSome (slice_get new j) (IsOpenAt to)
going_opens j at to old new packets going =
    let now : slice_get new j ≡ Some going.behind = ap (λ (l : List QueueEnd). slice_get l j) going.has_new
    ∙ set_there old j going.before going.behind going.has_before in
    subst (λ (o : Option QueueEnd). IfSome o (IsOpenAt to)) (sym now) going.is_open

-- where a channel is processed, all ends continue those before
pub going_within : (j at to : ℕ) (old new : List QueueEnd) (packets : List Packet) → Going j at old new to packets → AllZip Continues old new
going_within j at to old new packets going =
    subst (AllZip Continues old) (sym going.has_new) (one_goes_on old j going.before going.behind going.has_before going.continues)

-- the channel with its next item
record Stepped (j to : ℕ) (old new : List QueueEnd) (before behind now : QueueEnd) (x : Item) : Type 0 where
  has_new : new ≡ slice_set old j now
  continues : Continues before now
  begun : BeginsItems now.source now.passed
  within : to + 1 ≤ length now.passed
  has_front : take (to + 1) now.passed ≡ take to behind.passed ++ as_channel_item x ∷ []
  is_page_size : IsPageSize now.source.page_size
  of_size : IsOfPageSize before.source.page_size x

steps : (j at to : ℕ) (old mid new : List QueueEnd) (packets : List Packet) (x : Item) (going : Going j at old mid to
    packets) (gives : GivesItem j to mid new x)
    → Stepped j to old new going.before going.behind gives.behind x
steps j at to old mid new packets x going gives =
    let now : slice_get mid j ≡ Some going.behind = ap (λ (l : List QueueEnd). slice_get l j) going.has_new
    ∙ set_there old j going.before going.behind going.has_before in
    let same : gives.before ≡ going.behind = let e : Some gives.before ≡ Some going.behind = sym gives.has_before ∙ now in cc in
    let continues : Continues going.behind gives.behind = subst (λ (p : QueueEnd). Continues p gives.behind) same gives.continues in
    let there = gives.is_there in
    record {
      has_new = gives.has_new ∙ ap (λ (l : List QueueEnd). slice_set l j gives.behind) going.has_new ∙ set_twice old j going.behind gives.behind;
      continues = goes_further going.before going.behind gives.behind going.continues continues;
      begun = gives.begun;
      within = omega (arith, there);
      has_front = gives.has_passed ∙ ap (λ (p : QueueEnd). take to p.passed ++ as_channel_item x ∷ []) same;
      is_page_size = subst (λ (t : ChannelText). IsPageSize t.page_size) (sym gives.continues.same_source) gives.is_page_size;
      of_size = subst (λ (t : ChannelText). IsOfPageSize t.page_size x)
          (ap (λ (p : QueueEnd). p.source) same ∙ going.continues.same_source) gives.has_page_size;
    }

-- a hello that comes next is processed, and adds no packet
pub going_hello : (j at to id : ℕ) (old mid new : List QueueEnd) (packets : List Packet) → Going j at old mid to packets
    → GivesItem j to mid new (item.Hello id) → Going j at old new (to + 1) packets
going_hello j at to id old mid new packets going gives =
    let s = steps j at to old mid new packets (item.Hello id) going gives in
    record {
      before = going.before;
      behind = gives.behind;
      has_before = going.has_before;
      has_new = s.has_new;
      continues = s.continues;
      is_open = (s.within, ap end_in s.has_front ∙ end_comes (take to going.behind.passed) (Hello id ∷ []) going.is_open.1);
      of_size = going.of_size;
      holds = λ rounds is. subst (λ (l : List ChannelItem). HoldsRounds l rounds (map fields packets)) (sym s.has_front)
          (holds_hello (take to going.behind.passed) rounds (map fields packets) id (going.holds rounds is));
    }

one_more_packet : (packets : List Packet) (packet : Packet) → map fields (packets ++ packet ∷ []) ≡ map fields packets ++ fields packet ∷ []
one_more_packet packets packet = map-append fields packets (packet ∷ [])

-- a packet without SYNC that comes next is processed, and is added to the packets
pub going_packet : (j at to : ℕ) (packet : Packet) (old mid new : List QueueEnd) (packets : List Packet)
    → Going j at old mid to packets → GivesItem j to mid new (item.Page packet)
    → (fields packet).sync ≡ false → Going j at old new (to + 1) (packets ++ packet ∷ [])
going_packet j at to packet old mid new packets going gives f =
    let s = steps j at to old mid new packets (item.Page packet) going gives in
    let OfSize : Packet → Type 0 = λ packet. packet.page_size ≡ going.before.source.page_size in
    record {
      before = going.before;
      behind = gives.behind;
      has_before = going.has_before;
      has_new = s.has_new;
      continues = s.continues;
      is_open = (s.within, ap end_in s.has_front ∙ end_comes (take to going.behind.passed) (Page (fields packet) ∷ []) going.is_open.1);
      of_size = All-append OfSize packets (packet ∷ []) going.of_size (All-cons OfSize packet [] s.of_size (All-nil OfSize));
      holds = λ rounds is. subst (λ (l : List ChannelItem). HoldsRounds l rounds (map fields (packets ++ packet ∷ []))) (sym s.has_front)
          (subst (HoldsRounds (take to going.behind.passed ++ Page (fields packet) ∷ []) rounds) (sym (one_more_packet packets packet))
          (holds_packet (take to going.behind.passed) rounds (map fields packets) (fields packet) f (going.holds rounds is)));
    }

-- ---- the end of a round

-- the rounds of all that was taken are those that were processed, and others
rounds_are : (to : ℕ) (passed : List ChannelItem) (rounds : List (List Fields)) → HoldsRounds (take to passed) rounds []
    → rounds_in passed ≡ rounds ++ rounds_in (drop to passed)
rounds_are to passed rounds holds = ap rounds_in (sym (take-append-drop to passed)) ∙ holds (drop to passed)

gone_whole_at : (k to : ℕ) (q : QueueEnd) (rounds : List (List Fields)) (packets : List Fields) → length rounds ≡ k
    → BeginsItems q.source q.passed → to ≤ length q.passed
    → end_in (take to q.passed) ≡ Pending → HoldsRounds (take to q.passed) (rounds ++ packets ∷ []) [] → HasGone k to q Whole packets
gone_whole_at k to q rounds packets count begun within is_open holds =
    let all : rounds_in q.passed ≡ (rounds ++ packets ∷ []) ++ rounds_in (drop to q.passed) = rounds_are to q.passed (rounds ++ packets ∷ []) holds in
    let split : rounds_in q.passed ≡ rounds ++ packets ∷ rounds_in (drop to q.passed) = all
    ∙ append_assoc rounds (packets ∷ []) (rounds_in (drop to q.passed)) in
    let more : k < round_count q.passed =
    omega (
      arith,
      count,
      counted_law q.passed,
      ap (λ (l : List (List Fields)). length l) split,
      length-append rounds (packets ∷ rounds_in (drop to q.passed)),
    ) in
    record {
      is_told = (begun, inl more);
      has_status = sym (status_whole k (round_count q.passed) (end_in q.passed) more);
      has_packets = λ _. sym (ap (λ (l : List (List Fields)). get_or l k []) split
          ∙ ap (λ (n : ℕ). get_or (rounds ++ packets ∷ rounds_in (drop to q.passed)) n []) (sym count)
          ∙ get_or_there rounds packets (rounds_in (drop to q.passed)));
      goes_on = λ _. record {
        rounds = rounds ++ packets ∷ [];
        has_count = omega (arith, count, length-append rounds (packets ∷ []));
        is_at = record { within = within; has_rounds = holds; is_open = is_open };
      };
    }
  where
    get_or_there : (xs : List (List Fields)) (x : List Fields) (ys : List (List Fields)) → get_or (xs ++ x ∷ ys) (length xs) [] ≡ x
    get_or_there [] x ys = refl
    get_or_there (y ∷ xs) x ys = get_or_there xs x ys

-- with a packet with SYNC the channel is processed through its round, which is whole
pub gone_whole : (j at to : ℕ) (packet : Packet) (old mid new : List QueueEnd) (packets : List Packet)
    → Going j at old mid to packets → GivesItem j to mid new (item.Page packet)
    → (fields packet).sync ≡ true → GoesThrough j at old new (to + 1) Whole (packets ++ packet ∷ [])
gone_whole j at to packet old mid new packets going gives t =
    let s = steps j at to old mid new packets (item.Page packet) going gives in
    let q : QueueEnd = gives.behind in
    let OfSize : Packet → Type 0 = λ packet. packet.page_size ≡ going.before.source.page_size in
    let is_open : end_in (take (to + 1) q.passed) ≡ Pending = ap end_in s.has_front
    ∙ end_comes (take to going.behind.passed) (Page (fields packet) ∷ []) going.is_open.1 in
    record {
      before = going.before;
      behind = q;
      has_before = going.has_before;
      has_new = s.has_new;
      continues = s.continues;
      has_page_size = All-append OfSize packets (packet ∷ []) going.of_size (All-cons OfSize packet [] s.of_size (All-nil OfSize));
      has_gone = λ k is.
          let holds : HoldsRounds (take (to + 1) q.passed) (is.rounds ++ (map fields packets ++ fields packet ∷ []) ∷ []) [] =
          subst (λ (l : List ChannelItem). HoldsRounds l (is.rounds ++ (map fields packets ++ fields packet ∷ []) ∷ []) []) (sym s.has_front)
          (holds_sync (take to going.behind.passed) is.rounds (map fields packets) (fields packet) t (going.holds is.rounds is.is_at)) in
          subst (HasGone k (to + 1) q Whole) (sym (one_more_packet packets packet))
          (gone_whole_at k (to + 1) q is.rounds (map fields packets ++ fields packet ∷ []) is.has_count s.begun s.within is_open holds);
    }

-- ---- the stop

-- a list that is the front of itself with more is all of it
front_is_all : (to : ℕ) (xs more : List ChannelItem) → take to xs ≡ xs ++ more → (take to xs ≡ xs) × (more ≡ [])
front_is_all to xs [] e = (e ∙ append-nil xs, refl)
front_is_all to xs (x ∷ more) e =
    absurd (omega (
      arith,
      ap (λ (l : List ChannelItem). length l) e,
      length-append xs (x ∷ more),
      ap (λ (l : List ChannelItem). length l) (take-append-drop to xs),
      length-append (take to xs) (drop to xs),
    ))

stop_tells : (end : ChannelEnd) → end_in (Stop (end_fault end) ∷ []) ≡ stop_status end
stop_tells channel_end.Clean = refl
stop_tells (channel_end.Bad f) = refl

stop_ends : (end : ChannelEnd) → stop_status end ≢ Pending
stop_ends channel_end.Clean = λ e. absurd cc
stop_ends (channel_end.Bad f) = λ e. absurd cc

stop_not_whole : (end : ChannelEnd) → stop_status end ≡ Whole → ⊥
stop_not_whole channel_end.Clean e = absurd cc
stop_not_whole (channel_end.Bad f) e = absurd cc

-- with the stop the channel is processed through, with the status of this stop
pub gone_stop : (j at to : ℕ) (end : ChannelEnd) (old mid new : List QueueEnd) (packets : List Packet)
    → Going j at old mid to packets → GivesItem j to mid new (item.Stop end)
    → GoesThrough j at old new (to + 1) (stop_status end) packets
gone_stop j at to end old mid new packets going gives =
    let s = steps j at to old mid new packets (item.Stop end) going gives in
    let q : QueueEnd = gives.behind in
    let ends : end_in (take (to + 1) q.passed) ≡ stop_status end =
    ap end_in s.has_front ∙ end_comes (take to going.behind.passed) (Stop (end_fault end) ∷ []) going.is_open.1 ∙ stop_tells end in
    let more : List ChannelItem = s.begun.0 in
    let front : IsFront (take (to + 1) q.passed) (q.passed ++ more) = record {
      rest = drop (to + 1) q.passed ++ more;
      has_rest = ap (λ (l : List ChannelItem). l ++ more) (sym (take-append-drop (to + 1) q.passed))
          ∙ append_assoc (take (to + 1) q.passed) (drop (to + 1) q.passed) more;
    } in
    let whole : take (to + 1) q.passed ≡ q.passed ++ more =
    (stop_law (given q.source) q.source.text (q.passed ++ more) (take (to + 1) q.passed) s.is_page_size s.begun.1 front).0
    (λ e. stop_ends end (sym ends ∙ e)) in
    let all = front_is_all (to + 1) q.passed more whole in
    let through : IsThrough q = subst (λ (l : List ChannelItem). AreItems (given q.source) q.source.text l)
    (ap (λ (l : List ChannelItem). q.passed ++ l) all.1 ∙ append-nil q.passed) s.begun.1 in
    record {
      before = going.before;
      behind = q;
      has_before = going.has_before;
      has_new = s.has_new;
      continues = s.continues;
      has_page_size = going.of_size;
      has_gone = λ k is.
          let holds : HoldsRounds q.passed is.rounds (map fields packets) =
          subst (λ (l : List ChannelItem). HoldsRounds l is.rounds (map fields packets)) (sym s.has_front ∙ all.0)
          (holds_stop (take to going.behind.passed) is.rounds (map fields packets) (end_fault end) (going.holds is.rounds is.is_at)) in
          let count : round_count q.passed ≡ k = holds_count q.passed is.rounds (map fields packets) holds ∙ is.has_count in
          record {
            is_told = (s.begun, inr through);
            has_status = sym (status_end k (round_count q.passed) (end_in q.passed) (sym count) ∙ ap end_in (sym all.0) ∙ ends);
            has_packets = λ e. absurd (stop_not_whole end e);
            goes_on = λ e. absurd (stop_not_whole end e);
          };
    }
