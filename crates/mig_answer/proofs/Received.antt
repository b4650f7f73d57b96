-- What was received of a channel's items says what its bytes say.
use Rattle.std.proofs.Common.{ℕ, suc, ◌≡◌, ◌≢◌, ◌+◌, ◌<◌, Bool, true, false, cond, List, [], ◌∷◌, ◌++◌, length, map, get_or, refl, sym, ap, ◌∙◌, inl, inr}
use Rattle.std.proofs.Common.{Option, Some, None, append_assoc, arith, subst}
use Rattle.std.specs.Prelude.{flat_map, IsFalse, IsTrue}
use Rattle.std.specs.List.{All}
use Rattle.std.proofs.Math.ListN.{get_or-map}
use Rattle.std.proofs.lemmas.Bool.{cases_Bool, cond-true, cond-false}
use Rattle.std.proofs.lemmas.List.{map-append, length-append, length-map, get_or_append_left, append-nil}
use Rattle.std.proofs.lemmas.List.Concat.{flat_map-cons}
use Rattle.std.proofs.lemmas.List.Elements.{All-nil, All-head, All-tail, All-push}
use Rattle.std.proofs.lemmas.List.Recursion.{is_count_by}
use Rattle.mig_mem.specs.PageSize.{IsPageSize}
use Rattle.mig_packet.specs.declared.state.ChannelState.{ChannelState}
use Rattle.mig_packet.specs.declared.state.ChannelState.TheVariants.{Reading, Closed, Bad}
use Rattle.mig_packet.specs.Packet.{Fields, fields_of, is_sync}
use Rattle.mig_packet.specs.ChannelItems.{ChannelItem, Hello, Page, Stop, item_of_hello, item_of_stop, all_packets, items_of, AreItems}
use Rattle.mig_packet.specs.Progress.{ChannelProgress, start, after_item, after}
use Rattle.mig_packet.specs.Reading.{ChannelReading, Settings, IsReading, after_all, state_at}
use Rattle.mig_packet.specs.Law.{EndsWithSync}
use Rattle.mig_packet.proofs.Limits.{limits_law}
use Rattle.mig_packet.proofs.Unique.{one_reading}
use Rattle.mig_answer.specs.declared.status.Status.TheVariants.{Pending}
use Rattle.mig_answer.specs.Status.{status_at, channel_end}
use Rattle.mig_answer.specs.Received.{ends_round, round_count, before_rounds, rounds_in, hello_in, end_in, TellsChannel, FrontTellsChannel, StopIsLast}
use Rattle.mig_answer.specs.Received.{RoundsAreCounted}
use Rattle.mig_answer.proofs.Statuses.{status_whole}

-- ---- as many rounds as SYNC packets

length_before : (packet : Fields) (rounds : List (List Fields)) → length (before_rounds packet rounds) ≡ length rounds
length_before packet [] = refl
length_before packet (round ∷ rounds) = refl

-- a packet in front of some items, with SYNC or without
pub with_sync : (packet : Fields) (pieces : List ChannelItem) → packet.sync ≡ true → rounds_in (Page packet ∷ pieces) ≡ (packet ∷ []) ∷ rounds_in pieces
with_sync packet pieces t = cond-true packet.sync ((packet ∷ []) ∷ rounds_in pieces) (before_rounds packet (rounds_in pieces)) t

-- a packet without SYNC belongs to the round that goes on after it
pub without_sync : (packet : Fields) (pieces : List ChannelItem) → packet.sync ≡ false
    → rounds_in (Page packet ∷ pieces) ≡ before_rounds packet (rounds_in pieces)
without_sync packet pieces f = cond-false packet.sync ((packet ∷ []) ∷ rounds_in pieces) (before_rounds packet (rounds_in pieces)) f

-- the rounds of a channel are counted by its sync packets
pub counted_law : RoundsAreCounted
counted_law = is_count_by (λ pieces. length (rounds_in pieces)) ends_round refl step
  where
    step : (piece : ChannelItem) (pieces : List ChannelItem)
        → length (rounds_in (piece ∷ pieces)) ≡ cond (ends_round piece) (1 + length (rounds_in pieces)) (length (rounds_in pieces))
    step (Hello id) pieces = refl
    step (Stop end) pieces = refl
    step (Page packet) pieces =
        let n : ℕ = length (rounds_in pieces) in
        elim (cases_Bool packet.sync) [
          | inl t ↦
              let one : suc n ≡ 1 + n = omega arith in
              ap (λ (rs : List (List Fields)). length rs) (with_sync packet pieces t) ∙ one ∙ sym (cond-true packet.sync (1 + n) n t)
          | inr f ↦ ap (λ (rs : List (List Fields)). length rs) (without_sync packet pieces f) ∙ length_before packet (rounds_in pieces)
              ∙ sym (cond-false packet.sync (1 + n) n f)
        ]

-- ---- a front's rounds are the first

before_more : (packet : Fields) (rounds more : List (List Fields))
    → (rest : List (List Fields)) × (before_rounds packet (rounds ++ more) ≡ before_rounds packet rounds ++ rest)
before_more packet [] more = (before_rounds packet more, refl)
before_more packet (round ∷ rounds) more = (more, refl)

more_rounds : (front rest : List ChannelItem) → (more : List (List Fields)) × (rounds_in (front ++ rest) ≡ rounds_in front ++ more)
more_rounds [] rest = (rounds_in rest, refl)
more_rounds (Hello id ∷ front) rest = more_rounds front rest
more_rounds (Stop end ∷ front) rest = more_rounds front rest
more_rounds (Page packet ∷ front) rest =
    let next = more_rounds front rest in
    elim (cases_Bool packet.sync) [
      | inl t ↦ (
        next.0,
        with_sync packet (front ++ rest) t ∙ ap (λ (rs : List (List Fields)). (packet ∷ []) ∷ rs) next.1
            ∙ ap (λ (rs : List (List Fields)). rs ++ next.0) (sym (with_sync packet front t)),
      )
      | inr f ↦ let here = before_more packet (rounds_in front) next.0 in (
        here.0,
        without_sync packet (front ++ rest) f ∙ ap (before_rounds packet) next.1 ∙ here.1
            ∙ ap (λ (rs : List (List Fields)). rs ++ here.0) (sym (without_sync packet front f)),
      )
    ]

hello_first : (front rest : List ChannelItem) → 0 < round_count front → hello_in front ≡ hello_in (front ++ rest)
hello_first [] rest some = absurd (omega (arith, some))
hello_first (Hello id ∷ front) rest some = refl
hello_first (Page packet ∷ front) rest some = refl
hello_first (Stop end ∷ front) rest some = refl

-- ---- all items of a channel

abbrev IsOpen : List ℕ → Type 0
IsOpen packet = IsFalse (is_sync packet)

abbrev pages : ℕ → List (List ℕ) → List ChannelItem
pages page_size packets = map (λ (packet : List ℕ). Page (fields_of page_size packet)) packets

rounds_of_stop : (state : ChannelState) → rounds_in (item_of_stop state) ≡ []
rounds_of_stop Reading = refl
rounds_of_stop Closed = refl
rounds_of_stop (Bad f) = refl

rounds_of_open : (page_size : ℕ) (packets : List (List ℕ)) (more : List ChannelItem) → All IsOpen packets → rounds_in more ≡ []
    → rounds_in (pages page_size packets ++ more) ≡ []
rounds_of_open page_size [] more all none = none
rounds_of_open page_size (packet ∷ packets) more all none =
    without_sync (fields_of page_size packet) (pages page_size packets ++ more) (All-head IsOpen packet packets all)
    ∙ ap (before_rounds (fields_of page_size packet)) (rounds_of_open page_size packets more (All-tail IsOpen packet packets all) none)

rounds_of_round : (page_size : ℕ) (before : List (List ℕ)) (last : List ℕ) (more : List ChannelItem) → All IsOpen before → IsTrue (is_sync last)
    → rounds_in (pages page_size (before ++ last ∷ []) ++ more) ≡ map (fields_of page_size) (before ++ last ∷ []) ∷ rounds_in more
rounds_of_round page_size [] last more all sync = with_sync (fields_of page_size last) more sync
rounds_of_round page_size (packet ∷ before) last more all sync =
    without_sync (fields_of page_size packet) (pages page_size (before ++ last ∷ []) ++ more) (All-head IsOpen packet before all)
    ∙ ap (before_rounds (fields_of page_size packet)) (rounds_of_round page_size before last more (All-tail IsOpen packet before all) sync)

rounds_of_all : (page_size : ℕ) (rounds : List (List (List ℕ))) (packets : List (List ℕ)) (more : List ChannelItem)
    → All EndsWithSync rounds → All IsOpen packets → rounds_in more ≡ []
    → rounds_in (pages page_size (flat_map (λ round. round) rounds ++ packets) ++ more) ≡ map (map (fields_of page_size)) rounds
rounds_of_all page_size [] packets more ends opens none = rounds_of_open page_size packets more opens none
rounds_of_all page_size (round ∷ rounds) packets more ends opens none =
    let is : EndsWithSync round = All-head EndsWithSync round rounds ends in
    let later : List (List ℕ) = flat_map (λ (r : List (List ℕ)). r) rounds ++ packets in
    let rest : List ChannelItem = pages page_size later ++ more in
    let page : List ℕ → ChannelItem = λ (packet : List ℕ). Page (fields_of page_size packet) in
    let joined : pages page_size (flat_map (λ (r : List (List ℕ)). r) (round ∷ rounds) ++ packets) ++ more ≡ pages page_size round ++ rest =
    ap (λ (ps : List (List ℕ)). pages page_size (ps ++ packets) ++ more) (flat_map-cons (λ (r : List (List ℕ)). r) round rounds)
    ∙ ap (λ (ps : List (List ℕ)). pages page_size ps ++ more) (append_assoc round (flat_map (λ (r : List (List ℕ)). r) rounds) packets)
    ∙ ap (λ (ps : List ChannelItem). ps ++ more) (map-append page round later)
    ∙ append_assoc (pages page_size round) (pages page_size later) more in
    let first : rounds_in (pages page_size round ++ rest) ≡ map (fields_of page_size) round ∷ rounds_in rest =
    subst (λ (r : List (List ℕ)). rounds_in (pages page_size r ++ rest) ≡ map (fields_of page_size) r ∷ rounds_in rest) (sym is.has_packets)
    (rounds_of_round page_size is.before is.last rest is.none_before is.is_last) in
    ap rounds_in joined ∙ first
    ∙ ap (λ (rs : List (List Fields)). map (fields_of page_size) round ∷ rs)
    (rounds_of_all page_size rounds packets more (All-tail EndsWithSync round rounds ends) opens none)

-- the hello, and what is after it
behind_hello : (c : ChannelProgress) (state : ChannelState)
    → items_of c state ≡ item_of_hello c.hello ++ (pages c.page_size (all_packets c) ++ item_of_stop state)
behind_hello c state = append_assoc (item_of_hello c.hello) (pages c.page_size (all_packets c)) (item_of_stop state)

rounds_of_hello : (hello : Option ℕ) (more : List ChannelItem) → rounds_in (item_of_hello hello ++ more) ≡ rounds_in more
rounds_of_hello None more = refl
rounds_of_hello (Some id) more = refl

-- after the hello there is none
hello_of_pages : (page_size : ℕ) (packets : List (List ℕ)) (state : ChannelState) → hello_in (pages page_size packets ++ item_of_stop state) ≡ None
hello_of_pages page_size (packet ∷ packets) state = refl
hello_of_pages page_size [] Reading = refl
hello_of_pages page_size [] Closed = refl
hello_of_pages page_size [] (Bad f) = refl

hello_of_all : (hello : Option ℕ) (page_size : ℕ) (packets : List (List ℕ)) (state : ChannelState)
    → hello_in (item_of_hello hello ++ (pages page_size packets ++ item_of_stop state)) ≡ hello
hello_of_all None page_size packets state = hello_of_pages page_size packets state
hello_of_all (Some id) page_size packets state = refl

end_of_stop : (state : ChannelState) → end_in (item_of_stop state) ≡ channel_end state
end_of_stop Reading = refl
end_of_stop Closed = refl
end_of_stop (Bad f) = refl

end_of_pages : (page_size : ℕ) (packets : List (List ℕ)) (more : List ChannelItem) → end_in (pages page_size packets ++ more) ≡ end_in more
end_of_pages page_size [] more = refl
end_of_pages page_size (packet ∷ packets) more = end_of_pages page_size packets more

end_of_hello : (hello : Option ℕ) (more : List ChannelItem) → end_in (item_of_hello hello ++ more) ≡ end_in more
end_of_hello None more = refl
end_of_hello (Some id) more = refl

-- ---- the packets of the round that isn't whole have no SYNC

open_packet : (c : ChannelProgress) (packet : List ℕ) (sync : Bool) → is_sync packet ≡ sync → All IsOpen c.packets
    → All IsOpen (cond sync (record c { packets = []; rounds = c.rounds ++ (c.packets ++ packet ∷ []) ∷ [] })
    (record c { packets = c.packets ++ packet ∷ [] })).packets
open_packet c packet true sync all = All-nil IsOpen
open_packet c packet false sync all = All-push IsOpen c.packets packet all sync

open_item : (c : ChannelProgress) (hello : Option ℕ) (item : List ℕ) → All IsOpen c.packets → All IsOpen (after_item c hello item).packets
open_item c None item all = all
open_item c (Some id) item all = open_packet c item (is_sync item) refl all

page_size_stays : (c : ChannelProgress) (hello : Option ℕ) (item : List ℕ) → (after_item c hello item).page_size ≡ c.page_size
page_size_stays c None item = refl
page_size_stays c (Some id) item = elim (cases_Bool (is_sync item)) [ inl t ↦ rw t refl | inr f ↦ rw f refl ]

open_after : (c : ChannelProgress) (items : List (List ℕ)) → All IsOpen c.packets → All IsOpen (after_all c items).packets
open_after c [] all = all
open_after c (item ∷ items) all = open_after (after c item) items (open_item c c.hello item all)

same_page_size : (c : ChannelProgress) (items : List (List ℕ)) → (after_all c items).page_size ≡ c.page_size
same_page_size c [] = refl
same_page_size c (item ∷ items) = same_page_size (after c item) items ∙ page_size_stays c c.hello item

-- ---- all items say what the reading says

record TellAll (page_size : ℕ) (pieces : List ChannelItem) (reading : ChannelReading) : Type 0 where
  has_hello : hello_in pieces ≡ reading.hello
  has_rounds : rounds_in pieces ≡ map (map (fields_of page_size)) reading.rounds
  has_end : end_in pieces ≡ channel_end reading.state

tell_all : (given : Settings) (text : List ℕ) (pieces : List ChannelItem) (reading : ChannelReading) → IsPageSize given.page_size
    → AreItems given text pieces → IsReading given text true reading → TellAll given.page_size pieces reading
tell_all given text pieces reading size are is =
    let p : ℕ = given.page_size in
    let c : ChannelProgress = are.to in
    let from : ChannelProgress = start p given.uuid given.channels given.waiting in
    let same = one_reading from text is.to c is.rest are.rest is.found are.found is.reads are.reads in
    let state : ChannelState = state_at true c are.rest are.found in
    let has_state : reading.state ≡ state = let moved = same.0 in let left = same.1 in let stands = same.2 in is.has_state
    ∙ ap (λ (x : ChannelProgress). state_at true x is.rest is.found) moved ∙ ap (λ (x : List ℕ). state_at true c x is.found) left
    ∙ ap (λ (x : ChannelState). state_at true c are.rest x) stands in
    let has_rounds : reading.rounds ≡ c.rounds = is.has_rounds ∙ ap (λ (x : ChannelProgress). x.rounds) same.0 in
    let ends : All EndsWithSync c.rounds = subst (All EndsWithSync) has_rounds (limits_law given text true reading size is).end_with_sync in
    let opens : All IsOpen c.packets = subst (λ (x : ChannelProgress). All IsOpen x.packets) (sym are.reads.leads.leads_to)
    (open_after from are.reads.leads.items (All-nil IsOpen)) in
    let packets : List ChannelItem = pages c.page_size (all_packets c) in
    let has_items : pieces ≡ item_of_hello c.hello ++ (packets ++ item_of_stop state) = are.has_items ∙ behind_hello c state in
    let kept : c.page_size ≡ p = ap (λ (x : ChannelProgress). x.page_size) are.reads.leads.leads_to ∙ same_page_size from are.reads.leads.items in
    record {
      has_hello = ap hello_in has_items ∙ hello_of_all c.hello c.page_size (all_packets c) state
          ∙ sym (is.has_hello ∙ ap (λ (x : ChannelProgress). x.hello) same.0);
      has_rounds = ap rounds_in has_items ∙ rounds_of_hello c.hello (packets ++ item_of_stop state)
          ∙ rounds_of_all c.page_size c.rounds c.packets (item_of_stop state) ends opens (rounds_of_stop state)
          ∙ ap (λ (n : ℕ). map (map (fields_of n)) c.rounds) kept ∙ ap (map (map (fields_of p))) (sym has_rounds);
      has_end = ap end_in has_items ∙ end_of_hello c.hello (packets ++ item_of_stop state) ∙ end_of_pages c.page_size (all_packets c) (item_of_stop state)
          ∙ end_of_stop state ∙ ap channel_end (sym has_state);
    }

-- ---- the law

-- if all was received
tells_all : (page_size k : ℕ) (pieces : List ChannelItem) (reading : ChannelReading) → TellAll page_size pieces reading
    → TellsChannel page_size k pieces reading
tells_all page_size k pieces reading all =
    let says : List (List ℕ) → List Fields = map (fields_of page_size) in
    let count : round_count pieces ≡ length reading.rounds =
    sym (counted_law pieces) ∙ ap (λ (rs : List (List Fields)). length rs) all.has_rounds ∙ length-map reading.rounds says in
    record {
      has_hello = all.has_hello;
      has_status = ap (λ (n : ℕ). status_at k n (end_in pieces)) count ∙ ap (status_at k (length reading.rounds)) all.has_end;
      has_packets = λ i few. ap (λ (rs : List (List Fields)). get_or rs i []) all.has_rounds ∙ get_or-map says reading.rounds i [];
    }

-- if the round's SYNC packet was received
tells_front : (page_size k : ℕ) (front rest : List ChannelItem) (reading : ChannelReading) → k < round_count front → TellAll page_size (front ++ rest) reading
    → TellsChannel page_size k front reading
tells_front page_size k front rest reading whole all =
    let says : List (List ℕ) → List Fields = map (fields_of page_size) in
    let later = more_rounds front rest in
    let told = tells_all page_size k (front ++ rest) reading all in
    let count : length (rounds_in front) ≡ round_count front = counted_law front in
    let more : length reading.rounds ≡ length (rounds_in front) + length later.0 =
    sym (length-map reading.rounds says) ∙ ap (λ (rs : List (List Fields)). length rs) (sym all.has_rounds ∙ later.1)
    ∙ length-append (rounds_in front) later.0 in
    record {
      has_hello = hello_first front rest (omega (arith, whole)) ∙ told.has_hello;
      has_status = status_whole k (round_count front) (end_in front) whole
          ∙ sym (status_whole k (length reading.rounds) (channel_end reading.state) (omega (arith, whole, count, more)));
      has_packets = λ i few. sym (get_or_append_left (rounds_in front) later.0 [] i (omega (arith, few, whole, count)))
          ∙ ap (λ (rs : List (List Fields)). get_or rs i []) (sym later.1) ∙ told.has_packets i few;
    }

-- enough items of a channel agree with the complete channel on a round
pub received_law : FrontTellsChannel
received_law = λ given k text pieces received reading size are is front settles.
    let p : ℕ = given.page_size in
    let all : TellAll p pieces reading = tell_all given text pieces reading size are is in
    elim settles [
      | inl whole ↦ tells_front p k received front.rest reading whole (subst (λ (x : List ChannelItem). TellAll p x reading) front.has_rest all)
      | inr same ↦ tells_all p k received reading (subst (λ (x : List ChannelItem). TellAll p x reading) (sym same) all)
    ]

-- ---- nothing follows the stop

-- what follows a front with a stop
abbrev HasStopLast : List ChannelItem → Type 0
HasStopLast pieces = (front rest : List ChannelItem) → pieces ≡ front ++ rest → end_in front ≢ Pending → rest ≡ []

nothing_left : (front rest : List ChannelItem) → [] ≡ front ++ rest → rest ≡ []
nothing_left [] rest e = sym e
nothing_left (piece ∷ front) rest e = absurd cc

one_left : (last : ChannelItem) → HasStopLast (last ∷ [])
one_left last [] rest e stop = absurd (stop refl)
one_left last (piece ∷ front) rest e stop = nothing_left front rest cc

stop_last : (state : ChannelState) → HasStopLast (item_of_stop state)
stop_last Reading = λ front rest e stop. nothing_left front rest e
stop_last Closed = one_left (Stop None)
stop_last (Bad f) = one_left (Stop (Some f))

-- an item in front that isn't the stop
stop_behind : (piece : ChannelItem) (pieces : List ChannelItem)
    → ((front : List ChannelItem) → end_in (piece ∷ front) ≡ end_in front) → HasStopLast pieces → HasStopLast (piece ∷ pieces)
stop_behind piece pieces passed last [] rest e stop = absurd (stop refl)
stop_behind piece pieces passed last (first ∷ front) rest e stop =
    let same : first ≡ piece = cc in
    let later : pieces ≡ front ++ rest = cc in
    let stopped : end_in front ≢ Pending = λ pending. stop (ap (λ (x : ChannelItem). end_in (x ∷ front)) same ∙ passed front ∙ pending) in
    last front rest later stopped

stop_behind_pages : (page_size : ℕ) (packets : List (List ℕ)) (more : List ChannelItem) → HasStopLast more → HasStopLast (pages page_size packets ++ more)
stop_behind_pages page_size [] more last = last
stop_behind_pages page_size (packet ∷ packets) more last =
    stop_behind (Page (fields_of page_size packet)) (pages page_size packets ++ more) (λ front. refl) (stop_behind_pages page_size packets more last)

stop_behind_hello : (hello : Option ℕ) (more : List ChannelItem) → HasStopLast more → HasStopLast (item_of_hello hello ++ more)
stop_behind_hello None more last = last
stop_behind_hello (Some id) more last = stop_behind (Hello id) more (λ front. refl) last

-- and it is there
end_of_all : (given : Settings) (text : List ℕ) (pieces : List ChannelItem) → IsPageSize given.page_size → AreItems given text pieces → end_in pieces ≢ Pending
end_of_all given text pieces size are =
    let reading : ChannelReading = record { hello = are.to.hello; rounds = are.to.rounds; state = state_at true are.to are.rest are.found } in
    let is : IsReading given text true reading =
    record { to = are.to; rest = are.rest; found = are.found; reads = are.reads; has_hello = refl; has_rounds = refl; has_state = refl } in
    let settled : reading.state ≢ Reading = (limits_law given text true reading size is).is_settled refl in
    λ pending. not_pending reading.state settled (sym (tell_all given text pieces reading size are is).has_end ∙ pending)
  where
    not_pending : (state : ChannelState) → state ≢ Reading → channel_end state ≢ Pending
    not_pending Reading settled = absurd (settled refl)
    not_pending Closed settled = λ pending. absurd cc
    not_pending (Bad f) settled = λ pending. absurd cc

-- received items have the channel's end exactly if they are all of its items
pub stop_law : StopIsLast
stop_law = λ given text pieces received size are front.
    let c : ChannelProgress = are.to in
    let state : ChannelState = state_at true c are.rest are.found in
    let behind : List ChannelItem = pages c.page_size (all_packets c) ++ item_of_stop state in
    let last : HasStopLast (item_of_hello c.hello ++ behind) =
    stop_behind_hello c.hello behind (stop_behind_pages c.page_size (all_packets c) (item_of_stop state) (stop_last state)) in (
      λ stop.
          let none : front.rest ≡ [] = last received front.rest (sym (are.has_items ∙ behind_hello c state) ∙ front.has_rest) stop in
          sym (front.has_rest ∙ ap (λ (x : List ChannelItem). received ++ x) none ∙ append-nil received),
      λ all pending. end_of_all given text pieces size are (ap end_in (sym all) ∙ pending),
    )
