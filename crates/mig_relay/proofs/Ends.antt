-- What the two ends of a channel's queue know after a step, and what they show.
use Rattle.std.proofs.Common.{◌≡◌, ◌⊎◌, ℕ, ◌+◌, ◌-◌, Bool, true, false, true≢false, List, [], ◌∷◌, ◌++◌, length, map, take, drop, get_or, take-suc, ◌<◌, Option}
use Rattle.std.proofs.Common.{refl, sym, ap, subst, ◌∙◌, inl, inr, arith}
use Rattle.std.proofs.lemmas.List.{map-append, append-nil}
use Rattle.std.proofs.Math.Numerals.{add-one}
use Rattle.std.specs.List.{All}
use Rattle.std.proofs.lemmas.List.Elements.{All-nil, All-push}
use Rattle.atomic_table.specs.Seated.{TableId}
use Rattle.mig_packet.specs.declared.fault.ChannelFault.{ChannelFault}
use Rattle.mig_packet.specs.declared.front.PacketRead.{PacketRead}
use Rattle.mig_packet.specs.declared.front.PacketRead.TheVariants as packet
use Rattle.mig_packet.specs.PageSize.{IsPageSize}
use Rattle.mig_packet.specs.Packet.{Fields, IsPacket, fields_of}
use Rattle.mig_packet.specs.Progress.{start}
use Rattle.mig_packet.specs.Reading.{Reads}
use Rattle.mig_packet.specs.FrontRead.{FindsPacket}
use Rattle.mig_packet.specs.declared.packet.Packet.{Packet}
use Rattle.mig_packet.specs.Lent.{fields}
use Rattle.mig_packet.specs.ChannelItems.{ChannelItem, Page}
use Rattle.mig_packet.proofs.Exists.{one_list_law}
use Rattle.mig_packet.proofs.Waiting.{room_at_first}
use Rattle.mig_relay.specs.declared.cursor.Cursor.{Cursor}
use Rattle.mig_relay.specs.declared.item.Item.{Item}
use Rattle.mig_relay.specs.declared.log.ChannelText.{ChannelText}
use Rattle.mig_relay.specs.declared.log.Log.{Log}
use Rattle.mig_relay.specs.declared.message.Message.{Message}
use Rattle.mig_relay.specs.declared.message.Message.TheVariants as message
use Rattle.mig_relay.specs.RelayItems.{as_channel_item, IsOfPageSize, given, HasItems, BeginsItems, QueueEnd, queue_end, one_more, IsThrough, IsOnTheWay}
use Rattle.mig_relay.specs.Messages.{item_in, item_of_message, AreMessages, BeginsMessages, IsMessageIn, is_last}
use Rattle.mig_relay.specs.Queue.{feeding, collecting, items_in}
use Rattle.mig_relay.specs.Cursor.{text_of, Finds}
use Rattle.mig_relay.specs.Ends.{IsFeeding, IsCollecting}
use Rattle.mig_relay.specs.Relay.{Takes}
use Rattle.mig_relay.proofs.Places.{some_messages, items_law, items_begin, lies_in, all_there, one_more_there}

-- ---- a message is made an item

found_there : (page_size : ℕ) (text : List ℕ) (at len : ℕ) (r : PacketRead) → IsMessageIn page_size text (message.Page at len)
    → ((front more : List ℕ) (said : Fields) → take (at + len - at) (drop at text) ≡ front ++ more → IsPacket page_size front said → FindsPacket front said r)
    → FindsPacket (take len (drop at text)) (fields_of page_size (take len (drop at text))) r
found_there page_size text at len r lies told =
    let front = take len (drop at text) in
    let same : at + len - at ≡ len = omega arith in
    told front [] (fields_of page_size front) (ap (λ (n : ℕ). take n (drop at text)) same ∙ sym (append-nil front)) (lies.1, refl)

not_there : (front : List ℕ) (said : Fields) (r : PacketRead) → FindsPacket front said r
    → (r ≡ packet.Cut) ⊎ ((fault : ChannelFault) × (r ≡ packet.Bad fault)) → ⊥
not_there front said r found (inl e) = subst (FindsPacket front said) e found
not_there front said r found (inr e) = subst (FindsPacket front said) e.1 found

-- a packet that a message places in the channel is read neither as cut nor as bad
pub never_cut : (page_size : ℕ) (text : List ℕ) (m : Message) (at len : ℕ) (r : PacketRead) → m ≡ message.Page at len → IsMessageIn page_size text m
    → ((front more : List ℕ) (said : Fields) → take (at + len - at) (drop at text) ≡ front ++ more → IsPacket page_size front said → FindsPacket front said r)
    → (r ≡ packet.Cut) ⊎ ((fault : ChannelFault) × (r ≡ packet.Bad fault)) → ⊥
never_cut page_size text m at len r is lies told e =
    not_there _ _ r (found_there page_size text at len r (subst (IsMessageIn page_size text) is lies) told) e

-- the packet read where a message places it is the item that the message represents
pub made_item : (page_size : ℕ) (text : List ℕ) (m : Message) (at len : ℕ) (r : PacketRead) (found : Packet) (n : ℕ)
    → m ≡ message.Page at len → IsMessageIn page_size text m
    → ((front more : List ℕ) (said : Fields) → take (at + len - at) (drop at text) ≡ front ++ more → IsPacket page_size front said → FindsPacket front said r)
    → r ≡ packet.Whole found n → Page (fields found) ≡ item_in page_size text m
made_item page_size text m at len r found n is lies told e =
    let front = take len (drop at text) in
    let said = subst (FindsPacket front (fields_of page_size front)) e
    (found_there page_size text at len r (subst (IsMessageIn page_size text) is lies) told) in
    ap Page said.2 ∙ ap (item_in page_size text) (sym is)

-- ---- what an end shows after a step

passed_on : (v w : Log) (m : Message) (p : QueueEnd) (q r : TableId) → queue_end q v.source (items_in v) ≡ p → r ≡ q
    → w.source ≡ v.source → w.done ≡ v.done ++ m ∷ []
    → queue_end r w.source (items_in w) ≡ one_more p (item_of_message v.source m)
passed_on v w m p q r is same source done =
    let read : ChannelText → Message → ChannelItem = item_of_message in
    let pieces : items_in w ≡ items_in v ++ item_of_message v.source m ∷ [] =
    (λ i. map (read (source i)) (done i)) ∙ map-append (read v.source) v.done (m ∷ []) in
    subst (λ (s : QueueEnd). queue_end r w.source (items_in w) ≡ one_more s (item_of_message v.source m)) is
    (λ i. queue_end (same i) (source i) (pieces i))

-- the items of these messages, as a pass that has passed them on shows them
shown : (v w : Log) (m : Message) (P : ChannelText → List ChannelItem → Type 0) → w.source ≡ v.source → w.done ≡ v.done ++ m ∷ []
    → P v.source (map (item_of_message v.source) (v.done ++ m ∷ [])) → P w.source (items_in w)
shown v w m P source done h = subst (λ (x : ChannelText × List Message). P x.0 (map (item_of_message x.0) x.1)) (λ i. (sym source i, sym done i)) h

through : (v w : Log) (m : Message) → w.source ≡ v.source → w.done ≡ v.done ++ m ∷ [] → is_last m ≡ true → BeginsMessages v.source (v.done ++ m ∷ [])
    → HasItems w.source (items_in w)
through v w m source done last b = shown v w m HasItems source done (items_law v.source (v.done ++ m ∷ []) (all_there v.source v.done m last b))

begun_now : (v w : Log) (m : Message) → w.source ≡ v.source → w.done ≡ v.done ++ m ∷ []
    → BeginsMessages v.source (v.done ++ m ∷ []) → BeginsItems w.source (items_in w)
begun_now v w m source done b = shown v w m BeginsItems source done (items_begin v.source (v.done ++ m ∷ []) b)

on_the_way : (v w : Log) (m : Message) → w.source ≡ v.source → w.done ≡ v.done ++ m ∷ [] → is_last m ≡ false → BeginsMessages v.source (v.done ++ m ∷ [])
    → (piece : ChannelItem) × BeginsItems w.source (items_in w ++ piece ∷ [])
on_the_way v w m source done last b =
    let front = v.done ++ m ∷ [] in
    let next = one_more_there v.source v.done m last b in
    let piece = item_of_message v.source next.0 in
    let begin : BeginsItems v.source (map (item_of_message v.source) front ++ piece ∷ []) =
    subst (BeginsItems v.source) (map-append (item_of_message v.source) front (next.0 ∷ [])) (items_begin v.source (front ++ next.0 ∷ []) next.1) in
    (piece, shown v w m (λ source pieces. BeginsItems source (pieces ++ piece ∷ [])) source done begin)

-- ---- the feeder

-- what it found comes next in the channel of its pass
pub feeds_next : (k behind : Cursor) (text : List ℕ) (count : ℕ) (v : Log) (m : Message) → IsFeeding k text count v → Finds k text m behind
    → BeginsMessages v.source (v.done ++ m ∷ [])
feeds_next k behind text count v m f n =
    subst (λ (s : ChannelText). BeginsMessages s (v.done ++ m ∷ [])) (sym (ap (λ (u : Log). u.source) f.role)) (n.next v.done f.behind)

-- pushing a channel's last message passes one item more, and then all were passed
pub pushes_stop : (v w : Log) (m : Message) (p : QueueEnd) (q r : TableId) → queue_end q v.source (items_in v) ≡ p → r ≡ q
    → w ≡ feeding v.source (v.done ++ m ∷ [])
    → BeginsMessages v.source (v.done ++ m ∷ []) → is_last m ≡ true
    → (piece : ChannelItem) × (queue_end r w.source (items_in w) ≡ one_more p piece) × IsThrough (queue_end r w.source (items_in w))
pushes_stop v w m p q r is same e b last =
    let source = ap (λ (u : Log). u.source) e in
    let done = ap (λ (u : Log). u.done) e in
    (item_of_message v.source m, passed_on v w m p q r is same source done, through v w m source done last b)

-- pushing a channel's message that isn't its last passes one item more, and a further is left
pub pushes_more : (v w : Log) (m : Message) (p : QueueEnd) (q r : TableId) → queue_end q v.source (items_in v) ≡ p → r ≡ q
    → w ≡ feeding v.source (v.done ++ m ∷ [])
    → BeginsMessages v.source (v.done ++ m ∷ []) → is_last m ≡ false
    → (piece : ChannelItem) × (queue_end r w.source (items_in w) ≡ one_more p piece) × IsOnTheWay (queue_end r w.source (items_in w))
pushes_more v w m p q r is same e b last =
    let source = ap (λ (u : Log). u.source) e in
    let done = ap (λ (u : Log). u.done) e in
    (item_of_message v.source m, passed_on v w m p q r is same source done, on_the_way v w m source done last b)

-- a cursor at the start of a channel, with a pass that pushed nothing, feeds after 0 items
pub feeds_first : (k : Cursor) (text : List ℕ) (v : Log) → IsPageSize k.page_size
    → (k.at ≡ 0) × (k.greeted ≡ false) × (k.unsynced ≡ false) × (k.room ≡ k.waiting)
    → v ≡ feeding (text_of k text) [] → IsFeeding k text 0 v
feeds_first k text v size_is at_start e =
    let are = (one_list_law (given (text_of k text)) text size_is).1 in
    let first = start k.page_size k.uuid k.channels k.waiting in
    let done : v.done ≡ [] = ap (λ (u : Log). u.done) e in record {
      has_page_size = size_is;
      within = omega (arith, at_start.0);
      role = e ∙ (λ i. feeding (text_of k text) (sym done i));
      behind = record {
        c = first;
        has_page_size = refl;
        has_uuid = refl;
        has_channels = refl;
        has_waiting = refl;
        has_room = at_start.3 ∙ sym (room_at_first k.waiting);
        has_done = done;
        has_few = omega (arith, ap length done);
        before_hello = λ _. (refl, at_start.0, refl);
        behind_hello = λ yes_. absurd (true≢false (sym yes_ ∙ at_start.1));
        synced = λ _. refl;
        unsynced = λ yes_. absurd (true≢false (sym yes_ ∙ at_start.2));
        to = are.to;
        rest = are.rest;
        found = are.found;
        goes_on = subst (λ (n : ℕ). Reads first (drop n text) are.to are.rest are.found) (sym at_start.0) are.reads;
        whole = are.reads;
      };
      counted = sym (ap length done);
    }

-- ---- the end that collects

-- what was popped lies in the channel's bytes
pub lies : (page_size : ℕ) (waiting : Option ℕ) (text : List ℕ) (items : List Item) (over : Bool) (v : Log) (m : Message)
    → IsCollecting page_size waiting text items over v
    → BeginsMessages v.source (v.done ++ m ∷ []) → IsMessageIn page_size text m
lies page_size waiting text items over v m k b =
    subst (λ (x : ℕ × List ℕ). IsMessageIn x.0 x.1 m) (λ i. (k.of_page_size i, k.of_text i)) (lies_in v.source v.done m b)

-- a pass that has popped nothing of a channel collects, with no items, and isn't over
pub collects_none : (page_size : ℕ) (waiting : Option ℕ) (text : List ℕ) (source : ChannelText) (items : List Item) (v : Log) → IsPageSize page_size
    → source.page_size ≡ page_size → source.waiting ≡ waiting → source.text ≡ text → v ≡ collecting source [] → items ≡ []
    → IsCollecting page_size waiting text items false v
collects_none page_size waiting text source items v size_is of_page_size of_waiting of_text e none =
    let own : v.source ≡ source = ap (λ (u : Log). u.source) e in
    let done : v.done ≡ [] = ap (λ (u : Log). u.done) e in record {
      has_page_size = size_is;
      of_page_size = ap (λ (s : ChannelText). s.page_size) own ∙ of_page_size;
      of_waiting = ap (λ (s : ChannelText). s.waiting) own ∙ of_waiting;
      of_text = ap (λ (s : ChannelText). s.text) own ∙ of_text;
      role = e ∙ (λ i. collecting (sym own i) (sym done i));
      has_items = ap (map as_channel_item) none ∙ sym (ap (map (item_of_message v.source)) done);
      of_size = subst (All (IsOfPageSize page_size)) (sym none) (All-nil (IsOfPageSize page_size));
      begun = subst (λ (x : ChannelText × List Message). BeginsMessages x.0 x.1) (λ i. (sym own i, sym done i))
          (some_messages source (subst IsPageSize (sym of_page_size) size_is));
      whole = λ no. absurd (true≢false (sym no));
    }

-- a pass that pops the channel's next message, and adds its item, collects on, and is over if
-- that is the last message
pub collects : (page_size : ℕ) (waiting : Option ℕ) (text : List ℕ) (items : List Item) (over : Bool) (v w : Log) (m : Message) (item : Item)
    → IsCollecting page_size waiting text items over v
    → BeginsMessages v.source (v.done ++ m ∷ []) → w ≡ collecting v.source (v.done ++ m ∷ []) → as_channel_item item ≡ item_in page_size text m
    → IsOfPageSize page_size item → IsCollecting page_size waiting text (items ++ item ∷ []) (is_last m) w
collects page_size waiting text items over v w m item k b e is size =
    let own : w.source ≡ v.source = ap (λ (u : Log). u.source) e in
    let done : w.done ≡ v.done ++ m ∷ [] = ap (λ (u : Log). u.done) e in
    let piece : as_channel_item item ≡ item_of_message v.source m = is ∙ (λ i. item_in (sym k.of_page_size i) (sym k.of_text i) m) in record {
      has_page_size = k.has_page_size;
      of_page_size = ap (λ (s : ChannelText). s.page_size) own ∙ k.of_page_size;
      of_waiting = ap (λ (s : ChannelText). s.waiting) own ∙ k.of_waiting;
      of_text = ap (λ (s : ChannelText). s.text) own ∙ k.of_text;
      role = e ∙ (λ i. collecting (sym own i) (sym done i));
      has_items = map-append as_channel_item items (item ∷ []) ∙ (λ i. k.has_items i ++ piece i ∷ [])
          ∙ sym (map-append (item_of_message v.source) v.done (m ∷ [])) ∙ (λ i. map (item_of_message (sym own i)) (sym done i));
      of_size = All-push (IsOfPageSize page_size) items item k.of_size size;
      begun = subst (λ (x : ChannelText × List Message). BeginsMessages x.0 x.1) (λ i. (sym own i, sym done i)) b;
      whole = λ last. subst (λ (x : ChannelText × List Message). AreMessages x.0 x.1) (λ i. (sym own i, sym done i)) (all_there v.source v.done m last b);
    }

-- popping the channel's next message takes the next item at the queue's end
pub takes : (v w : Log) (m : Message) (p : QueueEnd) (q r : TableId) → queue_end q v.source (items_in v) ≡ p → r ≡ q
    → BeginsMessages v.source (v.done ++ m ∷ [])
    → w ≡ collecting v.source (v.done ++ m ∷ []) → Takes p (queue_end r w.source (items_in w)) true
takes v w m p q r is same b e =
    let source = ap (λ (u : Log). u.source) e in
    let done = ap (λ (u : Log). u.done) e in
    (item_of_message v.source m, passed_on v w m p q r is same source done, begun_now v w m source done b)

-- if the stop was popped, all items were
pub is_through : (page_size : ℕ) (waiting : Option ℕ) (text : List ℕ) (items : List Item) (over : Bool) (v : Log) (p : QueueEnd) (q : TableId)
    → queue_end q v.source (items_in v) ≡ p → IsCollecting page_size waiting text items over v → over ≡ true → IsThrough p
is_through page_size waiting text items over v p q is k yes_ = subst IsThrough is (items_law v.source v.done (k.whole yes_))

-- the items that an end that collects has passed are the first of its channel
pub shows : (page_size : ℕ) (waiting : Option ℕ) (text : List ℕ) (items : List Item) (over : Bool) (v : Log) (p : QueueEnd) (q : TableId)
    → queue_end q v.source (items_in v) ≡ p → IsCollecting page_size waiting text items over v → BeginsItems p.source p.passed
shows page_size waiting text items over v p q is k = subst (λ (s : QueueEnd). BeginsItems s.source s.passed) is (items_begin v.source v.done k.begun)

-- all packets among the items that an end collected have its channel's page size
pub sized : (page_size : ℕ) (waiting : Option ℕ) (text : List ℕ) (items : List Item) (over : Bool) (v : Log) (p : QueueEnd) (q : TableId)
    → queue_end q v.source (items_in v) ≡ p → IsCollecting page_size waiting text items over v → All (IsOfPageSize p.source.page_size) items
sized page_size waiting text items over v p q is k =
    subst (λ (s : QueueEnd). All (IsOfPageSize s.source.page_size) items) is (subst (λ (n : ℕ). All (IsOfPageSize n) items) (sym k.of_page_size) k.of_size)

-- ---- a relay's start

-- one channel more
pub one_started : {X Y Z : Type 0} (f : X → Z) (h : Y → Z) (old new : List X) (x : X) (texts : List Y) (j : ℕ) (text : Y) → map f old ≡ map h (take j texts)
    → new ≡ old ++ x ∷ [] → j < length texts → text ≡ get_or texts j text → f x ≡ h text → map f new ≡ map h (take (j + 1) texts)
one_started f h old new x texts j text so_far e lt is same =
    ap (map f) e ∙ map-append f old (x ∷ []) ∙ (λ i. so_far i ++ (same ∙ ap h is) i ∷ []) ∙ sym (map-append h (take j texts) (get_or texts j text ∷ []))
    ∙ ap (map h) (sym (take-suc texts j text lt) ∙ ap (λ (n : ℕ). take n texts) (sym (add-one j)))
