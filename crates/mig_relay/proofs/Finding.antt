-- What is read at a place in a channel comes next among its messages.
use Rattle.std.proofs.Common.{◌≡◌, ◌≢◌, ℕ, ◌+◌, ◌≤◌, ◌<◌, Bool, true, false, not, cond, true≢false, List, [], ◌∷◌, ◌++◌, length, take, drop, get_or, Option}
use Rattle.std.proofs.Common.{Some, None, refl, sym, ap, subst, ◌∙◌, append_assoc, arith, leb}
use Rattle.std.specs.List.{concat}
use Rattle.std.proofs.lemmas.Bool.{lt-leb, not-false, not-true}
use Rattle.std.proofs.lemmas.List.{append-nil, length-append, length-drop, length-take-le, take-append-drop, drop-drop}
use Rattle.std.proofs.lemmas.List.Folds.{concat-append}
use Rattle.mig_packet.specs.declared.fault.ChannelFault.{ChannelFault}
use Rattle.mig_packet.specs.declared.fault.ChannelFault.TheVariants.{Truncated, Unsynced}
use Rattle.mig_packet.specs.declared.state.ChannelState.{ChannelState}
use Rattle.mig_packet.specs.declared.state.ChannelState.TheVariants as state
use Rattle.mig_packet.specs.Faults.{first_of}
use Rattle.mig_packet.specs.Hello.{IsHello, hello_len, hello_faults, due_hello_fault}
use Rattle.mig_packet.specs.Packet.{IsPacketText, is_sync}
use Rattle.mig_packet.specs.Waiting.{weight, is_over, room_after, next_room}
use Rattle.mig_packet.specs.FrontRead.{due_fault_within}
use Rattle.mig_packet.specs.Progress.{ChannelProgress, start, judged_len, faults, first_fault, due_fault, after_packet, after_item, after}
use Rattle.mig_packet.specs.Reading.{IsItem, AreFaultless, after_all, Ends, Reads, state_at, state_at_end}
use Rattle.mig_packet.specs.ChannelItems.{all_packets}
use Rattle.mig_packet.proofs.Fronts.{faults_stay, judged_le, due_is, faultless_front, item_text, no_head, Front-none}
use Rattle.mig_packet.proofs.Judging.{hello_free, text_free, cond_none}
use Rattle.mig_packet.proofs.Waiting.{free_within}
use Rattle.mig_packet.proofs.PagingSteps.{room_is, known}
use Rattle.mig_packet.proofs.Unique.{one_reading, one_item}
use Rattle.mig_relay.specs.declared.cursor.Cursor.{Cursor}
use Rattle.mig_relay.specs.declared.item.ChannelEnd.{ChannelEnd}
use Rattle.mig_relay.specs.declared.item.ChannelEnd.TheVariants.{Clean, Bad}
use Rattle.mig_relay.specs.declared.message.Message.{Message}
use Rattle.mig_relay.specs.declared.message.Message.TheVariants as message
use Rattle.mig_relay.specs.Messages.{hello_message, places, stop_message, front_messages, BeginsMessages}
use Rattle.mig_relay.specs.Cursor.{text_of, place_behind, IsBehind, Finds}
use Rattle.mig_relay.proofs.Places.{more_packets, same_settings}

-- ---- a reading goes on after an item

-- a channel doesn't end where an item without a fault stands
no_end : (c : ChannelProgress) (item more : List ℕ) (s : ChannelState) → IsItem c.page_size c.hello item
    → first_fault c item ≡ None → Ends c (item ++ more) s → ⊥
no_end c item more state.Closed is free end = end
no_end c item more state.Reading is free end = end.1 item more refl is
no_end c item more (state.Bad f) is free end =
    let none : due_fault c (item ++ more) ≡ None =
    cond_none (leb (judged_len c.page_size c.hello) (length (item ++ more))) (first_fault c (item ++ more))
    (ap first_of (faults_stay c c.hello item more (judged_le c.page_size c.hello item is)) ∙ free) in
    absurd (let clash : None ≡ Some f = sym none ∙ end in cc)

goes_on : (c to : ChannelProgress) (item more front rest : List ℕ) (s : ChannelState) (items : List (List ℕ)) → IsItem c.page_size c.hello item
    → first_fault c item ≡ None → item ++ more ≡ front ++ rest → front ≡ concat items → AreFaultless c items → to ≡ after_all c items → Ends to rest s
    → Reads (after c item) more to rest s
goes_on c to item more front rest s [] is free text none are leads ends =
    let here : rest ≡ item ++ more = sym (text ∙ ap (λ (x : List ℕ). x ++ rest) none) in
    absurd (no_end c item more s is free
    (subst (λ (x : List ℕ). Ends c x s) here (subst (λ (d : ChannelProgress). Ends d rest s) leads ends)))
goes_on c to item more front rest s (first ∷ items) is free text bytes are leads ends =
    let same = one_item c.page_size c.hello item first more (concat items ++ rest) is are.0
    (text ∙ ap (λ (x : List ℕ). x ++ rest) bytes ∙ append_assoc first (concat items) rest) in
    record {
      front = concat items;
      has_text = same.1;
      leads = record {
        items = items;
        has_bytes = refl;
        are_faultless = subst (λ (x : List ℕ). AreFaultless (after c x) items) (sym same.0) are.2;
        leads_to = leads ∙ ap (λ (x : List ℕ). after_all (after c x) items) (sym same.0);
      };
      ends = ends;
    }

behind_item : (c to : ChannelProgress) (item more rest : List ℕ) (s : ChannelState) → IsItem c.page_size c.hello item → first_fault c item ≡ None
    → Reads c (item ++ more) to rest s → Reads (after c item) more to rest s
behind_item c to item more rest s is free r =
    goes_on c to item more r.front rest s r.leads.items is free r.has_text r.leads.has_bytes r.leads.are_faultless r.leads.leads_to r.ends

-- ---- messages of a front

places-push : (at : ℕ) (packets : List (List ℕ)) (packet : List ℕ)
    → places at (packets ++ packet ∷ []) ≡ places at packets ++ message.Page (at + length (concat packets)) (length packet) ∷ []
places-push at [] packet = ap (λ (n : ℕ). message.Page n (length packet) ∷ []) (omega arith)
places-push at (x ∷ packets) packet =
    let e : at + length x + length (concat packets) ≡ at + length (x ++ concat packets) = omega (arith, length-append x (concat packets)) in
    ap (λ (l : List Message). message.Page at (length x) ∷ l)
    (places-push (at + length x) packets packet
    ∙ ap (λ (n : ℕ). places (at + length x) packets ++ message.Page n (length packet) ∷ []) e)

-- the message of an item, after this hello and these packets
item_message : ChannelProgress → Option ℕ → List ℕ → Message
item_message c None item = message.Hello (get_or item 24 0)
item_message c (Some id) item = message.Page (place_behind c) (length item)

HasNoneBefore : ChannelProgress → Type 0
HasNoneBefore c = c.hello ≡ None → all_packets c ≡ []

item_behind : (c : ChannelProgress) (h : Option ℕ) (item : List ℕ) → c.hello ≡ h → HasNoneBefore c
    → front_messages (after_item c h item) ≡ front_messages c ++ item_message c h item ∷ []
unfolding item_message HasNoneBefore
item_behind c None item e none =
    ap (λ (ps : List (List ℕ)). message.Hello (get_or item 24 0) ∷ places hello_len ps) (none e)
    ∙ (λ i. (hello_message (sym e i) ++ places hello_len (sym (none e) i)) ++ message.Hello (get_or item 24 0) ∷ [])
item_behind c (Some id) item e none =
    let more = more_packets c item in
    let same = same_settings c item in
    (λ i. hello_message (same.3 i) ++ places hello_len (more i))
    ∙ ap (λ (l : List Message). hello_message c.hello ++ l) (places-push hello_len (all_packets c) item)
    ∙ sym (append_assoc (hello_message c.hello) (places hello_len (all_packets c)) (message.Page (place_behind c) (length item) ∷ []))

greeted : (c : ChannelProgress) (h : Option ℕ) (item : List ℕ) → c.hello ≡ h → (after_item c h item).hello ≢ None
greeted c None item e = λ none. absurd cc
greeted c (Some id) item e = λ none. absurd (let clash : None ≡ Some id = sym none ∙ (same_settings c item).3 ∙ e in cc)

front_goes_on : (c : ChannelProgress) (items : List (List ℕ)) → HasNoneBefore c
    → (more : List Message) × (front_messages (after_all c items) ≡ front_messages c ++ more)
unfolding HasNoneBefore
front_goes_on c [] none = ([], sym (append-nil (front_messages c)))
front_goes_on c (item ∷ items) none =
    let m = item_message c c.hello item in
    let rest = front_goes_on (after c item) items (λ no. absurd (greeted c c.hello item refl no)) in (
      m ∷ rest.0,
      rest.1 ∙ ap (λ (l : List Message). l ++ rest.0) (item_behind c c.hello item refl none) ∙ append_assoc (front_messages c) (m ∷ []) rest.0,
    )

-- if a reading goes on from there, the channel's messages begin with those before
begins_there : (k : Cursor) (text more : List ℕ) (c to : ChannelProgress) (rest : List ℕ) (found : ChannelState) → HasNoneBefore c
    → Reads (start k.page_size k.uuid k.channels k.waiting) text to rest found → Reads c more to rest found → BeginsMessages (text_of k text) (front_messages c)
begins_there k text more c to rest found none whole r =
    let on = front_goes_on c r.leads.items none in
    let stop = stop_message (state_at true to rest found) in (
      on.0 ++ stop,
      record {
        to = to;
        rest = rest;
        found = found;
        reads = whole;
        has_messages = sym (append_assoc (front_messages c) on.0 stop)
            ∙ ap (λ (l : List Message). l ++ stop) (sym on.1 ∙ ap front_messages (sym r.leads.leads_to));
      },
    )

-- ---- an item is found

-- what was before the hello
none_before : (k : Cursor) (text : List ℕ) (done : List Message) (g : Bool) (b : IsBehind k text done) → k.greeted ≡ g → HasNoneBefore b.c
unfolding HasNoneBefore
none_before k text done true b e = λ no. absurd ((b.behind_hello e).0 no)
none_before k text done false b e = λ _. (b.before_hello e).2

-- the reading after an item of this length
behind_found : (k : Cursor) (text : List ℕ) (done : List Message) (len : ℕ) (b : IsBehind k text done)
    → IsItem b.c.page_size b.c.hello (take len (drop k.at text))
    → first_fault b.c (take len (drop k.at text)) ≡ None
    → Reads (after b.c (take len (drop k.at text))) (drop (k.at + len) text) b.to b.rest b.found
behind_found k text done len b is free =
    let rest = drop k.at text in
    subst (λ (x : List ℕ). Reads (after b.c (take len rest)) x b.to b.rest b.found) (drop-drop len k.at text)
    (behind_item b.c b.to (take len rest) (drop len rest) b.rest b.found is free
    (subst (λ (x : List ℕ). Reads b.c x b.to b.rest b.found) (sym (take-append-drop len rest)) b.goes_on))

next_found : (k : Cursor) (text : List ℕ) (done : List Message) (len : ℕ) (m : Message) (b : IsBehind k text done)
    → IsItem b.c.page_size b.c.hello (take len (drop k.at text)) → first_fault b.c (take len (drop k.at text)) ≡ None
    → item_message b.c b.c.hello (take len (drop k.at text)) ≡ m → BeginsMessages (text_of k text) (done ++ m ∷ [])
unfolding HasNoneBefore
next_found k text done len m b is free e =
    let item = take len (drop k.at text) in
    let now : front_messages (after b.c item) ≡ done ++ m ∷ [] =
    item_behind b.c b.c.hello item refl (none_before k text done k.greeted b refl) ∙ (λ i. sym b.has_done i ++ e i ∷ []) in
    subst (BeginsMessages (text_of k text)) now
    (begins_there k text (drop (k.at + len) text) (after b.c item) b.to b.rest b.found (λ no. absurd (greeted b.c b.c.hello item refl no)) b.whole
    (behind_found k text done len b is free))

within_item : (text : List ℕ) (at len : ℕ) → at ≤ length text → length (take len (drop at text)) ≡ len → at + len ≤ length text
within_item text at len le long =
    let rest = drop at text in
    omega (arith, le, long, length-append (take len rest) (drop len rest), ap length (take-append-drop len rest), length-drop at text)

-- ---- a hello

behind_hello : Cursor → Cursor
behind_hello k = record k { at = k.at + hello_len; greeted = true }

-- if nothing was read before, this is the next item
hello_item : (k : Cursor) (text : List ℕ) (done : List Message) (id : ℕ) (b : IsBehind k text done) → k.greeted ≡ false → id < k.channels
    → IsHello k.uuid id (take hello_len (drop k.at text))
    → IsItem b.c.page_size b.c.hello (take hello_len (drop k.at text)) × (first_fault b.c (take hello_len (drop k.at text)) ≡ None)
hello_item k text done id b before few is =
    let item = take hello_len (drop k.at text) in
    let none = (b.before_hello before).0 in (
      subst (λ (h : Option ℕ). IsItem b.c.page_size h item) (sym none) is.has_length,
      ap (λ (h : Option ℕ). first_of (faults b.c h item)) none
          ∙ (λ i. first_of (hello_faults (b.has_uuid i) (b.has_channels i) item)) ∙ hello_free k.uuid k.channels id item is few,
    )

goes_on_hello : (k : Cursor) (text : List ℕ) (id : ℕ) (done : List Message) → k.greeted ≡ false → id < k.channels
    → IsHello k.uuid id (take hello_len (drop k.at text))
    → IsBehind k text done → IsBehind (behind_hello k) text (done ++ message.Hello id ∷ [])
unfolding behind_hello item_message HasNoneBefore
goes_on_hello k text id done before few is b =
    let item = take hello_len (drop k.at text) in
    let found = hello_item k text done id b before few is in
    let none = b.before_hello before in
    let d : ChannelProgress = after_item b.c None item in
    let same : after b.c item ≡ d = ap (λ (h : Option ℕ). after_item b.c h item) none.0 in
    record {
      c = d;
      has_page_size = b.has_page_size;
      has_uuid = b.has_uuid;
      has_channels = b.has_channels;
      has_waiting = b.has_waiting;
      has_room = b.has_room;
      has_done = (λ i. b.has_done i ++ message.Hello (sym is.has_id i) ∷ []) ∙ sym (item_behind b.c None item none.0 (λ _. none.2));
      has_few = omega (arith, b.has_few, length-append done (message.Hello id ∷ []));
      before_hello = λ no. absurd (true≢false no);
      behind_hello = λ _. ((λ no. absurd cc), omega (arith, none.1, ap (λ (ps : List (List ℕ)). length (concat ps)) none.2));
      synced = b.synced;
      unsynced = b.unsynced;
      to = b.to;
      rest = b.rest;
      found = b.found;
      goes_on = subst (λ (x : ChannelProgress). Reads x (drop (k.at + hello_len) text) b.to b.rest b.found) same
          (behind_found k text done hello_len b found.0 found.1);
      whole = b.whole;
    }

-- at a cursor before the hello a hello of one of the channels comes next, and the cursor moves past
pub finds_hello : (k : Cursor) (text : List ℕ) (id : ℕ) → k.greeted ≡ false → k.at ≤ length text → id < k.channels
    → IsHello k.uuid id (take hello_len (drop k.at text))
    → Finds k text (message.Hello id) (record k { at = k.at + 64; greeted = true })
unfolding behind_hello item_message
finds_hello k text id before in_text few is =
    let item = take hello_len (drop k.at text) in record {
      next = λ done b. let found = hello_item k text done id b before few is in
          next_found k text done hello_len (message.Hello id) b found.0 found.1
          (ap (λ (h : Option ℕ). item_message b.c h item) (b.before_hello before).0 ∙ ap message.Hello is.has_id);
      goes_on = λ _ done b. goes_on_hello k text id done before few is b;
      same = refl;
      within = within_item text k.at 64 in_text is.has_length;
    }

-- ---- a packet

packets_left : (c : ChannelProgress) (packet : List ℕ)
    → (is_sync packet ≡ true → (after_packet c packet).packets ≡ []) × (is_sync packet ≡ false → (after_packet c packet).packets ≢ [])
packets_left c packet =
    let packets = c.packets ++ packet ∷ [] in
    let d : Bool → ChannelProgress = λ b. cond b (record c { packets = []; rounds = c.rounds ++ packets ∷ [] }) (record c { packets = packets }) in
    elim (is_sync packet) as (λ b. (b ≡ true → (d b).packets ≡ []) × (b ≡ false → (d b).packets ≢ [])) [
      | true ↦ ((λ _. refl), λ no. absurd (true≢false no))
      | false ↦ ((λ no. absurd (true≢false (sym no))), λ _ e. omega (arith, length-append c.packets (packet ∷ []), ap length e))
    ]

-- after the hello, this is the next item, where it has room
packet_item : (k : Cursor) (text : List ℕ) (done : List Message) (len id : ℕ) (b : IsBehind k text done) → b.c.hello ≡ Some id
    → IsPacketText k.page_size (take len (drop k.at text)) → is_over k.room (weight (take len (drop k.at text))) ≡ false
    → IsItem b.c.page_size b.c.hello (take len (drop k.at text)) × (first_fault b.c (take len (drop k.at text)) ≡ None)
packet_item k text done len id b e is fits =
    let item = take len (drop k.at text) in
    let own : IsPacketText b.c.page_size item = subst (λ (p : ℕ). IsPacketText p item) (sym b.has_page_size) is in
    let room : Option ℕ = room_after b.c.waiting b.c.packets in
    let there : is_over room (weight item) ≡ false = ap (λ (r : Option ℕ). is_over r (weight item)) (sym b.has_room) ∙ fits in (
      subst (λ (h : Option ℕ). IsItem b.c.page_size h item) (sym e) own.has_length,
      ap (λ (h : Option ℕ). first_of (faults b.c h item)) e ∙ free_within b.c.page_size room item (text_free b.c.page_size item own) there,
    )

packet_message : (k : Cursor) (text : List ℕ) (done : List Message) (len id : ℕ) (b : IsBehind k text done) → k.greeted ≡ true
    → len ≤ length (drop k.at text) → message.Page (place_behind b.c) (length (take len (drop k.at text))) ≡ message.Page k.at len
packet_message k text done len id b behind le =
    let at : k.at ≡ place_behind b.c = (b.behind_hello behind).1 in
    let long : length (take len (drop k.at text)) ≡ len = length-take-le len (drop k.at text) le in
    λ i. message.Page (sym at i) (long i)

-- the room after it
room_behind : (k : Cursor) (text : List ℕ) (done : List Message) (item : List ℕ) (room : Option ℕ) (b : IsBehind k text done)
    → room ≡ next_room k.waiting k.room item
    → room ≡ room_after (after_packet b.c item).waiting (after_packet b.c item).packets
room_behind k text done item room b is =
    let d : ChannelProgress = after_packet b.c item in
    is ∙ (λ i. next_room (sym b.has_waiting i) (b.has_room i) item) ∙ room_is b.c.waiting b.c item (is_sync item) refl
    ∙ ap (λ (w : Option ℕ). room_after w d.packets) (sym (same_settings b.c item).4)

goes_on_packet : (k : Cursor) (text : List ℕ) (len : ℕ) (sync : Bool) (room : Option ℕ) (done : List Message) → k.greeted ≡ true → len ≤ length (drop k.at text)
    → IsPacketText k.page_size (take len (drop k.at text)) → is_over k.room (weight (take len (drop k.at text))) ≡ false
    → sync ≡ is_sync (take len (drop k.at text)) → room ≡ next_room k.waiting k.room (take len (drop k.at text)) → IsBehind k text done
    → IsBehind (record k { at = k.at + len; unsynced = not sync; room = room }) text (done ++ message.Page k.at len ∷ [])
unfolding item_message HasNoneBefore
goes_on_packet k text len sync room done behind le is fits sync_is room_next b =
    let item = take len (drop k.at text) in
    let some = (b.behind_hello behind).0 in
    let id = known b.c.hello some in
    let found = packet_item k text done len id.0 b id.1 is fits in
    let d : ChannelProgress = after_packet b.c item in
    let same : after b.c item ≡ d = ap (λ (h : Option ℕ). after_item b.c h item) id.1 in
    let kept = same_settings b.c item in
    let left = packets_left b.c item in
    let long : length item ≡ len = length-take-le len (drop k.at text) le in
    let bytes : length (concat (all_packets d)) ≡ length (concat (all_packets b.c)) + length item =
    ap (λ (ps : List (List ℕ)). length (concat ps)) (more_packets b.c item) ∙ ap length (concat-append (all_packets b.c) (item ∷ []))
    ∙ length-append (concat (all_packets b.c)) (item ++ []) ∙ ap (λ (x : List ℕ). length (concat (all_packets b.c)) + length x) (append-nil item) in
    record {
      c = d;
      has_page_size = kept.0 ∙ b.has_page_size;
      has_uuid = kept.1 ∙ b.has_uuid;
      has_channels = kept.2 ∙ b.has_channels;
      has_waiting = kept.4 ∙ b.has_waiting;
      has_room = room_behind k text done item room b room_next;
      has_done = (λ i. b.has_done i ++ sym (packet_message k text done len id.0 b behind le) i ∷ [])
          ∙ sym (item_behind b.c (Some id.0) item id.1 (none_before k text done true b behind));
      has_few = omega (arith, b.has_few, long, is.has_length, length-append done (message.Page k.at len ∷ []));
      before_hello = λ no. absurd (true≢false (sym behind ∙ no));
      behind_hello = λ _. ((λ no. absurd (some (sym kept.3 ∙ no))), omega (arith, bytes, long, (b.behind_hello behind).1));
      synced = λ e. left.0 (sym sync_is ∙ not-false sync e);
      unsynced = λ e. left.1 (sym sync_is ∙ not-true sync e);
      to = b.to;
      rest = b.rest;
      found = b.found;
      goes_on = subst (λ (x : ChannelProgress). Reads x (drop (k.at + len) text) b.to b.rest b.found) same (behind_found k text done len b found.0 found.1);
      whole = b.whole;
    }

-- a packet at a cursor that is past the hello comes next, if it's within the limit, and the
-- cursor moves past it
pub finds_packet : (k : Cursor) (text : List ℕ) (len : ℕ) (sync : Bool) (room : Option ℕ) → k.greeted ≡ true → k.at ≤ length text
    → len ≤ length (drop k.at text)
    → IsPacketText k.page_size (take len (drop k.at text)) → is_over k.room (weight (take len (drop k.at text))) ≡ false
    → sync ≡ is_sync (take len (drop k.at text)) → room ≡ next_room k.waiting k.room (take len (drop k.at text))
    → Finds k text (message.Page k.at len) (record k { at = k.at + len; unsynced = not sync; room = room })
unfolding item_message
finds_packet k text len sync room behind in_text le is fits sync_is room_next =
    let item = take len (drop k.at text) in record {
      next = λ done b.
          let id = known b.c.hello (b.behind_hello behind).0 in
          let found = packet_item k text done len id.0 b id.1 is fits in
          next_found k text done len (message.Page k.at len) b found.0 found.1
          (ap (λ (h : Option ℕ). item_message b.c h item) id.1 ∙ packet_message k text done len id.0 b behind le);
      goes_on = λ _ done b. goes_on_packet k text len sync room done behind le is fits sync_is room_next b;
      same = refl;
      within = within_item text k.at len in_text (length-take-le len (drop k.at text) le);
    }

-- ---- the stop

StopsAt : Cursor → List ℕ → ChannelEnd → Type 0
StopsAt k text end = (done : List Message) (b : IsBehind k text done)
    → (found : ChannelState) × Ends b.c (drop k.at text) found × (stop_message (state_at true b.c (drop k.at text) found) ≡ message.Stop end ∷ [])

finds_stop : (k : Cursor) (text : List ℕ) (end : ChannelEnd) → k.at ≤ length text → StopsAt k text end → Finds k text (message.Stop end) k
unfolding StopsAt
finds_stop k text end in_text stops = record {
  next = λ done b.
      let rest = drop k.at text in
      let s = stops done b in
      let here : Reads b.c rest b.c rest s.0 = record { front = []; has_text = refl; leads = Front-none b.c; ends = s.1 } in
      let same = one_reading b.c rest b.to b.c b.rest rest b.found s.0 b.goes_on here in
      let all : front_messages b.to ++ stop_message (state_at true b.to b.rest b.found) ≡ done ++ message.Stop end ∷ [] =
      (λ i. front_messages (same.0 i) ++ stop_message (state_at true (same.0 i) (same.1 i) (same.2 i))) ∙ (λ i. sym b.has_done i ++ s.2 i) in (
        [],
        record { to = b.to; rest = b.rest; found = b.found; reads = b.whole; has_messages = append-nil (done ++ message.Stop end ∷ []) ∙ sym all },
      );
  goes_on = λ no. absurd (true≢false no);
  same = refl;
  within = in_text;
}

-- the fault that is due, by what was read of the hello
due_at : (c : ChannelProgress) (h : Option ℕ) (rest : List ℕ) → c.hello ≡ h
    → due_fault c rest ≡ cond (leb (judged_len c.page_size h) (length rest)) (first_of (faults c h rest)) None
due_at c h rest e = ap (λ (x : Option ℕ). cond (leb (judged_len c.page_size x) (length rest)) (first_of (faults c x rest)) None) e

-- where too few bytes are left for the hello, the stop comes next, with Truncated
pub finds_cut_hello : (k : Cursor) (text : List ℕ) → k.greeted ≡ false → k.at ≤ length text → length (drop k.at text) < hello_len
    → Finds k text (message.Stop (Bad Truncated)) k
unfolding StopsAt
finds_cut_hello k text before in_text short = finds_stop k text (Bad Truncated) in_text (λ done b.
    let rest = drop k.at text in
    let none = (b.before_hello before).0 in
    let few : length rest < judged_len b.c.page_size b.c.hello = subst (λ (h : Option ℕ). length rest < judged_len b.c.page_size h) (sym none) short in (
      state.Reading,
      (
        ap (λ (t : Bool). cond t (first_fault b.c rest) None) (lt-leb (judged_len b.c.page_size b.c.hello) (length rest) few),
        no_head b.c.page_size b.c.hello rest few,
      ),
      ap (λ (h : Option ℕ). stop_message (state_at_end h rest b.c.packets)) none,
    ))

-- where the hello has a fault that is due, the stop comes next, with this fault
pub finds_bad_hello : (k : Cursor) (text : List ℕ) (fault : ChannelFault) → k.greeted ≡ false → k.at ≤ length text
    → due_hello_fault k.uuid k.channels (drop k.at text) ≡ Some fault → Finds k text (message.Stop (Bad fault)) k
unfolding StopsAt
finds_bad_hello k text fault before in_text due = finds_stop k text (Bad fault) in_text (λ done b.
    let rest = drop k.at text in (
      state.Bad fault,
      due_at b.c None rest (b.before_hello before).0 ∙ (λ i. due_hello_fault (b.has_uuid i) (b.has_channels i) rest) ∙ due,
      refl,
    ))

-- where a packet has a fault that is due, the stop comes next, with this fault
pub finds_bad_packet : (k : Cursor) (text : List ℕ) (fault : ChannelFault) → k.greeted ≡ true → k.at ≤ length text
    → due_fault_within k.page_size k.room (drop k.at text) ≡ Some fault → Finds k text (message.Stop (Bad fault)) k
unfolding StopsAt
finds_bad_packet k text fault behind in_text due = finds_stop k text (Bad fault) in_text (λ done b.
    let rest = drop k.at text in
    let id = known b.c.hello (b.behind_hello behind).0 in (
      state.Bad fault,
      due_at b.c (Some id.0) rest id.1 ∙ (λ i. due_fault_within (b.has_page_size i) (sym b.has_room i) rest) ∙ due,
      refl,
    ))

-- what `read_packet_with` answers where no packet is there yet
abbrev HasNoPacket : Cursor → List ℕ → Type 0
HasNoPacket k text = (due_fault_within k.page_size k.room (drop k.at text) ≡ None)
    × ((front more : List ℕ) → drop k.at text ≡ front ++ more → IsPacketText k.page_size front → ⊥)

cut_there : (k : Cursor) (text : List ℕ) (done : List Message) (b : IsBehind k text done) → k.greeted ≡ true → HasNoPacket k text
    → Ends b.c (drop k.at text) state.Reading
cut_there k text done b behind cut =
    let rest = drop k.at text in
    let some = (b.behind_hello behind).0 in
    let id = known b.c.hello some in
    let none : due_fault b.c rest ≡ None = due_at b.c (Some id.0) rest id.1 ∙ (λ i. due_fault_within (b.has_page_size i) (sym b.has_room i) rest) ∙ cut.0 in (
      none,
      λ item more e is.
          let long : judged_len b.c.page_size b.c.hello ≤ length rest =
          omega (arith, judged_le b.c.page_size b.c.hello item is, ap length e, length-append item more) in
          let free : first_fault b.c item ≡ None = faultless_front b.c rest item more (sym (due_is b.c rest long) ∙ none) e is in
          cut.1 item more e (subst (λ (p : ℕ). IsPacketText p item) b.has_page_size (item_text b.c b.c.hello item some is free)),
    )

truncated_at_end : (h : Option ℕ) (rest : List ℕ) (packets : List (List ℕ)) → h ≢ None → 0 < length rest
    → stop_message (state_at_end h rest packets) ≡ message.Stop (Bad Truncated) ∷ []
truncated_at_end None rest packets some long = absurd (some refl)
truncated_at_end (Some id) [] packets some long = absurd (omega arith)
truncated_at_end (Some id) (byte ∷ rest) packets some long = refl

unsynced_at_end : (h : Option ℕ) (rest : List ℕ) (packets : List (List ℕ)) → h ≢ None → length rest ≡ 0 → packets ≢ []
    → stop_message (state_at_end h rest packets) ≡ message.Stop (Bad Unsynced) ∷ []
unsynced_at_end None rest packets some none left = absurd (some refl)
unsynced_at_end (Some id) (byte ∷ rest) packets some none left = absurd (omega (arith, none))
unsynced_at_end (Some id) [] [] some none left = absurd (left refl)
unsynced_at_end (Some id) [] (packet ∷ packets) some none left = refl

clean_at_end : (h : Option ℕ) (rest : List ℕ) (packets : List (List ℕ)) → h ≢ None → length rest ≡ 0 → packets ≡ []
    → stop_message (state_at_end h rest packets) ≡ message.Stop Clean ∷ []
clean_at_end None rest packets some none left = absurd (some refl)
clean_at_end (Some id) (byte ∷ rest) packets some none left = absurd (omega (arith, none))
clean_at_end (Some id) [] [] some none left = refl
clean_at_end (Some id) [] (packet ∷ packets) some none left = absurd (omega (arith, ap length left))

-- where bytes are left after the hello, but no packet, the stop comes next, with Truncated
pub finds_cut_packet : (k : Cursor) (text : List ℕ) → k.greeted ≡ true → HasNoPacket k text → k.at < length text → Finds k text (message.Stop (Bad Truncated)) k
unfolding StopsAt
finds_cut_packet k text behind cut lt = finds_stop k text (Bad Truncated) (omega arith) (λ done b.
    let rest = drop k.at text in (
      state.Reading,
      cut_there k text done b behind cut,
      truncated_at_end b.c.hello rest b.c.packets (b.behind_hello behind).0 (omega (arith, lt, length-drop k.at text)),
    ))

-- where all bytes were read, but not the round's SYNC, the stop comes next, with Unsynced
pub finds_unsynced : (k : Cursor) (text : List ℕ) → k.greeted ≡ true → HasNoPacket k text → k.at ≡ length text → k.unsynced ≡ true
    → Finds k text (message.Stop (Bad Unsynced)) k
unfolding StopsAt
finds_unsynced k text behind cut over open_ = finds_stop k text (Bad Unsynced) (omega (arith, over)) (λ done b.
    let rest = drop k.at text in (
      state.Reading,
      cut_there k text done b behind cut,
      unsynced_at_end b.c.hello rest b.c.packets (b.behind_hello behind).0 (omega (arith, over, length-drop k.at text)) (b.unsynced open_),
    ))

-- where all bytes were read, and no round is open, the stop comes next, and is clean
pub finds_clean : (k : Cursor) (text : List ℕ) → k.greeted ≡ true → HasNoPacket k text → k.at ≡ length text → k.unsynced ≡ false
    → Finds k text (message.Stop Clean) k
unfolding StopsAt
finds_clean k text behind cut over closed = finds_stop k text Clean (omega (arith, over)) (λ done b.
    let rest = drop k.at text in (
      state.Reading,
      cut_there k text done b behind cut,
      clean_at_end b.c.hello rest b.c.packets (b.behind_hello behind).0 (omega (arith, over, length-drop k.at text)) (b.synced closed),
    ))
