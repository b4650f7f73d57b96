-- A channel that has ended has messages, which say where its items lie: all of them lie in its
-- bytes, and the one stop is last.
use Rattle.std.proofs.Common.{◌≡◌, ◌≢◌, ℕ, ◌+◌, ◌≤◌, true, false, cond, true≢false, List, [], ◌∷◌, ◌++◌, length, take, drop, map, Option, Some, None, refl, sym}
use Rattle.std.proofs.Common.{ap, subst, ◌∙◌, append_assoc, arith}
use Rattle.std.specs.Prelude.{flat_map}
use Rattle.std.specs.List.{concat, All}
use Rattle.std.proofs.lemmas.List.{append-nil, length-append, take_at, drop_at, map-append}
use Rattle.std.proofs.lemmas.List.Elements.{All-nil, All-push, All-head, All-tail}
use Rattle.std.proofs.lemmas.List.Concat.{flat_map-cons}
use Rattle.std.proofs.lemmas.List.Folds.{concat-append}
use Rattle.std.proofs.lemmas.Grind.{flat_map-append}
use Rattle.mig_packet.specs.declared.state.ChannelState.{ChannelState}
use Rattle.mig_packet.specs.declared.state.ChannelState.TheVariants as state
use Rattle.mig_packet.specs.Faults.{first_of}
use Rattle.mig_packet.specs.PageSize.{IsPageSize}
use Rattle.mig_packet.specs.Hello.{hello_len}
use Rattle.mig_packet.specs.Packet.{fields_of, is_sync, IsPacketText}
use Rattle.mig_packet.specs.Waiting.{room_after}
use Rattle.mig_packet.specs.Progress.{ChannelProgress, start, faults, after_packet, after_item, after}
use Rattle.mig_packet.specs.Reading.{IsItem, AreFaultless, after_all, Front, state_at, state_at_end}
use Rattle.mig_packet.specs.ChannelItems.{ChannelItem, Page, all_packets, item_of_hello, item_of_stop}
use Rattle.mig_packet.proofs.Exists.{one_list_law}
use Rattle.mig_packet.proofs.Waiting.{faultless_within}
use Rattle.mig_packet.proofs.Judging.{free_text}
use Rattle.mig_relay.specs.declared.item.ChannelEnd.{ChannelEnd}
use Rattle.mig_relay.specs.declared.log.ChannelText.{ChannelText}
use Rattle.mig_relay.specs.declared.message.Message.{Message}
use Rattle.mig_relay.specs.declared.message.Message.TheVariants as message
use Rattle.mig_relay.specs.RelayItems.{given, HasItems, BeginsItems}
use Rattle.mig_relay.specs.Messages.{item_in, item_of_message, hello_message, places, stop_message, front_messages, AreMessages, BeginsMessages, IsMessageIn}
use Rattle.mig_relay.specs.Messages.{is_last}

-- some channel's messages begin with none
pub some_messages : (source : ChannelText) → IsPageSize source.page_size → BeginsMessages source []
some_messages source size_is =
    let are = (one_list_law (given source) source.text size_is).1 in (
      front_messages are.to ++ stop_message (state_at true are.to are.rest are.found),
      record { to = are.to; rest = are.rest; found = are.found; reads = are.reads; has_messages = refl },
    )

-- ---- the places of a prefix's packets

-- one packet more
pub more_packets : (c : ChannelProgress) (packet : List ℕ) → all_packets (after_packet c packet) ≡ all_packets c ++ packet ∷ []
more_packets c packet =
    let packets = c.packets ++ packet ∷ [] in
    let same : List (List ℕ) → List (List ℕ) = λ round. round in
    elim (is_sync packet) as (λ b.
    all_packets (cond b (record c { packets = []; rounds = c.rounds ++ packets ∷ [] }) (record c { packets = packets })) ≡ all_packets c ++ packet ∷ []) [
      | true ↦ append-nil (flat_map same (c.rounds ++ packets ∷ [])) ∙ flat_map-append same c.rounds (packets ∷ [])
          ∙ ap (λ (l : List (List ℕ)). flat_map same c.rounds ++ l) (flat_map-cons same packets [] ∙ append-nil packets)
          ∙ sym (append_assoc (flat_map same c.rounds) c.packets (packet ∷ []))
      | false ↦ sym (append_assoc (flat_map same c.rounds) c.packets (packet ∷ []))
    ]

-- what stays the same
pub same_settings : (c : ChannelProgress) (packet : List ℕ) → ((after_packet c packet).page_size ≡ c.page_size) × ((after_packet c packet).uuid ≡ c.uuid)
    × ((after_packet c packet).channels ≡ c.channels) × ((after_packet c packet).hello ≡ c.hello) × ((after_packet c packet).waiting ≡ c.waiting)
same_settings c packet =
    let packets = c.packets ++ packet ∷ [] in
    let Same : ChannelProgress → Type 0 = λ d. (d.page_size ≡ c.page_size) × (d.uuid ≡ c.uuid) × (d.channels ≡ c.channels)
    × (d.hello ≡ c.hello) × (d.waiting ≡ c.waiting) in
    elim (is_sync packet) as (λ b. Same (cond b (record c { packets = []; rounds = c.rounds ++ packets ∷ [] }) (record c { packets = packets }))) [
      | true ↦ (refl, refl, refl, refl, refl)
      | false ↦ (refl, refl, refl, refl, refl)
    ]

-- How a front lies: the hello, and then the packets, one after another. Before the hello there are
-- none.
record IsLaid (page_size : ℕ) (c : ChannelProgress) (front : List ℕ) : Type 0 where
  has_page_size : c.page_size ≡ page_size
  hello : List ℕ
  has_front : front ≡ hello ++ concat (all_packets c)
  are_packets : All (IsPacketText page_size) (all_packets c)
  before_hello : c.hello ≡ None → (hello ≡ []) × (all_packets c ≡ [])
  behind_hello : c.hello ≢ None → length hello ≡ hello_len

laid_at_start : (page_size : ℕ) (uuid : List ℕ) (channels : ℕ) (waiting : Option ℕ) → IsLaid page_size (start page_size uuid channels waiting) []
laid_at_start page_size uuid channels waiting = record {
  has_page_size = refl;
  hello = [];
  has_front = refl;
  are_packets = All-nil (IsPacketText page_size);
  before_hello = λ _. (refl, refl);
  behind_hello = λ some. absurd (some refl);
}

laid_item : (page_size : ℕ) (c : ChannelProgress) (front item : List ℕ) (h : Option ℕ) → c.hello ≡ h → IsItem c.page_size h item
    → first_of (faults c h item) ≡ None → IsLaid page_size c front
    → IsLaid page_size (after_item c h item) (front ++ item)
laid_item page_size c front item None e is free l =
    let none = l.before_hello e in record {
      has_page_size = l.has_page_size;
      hello = item;
      has_front = ap (λ (x : List ℕ). x ++ item) (l.has_front ∙ ap (λ (x : List ℕ). x ++ concat (all_packets c)) none.0 ∙ ap concat none.1)
          ∙ sym (append-nil item) ∙ ap (λ (ps : List (List ℕ)). item ++ concat ps) (sym none.1);
      are_packets = l.are_packets;
      before_hello = λ no. absurd cc;
      behind_hello = λ _. is;
    }
laid_item page_size c front item (Some id) e is free l =
    let same = same_settings c item in
    let more = more_packets c item in
    let some : c.hello ≢ None = λ no. absurd (let clash : None ≡ Some id = sym no ∙ e in cc) in
    let judged = faultless_within c.page_size (room_after c.waiting c.packets) item free in
    let packet : IsPacketText page_size item = subst (λ (n : ℕ). IsPacketText n item) l.has_page_size (free_text c.page_size item judged.0 is) in record {
      has_page_size = same.0 ∙ l.has_page_size;
      hello = l.hello;
      has_front = ap (λ (x : List ℕ). x ++ item) l.has_front ∙ append_assoc l.hello (concat (all_packets c)) item
          ∙ ap (λ (x : List ℕ). l.hello ++ x) (ap (λ (x : List ℕ). concat (all_packets c) ++ x) (sym (append-nil item))
          ∙ sym (concat-append (all_packets c) (item ∷ [])))
          ∙ ap (λ (ps : List (List ℕ)). l.hello ++ concat ps) (sym more);
      are_packets = subst (All (IsPacketText page_size)) (sym more) (All-push (IsPacketText page_size) (all_packets c) item l.are_packets packet);
      before_hello = λ no. absurd (some (sym same.3 ∙ no));
      behind_hello = λ _. l.behind_hello some;
    }

laid_all : (page_size : ℕ) (c : ChannelProgress) (front : List ℕ) (items : List (List ℕ)) → AreFaultless c items → IsLaid page_size c front
    → IsLaid page_size (after_all c items) (front ++ concat items)
laid_all page_size c front [] free l = subst (IsLaid page_size c) (sym (append-nil front)) l
laid_all page_size c front (item ∷ items) free l =
    subst (IsLaid page_size (after_all (after c item) items)) (append_assoc front item (concat items))
    (laid_all page_size (after c item) (front ++ item) items free.2 (laid_item page_size c front item c.hello refl free.0 free.1 l))

laid : (source : ChannelText) (c : ChannelProgress) (front : List ℕ) → Front (start source.page_size source.uuid source.channels source.waiting) front c
    → IsLaid source.page_size c front
laid source c front f =
    let p = source.page_size in
    let from = start p source.uuid source.channels source.waiting in
    subst (λ (d : ChannelProgress). IsLaid p d front) (sym f.leads_to)
    (subst (IsLaid p (after_all from f.items)) (sym f.has_bytes)
    (laid_all p from [] f.items f.are_faultless (laid_at_start p source.uuid source.channels source.waiting)))

-- ---- the packets, read at their places

one_place : (at : ℕ) (text front packet more : List ℕ) → at ≡ length front → text ≡ front ++ (packet ++ more)
    → (take (length packet) (drop at text) ≡ packet) × (at + length packet ≤ length text)
one_place at text front packet more e is =
    let behind : drop at text ≡ packet ++ more = ap (drop at) is ∙ drop_at front (packet ++ more) at (sym e) in (
      ap (take (length packet)) behind ∙ take_at packet more (length packet) refl,
      omega (arith, e, ap length is, length-append front (packet ++ more), length-append packet more),
    )

next_place : (at : ℕ) (front packet : List ℕ) → at ≡ length front → at + length packet ≡ length (front ++ packet)
next_place at front packet e = omega (arith, e, length-append front packet)

next_text : (text front packet more rest : List ℕ) → text ≡ front ++ ((packet ++ more) ++ rest) → text ≡ (front ++ packet) ++ (more ++ rest)
next_text text front packet more rest is = is ∙ ap (λ (x : List ℕ). front ++ x) (append_assoc packet more rest) ∙ sym (append_assoc front packet (more ++ rest))

read_places : (p at : ℕ) (text front rest : List ℕ) (packets : List (List ℕ)) → at ≡ length front → text ≡ front ++ (concat packets ++ rest)
    → map (item_in p text) (places at packets) ≡ map (λ packet. Page (fields_of p packet)) packets
read_places p at text front rest [] e is = refl
read_places p at text front rest (packet ∷ packets) e is =
    let here = one_place at text front packet (concat packets ++ rest) e (is ∙ ap (λ (x : List ℕ). front ++ x) (append_assoc packet (concat packets) rest)) in
    let others = read_places p (at + length packet) text (front ++ packet) rest packets (next_place at front packet e)
    (next_text text front packet (concat packets) rest is) in
    λ i. Page (fields_of p (here.0 i)) ∷ others i

-- all messages lie in the channel's bytes, and the one stop is last
abbrev WellMade : ℕ → List ℕ → List Message → Type 0
WellMade p text [] = ⊥
WellMade p text (message.Hello id ∷ l) = WellMade p text l
WellMade p text (message.Page at len ∷ l) = IsMessageIn p text (message.Page at len) × WellMade p text l
WellMade p text (message.Stop end ∷ []) = Unit {0}
WellMade p text (message.Stop end ∷ (x ∷ l)) = ⊥

well_placed : (p at : ℕ) (text front rest : List ℕ) (packets : List (List ℕ)) (stop : List Message) → at ≡ length front
    → text ≡ front ++ (concat packets ++ rest)
    → All (IsPacketText p) packets → WellMade p text stop → WellMade p text (places at packets ++ stop)
well_placed p at text front rest [] stop e is are made = made
well_placed p at text front rest (packet ∷ packets) stop e is are made =
    let here = one_place at text front packet (concat packets ++ rest) e (is ∙ ap (λ (x : List ℕ). front ++ x) (append_assoc packet (concat packets) rest)) in (
      (here.1, subst (IsPacketText p) (sym here.0) (All-head (IsPacketText p) packet packets are)),
      well_placed p (at + length packet) text (front ++ packet) rest packets stop (next_place at front packet e)
          (next_text text front packet (concat packets) rest is) (All-tail (IsPacketText p) packet packets are) made,
    )

-- ---- the stop

one_stop_at_end : (h : Option ℕ) (rest : List ℕ) (packets : List (List ℕ))
    → (end : ChannelEnd) × (stop_message (state_at_end h rest packets) ≡ message.Stop end ∷ [])
one_stop_at_end None rest packets = (_, refl)
one_stop_at_end (Some id) (byte ∷ rest) packets = (_, refl)
one_stop_at_end (Some id) [] (packet ∷ packets) = (_, refl)
one_stop_at_end (Some id) [] [] = (_, refl)

one_stop : (c : ChannelProgress) (rest : List ℕ) (found : ChannelState)
    → (end : ChannelEnd) × (stop_message (state_at true c rest found) ≡ message.Stop end ∷ [])
one_stop c rest state.Reading = one_stop_at_end c.hello rest c.packets
one_stop c rest state.Closed = (_, refl)
one_stop c rest (state.Bad fault) = (_, refl)

stop_items : (p : ℕ) (text : List ℕ) (s : ChannelState) → map (item_in p text) (stop_message s) ≡ item_of_stop s
stop_items p text state.Closed = refl
stop_items p text (state.Bad fault) = refl
stop_items p text state.Reading = refl

hello_items : (p : ℕ) (text : List ℕ) (h : Option ℕ) → map (item_in p text) (hello_message h) ≡ item_of_hello h
hello_items p text None = refl
hello_items p text (Some id) = refl

-- ---- the messages of a front

-- the beginning of a prefix's packets, if there are any
begins_packets : (p : ℕ) (c : ChannelProgress) (text front rest : List ℕ) (l : IsLaid p c front) → text ≡ front ++ rest
    → text ≡ l.hello ++ (concat (all_packets c) ++ rest)
begins_packets p c text front rest l e = e ∙ ap (λ (x : List ℕ). x ++ rest) l.has_front ∙ append_assoc l.hello (concat (all_packets c)) rest

read_front : (p : ℕ) (c : ChannelProgress) (text front rest : List ℕ) (h : Option ℕ) → c.hello ≡ h → IsLaid p c front → text ≡ front ++ rest
    → map (item_in p text) (places hello_len (all_packets c)) ≡ map (λ packet. Page (fields_of p packet)) (all_packets c)
read_front p c text front rest None e l is =
    let none = (l.before_hello e).1 in
    ap (λ (ps : List (List ℕ)). map (item_in p text) (places hello_len ps)) none ∙ ap (map (λ packet. Page (fields_of p packet))) (sym none)
read_front p c text front rest (Some id) e l is =
    let some : c.hello ≢ None = λ no. absurd (let clash : None ≡ Some id = sym no ∙ e in cc) in
    read_places p hello_len text l.hello rest (all_packets c) (sym (l.behind_hello some)) (begins_packets p c text front rest l is)

well_fronted : (p : ℕ) (c : ChannelProgress) (text front rest : List ℕ) (h : Option ℕ) (stop : List Message) → c.hello ≡ h
    → IsLaid p c front → text ≡ front ++ rest
    → WellMade p text stop → WellMade p text ((hello_message h ++ places hello_len (all_packets c)) ++ stop)
well_fronted p c text front rest None stop e l is made =
    subst (λ (ps : List (List ℕ)). WellMade p text (places hello_len ps ++ stop)) (sym (l.before_hello e).1) made
well_fronted p c text front rest (Some id) stop e l is made =
    let some : c.hello ≢ None = λ no. absurd (let clash : None ≡ Some id = sym no ∙ e in cc) in
    well_placed p hello_len text l.hello rest (all_packets c) stop (sym (l.behind_hello some)) (begins_packets p c text front rest l is) l.are_packets made

-- ---- of all bytes

well_made : (source : ChannelText) (l : List Message) → AreMessages source l → WellMade source.page_size source.text l
well_made source l are =
    let p = source.page_size in
    let stop = one_stop are.to are.rest are.found in
    let last : WellMade p source.text (stop_message (state_at true are.to are.rest are.found)) = subst (WellMade p source.text) (sym stop.1) (tt) in
    subst (WellMade p source.text) (sym are.has_messages)
    (well_fronted p are.to source.text are.reads.front are.rest are.to.hello (stop_message (state_at true are.to are.rest are.found)) refl
    (laid source are.to are.reads.front are.reads.leads) are.reads.has_text last)

-- The items are the messages, read in the channel's bytes.
pub items_law : (source : ChannelText) (l : List Message) → AreMessages source l → HasItems source (map (item_of_message source) l)
items_law source l are =
    let p = source.page_size in
    let c = are.to in
    let read : Message → ChannelItem = item_of_message source in
    let s = state_at true c are.rest are.found in
    let is = laid source c are.reads.front are.reads.leads in
    let page : ℕ → List ℕ → ChannelItem = λ n packet. Page (fields_of n packet) in
    let packets : map read (places hello_len (all_packets c)) ≡ map (page c.page_size) (all_packets c) =
    read_front p c source.text are.reads.front are.rest c.hello refl is are.reads.has_text
    ∙ ap (λ (n : ℕ). map (page n) (all_packets c)) (sym is.has_page_size) in
    record {
      to = c;
      rest = are.rest;
      found = are.found;
      reads = are.reads;
      has_items = ap (map read) are.has_messages ∙ map-append read (front_messages c) (stop_message s)
          ∙ ap (λ (l : List ChannelItem). l ++ map read (stop_message s)) (map-append read (hello_message c.hello) (places hello_len (all_packets c)))
          ∙ (λ i. (hello_items p source.text c.hello i ++ packets i) ++ stop_items p source.text s i);
    }

-- and the items begin with those of the first messages
pub items_begin : (source : ChannelText) (front : List Message) → BeginsMessages source front → BeginsItems source (map (item_of_message source) front)
items_begin source front b =
    (map (item_of_message source) b.0, subst (HasItems source) (map-append (item_of_message source) front b.0) (items_law source (front ++ b.0) b.1))

-- ---- what is known of a message by its place among the channel's

lies_there : (p : ℕ) (text : List ℕ) (done : List Message) (m : Message) (more : List Message)
    → WellMade p text ((done ++ m ∷ []) ++ more) → IsMessageIn p text m
lies_there p text [] (message.Hello id) more made = tt
lies_there p text [] (message.Page at len) more made = made.0
lies_there p text [] (message.Stop end) more made = tt
lies_there p text (message.Hello id ∷ done) m more made = lies_there p text done m more made
lies_there p text (message.Page at len ∷ done) m more made = lies_there p text done m more made.1
lies_there p text (message.Stop end ∷ []) m more made = absurd made
lies_there p text (message.Stop end ∷ (x ∷ done)) m more made = absurd made

-- a message that comes after others in a channel lies in the channel's bytes
pub lies_in : (source : ChannelText) (done : List Message) (m : Message) → BeginsMessages source (done ++ m ∷ []) → IsMessageIn source.page_size source.text m
lies_in source done m b = lies_there source.page_size source.text done m b.0 (well_made source ((done ++ m ∷ []) ++ b.0) b.1)

none_behind : (p : ℕ) (text : List ℕ) (done : List Message) (m : Message) (more : List Message) → is_last m ≡ true
    → WellMade p text ((done ++ m ∷ []) ++ more) → more ≡ []
none_behind p text [] (message.Hello id) more last made = absurd (true≢false (sym last))
none_behind p text [] (message.Page at len) more last made = absurd (true≢false (sym last))
none_behind p text [] (message.Stop end) [] last made = refl
none_behind p text [] (message.Stop end) (x ∷ more) last made = absurd made
none_behind p text (message.Hello id ∷ done) m more last made = none_behind p text done m more last made
none_behind p text (message.Page at len ∷ done) m more last made = none_behind p text done m more last made.1
none_behind p text (message.Stop end ∷ []) m more last made = absurd made
none_behind p text (message.Stop end ∷ (x ∷ done)) m more last made = absurd made

-- after a stop there are no more
pub all_there : (source : ChannelText) (done : List Message) (m : Message) → is_last m ≡ true → BeginsMessages source (done ++ m ∷ [])
    → AreMessages source (done ++ m ∷ [])
all_there source done m last b =
    let made = well_made source ((done ++ m ∷ []) ++ b.0) b.1 in
    let none = none_behind source.page_size source.text done m b.0 last made in
    subst (AreMessages source) (ap (λ (l : List Message). (done ++ m ∷ []) ++ l) none ∙ append-nil (done ++ m ∷ [])) b.1

some_behind : (p : ℕ) (text : List ℕ) (done : List Message) (m : Message) (more : List Message) → is_last m ≡ false → WellMade p text ((done ++ m ∷ []) ++ more)
    → (next : Message) × (others : List Message) × (more ≡ next ∷ others)
some_behind p text [] (message.Hello id) [] last made = absurd made
some_behind p text [] (message.Hello id) (x ∷ more) last made = (x, more, refl)
some_behind p text [] (message.Page at len) [] last made = absurd made.1
some_behind p text [] (message.Page at len) (x ∷ more) last made = (x, more, refl)
some_behind p text [] (message.Stop end) more last made = absurd (true≢false last)
some_behind p text (message.Hello id ∷ done) m more last made = some_behind p text done m more last made
some_behind p text (message.Page at len ∷ done) m more last made = some_behind p text done m more last made.1
some_behind p text (message.Stop end ∷ []) m more last made = absurd made
some_behind p text (message.Stop end ∷ (x ∷ done)) m more last made = absurd made

-- after another one there are more
pub one_more_there : (source : ChannelText) (done : List Message) (m : Message) → is_last m ≡ false → BeginsMessages source (done ++ m ∷ [])
    → (next : Message) × BeginsMessages source ((done ++ m ∷ []) ++ next ∷ [])
one_more_there source done m last b =
    let front = done ++ m ∷ [] in
    let some = some_behind source.page_size source.text done m b.0 last (well_made source (front ++ b.0) b.1) in
    let same : front ++ b.0 ≡ (front ++ some.0 ∷ []) ++ some.1 =
    ap (λ (l : List Message). front ++ l) some.2 ∙ sym (append_assoc front (some.0 ∷ []) some.1) in
    (some.0, (some.1, subst (AreMessages source) same b.1))
