-- What a reading keeps to: rounds of packets, each with one SYNC packet, and none before the hello.
use Rattle.std.proofs.Common.{◌≡◌, ◌≢◌, ℕ, Bool, true, false, cond, List, [], ◌∷◌, ◌++◌, Option, Some, None, refl, sym, ap, subst, ◌∙◌}
use Rattle.std.specs.Prelude.{IsFalse}
use Rattle.std.specs.List.{All}
use Rattle.std.proofs.lemmas.List.Elements.{All-nil, All-push}
use Rattle.mig_packet.specs.declared.state.ChannelState.{ChannelState}
use Rattle.mig_packet.specs.declared.state.ChannelState.TheVariants.{Reading, Closed, Bad}
use Rattle.mig_packet.specs.Faults.{first_of}
use Rattle.mig_packet.specs.Packet.{is_sync, IsPacketText}
use Rattle.mig_packet.specs.Progress.{ChannelProgress, start, faults, after_item, after}
use Rattle.mig_packet.specs.Reading.{IsItem, AreFaultless, after_all, Front, Ends, state_at, state_at_end, Settings, ChannelReading, IsReading}
use Rattle.mig_packet.specs.Law.{EndsWithSync, ReadingsKeepLimits}
use Rattle.mig_packet.specs.Waiting.{room_after}
use Rattle.mig_packet.proofs.Waiting.{faultless_within}
use Rattle.mig_packet.proofs.Judging.{free_text}

-- what holds of all that was read
record Keeps (page_size : ℕ) (c : ChannelProgress) : Type 0 where
  same_page_size : c.page_size ≡ page_size
  end_with_sync : All EndsWithSync c.rounds
  none_yet : All (λ packet. IsFalse (is_sync packet)) c.packets
  in_open_round : All (IsPacketText page_size) c.packets
  in_rounds : All (All (IsPacketText page_size)) c.rounds
  has_hello_first : c.hello ≡ None → c.rounds ≡ []

first_keeps : (p : ℕ) (uuid : List ℕ) (channels : ℕ) (waiting : Option ℕ) → Keeps p (start p uuid channels waiting)
first_keeps p uuid channels waiting = record {
  same_page_size = refl;
  end_with_sync = All-nil EndsWithSync;
  none_yet = All-nil (λ packet. IsFalse (is_sync packet));
  in_open_round = All-nil (IsPacketText p);
  in_rounds = All-nil (All (IsPacketText p));
  has_hello_first = λ _. refl;
}

-- a packet, with SYNC or without
keeps_packet : (p : ℕ) (c : ChannelProgress) (packet : List ℕ) (sync : Bool) → is_sync packet ≡ sync → c.hello ≢ None → IsPacketText p packet → Keeps p c
    → Keeps p (cond sync (record c { packets = []; rounds = c.rounds ++ (c.packets ++ packet ∷ []) ∷ [] }) (record c { packets = c.packets ++ packet ∷ [] }))
keeps_packet p c packet true sync some text k =
    let round : List (List ℕ) = c.packets ++ packet ∷ [] in
    let ends : EndsWithSync round = record { before = c.packets; last = packet; has_packets = refl; none_before = k.none_yet; is_last = sync } in
    record {
      same_page_size = k.same_page_size;
      end_with_sync = All-push EndsWithSync c.rounds round k.end_with_sync ends;
      none_yet = All-nil (λ packet. IsFalse (is_sync packet));
      in_open_round = All-nil (IsPacketText p);
      in_rounds = All-push (All (IsPacketText p)) c.rounds round k.in_rounds (All-push (IsPacketText p) c.packets packet k.in_open_round text);
      has_hello_first = λ none. absurd (some none);
    }
keeps_packet p c packet false sync some text k = record {
  same_page_size = k.same_page_size;
  end_with_sync = k.end_with_sync;
  none_yet = All-push (λ packet. IsFalse (is_sync packet)) c.packets packet k.none_yet sync;
  in_open_round = All-push (IsPacketText p) c.packets packet k.in_open_round text;
  in_rounds = k.in_rounds;
  has_hello_first = k.has_hello_first;
}

keeps_item : (p : ℕ) (c : ChannelProgress) (h : Option ℕ) (item : List ℕ) → c.hello ≡ h → IsItem c.page_size h item → first_of (faults c h item) ≡ None
    → Keeps p c → Keeps p (after_item c h item)
keeps_item p c None item e is free k = record {
  same_page_size = k.same_page_size;
  end_with_sync = k.end_with_sync;
  none_yet = k.none_yet;
  in_open_round = k.in_open_round;
  in_rounds = k.in_rounds;
  has_hello_first = λ none. absurd cc;
}
keeps_item p c (Some id) item e is free k =
    keeps_packet p c item (is_sync item) refl (λ none. absurd (let clash : None ≡ Some id = sym none ∙ e in cc))
    (subst (λ (n : ℕ). IsPacketText n item) k.same_page_size
    (free_text c.page_size item (faultless_within c.page_size (room_after c.waiting c.packets) item free).0 is)) k

keeps_all : (p : ℕ) (c : ChannelProgress) (items : List (List ℕ)) → AreFaultless c items → Keeps p c → Keeps p (after_all c items)
keeps_all p c [] free k = k
keeps_all p c (item ∷ items) free k = keeps_all p (after c item) items free.2 (keeps_item p c c.hello item refl free.0 free.1 k)

-- ---- the state

settled_at_end : (hello : Option ℕ) (rest : List ℕ) (packets : List (List ℕ)) → state_at_end hello rest packets ≢ Reading
settled_at_end None rest packets = λ e. absurd cc
settled_at_end (Some id) (byte ∷ rest) packets = λ e. absurd cc
settled_at_end (Some id) [] (packet ∷ packets) = λ e. absurd cc
settled_at_end (Some id) [] [] = λ e. absurd cc

settled : (c : ChannelProgress) (rest : List ℕ) (found : ChannelState) → state_at true c rest found ≢ Reading
settled c rest Reading = settled_at_end c.hello rest c.packets
settled c rest Closed = λ e. absurd cc
settled c rest (Bad f) = λ e. absurd cc

open_still : (c : ChannelProgress) (rest : List ℕ) (found : ChannelState) → Ends c rest found → found ≢ Closed
open_still c rest Reading ends = λ e. absurd cc
open_still c rest Closed ends = absurd ends
open_still c rest (Bad f) ends = λ e. absurd cc

hello_at_end : (hello : Option ℕ) (rest : List ℕ) (packets : List (List ℕ)) → state_at_end hello rest packets ≡ Closed → hello ≢ None
hello_at_end None rest packets closed = absurd cc
hello_at_end (Some id) rest packets closed = λ none. absurd cc

hello_where_closed : (over : Bool) (c : ChannelProgress) (rest : List ℕ) (found : ChannelState) → Ends c rest found → state_at over c rest found ≡ Closed
    → c.hello ≢ None
hello_where_closed true c rest Reading ends closed = hello_at_end c.hello rest c.packets closed
hello_where_closed true c rest Closed ends closed = absurd ends
hello_where_closed true c rest (Bad f) ends closed = absurd cc
hello_where_closed false c rest found ends closed = absurd (open_still c rest found ends closed)

-- ---- the law

kept : (given : Settings) (text : List ℕ) (ended : Bool) (reading : ChannelReading) → (is : IsReading given text ended reading) → Keeps given.page_size is.to
kept given text ended reading is =
    let page_size : ℕ = given.page_size in
    let from : ChannelProgress = start page_size given.uuid given.channels given.waiting in
    let f : Front from is.reads.front is.to = is.reads.leads in
    subst (Keeps page_size) (sym f.leads_to) (keeps_all page_size from f.items f.are_faultless (first_keeps page_size given.uuid given.channels given.waiting))

-- what waits is packets
pub open_packets : (given : Settings) (text : List ℕ) (ended : Bool) (reading : ChannelReading) → (is : IsReading given text ended reading)
    → All (IsPacketText given.page_size) is.to.packets
open_packets given text ended reading is = (kept given text ended reading is).in_open_round

-- each reading keeps its limits
pub limits_law : ReadingsKeepLimits
limits_law = λ given text ended reading size_is is.
    let page_size : ℕ = given.page_size in
    let k : Keeps page_size is.to = kept given text ended reading is in
    record {
      end_with_sync = subst (All EndsWithSync) (sym is.has_rounds) k.end_with_sync;
      are_packets = subst (All (All (IsPacketText page_size))) (sym is.has_rounds) k.in_rounds;
      has_hello_first = λ none. is.has_rounds ∙ k.has_hello_first (sym is.has_hello ∙ none);
      is_settled = λ over reading_still. settled is.to is.rest is.found
          (ap (λ (b : Bool). state_at b is.to is.rest is.found) (sym over) ∙ sym is.has_state ∙ reading_still);
      is_open = λ open_ closed. open_still is.to is.rest is.found is.reads.ends
          (ap (λ (b : Bool). state_at b is.to is.rest is.found) (sym open_) ∙ sym is.has_state ∙ closed);
      has_hello = λ closed none. hello_where_closed ended is.to is.rest is.found is.reads.ends (sym is.has_state ∙ closed) (sym is.has_hello ∙ none);
    }
