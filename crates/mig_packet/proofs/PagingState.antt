-- What a reader of pages returns is the reading of the bytes that it took.
use Rattle.std.proofs.Common.{◌≡◌, ◌≢◌, ℕ, ◌<◌, Bool, true, false, cond, not, List, [], ◌∷◌, ◌++◌, length, Option, Some, None}
use Rattle.std.specs.Prelude.{IfSome, ◌⊎◌}
use Rattle.std.proofs.Common.{inl, inr, refl, sym, ap, subst, ◌∙◌, arith}
use Rattle.std.proofs.lemmas.List.{length-append}
use Rattle.mig_packet.specs.declared.state.ChannelState.{ChannelState}
use Rattle.mig_packet.specs.declared.state.ChannelState.TheVariants.{Reading, Closed, Bad}
use Rattle.mig_packet.specs.declared.fault.ChannelFault.TheVariants.{Truncated, Unsynced}
use Rattle.mig_packet.specs.Packet.{is_sync}
use Rattle.mig_packet.specs.Progress.{ChannelProgress, after_packet}
use Rattle.mig_packet.specs.Reading.{Settings, state_at, state_at_end}
use Rattle.mig_packet.specs.Reader.{HasState, HasHello}
use Rattle.mig_packet.specs.Paging.{OpenPacket, IsOpenPacket, bytes_of, is_complete, GivenSoFar, PageHolder, read_to, open_bytes, kept_of, has_any}
use Rattle.mig_packet.specs.Paging.{Gives, HolderTells, HasReading}
use Rattle.mig_packet.specs.PagingStep.{is_between, is_unsynced, closing_state}
use Rattle.mig_packet.proofs.Paging.{bytes_length, sync_said}
use Rattle.mig_packet.proofs.PagingSteps.{hello_stays, sync_has_any}

-- ---- the state at the end

abbrev closed_by : Bool → Bool → ChannelState
closed_by between unsynced = cond between (cond unsynced (Bad Unsynced) Closed) (Bad Truncated)

-- after a hello, with bytes left
cut : (id : ℕ) (rest : List ℕ) (packets : List (List ℕ)) → 0 < length rest → state_at_end (Some id) rest packets ≡ Bad Truncated
cut id [] packets some = absurd (omega (arith, some))
cut id (byte ∷ rest) packets some = refl

-- with none left
open_round : (id : ℕ) (packets : List (List ℕ)) → state_at_end (Some id) [] packets ≡ cond (has_any packets) (Bad Unsynced) Closed
open_round id [] = refl
open_round id (packet ∷ packets) = refl

-- between packets
closes_between : (hello : Option ℕ) (kept : List ℕ) (packets : List (List ℕ)) (has_packets : Bool) → has_packets ≡ has_any packets
    → closed_by (is_between hello None kept) has_packets ≡ state_at_end hello kept packets
closes_between None kept packets has_packets e = refl
closes_between (Some id) [] packets has_packets e = ap (λ (b : Bool). cond b (Bad Unsynced) Closed) e ∙ sym (open_round id packets)
closes_between (Some id) (byte ∷ kept) packets has_packets e = refl

-- inside a packet, or right after it
long : (size : ℕ) (p : OpenPacket) (kept : List ℕ) → IsOpenPacket size p → 0 < length (bytes_of p ++ kept)
long size p kept is = omega (arith, bytes_length size p is, length-append (bytes_of p) kept)

closes_inside : (size id : ℕ) (c : ChannelProgress) (p : OpenPacket) (kept : List ℕ) (b : Bool) → is_complete p ≡ b → IsOpenPacket size p
    → closed_by (is_between (Some id) (Some (p.head, length p.pages)) kept) (not (is_sync p.head))
    ≡ state_at_end (Some id) (cond b [] (bytes_of p) ++ kept) (cond b (after_packet c (bytes_of p)) c).packets
closes_inside size id c p [] true e is =
    ap (λ (b : Bool). closed_by b (not (is_sync p.head))) e
    ∙ ap (λ (b : Bool). cond b (Bad Unsynced) Closed) (sym (sync_has_any c (bytes_of p) (is_sync p.head) (sync_said size p is)))
    ∙ sym (open_round id (after_packet c (bytes_of p)).packets)
closes_inside size id c p (byte ∷ kept) true e is = refl
closes_inside size id c p [] false e is = ap (λ (b : Bool). closed_by b (not (is_sync p.head))) e
    ∙ sym (cut id (bytes_of p ++ []) c.packets (long size p [] is))
closes_inside size id c p (byte ∷ kept) false e is = sym (cut id (bytes_of p ++ byte ∷ kept) c.packets (long size p (byte ∷ kept) is))

closes : (size : ℕ) (c : ChannelProgress) (packet : Option OpenPacket) (hello : Option ℕ) (has_packets : Bool) (kept : List ℕ)
    → has_packets ≡ has_any c.packets → IfSome packet (IsOpenPacket size)
    → closed_by (is_between hello (kept_of packet) kept) (is_unsynced has_packets (kept_of packet))
    ≡ state_at_end hello (open_bytes packet ++ kept) (read_to c packet).packets
closes size c None hello has_packets kept e is = closes_between hello kept c.packets has_packets e
closes size c (Some p) None has_packets kept e is = refl
closes size c (Some p) (Some id) has_packets kept e is = closes_inside size id c p kept (is_complete p) refl is

-- ---- what is returned

to_hello : (c : ChannelProgress) (packet : Option OpenPacket) → (read_to c packet).hello ≡ c.hello
to_hello c None = refl
to_hello c (Some p) = elim (is_complete p) as (λ b. (cond b (after_packet c (bytes_of p)) c).hello ≡ c.hello) [
  | true ↦ hello_stays c (bytes_of p) (is_sync (bytes_of p)) refl
  | false ↦ refl
]

state_of : (ended : Bool) (to : ChannelProgress) (rest : List ℕ) (found : ChannelState) (closing : ChannelState) → found ≡ Reading
    → closing ≡ state_at_end to.hello rest to.packets → ended ≡ true → closing ≡ state_at ended to rest found
state_of ended to rest found closing reading e over =
    e ∙ ap (λ (s : ChannelState). state_at true to rest s) (sym reading) ∙ ap (λ (b : Bool). state_at b to rest found) (sym over)

-- the reading of the bytes that a reader took
told : (given : Settings) (text : List ℕ) (so_far : GivenSoFar) (r : PageHolder) (ended : Bool) (state : ChannelState) → Gives given text so_far r
    → state ≡ state_at ended (read_to so_far.read so_far.packet) (open_bytes so_far.packet ++ r.kept) r.found → HasReading given text ended so_far state
told given text so_far r ended state g e =
    let to = read_to so_far.read so_far.packet in
    record {
      reading = record { hello = so_far.read.hello; rounds = to.rounds; state = state };
      is_reading = record {
        to = to;
        rest = open_bytes so_far.packet ++ r.kept;
        found = r.found;
        reads = g.reads;
        has_hello = sym (to_hello so_far.read so_far.packet);
        has_rounds = refl;
        has_state = e;
      };
      has_read = refl;
      has_hello = refl;
      has_rounds = refl;
      has_state = refl;
    }

-- once the channel is ended, and no fault was found
closing_told : (given : Settings) (text : List ℕ) (so_far : GivenSoFar) (r : PageHolder) → r.found ≡ Reading → r.ended ≡ true → Gives given text so_far r
    → HasReading given text r.ended so_far (closing_state r)
closing_told given text so_far r reading over g =
    let to = read_to so_far.read so_far.packet in
    let rest = open_bytes so_far.packet ++ r.kept in
    let by_packet : closing_state r ≡ closed_by (is_between r.hello (kept_of so_far.packet) r.kept) (is_unsynced r.has_packets (kept_of so_far.packet)) =
    ap (λ (x : Option (List ℕ × ℕ)). closed_by (is_between r.hello x r.kept) (is_unsynced r.has_packets x)) g.has_packet in
    let hello : r.hello ≡ to.hello = g.has_hello ∙ sym (to_hello so_far.read so_far.packet) in
    let e : closing_state r ≡ state_at_end to.hello rest to.packets =
    by_packet ∙ closes given.page_size so_far.read so_far.packet r.hello r.has_packets r.kept g.has_packets g.is_open
    ∙ ap (λ (h : Option ℕ). state_at_end h rest to.packets) hello in
    told given text so_far r r.ended (closing_state r) g (state_of r.ended to rest r.found (closing_state r) reading e over)

-- a fault was found, or the channel wasn't ended
found_as : (ended : Bool) (to : ChannelProgress) (rest : List ℕ) (found : ChannelState) → (found ≢ Reading) ⊎ (ended ≡ false)
    → found ≡ state_at ended to rest found
found_as false to rest found other = refl
found_as true to rest Reading (inl other) = absurd (other refl)
found_as true to rest Reading (inr not_ended) = absurd cc
found_as true to rest Closed other = refl
found_as true to rest (Bad fault) other = refl

-- what is returned once the channel is ended
pub tells_closing : (r : PageHolder) (state : ChannelState) → r.found ≡ Reading → r.ended ≡ true → state ≡ closing_state r
    → HolderTells r (λ given text so_far. HasReading given text r.ended so_far state)
tells_closing r state reading over e = λ given text so_far g.
    subst (HasReading given text r.ended so_far) (sym e) (closing_told given text so_far r reading over g)

-- and before
pub tells_found : (r : PageHolder) (state : ChannelState) → (r.found ≢ Reading) ⊎ (r.ended ≡ false) → state ≡ r.found
    → HolderTells r (λ given text so_far. HasReading given text r.ended so_far state)
tells_found r state other e = λ given text so_far g.
    told given text so_far r r.ended state g (e ∙ found_as r.ended (read_to so_far.read so_far.packet) (open_bytes so_far.packet ++ r.kept) r.found other)

-- a reading says the state
pub state_told : (r : PageHolder) (state : ChannelState) → HolderTells r (λ given text so_far. HasReading given text r.ended so_far state)
    → HolderTells r (λ given text so_far. HasState given text r.ended state)
state_told r state tells = λ given text so_far g.
    let h : HasReading given text r.ended so_far state = tells given text so_far g in (h.reading, h.is_reading, sym h.has_state)

-- and so the hello
pub hello_told : (r : PageHolder) (hello : Option ℕ) → hello ≡ r.hello → HolderTells r (λ given text so_far. HasHello given text hello)
hello_told r hello e = λ given text so_far g.
    let to = read_to so_far.read so_far.packet in
    let h : HasReading given text false so_far r.found = told given text so_far r false r.found g refl in
    (h.reading, h.is_reading, e ∙ g.has_hello ∙ sym h.has_hello)
