-- What waits in a round is within the limit, and a limit does nothing but refuse.
use Rattle.std.proofs.Common.{◌≡◌, ◌≢◌, ℕ, ◌+◌, ◌-◌, ◌*◌, ◌<◌, ◌≤◌, Bool, true, false, cond, leb, List, [], ◌∷◌, ◌++◌, length, Option, Some, None}
use Rattle.std.proofs.Common.{refl, sym, ap, subst, ◌∙◌, inl, inr, arith}
use Rattle.std.specs.List.{All, concat}
use Rattle.std.proofs.Math.Nat.{add-mul, le_trans}
use Rattle.std.proofs.lemmas.Nat.{mul-le}
use Rattle.std.proofs.lemmas.List.{length-append}
use Rattle.std.proofs.lemmas.Bool.{ltb-false, ltb-true}
use Rattle.std.proofs.lemmas.List.Elements.{All-nil, All-push, All-head, All-tail}
use Rattle.std.proofs.lemmas.List.Sums.{sum_by_push, sum_by-cons}
use Rattle.mig_packet.specs.declared.state.ChannelState.{ChannelState}
use Rattle.mig_packet.specs.declared.state.ChannelState.TheVariants.{Reading, Closed, Bad}
use Rattle.mig_packet.specs.declared.fault.ChannelFault.{ChannelFault}
use Rattle.mig_packet.specs.declared.fault.ChannelFault.TheVariants as fault
use Rattle.mig_packet.specs.Faults.{first_of}
use Rattle.mig_packet.specs.PageSize.{IsPageSize}
use Rattle.mig_packet.specs.Packet.{is_sync, packet_faults, IsPacketText}
use Rattle.mig_packet.specs.Waiting.{weight, weight_of_all, IsWithin, room_after, is_over}
use Rattle.mig_packet.specs.Progress.{ChannelProgress, start, judged_len, faults, first_fault, after_item, after}
use Rattle.mig_packet.specs.Reading.{AreFaultless, after_all, Front, Ends, state_at}
use Rattle.mig_packet.specs.Law.{WaitingIsBounded, WaitingBytesAreBounded, LimitOnlyRefuses, RefusedIsOver}
use Rattle.mig_packet.proofs.Later.{IsLater-front}
use Rattle.mig_packet.proofs.Limits.{open_packets}
use Rattle.mig_packet.proofs.Waiting.{faultless_within, free_within}

-- ---- what waits

record Bounded (waiting : Option ℕ) (c : ChannelProgress) : Type 0 where
  same_waiting : c.waiting ≡ waiting
  in_rounds : All (IsWithin waiting) c.rounds
  in_open_round : IsWithin waiting c.packets

none_within : (waiting : Option ℕ) → IsWithin waiting []
none_within None = tt
none_within (Some n) = omega arith

-- a packet that has room
one_within : (waiting : Option ℕ) (packets : List (List ℕ)) (packet : List ℕ) → IsWithin waiting packets
    → is_over (room_after waiting packets) (weight packet) ≡ false → IsWithin waiting (packets ++ packet ∷ [])
one_within None packets packet within fits = tt
one_within (Some n) packets packet within fits =
    omega (arith, within, ltb-false (n - weight_of_all packets) (weight packet) fits, sum_by_push weight packets packet)

-- with SYNC or without
bounded_packet : (waiting : Option ℕ) (c : ChannelProgress) (packet : List ℕ) (sync : Bool) → is_over (room_after c.waiting c.packets) (weight packet) ≡ false
    → Bounded waiting c
    → Bounded waiting (cond sync (record c { packets = []; rounds = c.rounds ++ (c.packets ++ packet ∷ []) ∷ [] })
    (record c { packets = c.packets ++ packet ∷ [] }))
bounded_packet waiting c packet true fits b =
    let round = c.packets ++ packet ∷ [] in
    let within : IsWithin waiting round = one_within waiting c.packets packet b.in_open_round
    (subst (λ (w : Option ℕ). is_over (room_after w c.packets) (weight packet) ≡ false) b.same_waiting fits) in
    record {
      same_waiting = b.same_waiting;
      in_rounds = All-push (IsWithin waiting) c.rounds round b.in_rounds within;
      in_open_round = none_within waiting;
    }
bounded_packet waiting c packet false fits b = record {
  same_waiting = b.same_waiting;
  in_rounds = b.in_rounds;
  in_open_round = one_within waiting c.packets packet b.in_open_round
      (subst (λ (w : Option ℕ). is_over (room_after w c.packets) (weight packet) ≡ false) b.same_waiting fits);
}

bounded_item : (waiting : Option ℕ) (c : ChannelProgress) (h : Option ℕ) (item : List ℕ) → first_of (faults c h item) ≡ None → Bounded waiting c
    → Bounded waiting (after_item c h item)
bounded_item waiting c None item free b =
    record { same_waiting = b.same_waiting; in_rounds = b.in_rounds; in_open_round = b.in_open_round }
bounded_item waiting c (Some id) item free b =
    bounded_packet waiting c item (is_sync item) (faultless_within c.page_size (room_after c.waiting c.packets) item free).1 b

bounded_all : (waiting : Option ℕ) (c : ChannelProgress) (items : List (List ℕ)) → AreFaultless c items → Bounded waiting c
    → Bounded waiting (after_all c items)
bounded_all waiting c [] free b = b
bounded_all waiting c (item ∷ items) free b = bounded_all waiting (after c item) items free.2 (bounded_item waiting c c.hello item free.1 b)

-- no round, complete or open, counts more than the limit
pub waiting_is_bounded : WaitingIsBounded
waiting_is_bounded = λ given text ended reading is.
    let from : ChannelProgress = start given.page_size given.uuid given.channels given.waiting in
    let first : Bounded given.waiting from =
    record { same_waiting = refl; in_rounds = All-nil (IsWithin given.waiting); in_open_round = none_within given.waiting } in
    let f : Front from is.reads.front is.to = is.reads.leads in
    let b : Bounded given.waiting is.to =
    subst (Bounded given.waiting) (sym f.leads_to) (bounded_all given.waiting from f.items f.are_faultless first) in
    (subst (All (IsWithin given.waiting)) (sym is.has_rounds) b.in_rounds, b.in_open_round)

-- ---- how many bytes wait

-- a packet has no more than a page for itself, and one for each of its pages
one_bytes : (p : ℕ) (packet : List ℕ) → IsPageSize p → IsPacketText p packet → length packet ≤ weight packet * p
one_bytes p packet (inl e) = subst (λ (n : ℕ). IsPacketText n packet → length packet ≤ weight packet * n) (sym e)
    (λ is. let long = is.has_length in omega (arith, long))
one_bytes p packet (inr e) = subst (λ (n : ℕ). IsPacketText n packet → length packet ≤ weight packet * n) (sym e)
    (λ is. let long = is.has_length in omega (arith, long))

joined : (a b x y p : ℕ) → x ≤ a * p → y ≤ b * p → x + y ≤ (a + b) * p
joined a b x y p l r = omega (arith, l, r, add-mul a b p)

all_bytes : (p : ℕ) (packets : List (List ℕ)) → IsPageSize p → All (IsPacketText p) packets → length (concat packets) ≤ weight_of_all packets * p
all_bytes p [] size are = omega arith
all_bytes p (packet ∷ packets) size are =
    let here = one_bytes p packet size (All-head (IsPacketText p) packet packets are) in
    let rest = all_bytes p packets size (All-tail (IsPacketText p) packet packets are) in
    let both = joined (weight packet) (weight_of_all packets) (length packet) (length (concat packets)) p here rest in
    subst (λ (n : ℕ). n ≤ weight_of_all (packet ∷ packets) * p) (sym (length-append packet (concat packets)))
    (subst (λ (n : ℕ). length packet + length (concat packets) ≤ n * p) (sym (sum_by-cons weight packet packets)) both)

-- the packets of an open round have no more bytes than the limit times a page
pub waiting_bytes_are_bounded : WaitingBytesAreBounded
waiting_bytes_are_bounded = λ given text ended reading waiting size some is.
    let p : ℕ = given.page_size in
    let within : IsWithin (Some waiting) is.to.packets =
    subst (λ (w : Option ℕ). IsWithin w is.to.packets) some (waiting_is_bounded given text ended reading is).1 in
    le_trans (all_bytes p is.to.packets size (open_packets given text ended reading is)) (mul-le (weight_of_all is.to.packets) p waiting p within (omega arith))

-- ---- the reading without a limit

abbrev pub unlimited : ChannelProgress → ChannelProgress
unlimited c = record c { waiting = None }

after_packet-unlimited : (c : ChannelProgress) (packet : List ℕ) (sync : Bool)
    → cond sync (record (unlimited c) { packets = []; rounds = c.rounds ++ (c.packets ++ packet ∷ []) ∷ [] })
    (record (unlimited c) { packets = c.packets ++ packet ∷ [] })
    ≡ unlimited (cond sync (record c { packets = []; rounds = c.rounds ++ (c.packets ++ packet ∷ []) ∷ [] }) (record c { packets = c.packets ++ packet ∷ [] }))
after_packet-unlimited c packet true = refl
after_packet-unlimited c packet false = refl

-- an item changes the progress without a limit as it does with one
pub after-unlimited : (c : ChannelProgress) (h : Option ℕ) (item : List ℕ) → after_item (unlimited c) h item ≡ unlimited (after_item c h item)
after-unlimited c None item = refl
after-unlimited c (Some id) item = after_packet-unlimited c item (is_sync item)

free-unlimited : (c : ChannelProgress) (h : Option ℕ) (item : List ℕ) → first_of (faults c h item) ≡ None → first_of (faults (unlimited c) h item) ≡ None
free-unlimited c None item free = free
free-unlimited c (Some id) item free = free_within c.page_size None item (faultless_within c.page_size (room_after c.waiting c.packets) item free).0 refl

faultless-unlimited : (c : ChannelProgress) (items : List (List ℕ)) → AreFaultless c items → AreFaultless (unlimited c) items
faultless-unlimited c [] free = tt
faultless-unlimited c (item ∷ items) free = (
  free.0,
  free-unlimited c c.hello item free.1,
  subst (λ (x : ChannelProgress). AreFaultless x items) (sym (after-unlimited c c.hello item)) (faultless-unlimited (after c item) items free.2),
)

-- items change the progress without a limit as they do with one
pub after_all-unlimited : (c : ChannelProgress) (items : List (List ℕ)) → after_all (unlimited c) items ≡ unlimited (after_all c items)
after_all-unlimited c [] = refl
after_all-unlimited c (item ∷ items) =
    ap (λ (x : ChannelProgress). after_all x items) (after-unlimited c c.hello item) ∙ after_all-unlimited (after c item) items

-- a fault other than the limit's is there without it
other_first : (xs : List (Bool × ChannelFault)) (over : Bool) (f : ChannelFault) → f ≢ fault.Waiting → first_of (xs ++ (over, fault.Waiting) ∷ []) ≡ Some f
    → first_of (xs ++ (false, fault.Waiting) ∷ []) ≡ Some f
other_first [] true f other e = absurd (other (let same : fault.Waiting ≡ f = cc in sym same))
other_first [] false f other e = e
other_first ((true, g) ∷ xs) over f other e = e
other_first ((false, g) ∷ xs) over f other e = other_first xs over f other e

fault-unlimited : (c : ChannelProgress) (h : Option ℕ) (bytes : List ℕ) (f : ChannelFault) → f ≢ fault.Waiting → first_of (faults c h bytes) ≡ Some f
    → first_of (faults (unlimited c) h bytes) ≡ Some f
fault-unlimited c None bytes f other e = e
fault-unlimited c (Some id) bytes f other e =
    other_first (packet_faults c.page_size bytes) (is_over (room_after c.waiting c.packets) (weight bytes)) f other e

-- where a fault is due or not
due_by : (b : Bool) (x y o : Option ChannelFault) → (x ≡ o → y ≡ o) → cond b x None ≡ o → cond b y None ≡ o
due_by true x y o same e = same e
due_by false x y o same e = e

ends-unlimited : (c : ChannelProgress) (rest : List ℕ) (s : ChannelState) → s ≢ Bad fault.Waiting → Ends c rest s → Ends (unlimited c) rest s
ends-unlimited c rest Reading other e = (
  due_by (leb (judged_len c.page_size c.hello) (length rest)) (first_fault c rest) (first_fault (unlimited c) rest) None (free-unlimited c c.hello rest) e.0,
  e.1,
)
ends-unlimited c rest Closed other e = e
ends-unlimited c rest (Bad f) other e =
    let not_waiting : f ≢ fault.Waiting = λ same. other (ap Bad same) in
    due_by (leb (judged_len c.page_size c.hello) (length rest)) (first_fault c rest) (first_fault (unlimited c) rest) (Some f)
    (fault-unlimited c c.hello rest f not_waiting) e

-- the state without a limit is the state with one
pub state-unlimited : (ended : Bool) (c : ChannelProgress) (rest : List ℕ) (found : ChannelState)
    → state_at ended (unlimited c) rest found ≡ state_at ended c rest found
state-unlimited true c rest Reading = refl
state-unlimited true c rest Closed = refl
state-unlimited true c rest (Bad f) = refl
state-unlimited false c rest found = refl

-- a bad channel stays so where it has ended
stays_bad : (ended : Bool) (c : ChannelProgress) (rest : List ℕ) (f : ChannelFault) → state_at ended c rest (Bad f) ≡ Bad f
stays_bad true c rest f = refl
stays_bad false c rest f = refl

-- a reading without the limit's fault is the one without a limit
pub limit_only_refuses : LimitOnlyRefuses
limit_only_refuses = λ given text ended reading is other.
    let from : ChannelProgress = start given.page_size given.uuid given.channels given.waiting in
    let found_other : is.found ≢ Bad fault.Waiting = λ waits. other
    (is.has_state ∙ ap (state_at ended is.to is.rest) waits ∙ stays_bad ended is.to is.rest fault.Waiting) in
    let f : Front from is.reads.front is.to = is.reads.leads in
    record {
      to = unlimited is.to;
      rest = is.rest;
      found = is.found;
      reads = record {
        front = is.reads.front;
        has_text = is.reads.has_text;
        leads = record {
          items = f.items;
          has_bytes = f.has_bytes;
          are_faultless = faultless-unlimited from f.items f.are_faultless;
          leads_to = ap unlimited f.leads_to ∙ sym (after_all-unlimited from f.items);
        };
        ends = ends-unlimited is.to is.rest is.found found_other is.reads.ends;
      };
      has_hello = is.has_hello;
      has_rounds = is.has_rounds;
      has_state = is.has_state ∙ sym (state-unlimited ended is.to is.rest is.found);
    }

-- ---- what is refused

-- the fault is that of a later test
later_test : (b : Bool) (f : ChannelFault) (more : Option ChannelFault) → f ≢ fault.Waiting
    → cond b (Some f) more ≡ Some fault.Waiting → more ≡ Some fault.Waiting
later_test true f more other e = absurd (other (let same : f ≡ fault.Waiting = cc in same))
later_test false f more other e = e

hello_never : (magic version uuid id : Bool)
    → first_of ((magic, fault.HelloMagic) ∷ (version, fault.HelloVersion) ∷ (uuid, fault.HelloUuid) ∷ (id, fault.HelloId) ∷ []) ≢ Some fault.Waiting
hello_never magic version uuid id = λ e.
    let after_magic = later_test magic fault.HelloMagic _ (λ same. absurd cc) e in
    let after_version = later_test version fault.HelloVersion _ (λ same. absurd cc) after_magic in
    let after_uuid = later_test uuid fault.HelloUuid _ (λ same. absurd cc) after_version in
    let none = later_test id fault.HelloId None (λ same. absurd cc) after_uuid in absurd cc

last_of_packet : (magic version flags count size over : Bool) (n : ℕ)
    → first_of ((magic, fault.PacketMagic) ∷ (version, fault.PacketVersion) ∷ (flags, fault.PacketFlags n) ∷ (
      count,
      fault.PageCount,
    ) ∷ (size, fault.PacketSize) ∷ (over, fault.Waiting) ∷ []) ≡ Some fault.Waiting
    → over ≡ true
last_of_packet magic version flags count size over n e =
    let after_magic = later_test magic fault.PacketMagic _ (λ same. absurd cc) e in
    let after_version = later_test version fault.PacketVersion _ (λ same. absurd cc) after_magic in
    let after_flags = later_test flags (fault.PacketFlags n) _ (λ same. absurd cc) after_version in
    let after_count = later_test count fault.PageCount _ (λ same. absurd cc) after_flags in
    let last = later_test size fault.PacketSize (cond over (Some fault.Waiting) None) (λ same. absurd cc) after_count in
    is_met over last
  where
    is_met : (b : Bool) → cond b (Some fault.Waiting) None ≡ Some fault.Waiting → b ≡ true
    is_met true e = refl
    is_met false e = absurd cc

-- a packet has no room only where there is a limit
over_limit : (waiting : Option ℕ) (packets : List (List ℕ)) (n : ℕ) → is_over (room_after waiting packets) n ≡ true
    → (limit : ℕ) × (waiting ≡ Some limit) × (limit < weight_of_all packets + n)
over_limit None packets n over = absurd cc
over_limit (Some limit) packets n over = (limit, refl, omega (arith, ltb-true (limit - weight_of_all packets) n over))

refused_at : (c : ChannelProgress) (h : Option ℕ) (bytes : List ℕ) → first_of (faults c h bytes) ≡ Some fault.Waiting
    → is_over (room_after c.waiting c.packets) (weight bytes) ≡ true
refused_at c None bytes e = absurd (hello_never _ _ _ _ e)
refused_at c (Some id) bytes e = last_of_packet _ _ _ _ _ (is_over (room_after c.waiting c.packets) (weight bytes)) _ e

was_judged : (b : Bool) (x : Option ChannelFault) (f : ChannelFault) → cond b x None ≡ Some f → x ≡ Some f
was_judged true x f e = e
was_judged false x f e = absurd cc

-- a packet that the limit refuses counts more than it, with those of its round
pub refused_is_over : RefusedIsOver
refused_is_over = λ given text n at.
    let c = at.to in
    let from : ChannelProgress = start given.page_size given.uuid given.channels given.waiting in
    let due : first_fault c at.rest ≡ Some fault.Waiting =
    was_judged (leb (judged_len c.page_size c.hello) (length at.rest)) (first_fault c at.rest) fault.Waiting at.has_fault in
    let over = over_limit c.waiting c.packets (weight at.rest) (refused_at c c.hello at.rest due) in
    (over.0, sym (IsLater-front from c at.front at.leads).1.same_waiting ∙ over.1, over.2)
