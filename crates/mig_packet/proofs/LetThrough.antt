-- A closed channel is read so under each limit that none of its rounds passes.
use Rattle.std.proofs.Common.{◌≡◌, ◌-◌, ◌<◌, ◌≤◌, ℕ, Bool, true, false, cond, leb, ltb, List, [], ◌∷◌, ◌++◌, Option, Some, None, refl, sym, ap, subst, ◌∙◌, inl}
use Rattle.std.proofs.Common.{inr, arith}
use Rattle.std.specs.Prelude.{◌⊎◌, nat_le}
use Rattle.std.specs.List.{All, list_all}
use Rattle.std.proofs.lemmas.Bool.{cases_Bool, le-leb, lt-leb, leb-true, ltb-true, and_left, and_right}
use Rattle.std.proofs.lemmas.List.Elements.{All-head, All-tail}
use Rattle.std.proofs.lemmas.List.Folds.{list_all-append}
use Rattle.std.proofs.lemmas.List.Sums.{sum_by_push}
use Rattle.mig_packet.specs.declared.state.ChannelState.{ChannelState}
use Rattle.mig_packet.specs.declared.state.ChannelState.TheVariants.{Reading, Closed, Bad}
use Rattle.mig_packet.specs.Faults.{first_of}
use Rattle.mig_packet.specs.Packet.{is_sync}
use Rattle.mig_packet.specs.Progress.{ChannelProgress, start, faults, first_fault, due_fault, judged_len, after_item, after}
use Rattle.mig_packet.specs.Reading.{AreFaultless, after_all, Ends, state_at, state_at_end, Settings, with_waiting, ChannelReading, IsReading}
use Rattle.mig_packet.specs.Waiting.{weight, weight_of_all, IsWithin, room_after, is_over}
use Rattle.mig_packet.specs.Law.{LimitLetsThrough}
use Rattle.mig_packet.proofs.Waiting.{faultless_within, free_within}
use Rattle.mig_packet.proofs.Bounded.{unlimited, after-unlimited, after_all-unlimited, state-unlimited}

-- ---- a round that counts too much

abbrev is_few : ℕ → List (List ℕ) → Bool
is_few limit round = nat_le (weight_of_all round) limit

-- A round counts more than the limit: a complete one, or the open one.
abbrev IsOver : ℕ → ChannelProgress → Type 0
IsOver limit c = (list_all (is_few limit) c.rounds ≡ false) ⊎ (limit < weight_of_all c.packets)

-- with a packet that the open round has no room for, or had none before
over_packet : (limit : ℕ) (c : ChannelProgress) (packet : List ℕ) (sync : Bool)
    → (list_all (is_few limit) c.rounds ≡ false) ⊎ (limit < weight_of_all (c.packets ++ packet ∷ []))
    → IsOver limit (cond sync (record c { packets = []; rounds = c.rounds ++ (c.packets ++ packet ∷ []) ∷ [] })
    (record c { packets = c.packets ++ packet ∷ [] }))
over_packet limit c packet true (inl long) =
    let round : List (List ℕ) = c.packets ++ packet ∷ [] in
    inl (list_all-append (is_few limit) c.rounds (round ∷ []) ∙ and_left (list_all (is_few limit) c.rounds) (list_all (is_few limit) (round ∷ [])) long)
over_packet limit c packet true (inr long) =
    let round : List (List ℕ) = c.packets ++ packet ∷ [] in
    inl (list_all-append (is_few limit) c.rounds (round ∷ [])
    ∙ and_right (list_all (is_few limit) c.rounds) (list_all (is_few limit) (round ∷ []))
    (and_left (is_few limit round) true (lt-leb (weight_of_all round) limit long)))
over_packet limit c packet false over = over

grows : (limit : ℕ) (c : ChannelProgress) (packet : List ℕ) → IsOver limit c
    → (list_all (is_few limit) c.rounds ≡ false) ⊎ (limit < weight_of_all (c.packets ++ packet ∷ []))
grows limit c packet (inl long) = inl long
grows limit c packet (inr long) = inr (omega (arith, long, sum_by_push weight c.packets packet))

over_item : (limit : ℕ) (c : ChannelProgress) (h : Option ℕ) (item : List ℕ) → IsOver limit c → IsOver limit (after_item c h item)
over_item limit c None item over = over
over_item limit c (Some id) item over = over_packet limit c item (is_sync item) (grows limit c item over)

over_all : (limit : ℕ) (c : ChannelProgress) (items : List (List ℕ)) → IsOver limit c → IsOver limit (after_all c items)
over_all limit c [] over = over
over_all limit c (item ∷ items) over = over_all limit (after c item) items (over_item limit c c.hello item over)

-- ---- all items are let through

lets_item : (limit : ℕ) (c : ChannelProgress) (h : Option ℕ) (item : List ℕ) → c.waiting ≡ Some limit
    → first_of (faults (unlimited c) h item) ≡ None → (IsOver limit (after_item (unlimited c) h item) → ⊥)
    → first_of (faults c h item) ≡ None
lets_item limit c None item waits free never_over = free
lets_item limit c (Some id) item waits free never_over =
    let room : Option ℕ = room_after c.waiting c.packets in
    free_within c.page_size room item (faultless_within c.page_size None item free).0 (elim (cases_Bool (is_over room (weight item))) [
      | inr fits ↦ fits
      | inl over ↦ absurd (
          let less : ltb (limit - weight_of_all c.packets) (weight item) ≡ true =
          sym (ap (λ (w : Option ℕ). is_over (room_after w c.packets) (weight item)) waits) ∙ over in
          never_over (over_packet limit (unlimited c) item (is_sync item)
          (inr (omega (arith, ltb-true (limit - weight_of_all c.packets) (weight item) less, sum_by_push weight c.packets item)))))
    ])

same_waiting : (c : ChannelProgress) (h : Option ℕ) (item : List ℕ) → (after_item c h item).waiting ≡ c.waiting
same_waiting c None item = refl
same_waiting c (Some id) item = by_sync (is_sync item)
  where
    by_sync : (sync : Bool) → (cond sync (record c { packets = []; rounds = c.rounds ++ (c.packets ++ item ∷ []) ∷ [] })
        (record c { packets = c.packets ++ item ∷ [] })).waiting ≡ c.waiting
    by_sync true = refl
    by_sync false = refl

lets_all : (limit : ℕ) (c : ChannelProgress) (items : List (List ℕ)) → c.waiting ≡ Some limit → AreFaultless (unlimited c) items
    → (IsOver limit (after_all (unlimited c) items) → ⊥) → AreFaultless c items
lets_all limit c [] waits free never_over = tt
lets_all limit c (item ∷ items) waits free never_over =
    let there : after (unlimited c) item ≡ unlimited (after c item) = after-unlimited c c.hello item in (
      free.0,
      lets_item limit c c.hello item waits free.1 (λ over. never_over (over_all limit (after (unlimited c) item) items over)),
      lets_all limit (after c item) items (same_waiting c c.hello item ∙ waits) (subst (λ (x : ChannelProgress). AreFaultless x items) there free.2)
          (subst (λ (x : ChannelProgress). IsOver limit (after_all x items) → ⊥) there never_over),
    )

-- ---- where it is closed

used_up : (hello : Option ℕ) (rest : List ℕ) (packets : List (List ℕ)) → state_at_end hello rest packets ≡ Closed → (rest ≡ []) × (packets ≡ [])
used_up None rest packets e = absurd cc
used_up (Some id) (byte ∷ rest) packets e = absurd cc
used_up (Some id) [] (packet ∷ packets) e = absurd cc
used_up (Some id) [] [] e = (refl, refl)

closed_so : (c : ChannelProgress) (rest : List ℕ) (found : ChannelState) → Ends c rest found → state_at true c rest found ≡ Closed
    → (found ≡ Reading) × ((rest ≡ []) × (c.packets ≡ []))
closed_so c rest Reading ends e = (refl, used_up c.hello rest c.packets e)
closed_so c rest Closed ends e = absurd ends
closed_so c rest (Bad f) ends e = absurd cc

-- no fault is known of no bytes
none_due : (c : ChannelProgress) → due_fault c [] ≡ None
none_due c = go (leb (judged_len c.page_size c.hello) 0) refl
  where
    some : (h : Option ℕ) → judged_len c.page_size h ≤ 0 → ⊥
    some None e = omega (arith, e)
    some (Some id) e = omega (arith, e)

    go : (b : Bool) → leb (judged_len c.page_size c.hello) 0 ≡ b → cond b (first_fault c []) None ≡ None
    go true e = absurd (some c.hello (leb-true (judged_len c.page_size c.hello) 0 e))
    go false e = refl

all_few : (limit : ℕ) (rounds : List (List (List ℕ))) → All (IsWithin (Some limit)) rounds → list_all (is_few limit) rounds ≡ true
all_few limit [] all = refl
all_few limit (round ∷ rounds) all =
    rw (le-leb (weight_of_all round) limit (All-head (IsWithin (Some limit)) round rounds all))
    (all_few limit rounds (All-tail (IsWithin (Some limit)) round rounds all))

not_over : (limit : ℕ) (c : ChannelProgress) → All (IsWithin (Some limit)) c.rounds → c.packets ≡ [] → IsOver limit c → ⊥
not_over limit c few none (inl long) = absurd (let clash : true ≡ false = sym (all_few limit c.rounds few) ∙ long in cc)
not_over limit c few none (inr long) = omega (arith, long, ap weight_of_all none)

through : (given : Settings) (limit : ℕ) (text : List ℕ) (reading : ChannelReading) → given.waiting ≡ Some limit
    → IsReading (with_waiting None given) text true reading → reading.state ≡ Closed
    → All (IsWithin (Some limit)) reading.rounds → IsReading given text true reading
through given limit text reading waits is closed few =
    let from : ChannelProgress = start given.page_size given.uuid given.channels given.waiting in
    let at = closed_so is.to is.rest is.found is.reads.ends (sym is.has_state ∙ closed) in
    let items : List (List ℕ) = is.reads.leads.items in
    let never_over : IsOver limit is.to → ⊥ =
    not_over limit is.to (subst (λ (r : List (List (List ℕ))). All (IsWithin (Some limit)) r) is.has_rounds few) at.1.1 in
    let free : AreFaultless from items =
    lets_all limit from items waits is.reads.leads.are_faultless (subst (λ (x : ChannelProgress). IsOver limit x → ⊥) is.reads.leads.leads_to never_over) in
    let to : ChannelProgress = after_all from items in
    let same : is.to ≡ unlimited to = is.reads.leads.leads_to ∙ after_all-unlimited from items in
    let open_ : Ends is.to is.rest Reading = subst (λ (s : ChannelState). Ends is.to is.rest s) at.0 is.reads.ends in
    record {
      to = to;
      rest = is.rest;
      found = is.found;
      reads = record {
        front = is.reads.front;
        has_text = is.reads.has_text;
        leads = record { items = items; has_bytes = is.reads.leads.has_bytes; are_faultless = free; leads_to = refl };
        ends = subst (λ (s : ChannelState). Ends to is.rest s) (sym at.0) (
          ap (due_fault to) at.1.0 ∙ none_due to,
          (subst (λ (x : ChannelProgress). Ends x is.rest Reading) same open_).1,
        );
      };
      has_hello = is.has_hello ∙ ap (λ (x : ChannelProgress). x.hello) same;
      has_rounds = is.has_rounds ∙ ap (λ (x : ChannelProgress). x.rounds) same;
      has_state = is.has_state ∙ ap (λ (x : ChannelProgress). state_at true x is.rest is.found) same ∙ state-unlimited true to is.rest is.found;
    }

-- a closed channel whose rounds are within the limit is read under it as without it
pub through_law : LimitLetsThrough
through_law given text reading is closed few = by_limit given.waiting refl
  where
    by_limit : (w : Option ℕ) → given.waiting ≡ w → IsReading given text true reading
    by_limit None e = subst (λ (w : Option ℕ). IsReading (with_waiting w given) text true reading) (sym e) is
    by_limit (Some limit) e = through given limit text reading e is closed (subst (λ (w : Option ℕ). All (IsWithin w) reading.rounds) e few)
