-- A channel's bytes have a reading and a list of items, and no other.
use Rattle.std.proofs.Common.{◌≡◌, ◌⊎◌, ℕ, zero, suc, ◌+◌, ◌<◌, Bool, true, List, [], ◌++◌, length, take, drop}
use Rattle.std.proofs.Common.{Option, Some, None, refl, sym, ap, ◌∙◌, inl, inr, append_assoc, arith}
use Rattle.std.proofs.lemmas.Bool.{cases_lt}
use Rattle.std.proofs.lemmas.List.{take-append-drop, length-append}
use Rattle.mig_packet.specs.declared.state.ChannelState.{ChannelState}
use Rattle.mig_packet.specs.declared.state.ChannelState.TheVariants.{Reading, Bad}
use Rattle.mig_packet.specs.declared.fault.ChannelFault.{ChannelFault}
use Rattle.mig_packet.specs.Progress.{ChannelProgress, start, judged_len, item_len, first_fault, due_fault, after}
use Rattle.mig_packet.specs.Reading.{IsItem, Front, Reads, state_at, ChannelReading}
use Rattle.mig_packet.specs.ChannelItems.{items_of}
use Rattle.mig_packet.specs.Law.{HasOneReading, HasOneListOfItems}
use Rattle.mig_packet.proofs.Fronts.{Front-none, Front-push, no_head, no_item, item_at, due_is, faultless_front}
use Rattle.mig_packet.proofs.Unique.{one_reading}

-- ---- bytes have a reading

-- Some reading of bytes from here.
abbrev pub SomeReading : ChannelProgress → List ℕ → Type 0
SomeReading from text = (to : ChannelProgress) × (rest : List ℕ) × (state : ChannelState) × Reads from text to rest state

-- whether a fault is due
faulty : (o : Option ChannelFault) → (o ≡ None) ⊎ ((fault : ChannelFault) × (o ≡ Some fault))
faulty None = inl refl
faulty (Some fault) = inr (fault, refl)

-- no item is empty
some_bytes : (p : ℕ) (h : Option ℕ) (bytes : List ℕ) → 0 < item_len p h bytes
some_bytes p None bytes = omega arith
some_bytes p (Some id) bytes = omega arith

-- however far bytes have been read, they can be read on, since each item is a step forward
read_on : (fuel : ℕ) (from c : ChannelProgress) (text front rest : List ℕ) → length rest < fuel → text ≡ front ++ rest → Front from front c
    → SomeReading from text
read_on zero from c text front rest few e so_far = absurd (omega arith)
read_on (suc fuel) from c text front rest few e so_far =
    elim (faulty (due_fault c rest)) [
      | inr found ↦ (c, rest, Bad found.0, record { front = front; has_text = e; leads = so_far; ends = found.1 })
      | inl none ↦ elim (cases_lt (length rest) (judged_len c.page_size c.hello)) [
        | inl early ↦ (c, rest, Reading, record { front = front; has_text = e; leads = so_far; ends = (none, no_head c.page_size c.hello rest early) })
        | inr judged ↦ elim (cases_lt (length rest) (item_len c.page_size c.hello rest)) [
          | inl short ↦ (c, rest, Reading, record { front = front; has_text = e; leads = so_far; ends = (none, no_item c.page_size c.hello rest short) })
          | inr le ↦
              let n : ℕ = item_len c.page_size c.hello rest in
              let item : List ℕ = take n rest in
              let more : List ℕ = drop n rest in
              let parts : item ++ more ≡ rest = take-append-drop n rest in
              let is : IsItem c.page_size c.hello item = item_at c.page_size c.hello rest le in
              let free : first_fault c item ≡ None = faultless_front c rest item more (sym (due_is c rest judged) ∙ none) (sym parts) is in
              let lens : length item + length more ≡ length rest = sym (length-append item more) ∙ ap length parts in
              let some : 0 < length item = omega (arith, is, some_bytes c.page_size c.hello item) in
              let text_is : text ≡ (front ++ item) ++ more = e ∙ ap (λ (x : List ℕ). front ++ x) (sym parts) ∙ sym (append_assoc front item more) in
              read_on fuel from (after c item) text (front ++ item) more (omega (arith, few, lens, some)) text_is (Front-push from c front item so_far is free)
        ]
      ]
    ]

-- Bytes have a reading from anywhere.
pub some_reading : (from : ChannelProgress) (text : List ℕ) → SomeReading from text
some_reading from text = read_on (suc (length text)) from from text [] text (omega arith) refl (Front-none from)

-- ---- and no other

-- two readings of some bytes say the same
same_reading : (from : ChannelProgress) (text : List ℕ) (ended : Bool) (other : ChannelReading) (c : ChannelProgress) (x : List ℕ) (s : ChannelState)
    → Reads from text c x s
    → (d : ChannelProgress) (y : List ℕ) (t : ChannelState) → Reads from text d y t → other.hello ≡ d.hello → other.rounds ≡ d.rounds
    → other.state ≡ state_at ended d y t
    → other ≡ record { hello = c.hello; rounds = c.rounds; state = state_at ended c x s }
same_reading from text ended other c x s a d y t b hello rounds state =
    let same = one_reading from text d c y x t s b a in
    let at : state_at ended d y t ≡ state_at ended c x s =
    ap (λ (p : ChannelProgress). state_at ended p y t) same.0 ∙ ap (λ (z : List ℕ). state_at ended c z t) same.1 ∙ ap (state_at ended c x) same.2 in
    ap (λ (v : Option ℕ). record { hello = v; rounds = other.rounds; state = other.state }) (hello ∙ ap (λ (p : ChannelProgress). p.hello) same.0)
    ∙ ap (λ (v : List (List (List ℕ))). record { hello = c.hello; rounds = v; state = other.state }) (rounds ∙ ap (λ (p : ChannelProgress). p.rounds) same.0)
    ∙ ap (λ (v : ChannelState). record { hello = c.hello; rounds = c.rounds; state = v }) (state ∙ at)

-- The bytes of a channel have exactly one reading.
pub one_reading_law : HasOneReading
one_reading_law = λ given text ended is.
    let from : ChannelProgress = start given.page_size given.uuid given.channels given.waiting in
    let r = some_reading from text in
    let reading : ChannelReading = record { hello = r.0.hello; rounds = r.0.rounds; state = state_at ended r.0 r.1 r.2 } in (
      reading,
      record { to = r.0; rest = r.1; found = r.2; reads = r.3; has_hello = refl; has_rounds = refl; has_state = refl },
      λ other is_other. same_reading from text ended other r.0 r.1 r.2 r.3 is_other.to is_other.rest is_other.found is_other.reads is_other.has_hello
          is_other.has_rounds is_other.has_state,
    )

same_items : (from : ChannelProgress) (text : List ℕ) (c : ChannelProgress) (x : List ℕ) (s : ChannelState) → Reads from text c x s
    → (d : ChannelProgress) (y : List ℕ) (t : ChannelState) → Reads from text d y t → items_of d (state_at true d y t) ≡ items_of c (state_at true c x s)
same_items from text c x s a d y t b =
    let same = one_reading from text d c y x t s b a in
    ap (λ (p : ChannelProgress). items_of p (state_at true p y t)) same.0
    ∙ ap (λ (z : List ℕ). items_of c (state_at true c z t)) same.1
    ∙ ap (λ (z : ChannelState). items_of c (state_at true c x z)) same.2

-- The bytes of a channel that has ended have exactly one list of items.
pub one_list_law : HasOneListOfItems
one_list_law = λ given text is.
    let from : ChannelProgress = start given.page_size given.uuid given.channels given.waiting in
    let r = some_reading from text in (
      items_of r.0 (state_at true r.0 r.1 r.2),
      record { to = r.0; rest = r.1; found = r.2; reads = r.3; has_items = refl },
      λ other is_other. is_other.has_items ∙ same_items from text r.0 r.1 r.2 r.3 is_other.to is_other.rest is_other.found is_other.reads,
    )
