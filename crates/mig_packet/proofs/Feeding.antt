-- Reading a piece after the bytes of an item that wasn't complete.
use Rattle.std.proofs.Common.{◌≡◌, ◌≢◌, ℕ, List, [], ◌++◌, length, take, drop, Option, Some, None, refl, sym, ap, subst, ◌∙◌, append_assoc, inl, inr}
use Rattle.std.proofs.lemmas.Bool.{cases_lt}
use Rattle.std.proofs.lemmas.List.{take-append-drop}
use Rattle.mig_packet.specs.declared.state.ChannelState.{ChannelState}
use Rattle.mig_packet.specs.declared.state.ChannelState.TheVariants.{Reading, Bad}
use Rattle.mig_packet.specs.declared.fault.ChannelFault.{ChannelFault}
use Rattle.mig_packet.specs.Progress.{ChannelProgress, judged_len, item_len, first_fault, due_fault, after_packet, after_item, after}
use Rattle.mig_packet.specs.Reading.{IsItem, Front, Reads}
use Rattle.mig_packet.specs.Taking.{HasTaken}
use Rattle.mig_packet.specs.Reader.{IsUnfinished, ReadsOn}
use Rattle.mig_packet.proofs.Fronts.{item_at, no_item, no_head, Front-none, Front-push, Front-append}

-- ---- an item that isn't whole

-- no front of its bytes is the item
not_whole : (c : ChannelProgress) (bytes : List ℕ) → IsUnfinished c bytes → (item more : List ℕ) → bytes ≡ item ++ more → IsItem c.page_size c.hello item → ⊥
not_whole c bytes u =
    elim (cases_lt (length bytes) (judged_len c.page_size c.hello)) [
      | inl lt ↦ no_head c.page_size c.hello bytes lt
      | inr le ↦ no_item c.page_size c.hello bytes (u.is_short le)
    ]

-- the bytes that a reading leaves are no whole item
unfinished : (from : ChannelProgress) (text : List ℕ) (to : ChannelProgress) (rest : List ℕ) → Reads from text to rest Reading → IsUnfinished to rest
unfinished from text to rest r =
    let n : ℕ = item_len to.page_size to.hello rest in
    record {
      has_no_fault = r.ends.0;
      is_short = λ _. elim (cases_lt (length rest) n) [
        | inl lt ↦ lt
        | inr le ↦ absurd (r.ends.1 (take n rest) (drop n rest) (sym (take-append-drop n rest)) (item_at to.page_size to.hello rest le))
      ];
    }

-- ---- what is read

-- bytes that are no whole item are left
pub reads_short : (c : ChannelProgress) (bytes : List ℕ) → IsUnfinished c bytes → Reads c bytes c bytes Reading
reads_short c bytes u = record { front = []; has_text = refl; leads = Front-none c; ends = (u.has_no_fault, not_whole c bytes u) }

-- an item after the hello is a packet
pub after_is : (c : ChannelProgress) (h : Option ℕ) (item : List ℕ) → h ≢ None → after_item c h item ≡ after_packet c item
after_is c None item some = absurd (some refl)
after_is c (Some id) item some = refl

-- one item, and what is read after it
front_item : (c : ChannelProgress) (item : List ℕ) → IsItem c.page_size c.hello item → first_fault c item ≡ None → Front c item (after c item)
front_item c item is none = Front-push c c [] item (Front-none c) is none

-- an item without a fault is read, and then what follows it
pub reads_behind : (c d to : ChannelProgress) (item rest pending : List ℕ) (left : ℕ) (s : ChannelState)
    → IsItem c.page_size c.hello item → first_fault c item ≡ None
    → d ≡ after c item → ReadsOn d rest to pending left s → ReadsOn c (item ++ rest) to pending left s
reads_behind c d to item rest pending left s is none d_is r = record {
  rest = r.rest;
  reads = record {
    front = item ++ r.reads.front;
    has_text = ap (λ (x : List ℕ). item ++ x) r.reads.has_text ∙ sym (append_assoc item r.reads.front r.rest);
    leads = Front-append c d to item r.reads.front (subst (λ (x : ChannelProgress). Front c item x) (sym d_is) (front_item c item is none)) r.reads.leads;
    ends = r.reads.ends;
  };
  has_left = r.has_left;
  has_rest = r.has_rest;
}

-- ---- what is taken if memory runs out

-- an item without a fault is taken, and then what follows it
pub taken_behind : (c d to : ChannelProgress) (item rest : List ℕ) → IsItem c.page_size c.hello item → first_fault c item ≡ None → d ≡ after c item
    → HasTaken d rest to → HasTaken c (item ++ rest) to
taken_behind c d to item rest is none d_is t = record {
  front = item ++ t.front;
  rest = t.rest;
  has_bytes = ap (λ (x : List ℕ). item ++ x) t.has_bytes ∙ sym (append_assoc item t.front t.rest);
  leads = Front-append c d to item t.front (subst (λ (x : ChannelProgress). Front c item x) (sym d_is) (front_item c item is none)) t.leads;
}

-- what a reading keeps is no whole item
pub unfinished_behind : (from : ChannelProgress) (bytes : List ℕ) (to : ChannelProgress) (pending : List
    ℕ) (left : ℕ) (s : ChannelState) → ReadsOn from bytes to pending left s
    → s ≡ Reading → IsUnfinished to pending
unfinished_behind from bytes to pending left s r reading =
    subst (IsUnfinished to) (r.has_rest reading) (unfinished from bytes to r.rest (subst (λ (x : ChannelState). Reads from bytes to r.rest x) reading r.reads))

-- the piece was too short
pub still_reading : (c : ChannelProgress) (bytes pending : List ℕ) (left : ℕ) → left ≡ length bytes
    → (bytes ≡ pending) × IsUnfinished c pending → ReadsOn c bytes c pending left Reading
still_reading c bytes pending left all h = record {
  rest = pending;
  reads = subst (λ (x : List ℕ). Reads c x c pending Reading) (sym h.0) (reads_short c pending h.1);
  has_left = ap (λ (x : List ℕ). length x) (sym h.0) ∙ sym all;
  has_rest = λ _. refl;
}

-- a fault is due
pub now_faulty : (c : ChannelProgress) (bytes pending : List ℕ) (left : ℕ) (fault : ChannelFault) → left ≡ length bytes
    → due_fault c bytes ≡ Some fault → ReadsOn c bytes c pending left (Bad fault)
now_faulty c bytes pending left fault all due = record {
  rest = bytes;
  reads = record { front = []; has_text = refl; leads = Front-none c; ends = due };
  has_left = sym all;
  has_rest = λ e. absurd cc;
}
