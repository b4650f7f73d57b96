-- Reading a piece after the bytes of an item that wasn't complete.
use Rattle.std.proofs.Common.{◌≡◌, ◌≢◌, ℕ, ◌+◌, ◌<◌, false, List, [], ◌++◌, length, take, drop, Option, Some, None}
use Rattle.std.proofs.Common.{refl, sym, ap, subst, ◌∙◌, append_assoc, inl, inr}
use Rattle.std.proofs.Common.{arith}
use Rattle.std.specs.Prelude.{IfSome, IfNone}
use Rattle.std.proofs.lemmas.List.{length-append, take-append-drop}
use Rattle.std.proofs.lemmas.Bool.{cases_lt}
use Rattle.mig_stream.specs.declared.item.Due.{Due}
use Rattle.mig_stream.specs.declared.item.Due.TheVariants.{Nothing}
use Rattle.mig_stream.specs.declared.item.StreamState.{StreamState}
use Rattle.mig_stream.specs.declared.item.StreamState.TheVariants.{Reading, Bad}
use Rattle.mig_stream.specs.declared.fault.StreamFault.{StreamFault}
use Rattle.mig_stream.specs.Progress.{StreamProgress}
use Rattle.mig_stream.specs.Items.{size, first_fault, is_over, after}
use Rattle.mig_stream.specs.Reading.{IsItem, Front, Reads}
use Rattle.mig_stream.specs.Taking.{HasTaken}
use Rattle.mig_stream.specs.Reader.{IsUnfinished, ReadsOn}
use Rattle.mig_stream.proofs.Fronts.{item_at, no_item, Front-none, Front-push, Front-append}

-- ---- an item that isn't complete

-- while bytes of an item lack, some item is due
pub is_due : (p : ℕ) (d : Due) (bytes : List ℕ) → length bytes < size p d bytes → d ≢ Nothing
is_due p d bytes lt none = absurd (omega (arith, lt, ap (λ (x : Due). size p x bytes) none))

-- the bytes that a reading leaves are no whole item
pub unfinished : (from : StreamProgress) (text : List ℕ) (to : StreamProgress) (rest : List ℕ) → Reads from text to rest Reading → IsUnfinished to rest
unfinished from text to rest r =
    elim (cases_lt (length rest) (size to.page_size to.due rest)) [
      | inl lt ↦ lt
      | inr le ↦ absurd (r.ends.1 (take (size to.page_size to.due rest) rest) (drop (size to.page_size to.due rest) rest)
          (sym (take-append-drop (size to.page_size to.due rest) rest))
          (item_at to.page_size to.due rest r.ends.0 le))
    ]

-- ---- what is read

-- bytes that are no whole item are left
pub reads_short : (c : StreamProgress) (bytes : List ℕ) → IsUnfinished c bytes → Reads c bytes c bytes Reading
reads_short c bytes lt = record {
  front = [];
  has_text = refl;
  leads = Front-none c;
  ends = (is_due c.page_size c.due bytes lt, no_item c.page_size c.due bytes lt);
}

-- an item with a fault ends the reading before it
pub reads_fault : (c : StreamProgress) (item rest : List ℕ) (f : StreamFault) → IsItem c.page_size c.due item
    → first_fault c item ≡ Some f → is_over c item ≡ false → Reads c (item ++ rest) c (item ++ rest) (Bad f)
reads_fault c item rest f is fault not_over = record {
  front = [];
  has_text = refl;
  leads = Front-none c;
  ends = (item, rest, refl, is, fault, not_over);
}

-- one item, and what is read after it
pub front_item : (c : StreamProgress) (item : List ℕ) → IsItem c.page_size c.due item → first_fault c item ≡ None → Front c item (after c item)
front_item c item is none = Front-push c c [] item (Front-none c) is none

-- an item without a fault is read, and then what follows it
pub reads_behind : (c d to : StreamProgress) (item rest pending : List ℕ) (left : ℕ) (s : StreamState)
    → IsItem c.page_size c.due item → first_fault c item ≡ None → d ≡ after c item → ReadsOn d rest to pending left s
    → ReadsOn c (item ++ rest) to pending left s
reads_behind c d to item rest pending left s is none d_is r = record {
  rest = r.rest;
  reads = record {
    front = item ++ r.reads.front;
    has_text = ap (λ (x : List ℕ). item ++ x) r.reads.has_text ∙ sym (append_assoc item r.reads.front r.rest);
    leads = Front-append c d to item r.reads.front (subst (λ (x : StreamProgress). Front c item x) (sym d_is) (front_item c item is none)) r.reads.leads;
    ends = r.reads.ends;
  };
  has_left = r.has_left;
  has_rest = r.has_rest;
}

-- ---- what is taken if memory runs out

-- an item without a fault is taken, and then what follows it
pub taken_behind : (c d to : StreamProgress) (item rest : List ℕ) → IsItem c.page_size c.due item → first_fault c item ≡ None
    → d ≡ after c item → HasTaken d rest to → HasTaken c (item ++ rest) to
taken_behind c d to item rest is none d_is t = record {
  front = item ++ t.front;
  rest = t.rest;
  has_bytes = ap (λ (x : List ℕ). item ++ x) t.has_bytes ∙ sym (append_assoc item t.front t.rest);
  leads = Front-append c d to item t.front (subst (λ (x : StreamProgress). Front c item x) (sym d_is) (front_item c item is none)) t.leads;
}

-- ---- what filling the pending item up leads to

-- the piece was too short
pub still_short : {X : Type 0} (o : Option X) (c : StreamProgress) (old piece new : List ℕ) (left : ℕ) → left ≡ length new
    → o ≡ None → IfNone o ((new ≡ old ++ piece) × IsUnfinished c new) → ReadsOn c (old ++ piece) c new left Reading
still_short {X} (Some x) c old piece new left len none h = absurd cc
still_short {X} None c old piece new left len none h = record {
  rest = new;
  reads = subst (λ (x : List ℕ). Reads c x c new Reading) h.0 (reads_short c new h.1);
  has_left = sym len;
  has_rest = λ _. refl;
}

-- the bytes that fill an item up
pub text_at : {X : Type 0} (o : Option X) (x : X) (P : X → Type 0) → o ≡ Some x → IfSome o P → P x
text_at {X} o x P e h = subst (λ (y : Option X). IfSome y P) e h

-- a piece fills an item up that has a fault: the reading ends there with it
pub whole_fault : (c d : StreamProgress) (old piece item rest pending : List ℕ) (left : ℕ) (f : StreamFault)
    → left ≡ length item + length rest → item ++ rest ≡ old ++ piece → IsItem c.page_size c.due item → first_fault c item ≡ Some f
    → is_over c item ≡ false → d ≡ c → ReadsOn c (old ++ piece) d pending left (Bad f)
whole_fault c d old piece item rest pending left f len e is fault not_over same = record {
  rest = item ++ rest;
  reads = subst (λ (x : List ℕ). Reads c x d (item ++ rest) (Bad f)) e
      (subst (λ (x : StreamProgress). Reads c (item ++ rest) x (item ++ rest) (Bad f)) (sym same) (reads_fault c item rest f is fault not_over));
  has_left = length-append item rest ∙ sym len;
  has_rest = λ reading. absurd cc;
}

-- what a reading keeps is no whole item
pub unfinished_behind : (from : StreamProgress) (bytes : List ℕ) (to : StreamProgress) (pending : List
    ℕ) (left : ℕ) (s : StreamState) → ReadsOn from bytes to pending left s → s ≡ Reading → IsUnfinished to pending
unfinished_behind from bytes to pending left s r reading =
    subst (IsUnfinished to) (r.has_rest reading) (unfinished from bytes to r.rest (subst (λ (x : StreamState). Reads from bytes to r.rest x) reading r.reads))
