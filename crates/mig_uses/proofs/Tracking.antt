-- A guest whose writes are tracked, after a write and after a round.
use Rattle.std.proofs.Common.{ℕ, ◌≡◌, ◌/◌, ◌%◌, List, [], ◌∷◌, ◌++◌, length, refl, sym, ap, subst, ◌∙◌, inl, inr, true, ◌||◌, cond}
use Rattle.std.specs.Prelude.{All, Contains, slice_set}
use Rattle.std.proofs.lemmas.Bool.{cases_Bool, cond-true, cond-false}
use Rattle.std.proofs.lemmas.List.{map-append, length-set, length-replicate}
use Rattle.std.proofs.lemmas.List.Elements.{All-nil, All-cons, All-push}
use Rattle.std.proofs.lemmas.List.Folds.{list_any_at}
use Rattle.std.proofs.lemmas.Map.Views.{Contains-from_any}
use Rattle.mig_mem.specs.declared.place.Place.{Place}
use Rattle.mig_mem.specs.RamTable.{RamTable, IsTable}
use Rattle.mig_mem.specs.Place.{place_at, place_eq, has_place, IsPlace}
use Rattle.mig_mem.specs.Image.{Page, Image, IsImage, content_at, with_page, with_byte, zero_page, zero_image}
use Rattle.mig_mem.specs.PlaceSet.{PlaceSet, IsPlaceSet, with_place}
use Rattle.mig_mem.specs.Round.{IsRound, round_of, after}
use Rattle.mig_mem.specs.Tracking.{Snapshot, AreImagesOf, rounds_of, HasChanges, IsFaithful, last_image}
use Rattle.mig_mem.proofs.Images.{content_at-image_of, content_size, image_from}
use Rattle.mig_mem.proofs.PlaceOrder.{place_eq-true, place_eq-from}
use Rattle.mig_mem.proofs.Rounds.{image_round}
use Rattle.mig_mem.proofs.Tracked.{tracked}
use Rattle.mig_mem.proofs.Sets.{has_place-where, where_set}
use Rattle.mig_stream.specs.Writer.{Writer}
use Rattle.mig_stream.specs.Written.{single}
use Rattle.mig_send.specs.Sending.{HasSent, HasSentDrained}
use Rattle.mig_uses.specs.declared.live_guest.LiveGuest.{LiveGuest}
use Rattle.mig_uses.specs.Backup.{BringsMemory}
use Rattle.mig_uses.specs.LiveGuest.{snapshot_of, IsTracked}
use Rattle.mig_uses.proofs.EveryPage.{empty_set}

-- ---- the places of a set

-- a list that has a place, by the test on places, contains it
pub contains_from_has : (ps : List Place) (p : Place) → has_place ps p ≡ true → Contains ps p
contains_from_has ps p h = Contains-from_any {eq = λ x y. place_eq y x} (λ x y e. sym (place_eq-true y x e)) p ps h

has_from_contains : (ps : List Place) (p : Place) → Contains ps p → has_place ps p ≡ true
has_from_contains ps p h = list_any_at (λ q. place_eq q p) ps h.0 p h.1 (place_eq-from _ p h.2)

-- ---- snapshots

-- faithful snapshots stay so with one more whose dirty places have every page that changed since
-- the last image
pub faithful-push : (before : Image) (ss : List Snapshot) (s : Snapshot) → IsFaithful before ss
    → HasChanges (last_image before ss) s → IsFaithful before (ss ++ s ∷ [])
faithful-push before [] s faithful changes = (changes, tt)
faithful-push before (t ∷ ts) s faithful changes = (faithful.0, faithful-push t.image ts s faithful.1 changes)

-- the last image of some snapshots and one more is that of the one more
pub last_image-push : (before : Image) (ss : List Snapshot) (s : Snapshot) → last_image before (ss ++ s ∷ []) ≡ s.image
last_image-push before [] s = refl
last_image-push before (t ∷ ts) s = last_image-push t.image ts s

-- the rounds of some snapshots and one more are their rounds and the round of the one more
pub rounds-push : (ss : List Snapshot) (s : Snapshot) → rounds_of (ss ++ s ∷ []) ≡ rounds_of ss ++ round_of s.image s.dirty ∷ []
rounds-push ss s = map-append (λ (x : Snapshot). round_of x.image x.dirty) ss (s ∷ [])

-- a memory that was just sent has no changes
pub no_changes : (before m : Image) (dirty : List Place) → before ≡ m → HasChanges before (record { image = m; dirty = dirty })
no_changes before m dirty same = λ p is differ. absurd (differ (ap (λ (i : Image). content_at i p) (sym same)))

-- ---- a write

-- a page that was written is marked, and the others are as they were
pub changes_written : (before m : Image) (s : PlaceSet) (p : Place) (bytes : List ℕ) → s.table ≡ m.table → HasChanges before (snapshot_of m s)
    → HasChanges before (snapshot_of (with_page m p bytes) (with_place s p))
changes_written before m s p bytes same changes = λ q is differ.
    let at : IsPlace s.table q = rw same is in
    let new = λ (r : Place). cond (place_eq r p) bytes (content_at m r) in
    contains_from_has (with_place s p).marked q (has_place-where s.table (λ r. place_eq r p || has_place s.marked r) q at
    ∙ elim (cases_Bool (place_eq q p)) [
      | inl t ↦ rw t refl
      | inr n ↦
          let kept : content_at (with_page m p bytes) q ≡ content_at m q = content_at-image_of m.table new q is
          ∙ cond-false (place_eq q p) bytes (content_at m q) n in
          let found : has_place s.marked q ≡ true = has_from_contains s.marked q (changes q is (λ e. differ (kept ∙ e))) in
          rw (n, found) refl
    ])

-- ---- a guest

-- a guest whose memory is zeros, with no page marked and a sender that has sent nothing, is
-- tracked with no snapshot sent
pub new_tracked : {A : Type 0} (guest : LiveGuest A) (table : RamTable) → IsTable table → guest.memory ≡ zero_image table
    → guest.dirty ≡ record { table = table; marked = [] }
    → guest.sender.table ≡ table → HasSent guest.sender [] → IsTracked guest []
new_tracked guest table is memory dirty sender none =
    let same : guest.memory.table ≡ table = ap (λ (m : Image). m.table) memory in
    record {
      is_image = rw memory (image_from table (λ _. zero_page table.page_size) (λ p at. length-replicate table.page_size 0));
      is_set = rw dirty (empty_set table is);
      same_dirty = ap (λ (s : PlaceSet). s.table) dirty ∙ sym same;
      same_sender = sender ∙ sym same;
      has_sent = none;
      are_images = All-nil (λ (s : Snapshot). IsImage s.image × (s.image.table ≡ guest.memory.table));
      are_rounds = All-nil (IsRound guest.memory.table);
      is_faithful = tt;
      has_changes = no_changes (zero_image guest.memory.table) guest.memory guest.dirty.marked (ap zero_image same ∙ sym memory);
    }

-- a page that is written with as many bytes leaves a memory
page_written : (m : Image) (p : Place) (bytes : List ℕ) → IsImage m → length bytes ≡ m.table.page_size → IsImage (with_page m p bytes)
page_written m p bytes is len =
    image_from m.table (λ q. cond (place_eq q p) bytes (content_at m q)) (λ q at. elim (cases_Bool (place_eq q p)) [
      | inl t ↦ ap (λ (l : List ℕ). length l) (cond-true (place_eq q p) bytes (content_at m q) t) ∙ len
      | inr n ↦ ap (λ (l : List ℕ). length l) (cond-false (place_eq q p) bytes (content_at m q) n) ∙ content_size m q is at
    ])

-- what a write leaves
pub record Writes {A : Type 0} (old new : LiveGuest A) (b offset byte : ℕ) : Type 0 where
  pub memory : new.memory ≡ with_byte old.memory b offset byte
  pub dirty : new.dirty ≡ with_place old.dirty (place_at b (offset / old.memory.table.page_size))
  pub sender : new.sender ≡ old.sender
  pub is_place : IsPlace old.dirty.table (place_at b (offset / old.memory.table.page_size))

-- a tracked guest is tracked with the same snapshots after a byte is written and its page marked
pub write_tracked : {A : Type 0} (old new : LiveGuest A) (b offset byte : ℕ) → Writes old new b offset byte
    → (sent : List Snapshot) → IsTracked old sent → IsTracked new sent
write_tracked old new b offset byte w sent is =
    let m : Image = old.memory in
    let p : Place = place_at b (offset / m.table.page_size) in
    let bytes : List ℕ = slice_set (content_at m p) (offset % m.table.page_size) byte in
    let here : IsPlace m.table p = subst (λ (t : RamTable). IsPlace t p) is.same_dirty w.is_place in
    let len : length bytes ≡ m.table.page_size = length-set (content_at m p) (offset % m.table.page_size) byte ∙ content_size m p is.is_image here in
    let table : new.memory.table ≡ m.table = ap (λ (i : Image). i.table) w.memory in
    let before : Image = last_image (zero_image m.table) sent in
    let changes : HasChanges before (snapshot_of (with_page m p bytes) (with_place old.dirty p)) =
    changes_written before m old.dirty p bytes is.same_dirty is.has_changes in
    record {
      is_image = rw w.memory (page_written m p bytes is.is_image len);
      is_set = rw w.dirty (where_set old.dirty.table (λ r. place_eq r p || has_place old.dirty.marked r) is.is_set.has_table);
      same_dirty = ap (λ (s : PlaceSet). s.table) w.dirty ∙ (is.same_dirty ∙ sym table);
      same_sender = ap (λ (s : Writer). s.table) w.sender ∙ (is.same_sender ∙ sym table);
      has_sent = rw w.sender is.has_sent;
      are_images = rw table is.are_images;
      are_rounds = rw table is.are_rounds;
      is_faithful = rw table is.is_faithful;
      has_changes = subst (λ (t : RamTable). HasChanges (last_image (zero_image t) sent) (snapshot_of new.memory new.dirty)) (sym table)
          (subst (λ (i : Image). HasChanges before (snapshot_of i new.dirty)) (sym w.memory)
          (subst (λ (s : PlaceSet). HasChanges before (snapshot_of (with_page m p bytes) s)) (sym w.dirty) changes));
    }

-- what a round leaves
pub record Sends {A : Type 0} (old new : LiveGuest A) : Type 0 where
  pub memory : new.memory ≡ old.memory
  pub dirty : new.dirty ≡ record old.dirty { marked = [] }
  pub table : new.sender.table ≡ old.sender.table
  pub sent : (drained : List ℕ) (rounds : List (List Page)) → HasSentDrained drained old.sender rounds
      → HasSentDrained drained new.sender (rounds ++ round_of old.memory old.dirty.marked ∷ [])

-- a tracked guest that sends a round is tracked with its snapshot as one more sent
pub round_tracked : {A : Type 0} (old new : LiveGuest A) → Sends old new → (sent : List Snapshot) → IsTracked old sent
    → IsTracked new (sent ++ snapshot_of old.memory old.dirty ∷ [])
round_tracked old new r sent is =
    let s : Snapshot = snapshot_of old.memory old.dirty in
    let all : List Snapshot = sent ++ s ∷ [] in
    let table : new.memory.table ≡ old.memory.table = ap (λ (i : Image). i.table) r.memory in
    let zero : Image = zero_image old.memory.table in
    let within : All (IsPlace old.memory.table) old.dirty.marked =
    subst (λ (t : RamTable). All (IsPlace t) old.dirty.marked) is.same_dirty is.is_set.is_within in
    let round : IsRound old.memory.table (round_of old.memory old.dirty.marked) = image_round old.memory old.dirty.marked is.is_image within in
    let rounds : All (IsRound old.memory.table) (rounds_of all) = subst (λ (l : List (List Page)). All (IsRound old.memory.table) l) (sym (rounds-push sent s))
    (All-push (IsRound old.memory.table) (rounds_of sent) (round_of old.memory old.dirty.marked) is.are_rounds round) in
    let images : AreImagesOf old.memory.table all =
    All-push (λ (x : Snapshot). IsImage x.image × (x.image.table ≡ old.memory.table)) sent s is.are_images (is.is_image, refl) in
    let faithful : IsFaithful zero all = faithful-push zero sent s is.is_faithful is.has_changes in
    record {
      is_image = rw r.memory is.is_image;
      is_set = rw r.dirty (empty_set old.dirty.table is.is_set.has_table);
      same_dirty = ap (λ (x : PlaceSet). x.table) r.dirty ∙ (is.same_dirty ∙ sym table);
      same_sender = r.table ∙ (is.same_sender ∙ sym table);
      has_sent = subst (λ (l : List (List Page)). HasSent new.sender l) (sym (rounds-push sent s)) (r.sent [] (rounds_of sent) is.has_sent);
      are_images = rw table images;
      are_rounds = rw table rounds;
      is_faithful = rw table faithful;
      has_changes = no_changes (last_image (zero_image new.memory.table) all) new.memory new.dirty.marked
          (last_image-push (zero_image new.memory.table) sent s ∙ sym r.memory);
    }

-- ---- the stream of all rounds

-- what a sender gives in the end
abbrev pub Finishes : Writer → List ℕ → Type 0
Finishes sender text = (drained : List ℕ) (rounds : List (List Page)) → HasSentDrained drained sender rounds → drained ++ text ≡ single sender.table rounds

-- the stream that a sender finishes after a last snapshot of the guest's memory brings this
-- memory
pub finished : {A : Type 0} (old new : LiveGuest A) (text : List ℕ) (sent : List Snapshot) → new.memory ≡ old.memory
    → IsTracked new (sent ++ snapshot_of old.memory old.dirty ∷ []) → Finishes new.sender text → BringsMemory old.memory text
finished old new text sent same is gives =
    let all : List Snapshot = sent ++ snapshot_of old.memory old.dirty ∷ [] in
    let table : new.memory.table ≡ old.memory.table = ap (λ (i : Image). i.table) same in
    let left : after new.memory.table (rounds_of all) ≡ old.memory =
    tracked new.memory.table all is.are_images is.is_faithful ∙ last_image-push (zero_image new.memory.table) sent (snapshot_of old.memory old.dirty) in
    record {
      rounds = rounds_of all;
      are_rounds = rw table at is.are_rounds;
      leave_memory = rw table at left;
      is_text = gives [] (rounds_of all) is.has_sent ∙ ap (λ (t : RamTable). single t (rounds_of all)) (is.same_sender ∙ table);
    }

-- a backup is a round of every page
pub backed_up : (m : Image) (s : PlaceSet) (a b : Writer) (text : List ℕ) → IsImage m → IsPlaceSet s × (s.table ≡ m.table)
    → ((p : Place) → IsPlace m.table p → has_place s.marked p ≡ true) → HasSent a [] → a.table ≡ m.table → b.table ≡ a.table
    → ((drained : List ℕ) (rounds : List (List Page)) → HasSentDrained drained a rounds → HasSentDrained drained b (rounds ++ round_of m s.marked ∷ []))
    → Finishes b text → BringsMemory m text
backed_up m s a b text is set every none table same sends gives =
    let within : All (IsPlace m.table) s.marked = subst (λ (t : RamTable). All (IsPlace t) s.marked) set.1 set.0.is_within in
    let only : Snapshot = snapshot_of m s in
    let images : AreImagesOf m.table (only ∷ []) = All-cons (λ (x : Snapshot). IsImage x.image × (x.image.table ≡ m.table)) only [] (is, refl)
    (All-nil (λ (x : Snapshot). IsImage x.image × (x.image.table ≡ m.table))) in
    let faithful : IsFaithful (zero_image m.table) (only ∷ []) = (λ p at differ. contains_from_has s.marked p (every p at), tt) in
    record {
      rounds = round_of m s.marked ∷ [];
      are_rounds = All-cons (IsRound m.table) (round_of m s.marked) [] (image_round m s.marked is within) (All-nil (IsRound m.table));
      leave_memory = tracked m.table (only ∷ []) images faithful;
      is_text = gives [] (round_of m s.marked ∷ []) (sends [] [] none) ∙ ap (λ (t : RamTable). single t (round_of m s.marked ∷ [])) (same ∙ table);
    }
