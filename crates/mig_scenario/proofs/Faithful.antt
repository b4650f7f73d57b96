-- The marks of a scenario's guest are faithful: what its rounds leave is its memory, if no step
-- follows the last of them.
use Rattle.std.proofs.Common.{ℕ, ◌≡◌, ◌*◌, ◌/◌, ◌%◌, List, [], ◌∷◌, ◌++◌, length, set, replicate, refl, sym, ap, subst, ◌∙◌, inl, inr, append_assoc, append-nil}
use Rattle.std.proofs.Common.{None, false, ◌||◌, ◌&&◌, cond}
use Rattle.std.specs.Prelude.{All, IsTrue, position, nat_lt}
use Rattle.std.specs.List.{fold, after_last}
use Rattle.std.proofs.lemmas.Bool.{cases_Bool, cond-true, cond-false, and_parts, or_parts, ltb-true}
use Rattle.std.proofs.lemmas.List.{length-set, length-replicate}
use Rattle.std.proofs.lemmas.List.Elements.{All-nil, All-head, All-tail, All-push, All-weaker, All-map}
use Rattle.mig_mem.specs.declared.place.Place.{Place}
use Rattle.mig_mem.specs.RamTable.{RamTable, block, IsTable}
use Rattle.mig_mem.specs.Place.{place_at, place_eq, has_place, IsPlace}
use Rattle.mig_mem.specs.Image.{Image, IsImage, content_at, zero_image, zero_page, with_page}
use Rattle.mig_mem.specs.PlaceSet.{PlaceSet, with_place}
use Rattle.mig_mem.specs.Round.{IsRound, round_of, after}
use Rattle.mig_mem.specs.Tracking.{Snapshot, AreImagesOf, rounds_of, HasChanges, IsFaithful, last_image}
use Rattle.mig_mem.proofs.Images.{content_at-image_of, image_from, content_size}
use Rattle.mig_mem.proofs.PageSizes.{page_size_some, page_of_offset}
use Rattle.mig_mem.proofs.Sets.{has_place-where, where_set}
use Rattle.mig_mem.proofs.Rounds.{image_round}
use Rattle.mig_mem.proofs.Tracked.{tracked, contains_from_has}
use Rattle.mig_mem.proofs.Lists.{map_none}
use Rattle.mig_scenario.specs.declared.line.Step.{Step}
use Rattle.mig_scenario.specs.declared.line.Step.TheVariants.{Set, Fill, Touch, Round}
use Rattle.mig_scenario.specs.Line.{ScenarioLine, EmptyLine, BlockLine, StepLine}
use Rattle.mig_scenario.specs.Scenario.{is_step, is_round, is_step_within, is_within, unsent}
use Rattle.mig_scenario.specs.Guest.{ScenarioGuest, new_guest, after_step, after_line, played}
use Rattle.mig_scenario.proofs.Endings.{after_last-more, position-push_none}

-- ---- one snapshot more

-- faithful snapshots stay so with one more, if its changes from the last image are marked
pub faithful-push : (before : Image) (ss : List Snapshot) (s : Snapshot) → IsFaithful before ss
    → HasChanges (last_image before ss) s → IsFaithful before (ss ++ s ∷ [])
faithful-push before [] s faithful changes = (changes, tt)
faithful-push before (t ∷ ts) s faithful changes = (faithful.0, faithful-push t.image ts s faithful.1 changes)

-- the last image, once a snapshot is added, is that snapshot's
pub last_image-push : (before : Image) (ss : List Snapshot) (s : Snapshot) → last_image before (ss ++ s ∷ []) ≡ s.image
last_image-push before [] s = refl
last_image-push before (t ∷ ts) s = last_image-push t.image ts s

-- ---- a guest whose marks are faithful

-- the image before a round is the one of the round before it, or zeros
abbrev pub sent_image : RamTable → ScenarioGuest → Image
sent_image table g = last_image (zero_image table) g.snapshots

-- a snapshot of the table
pub record IsSnapshot (table : RamTable) (s : Snapshot) : Type 0 where
  pub is_image : IsImage s.image
  pub has_table : s.image.table ≡ table
  pub has_dirty : All (IsPlace table) s.dirty

pub record IsTracked (table : RamTable) (g : ScenarioGuest) : Type 0 where
  pub is_image : IsImage g.image
  pub has_table : g.image.table ≡ table
  pub has_dirty_table : g.dirty.table ≡ table
  pub has_dirty : All (IsPlace table) g.dirty.marked
  pub has_snapshots : All (IsSnapshot table) g.snapshots
  pub is_faithful : IsFaithful (zero_image table) g.snapshots
  -- what isn't marked is as it was sent
  pub is_same : (p : Place) → IsPlace table p → has_place g.dirty.marked p ≡ false → content_at g.image p ≡ content_at (sent_image table g) p

new_tracked : (table : RamTable) → IsTracked table (new_guest table)
new_tracked table = record {
  is_image = image_from table (λ _. zero_page table.page_size) (λ p is. length-replicate table.page_size 0);
  has_table = refl;
  has_dirty_table = refl;
  has_dirty = All-nil (IsPlace table);
  has_snapshots = All-nil (IsSnapshot table);
  is_faithful = tt;
  is_same = λ p is no_mark. refl;
}

-- what a mark more leaves unmarked
marked_less : (table : RamTable) (s : PlaceSet) (p q : Place) → s.table ≡ table → IsPlace table q → has_place (with_place s p).marked q ≡ false
    → (place_eq q p ≡ false) × (has_place s.marked q ≡ false)
marked_less table s p q same is h =
    let at : IsPlace s.table q = rw same is in
    or_parts (place_eq q p) (has_place s.marked q) (sym (has_place-where s.table (λ r. place_eq r p || has_place s.marked r) q at) ∙ h)

marked_within : (table : RamTable) (s : PlaceSet) (p : Place) → IsTable table → s.table ≡ table → All (IsPlace table) (with_place s p).marked
marked_within table s p is same =
    let has : IsTable s.table = rw same is in
    let set = where_set s.table (λ r. place_eq r p || has_place s.marked r) has in
    All-weaker (IsPlace s.table) (IsPlace table) (λ q at. rw same at at) (with_place s p).marked set.is_within

-- a page is marked
touch_tracked : (table : RamTable) (g : ScenarioGuest) (p : Place) → IsTable table → IsTracked table g
    → IsTracked table (record g { dirty = with_place g.dirty p })
touch_tracked table g p is tracked = record {
  is_image = tracked.is_image;
  has_table = tracked.has_table;
  has_dirty_table = tracked.has_dirty_table;
  has_dirty = marked_within table g.dirty p is tracked.has_dirty_table;
  has_snapshots = tracked.has_snapshots;
  is_faithful = tracked.is_faithful;
  is_same = λ q at no_mark. tracked.is_same q at (marked_less table g.dirty p q tracked.has_dirty_table at no_mark).1;
}

-- a page is written and marked
write_tracked : (table : RamTable) (g : ScenarioGuest) (p : Place) (bytes : List ℕ) → IsTable table → length bytes ≡ g.image.table.page_size → IsTracked table g
    → IsTracked table (record g { image = with_page g.image p bytes; dirty = with_place g.dirty p })
write_tracked table g p bytes is len tracked =
    let new : Place → List ℕ = λ q. cond (place_eq q p) bytes (content_at g.image q) in
    record {
      is_image = image_from g.image.table new (λ q at. elim (cases_Bool (place_eq q p)) [
        | inl t ↦ ap (λ (l : List ℕ). length l) (cond-true (place_eq q p) bytes (content_at g.image q) t) ∙ len
        | inr n ↦ ap (λ (l : List ℕ). length l) (cond-false (place_eq q p) bytes (content_at g.image q) n) ∙ content_size g.image q tracked.is_image at
      ]);
      has_table = tracked.has_table;
      has_dirty_table = tracked.has_dirty_table;
      has_dirty = marked_within table g.dirty p is tracked.has_dirty_table;
      has_snapshots = tracked.has_snapshots;
      is_faithful = tracked.is_faithful;
      is_same = λ q at no_mark.
          let less = marked_less table g.dirty p q tracked.has_dirty_table at no_mark in
          let here : IsPlace g.image.table q = rw tracked.has_table at in
          content_at-image_of g.image.table new q here ∙ cond-false (place_eq q p) bytes (content_at g.image q) less.0 ∙ tracked.is_same q at less.1;
    }

-- a round
round_tracked : (table : RamTable) (g : ScenarioGuest) → IsTracked table g → IsTracked table (after_step g Round)
round_tracked table g tracked =
    let s : Snapshot = record { image = g.image; dirty = g.dirty.marked } in
    record {
      is_image = tracked.is_image;
      has_table = tracked.has_table;
      has_dirty_table = tracked.has_dirty_table;
      has_dirty = All-nil (IsPlace table);
      has_snapshots = All-push (IsSnapshot table) g.snapshots s tracked.has_snapshots
          (record { is_image = tracked.is_image; has_table = tracked.has_table; has_dirty = tracked.has_dirty });
      is_faithful = faithful-push (zero_image table) g.snapshots s tracked.is_faithful (λ p at differs. elim (cases_Bool (has_place g.dirty.marked p)) [
        | inl t ↦ contains_from_has g.dirty.marked p t
        | inr n ↦ absurd (differs (tracked.is_same p (rw tracked.has_table at at) n))
      ]);
      is_same = λ p at no_mark. ap (λ (m : Image). content_at m p) (sym (last_image-push (zero_image table) g.snapshots s));
    }

-- ---- the steps

-- the page that a `set` writes in
pub set_within : (table : RamTable) (b offset byte : ℕ) → IsTable table → IsTrue (is_step_within table (Set b offset byte))
    → IsPlace table (place_at b (offset / table.page_size))
set_within table b offset byte is within =
    let front = and_parts (nat_lt b (length table.blocks) && nat_lt offset ((block table.blocks b).pages * table.page_size)) (nat_lt byte 256) within in
    let two = and_parts (nat_lt b (length table.blocks)) (nat_lt offset ((block table.blocks b).pages * table.page_size)) front.0 in
    record {
      has_block = ltb-true b (length table.blocks) two.0;
      has_page = page_of_offset table.page_size (block table.blocks b).pages offset (page_size_some table.page_size is.has_page_size)
          (ltb-true offset ((block table.blocks b).pages * table.page_size) two.1);
    }

step_tracked : (table : RamTable) (g : ScenarioGuest) (step : Step) → IsTable table → IsTrue (is_step_within table step)
    → IsTracked table g → IsTracked table (after_step g step)
step_tracked table g (Set b offset byte) is within tracked =
    let size : ℕ = g.image.table.page_size in
    let p : Place = place_at b (offset / size) in
    let at : IsPlace g.image.table p = rw tracked.has_table (set_within table b offset byte is within) in
    write_tracked table g p (set (content_at g.image p) (offset % size) byte) is
    (length-set (content_at g.image p) (offset % size) byte ∙ content_size g.image p tracked.is_image at) tracked
step_tracked table g (Fill b page byte) is within tracked =
    write_tracked table g (place_at b page) (replicate g.image.table.page_size byte) is (length-replicate g.image.table.page_size byte) tracked
step_tracked table g (Touch b page) is within tracked = touch_tracked table g (place_at b page) is tracked
step_tracked table g Round is within tracked = round_tracked table g tracked

line_tracked : (table : RamTable) (g : ScenarioGuest) (line : ScenarioLine) → IsTable table → IsTrue (is_within table line)
    → IsTracked table g → IsTracked table (after_line g line)
line_tracked table g EmptyLine is within tracked = tracked
line_tracked table g (BlockLine pages id) is within tracked = tracked
line_tracked table g (StepLine step) is within tracked = step_tracked table g step is within tracked

lines_tracked : (table : RamTable) (g : ScenarioGuest) (ls : List ScenarioLine) → IsTable table
    → All (λ l. IsTrue (is_within table l)) ls → IsTracked table g → IsTracked table (fold after_line g ls)
lines_tracked table g [] is within tracked = tracked
lines_tracked table g (l ∷ ls) is within tracked =
    lines_tracked table (after_line g l) ls is (All-tail (λ (x : ScenarioLine). IsTrue (is_within table x)) l ls within)
    (line_tracked table g l is (All-head (λ (x : ScenarioLine). IsTrue (is_within table x)) l ls within) tracked)

played_tracked : (table : RamTable) (ls : List ScenarioLine) → IsTable table → All (λ l. IsTrue (is_within table l)) ls → IsTracked table (played table ls)
played_tracked table ls is within = lines_tracked table (new_guest table) ls is within (new_tracked table)

-- ---- the last round

-- if no step follows the last round of these lines, the guest's image was sent
abbrev IsSent : RamTable → List ScenarioLine → ScenarioGuest → Type 0
IsSent table ls g = position is_step (after_last is_round ls) ≡ None → g.image ≡ sent_image table g

-- a line that is no round
quiet_line : (table : RamTable) (before : List ScenarioLine) (g new : ScenarioGuest) (l : ScenarioLine) → is_round l ≡ false
    → (is_step l ≡ false → new ≡ g) → IsSent table before g → IsSent table (before ++ l ∷ []) new
quiet_line table before g new l other same sent none =
    let two = position-push_none is_step (after_last is_round before) l
    (ap (λ (ls : List ScenarioLine). position is_step ls) (sym (after_last-more is_round before l other)) ∙ none) in
    rw (same two.1) (sent two.0)

line_sent : (table : RamTable) (before : List ScenarioLine) (g : ScenarioGuest) (l : ScenarioLine) → IsSent table before g
    → IsSent table (before ++ l ∷ []) (after_line g l)
line_sent table before g EmptyLine sent none = quiet_line table before g g EmptyLine refl (λ _. refl) sent none
line_sent table before g (BlockLine pages id) sent none = quiet_line table before g g (BlockLine pages id) refl (λ _. refl) sent none
line_sent table before g (StepLine Round) sent none = sym (last_image-push (zero_image table) g.snapshots (record { image = g.image; dirty = g.dirty.marked }))
line_sent table before g (StepLine (Set b offset byte)) sent none =
    quiet_line table before g (after_step g (Set b offset byte)) (StepLine (Set b offset byte)) refl (λ no_step. absurd cc) sent none
line_sent table before g (StepLine (Fill b page byte)) sent none =
    quiet_line table before g (after_step g (Fill b page byte)) (StepLine (Fill b page byte)) refl (λ no_step. absurd cc) sent none
line_sent table before g (StepLine (Touch b page)) sent none =
    quiet_line table before g (after_step g (Touch b page)) (StepLine (Touch b page)) refl (λ no_step. absurd cc) sent none

lines_sent : (table : RamTable) (before : List ScenarioLine) (g : ScenarioGuest) (ls : List ScenarioLine) → IsSent table before g
    → IsSent table (before ++ ls) (fold after_line g ls)
lines_sent table before g [] sent = rw (append-nil before) sent
lines_sent table before g (l ∷ ls) sent =
    let more : IsSent table ((before ++ l ∷ []) ++ ls) (fold after_line (after_line g l) ls) =
    lines_sent table (before ++ l ∷ []) (after_line g l) ls (line_sent table before g l sent) in
    rw append_assoc at more

-- ---- the laws

snapshot_round : (table : RamTable) (s : Snapshot) → IsSnapshot table s → IsRound table (round_of s.image s.dirty)
snapshot_round table s is =
    let within : All (IsPlace s.image.table) s.dirty = rw is.has_table is.has_dirty in
    subst (λ (t : RamTable). IsRound t (round_of s.image s.dirty)) is.has_table (image_round s.image s.dirty is.is_image within)

-- A SCENARIO THAT HAS NO STEP AFTER ITS LAST ROUND leaves what its rounds make of a memory of
-- zeros.
pub played_is_sent : (table : RamTable) (ls : List ScenarioLine) → IsTable table → All (λ l. IsTrue (is_within table l)) ls → unsent ls ≡ None
    → after table (rounds_of (played table ls).snapshots) ≡ (played table ls).image
played_is_sent table ls is within none =
    let g : ScenarioGuest = played table ls in
    let t : IsTracked table g = played_tracked table ls is within in
    let images : AreImagesOf table g.snapshots =
    All-weaker (IsSnapshot table) (λ s. IsImage s.image × (s.image.table ≡ table)) (λ s h. (h.is_image, h.has_table)) g.snapshots t.has_snapshots in
    tracked table g.snapshots images t.is_faithful
    ∙ sym (lines_sent table [] (new_guest table) ls (λ _. refl) (map_none _ (position is_step (after_last is_round ls)) none))

-- Its rounds are rounds of its table.
pub played_are_rounds : (table : RamTable) (ls : List ScenarioLine) → IsTable table → All (λ l. IsTrue (is_within table l)) ls
    → All (IsRound table) (rounds_of (played table ls).snapshots)
played_are_rounds table ls is within =
    let g : ScenarioGuest = played table ls in
    All-map (IsRound table) (λ (s : Snapshot). round_of s.image s.dirty) g.snapshots
    (All-weaker (IsSnapshot table) (λ s. IsRound table (round_of s.image s.dirty)) (snapshot_round table) g.snapshots
    (played_tracked table ls is within).has_snapshots)
