-- The guest of a scenario: images, with the pages that are marked in each.
use Rattle.std.specs.Prelude.{ℕ, ◌/◌, ◌++◌, List, [], ◌∷◌, replicate}
use Rattle.std.specs.List.{fold}
use Rattle.mig_mem.specs.RamTable.{RamTable}
use Rattle.mig_mem.specs.Place.{place_at}
use Rattle.mig_mem.specs.Image.{Page, Image, zero_image, with_page, with_byte}
use Rattle.mig_mem.specs.PlaceSet.{PlaceSet, with_place}
use Rattle.mig_mem.specs.Tracking.{Snapshot, rounds_of}
use Rattle.mig_scenario.specs.declared.line.Step.{Step}
use Rattle.mig_scenario.specs.declared.line.Step.TheVariants.{Set, Fill, Touch, Round}
use Rattle.mig_scenario.specs.Line.{ScenarioLine, EmptyLine, BlockLine, StepLine}
use Rattle.mig_scenario.specs.Scenario.{table_of}

-- a guest between two lines: its memory, the pages that are marked, and the rounds before
pub record ScenarioGuest : Type 0 where
  pub image : Image
  pub dirty : PlaceSet
  pub snapshots : List Snapshot

-- a guest whose memory is zeros, with no page marked
abbrev pub new_guest : RamTable → ScenarioGuest
new_guest table = record { image = zero_image table; dirty = record { table = table; marked = [] }; snapshots = [] }

-- A `set` writes one byte and marks its page, a `fill` writes and marks a page, a `touch` only
-- marks it. A round takes the image with its marks, and the marks are cleared.
abbrev pub after_step : ScenarioGuest → Step → ScenarioGuest
after_step g (Set b offset byte) = record g {
  image = with_byte g.image b offset byte;
  dirty = with_place g.dirty (place_at b (offset / g.image.table.page_size));
}
after_step g (Fill b page byte) = record g {
  image = with_page g.image (place_at b page) (replicate g.image.table.page_size byte);
  dirty = with_place g.dirty (place_at b page);
}
after_step g (Touch b page) = record g { dirty = with_place g.dirty (place_at b page) }
after_step g Round = record g {
  dirty = record g.dirty { marked = [] };
  snapshots = g.snapshots ++ record { image = g.image; dirty = g.dirty.marked } ∷ [];
}

abbrev pub after_line : ScenarioGuest → ScenarioLine → ScenarioGuest
after_line g (StepLine step) = after_step g step
after_line g EmptyLine = g
after_line g (BlockLine pages id) = g

-- the guest after some lines
abbrev pub played : RamTable → List ScenarioLine → ScenarioGuest
played table ls = fold after_line (new_guest table) ls

-- the snapshots that a scenario sends, and their rounds
abbrev pub snapshots_from : ℕ → List ScenarioLine → List Snapshot
snapshots_from page_size ls = (played (table_of page_size ls) ls).snapshots

abbrev pub rounds_from : ℕ → List ScenarioLine → List (List Page)
rounds_from page_size ls = rounds_of (snapshots_from page_size ls)
