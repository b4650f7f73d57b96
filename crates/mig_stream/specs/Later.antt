-- The values that items don't change, so that a reader can go back.
use Rattle.std.specs.Prelude.{◌≡◌, ◌⊎◌, Bool, List, ◌∷◌, ◌++◌, length, true, false}
use Rattle.mig_mem.specs.RamTable.{Block}
use Rattle.mig_stream.specs.declared.progress.Checkpoint.{Checkpoint}
use Rattle.mig_stream.specs.declared.item.Mode.{Mode}
use Rattle.mig_stream.specs.declared.item.Mode.TheVariants.{Single, Main, MainBySection, MainAsShown}
use Rattle.mig_stream.specs.PageRecord.{PageRecord}
use Rattle.mig_stream.specs.Progress.{StreamProgress, is_used_up}
use Rattle.mig_stream.specs.Items.{is_single}
use Rattle.mig_stream.specs.Entries.{AreListed}
use Rattle.mig_stream.specs.Kept.{HasShortPlace}

-- the checkpoint of this progress
abbrev pub checkpoint_of : StreamProgress → Checkpoint
checkpoint_of c = record {
  mode = c.mode;
  due = c.due;
  section = c.section;
  section_id = c.section_id;
  form = c.form;
  left = c.left;
  blocks = length c.blocks;
  named = c.named;
  room = c.room;
  records = length c.records;
  rounds = length c.rounds;
}

-- the round that wasn't complete has more records, or it is complete and others follow it
abbrev pub HasGrown : StreamProgress → StreamProgress → Type 0
HasGrown old new =
    ((new.rounds ≡ old.rounds) × (more : List PageRecord) × (new.records ≡ old.records ++ more))
    ⊎ ((more : List PageRecord) × (others : List (List PageRecord)) × (new.rounds ≡ old.rounds ++ (old.records ++ more) ∷ others))

-- the stream hasn't shown yet what ends a round
abbrev pub is_open : Mode → Bool
is_open Single = false
is_open Main = false
is_open MainBySection = false
is_open MainAsShown = true

-- Items only add to what was read before them, and a complete table stays.
pub record IsLater (old new : StreamProgress) : Type 0 where
  pub same_frame : new.frame ≡ old.frame
  pub same_single : is_single new.mode ≡ is_single old.mode
  pub same_mode : is_open old.mode ≡ false → new.mode ≡ old.mode
  pub same_page_size : new.page_size ≡ old.page_size
  pub same_limit : new.limit ≡ old.limit
  pub same_waiting : new.waiting ≡ old.waiting
  pub more_blocks : List Block
  pub has_blocks : new.blocks ≡ old.blocks ++ more_blocks
  pub has_grown : HasGrown old new
  pub same_table : is_used_up old.left ≡ true → (new.left ≡ old.left) × (new.blocks ≡ old.blocks)

-- the checkpoint was made before items that led here
pub record WasSaved (checkpoint : Checkpoint) (now : StreamProgress) : Type 0 where
  pub before : StreamProgress
  pub is_checkpoint : checkpoint ≡ checkpoint_of before
  pub is_later : IsLater before now
  pub are_listed : AreListed before.page_size before.limit before.left before.blocks
  pub has_short_place : HasShortPlace before.due
