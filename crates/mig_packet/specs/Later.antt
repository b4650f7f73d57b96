-- The values that items don't change, so that a reader can go back.
use Rattle.std.specs.Prelude.{◌≡◌, ◌⊎◌, ℕ, List, [], ◌∷◌, ◌++◌, length, take, slice_index_or}
use Rattle.mig_packet.specs.declared.progress.Checkpoint.{Checkpoint}
use Rattle.mig_packet.specs.Progress.{ChannelProgress}

-- the checkpoint of this progress
abbrev pub checkpoint_of : ChannelProgress → Checkpoint
checkpoint_of c = record { hello = c.hello; packets = length c.packets; rounds = length c.rounds }

-- these packets have followed: they were added to the open round, or it is complete and others have
-- followed it
abbrev pub HasGrownBy : ChannelProgress → List (List ℕ) → ChannelProgress → Type 0
HasGrownBy old more new =
    ((new.rounds ≡ old.rounds) × (new.packets ≡ old.packets ++ more))
    ⊎ ((others : List (List (List ℕ))) × (new.rounds ≡ old.rounds ++ (old.packets ++ more) ∷ others))

-- Items only add to what was read before them. These packets are the first that they added. The
-- checkpoint keeps whether the hello was read.
pub record IsLater (old : ChannelProgress) (more : List (List ℕ)) (new : ChannelProgress) : Type 0 where
  pub same_page_size : new.page_size ≡ old.page_size
  pub same_uuid : new.uuid ≡ old.uuid
  pub same_channels : new.channels ≡ old.channels
  pub same_waiting : new.waiting ≡ old.waiting
  pub has_grown : HasGrownBy old more new

-- with round `n` open again, and without those after it
abbrev pub reopened : ChannelProgress → ℕ → ChannelProgress
reopened c n = record c { packets = slice_index_or c.rounds n []; rounds = take n c.rounds }
