-- A guest that runs on while it is sent.
use Rattle.std.specs.Prelude.{◌≡◌, List, All}
use Rattle.mig_mem.specs.Image.{Image, IsImage, zero_image}
use Rattle.mig_mem.specs.PlaceSet.{PlaceSet, IsPlaceSet}
use Rattle.mig_mem.specs.Round.{IsRound}
use Rattle.mig_mem.specs.Tracking.{Snapshot, AreImagesOf, rounds_of, HasChanges, IsFaithful, last_image}
use Rattle.mig_send.specs.Sending.{HasSent}
use Rattle.mig_uses.specs.declared.live_guest.LiveGuest.{LiveGuest}

-- the guest as it is now, with the pages that were written since the last round
abbrev pub snapshot_of : Image → PlaceSet → Snapshot
snapshot_of m s = record { image = m; dirty = s.marked }

-- These snapshots of the guest were sent, each as a round. Pages that have changed since the last
-- one are marked.
pub record IsTracked {A : Type 0} (guest : LiveGuest A) (sent : List Snapshot) : Type 0 where
  pub is_image : IsImage guest.memory
  pub is_set : IsPlaceSet guest.dirty
  pub same_dirty : guest.dirty.table ≡ guest.memory.table
  pub same_sender : guest.sender.table ≡ guest.memory.table
  pub has_sent : HasSent guest.sender (rounds_of sent)
  pub are_images : AreImagesOf guest.memory.table sent
  pub are_rounds : All (IsRound guest.memory.table) (rounds_of sent)
  pub is_faithful : IsFaithful (zero_image guest.memory.table) sent
  pub has_changes : HasChanges (last_image (zero_image guest.memory.table) sent) (snapshot_of guest.memory guest.dirty)
