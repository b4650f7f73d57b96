-- The relation of the guest that the code keeps between two lines to the guest of a scenario.
use Rattle.std.specs.Prelude.{◌≡◌}
use Rattle.mig_scenario.specs.declared.guest.Guest.{Guest}
use Rattle.mig_scenario.specs.Guest.{ScenarioGuest}
use Rattle.mig_scenario.specs.Playing.{AreSendersOf, HaveSent}

-- its memory, its marks and its senders are of one table
pub record AreOneTable {A : Type 0} (kept : Guest A) : Type 0 where
  pub same_dirty : kept.dirty.table ≡ kept.image.table
  pub same_senders : AreSendersOf kept.image.table kept.senders

-- it has this image and these marks, and its senders have sent these snapshots
pub record Holds {A : Type 0} (kept : Guest A) (g : ScenarioGuest) : Type 0 where
  pub has_image : kept.image ≡ g.image
  pub has_dirty : kept.dirty ≡ g.dirty
  pub has_sent : HaveSent kept.senders g.snapshots
  pub one_table : AreOneTable kept
