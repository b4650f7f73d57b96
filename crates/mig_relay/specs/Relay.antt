-- A relay: what its calls do to the items that were pushed and popped.
use Rattle.std.specs.Prelude.{◌≡◌, ℕ, Bool, true, false, List, [], Vec, slice_get, slice_set, Some}
use Rattle.mig_packet.specs.Reading.{Settings}
use Rattle.mig_packet.specs.ChannelItems.{ChannelItem}
use Rattle.mig_relay.specs.declared.feeder.FeederStep.{FeederStep}
use Rattle.mig_relay.specs.declared.feeder.FeederStep.TheVariants.{More, Ended}
use Rattle.mig_relay.specs.declared.log.ChannelText.{ChannelText}
use Rattle.mig_relay.specs.RelayItems.{with_settings, QueueEnd, one_more, BeginsItems, IsThrough, IsOnTheWay}

-- One more item was pushed. The feeder goes on if a further one is left; otherwise it was the stop.
abbrev pub PushesOne : {A : Type 0} → QueueEnd → FeederStep A → Type 0
PushesOne p (More next) = (next_item : ChannelItem) × (next ≡ one_more p next_item) × IsOnTheWay next
PushesOne p (Ended fed) = (next_item : ChannelItem) × (fed ≡ one_more p next_item) × IsThrough fed

-- True: the next item was taken. False: all were taken before, the stop too.
abbrev pub Takes : QueueEnd → QueueEnd → Bool → Type 0
Takes p q true = (next_item : ChannelItem) × (q ≡ one_more p next_item) × BeginsItems q.source q.passed
Takes p q false = (q ≡ p) × IsThrough p

-- one channel does so, and the others are unchanged
abbrev pub TakesAt : ℕ → List QueueEnd → List QueueEnd → Bool → Type 0
TakesAt j old new more = (p : QueueEnd) × (q : QueueEnd) × (slice_get old j ≡ Some p) × (new ≡ slice_set old j q) × Takes p q more

-- all but the queue
abbrev pub so_far : QueueEnd → ChannelText × List ChannelItem
so_far p = (p.source, p.passed)

-- a channel, read with these settings, of which no item was pushed or popped
abbrev pub at_start : {A : Type 0} → Settings → Vec ℕ A → ChannelText × List ChannelItem
at_start given text = (with_settings given text.items, [])
