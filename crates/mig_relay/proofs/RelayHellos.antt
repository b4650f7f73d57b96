-- The ids that the hellos of a relay's channels name.
use Rattle.std.proofs.Common.{ℕ, zero, suc, ◌≡◌, ◌<◌, List, [], ◌∷◌, length, map, get_or, sym, ap, ◌∙◌, Option, None, arith}
use Rattle.std.specs.Prelude.{slice_get, IfSome}
use Rattle.std.proofs.lemmas.List.{length-map}
use Rattle.mig_relay.specs.declared.item.Item.{Item}
use Rattle.mig_answer.specs.Received.{hello_in}
use Rattle.mig_relay.specs.RelayItems.{as_channel_item, QueueEnd}
use Rattle.mig_relay.specs.Relayed.{received_of}

-- the id in a hello among the items of channel j is the one at j among all channels' ids
pub hello_at : (ends : List QueueEnd) (j : ℕ) (o : Option ℕ) (items : List Item) → j < length ends
    → IfSome (slice_get ends j) (λ p. map as_channel_item items ≡ p.passed) → o ≡ hello_in (map as_channel_item items)
    → get_or (map hello_in (received_of ends)) j None ≡ o
hello_at [] j o items below h is = absurd (omega (arith, below))
hello_at (p ∷ ends) zero o items below h is = ap hello_in (sym h) ∙ sym is
hello_at (p ∷ ends) (suc j) o items below h is = hello_at ends j o items (omega (arith, below)) h is

-- the ids in the hellos are as many as the channels, with None where none was read
pub as_many : (ends : List QueueEnd) → length (map hello_in (received_of ends)) ≡ length ends
as_many ends = length-map (received_of ends) hello_in ∙ length-map ends (λ (p : QueueEnd). p.passed)
