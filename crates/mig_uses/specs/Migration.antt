-- The bytes of a migration on several channels that have arrived.
use Rattle.std.specs.Prelude.{ℕ, ◌≡◌, get_or, List, [], ◌++◌, length, map}
use Rattle.std.specs.List.{range_with_len}
use Rattle.mig_send.specs.DealtRounds.{DealtRound}
use Rattle.mig_send.specs.MultiSending.{MultiSending, Drained, HasSentRounds, texts_of}
use Rattle.mig_send.specs.declared.multi.Sent.{Sent}

-- the bytes that were drained of a sender
abbrev pub drained_to : {A : Type 0} → Sent A → Drained
drained_to arrived = record { main = arrived.main.items; channel = λ channel. get_or (texts_of arrived.channels.items) channel [] }

-- The sender has sent these rounds, and all that was drained of it has arrived.
abbrev pub HasArrived : {A : Type 0} → Sent A → MultiSending → List DealtRound → Type 0
HasArrived arrived sender rounds = HasSentRounds (drained_to arrived) sender rounds

-- each channel has its own bytes appended
abbrev pub HaveEachAppended : List (List ℕ) → List (List ℕ) → List (List ℕ) → Type 0
HaveEachAppended olds rest news = news ≡ map (λ i. get_or olds i [] ++ get_or rest i []) (range_with_len 0 (length rest))
