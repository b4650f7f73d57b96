-- A send of C: of one stream, or on several channels. What each call does is what it does for its
-- kind; a call that is for the other kind alone is out of turn.
use Rattle.std.specs.Prelude.{◌≡◌, ◌≢◌, ◌≤◌, ◌<◌, ◌-◌, ◌==◌, ℕ, Bool, true, false, List, [], ◌∷◌, take, length, Option, None, Some, if◌then◌else◌, ⊤}
use Rattle.mig_mem.specs.RamTable.{RamTable}
use Rattle.mig_mem.specs.declared.place.Place.{Place}
use Rattle.mig_stream.specs.Format.{most_name_bytes}
use Rattle.mig_packet.specs.PageSize.{page_limit}
use Rattle.mig_send.specs.ChannelWork.{ChannelWork}
use Rattle.mig_c_calls.specs.declared.asked_send.AskedSend.{AskedSend}
use Rattle.mig_c_calls.specs.declared.send.GuestSend.{GuestSend}
use Rattle.mig_c_calls.specs.declared.send.GuestSend.TheVariants.{One, Several}
use Rattle.mig_c_calls.specs.declared.sender.Sender.{Sender}
use Rattle.mig_c_calls.specs.declared.sending.Multi.{Multi}
use Rattle.mig_c_calls.specs.declared.sending.HeldWorker.{HeldWorker}
use Rattle.mig_c_calls.specs.Front.{ShowsFront}
use Rattle.mig_c_calls.specs.Sending as one
use Rattle.mig_c_calls.specs.Multi as several
use Rattle.mig_c_calls.specs.Multi.{MultiSetting}
use Rattle.mig_c_calls.specs.Status.{IsOneOf, channels as too_many, batch_limit as bad_limit, done, no_memory, bad_length, out_of_turn}

-- this is so of a send of one stream
abbrev pub OfOne : (Sender → Type 0) → GuestSend → Type 0
OfOne IsSo (One s) = IsSo s
OfOne IsSo (Several m) = ⊥

-- this is so of a send on several channels
abbrev pub OfSeveral : (Multi → Type 0) → GuestSend → Type 0
OfSeveral IsSo (One s) = ⊥
OfSeveral IsSo (Several m) = IsSo m

-- ---- what a send is made with

-- the name of the machine whose stream is sent, if there is one
abbrev pub name_of : AskedSend → Option (List ℕ)
name_of asked = if asked.named == 0 then None else Some (take asked.name_len asked.name)

-- a name is longer than a configuration has room for
pub record IsLong (asked : AskedSend) : Type 0 where
  pub is_named : asked.named ≢ 0
  pub is_long : most_name_bytes < asked.name_len

-- what a send on several channels is made with
abbrev pub setting_of : RamTable → AskedSend → MultiSetting
setting_of table asked = record { table = table; uuid = asked.uuid; limit = asked.limit; channels = asked.channels; name = name_of asked }

-- so many pages a packet may have
abbrev pub IsLimit : RamTable → ℕ → Type 0
IsLimit table limit = (0 < limit) × (limit ≤ page_limit table.page_size)

-- A send of the kind that the number of channels asks for, which has sent nothing.
abbrev pub IsAsked : RamTable → AskedSend → Option GuestSend → Type 0
IsAsked table asked None = ⊥
IsAsked table asked (Some (One s)) = (asked.channels ≡ 0) × one.Starts (name_of asked) (Some table) (Some s)
IsAsked table asked (Some (Several m)) = (asked.channels ≢ 0) × several.Starts (setting_of table asked) m

-- The effect of `new`: the first thing that is wrong with what it is passed is returned.
pub record OpensSend (table : RamTable) (asked : AskedSend) (status : ℕ) (made : Option GuestSend) : Type 0 where
  pub is_named : IsOneOf (done ∷ no_memory ∷ bad_length ∷ too_many ∷ bad_limit ∷ []) status
  pub starts : status ≡ done → IsAsked table asked made
  pub long : status ≡ bad_length → IsLong asked
  pub short : status ≢ bad_length → IsLong asked → ⊥
  pub many : status ≡ too_many → 255 < asked.channels
  pub few : status ≢ bad_length → status ≢ too_many → asked.channels ≤ 255
  pub unfit : status ≡ bad_limit → (asked.channels ≢ 0) × (IsLimit table asked.limit → ⊥)
  pub fits : status ≢ bad_length → status ≢ too_many → status ≢ bad_limit → asked.channels ≢ 0 → IsLimit table asked.limit

-- ---- rounds

-- The pages of a round of one stream are put. On channels the round has none.
abbrev pub BeginsRound : ℕ → GuestSend → GuestSend → Type 0
BeginsRound status (One old) (One new) = one.Changes (one.Begins status) old new
BeginsRound status (Several old) (Several new) = several.ChangesMulti (several.BeginsRound [] status) old new
BeginsRound status old new = ⊥

abbrev pub BeginsPages : List Place → ℕ → GuestSend → GuestSend → Type 0
BeginsPages places status (One old) (One new) = (status ≡ out_of_turn) × (new ≡ old)
BeginsPages places status (Several old) (Several new) = several.ChangesMulti (several.BeginsRound places status) old new
BeginsPages places status old new = ⊥

abbrev pub BeginsBitmaps : List (List ℕ) → ℕ → GuestSend → GuestSend → Type 0
BeginsBitmaps bitmaps status (One old) (One new) = (status ≡ out_of_turn) × (new ≡ old)
BeginsBitmaps bitmaps status (Several old) (Several new) = several.ChangesMulti (several.BeginsBitmaps bitmaps status) old new
BeginsBitmaps bitmaps status old new = ⊥

abbrev pub PutsPage : Place → List ℕ → ℕ → GuestSend → GuestSend → Type 0
PutsPage p bytes status (One old) (One new) = one.Changes (one.Puts p bytes status) old new
PutsPage p bytes status (Several old) (Several new) = (status ≡ out_of_turn) × (new ≡ old)
PutsPage p bytes status old new = ⊥

abbrev pub HandsOutWorker : ℕ → Option HeldWorker → GuestSend → GuestSend → Type 0
HandsOutWorker status made (One old) (One new) = (status ≡ out_of_turn) × (new ≡ old) × (made ≡ None)
HandsOutWorker status made (Several old) (Several new) = several.ChangesMulti (λ was is. several.HandsOutWorker status was is made) old new
HandsOutWorker status made old new = ⊥

-- The worker is one of the open round, if one is open.
abbrev pub IsOfRound : ChannelWork → GuestSend → Type 0
IsOfRound worker (One s) = ⊤
IsOfRound worker (Several m) = several.IsOfRound worker m.state

abbrev pub TakesBackWorker : ℕ → HeldWorker → Option HeldWorker → GuestSend → GuestSend → Type 0
TakesBackWorker status w left (One old) (One new) = (status ≡ out_of_turn) × (new ≡ old) × (left ≡ Some w)
TakesBackWorker status w left (Several old) (Several new) = several.ChangesMulti (λ was is. several.TakesBackWorker status w was is left) old new
TakesBackWorker status w left old new = ⊥

abbrev pub EndsRound : ℕ → GuestSend → GuestSend → Type 0
EndsRound status (One old) (One new) = one.Changes (one.EndsRound status) old new
EndsRound status (Several old) (Several new) = several.ChangesMulti (several.EndsRound status) old new
EndsRound status old new = ⊥

-- The round sends nothing, and the sender has sent what it had before. On channels the streams may
-- be given up in its place.
abbrev pub CancelsRound : Bool → ℕ → GuestSend → GuestSend → Type 0
CancelsRound give_up status (One old) (One new) = one.Changes (one.Cancels status) old new
CancelsRound false status (Several old) (Several new) = several.ChangesMulti (several.TakesBackRound status) old new
CancelsRound true status (Several old) (Several new) = several.CancelsRound status old new
CancelsRound give_up status old new = ⊥

abbrev pub Finishes : Bool → ℕ → GuestSend → GuestSend → Type 0
Finishes left_open status (One old) (One new) = one.Changes (one.FinishesAs left_open status) old new
Finishes left_open status (Several old) (Several new) = several.ChangesMulti (several.Finishes left_open status) old new
Finishes left_open status old new = ⊥

-- ---- bytes that are copied out

-- the channel of a source: 0 is the only stream, or the main one, and 1 + j is channel j
abbrev pub channel_of : ℕ → Option ℕ
channel_of source = if source == 0 then None else Some (source - 1)

abbrev pub Drains : Option ℕ → ℕ → List ℕ → GuestSend → GuestSend → Type 0
Drains None count out (One old) (One new) = one.Drains count out old new
Drains (Some channel) count out (One old) (One new) = (count ≡ 0) × (new ≡ old)
Drains None count out (Several old) (Several new) = several.DrainsMain count out old new
Drains (Some channel) count out (Several old) (Several new) = several.ChangesMulti (several.DrainsChannel channel count out) old new
Drains from count out old new = ⊥

abbrev pub Peeks : Option ℕ → ℕ → List ℕ → GuestSend → GuestSend → Type 0
Peeks None count out (One old) (One new) = one.Peeks count out old new
Peeks (Some channel) count out (One old) (One new) = (count ≡ 0) × (new ≡ old)
Peeks None count out (Several old) (Several new) = several.PeeksMain count out old new
Peeks (Some channel) count out (Several old) (Several new) = ShowsFront count out (several.left_at old.state channel) × (new ≡ old)
Peeks from count out old new = ⊥

abbrev pub Skips : Option ℕ → ℕ → ℕ → GuestSend → GuestSend → Type 0
Skips None len count (One old) (One new) = one.Skips len count old new
Skips (Some channel) len count (One old) (One new) = (count ≡ 0) × (new ≡ old)
Skips None len count (Several old) (Several new) = several.SkipsMain len count old new
Skips (Some channel) len count (Several old) (Several new) = several.ChangesMulti (several.SkipsChannel channel len count) old new
Skips from len count old new = ⊥

abbrev pub Counts : Option ℕ → ℕ → GuestSend → GuestSend → Type 0
Counts None count (One old) (One new) = one.Counts count old new
Counts (Some channel) count (One old) (One new) = (count ≡ 0) × (new ≡ old)
Counts None count (Several old) (Several new) = several.CountsMain count old new
Counts (Some channel) count (Several old) (Several new) = (count ≡ length (several.left_at old.state channel)) × (new ≡ old)
Counts from count old new = ⊥
