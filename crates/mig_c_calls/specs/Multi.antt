-- A sender of C on several channels: what it has sent, what was copied out of its streams, and the
-- workers of its rounds, each with a handle of its own.
use Rattle.std.specs.Prelude.{◌≡◌, ◌≢◌, ◌+◌, ◌≤◌, ◌<◌, ◌++◌, ℕ, Bool, true, false, List, [], ◌∷◌, drop, take, map, min, length, replicate, get_or, All, Option, None, Some, ⊤}
use Rattle.std.specs.List.{fold, range_with_len}
use Rattle.std.specs.declared.alloc.Global.{Global}
use Rattle.mig_mem.specs.RamTable.{RamTable}
use Rattle.mig_mem.specs.declared.place.Place.{Place}
use Rattle.mig_mem.specs.Place.{IsPlace, place_at}
use Rattle.mig_mem.specs.PlaceSet.{PlaceSet, with_place}
use Rattle.mig_mem.specs.Image.{Image, IsImage}
use Rattle.mig_mem.specs.Bitmaps.{AreBitmaps, bitmap_set}
use Rattle.mig_stream.specs.Written.{FlushPart, written_so_far, main}
use Rattle.mig_stream.specs.MachineWritten.{machine_written, machine_closed}
use Rattle.mig_send.specs.DealtRounds.{DealtRound, IsSending, IsMachineSending, channel_text}
use Rattle.mig_send.specs.MultiSending.{MultiSending, Drained, HasSentRounds, nothing_drained, texts_of, whole_texts, with_main, with_channel}
use Rattle.mig_send.specs.declared.multi.Sent.{Sent}
use Rattle.mig_send.specs.ChannelWork.{ChannelWork, HasPacked, HasEnded}
use Rattle.mig_send.specs.MultiRound.{OpenMulti, IsRoundSoFar, HandsOut, dirty_of, handed_out}
use Rattle.mig_c_calls.specs.declared.waiting.Waiting.{Waiting}
use Rattle.mig_c_calls.specs.declared.sending.NamedPlace.{NamedPlace}
use Rattle.mig_c_calls.specs.declared.sending.EndedStreams.{EndedStreams}
use Rattle.mig_c_calls.specs.declared.sending.MultiState.{MultiState}
use Rattle.mig_c_calls.specs.declared.sending.MultiState.TheVariants.{Idle, Round, Over}
use Rattle.mig_c_calls.specs.declared.sending.Multi.{Multi}
use Rattle.mig_c_calls.specs.declared.sending.HeldWorker.{HeldWorker}
use Rattle.mig_c_calls.specs.Front.{ShowsFront}
use Rattle.mig_c_calls.specs.Named.{IsNamed}
use Rattle.mig_c_calls.specs.Status.{IsOneOf, done, no_memory, bad_length, no_page, out_of_turn}

-- ---- bytes that wait

-- the bytes that were drained of a stream and wait to be copied out
abbrev pub waiting_in : Waiting → List ℕ
waiting_in w = drop w.given w.bytes.items

-- The first of them are copied out, as many as there is room for.
pub record HandsOutOf (count : ℕ) (out : List ℕ) (old new : Waiting) : Type 0 where
  pub fits : count ≤ length out
  pub has_front : take count out ++ waiting_in new ≡ waiting_in old
  pub none : count ≡ 0 → 0 < length out → waiting_in old ≡ []

-- ---- the sender

-- What a sender was made with. Its main stream has the name of a machine, or none.
pub record MultiSetting : Type 0 where
  pub table : RamTable
  pub uuid : List ℕ
  pub limit : ℕ
  pub channels : ℕ
  pub name : Option (List ℕ)

pub record IsSenderOf (setting : MultiSetting) (s : MultiSending) : Type 0 where
  pub same_table : s.main.table ≡ setting.table
  pub same_uuid : s.uuid ≡ setting.uuid
  pub same_limit : s.limit ≡ setting.limit
  pub as_many : length s.channels ≡ setting.channels

-- the bytes that can be copied out of a channel once the streams are ended
abbrev pub left_of : EndedStreams → ℕ → List ℕ
left_of e channel = drop (get_or e.given.items channel 0) (get_or (texts_of e.sent.channels.items) channel [])

-- all bytes of each channel: those copied out, and the rest
abbrev pub all_channels : ℕ → Drained → EndedStreams → List (List ℕ)
all_channels channels drained e = map (λ channel. drained.channel channel ++ left_of e channel) (range_with_len 0 channels)

-- The streams of some rounds, whose main stream is ended with its end byte, or left open without
-- it.
abbrev pub AreEnded : Bool → RamTable → List ℕ → ℕ → ℕ → List DealtRound → List ℕ → List (List ℕ) → Type 0
AreEnded false table uuid limit channels rounds main_text texts = IsSending table uuid limit channels rounds main_text texts
AreEnded true table uuid limit channels rounds main_text texts = IsMachineSending None table uuid limit channels rounds main_text texts

-- No round is open, the sender has sent these rounds, and these bytes were drained of it: of the
-- main stream those without a name. Where it is ended, the rest of its streams is there.
abbrev pub SendsTo : MultiSetting → Drained → List DealtRound → MultiState → Type 0
SendsTo setting drained rounds (Idle s) = IsSenderOf setting s × HasSentRounds drained s rounds
SendsTo setting drained rounds (Round r) = ⊥
SendsTo setting drained rounds (Over e) = (length e.given.items ≡ setting.channels)
    × AreEnded e.left_open setting.table setting.uuid setting.limit setting.channels rounds
    (drained.main ++ e.sent.main.items) (all_channels setting.channels drained e)

-- A round of these dirty pages is open, after these rounds. The workers that were given back packed
-- the batches that they drew, from the pages of this image. For a channel whose worker is out,
-- `drained` has the bytes copied out of it before the worker was given out.
pub record IsInRound (setting : MultiSetting) (image : Image) (dirty : List Place) (drained : Drained) (rounds : List DealtRound) (r : OpenMulti) : Type 0 where
  pub old : MultiSending
  pub before : Drained
  pub in_round : ℕ → List ℕ
  pub is_of : IsSenderOf setting old
  pub has_sent : HasSentRounds before old rounds
  pub is_dirty : dirty_of r.terms ≡ dirty
  pub has_come : IsRoundSoFar image in_round old r
  pub same_main : drained.main ≡ before.main
  pub back : (channel : ℕ) → channel < length r.spents → drained.channel channel ≡ before.channel channel ++ in_round channel
  pub others : (channel : ℕ) → length r.spents ≤ channel → channel < setting.channels → drained.channel channel ≡ before.channel channel

abbrev pub InRoundTo : MultiSetting → Image → List Place → Drained → List DealtRound → MultiState → Type 0
InRoundTo setting image dirty drained rounds (Idle s) = ⊥
InRoundTo setting image dirty drained rounds (Round r) = IsInRound setting image dirty drained rounds r.round
InRoundTo setting image dirty drained rounds (Over e) = ⊥

-- what was drained, with these bytes of the main stream in place of others
abbrev pub with_plain : Drained → List ℕ → Drained
with_plain given plain = record given { main = plain }

-- It has sent these rounds, and these bytes of its streams were copied out. Those that wait of the
-- main stream follow them, and without the machine's name they are what was drained.
abbrev pub Sends : MultiSetting → Drained → List DealtRound → Multi → Type 0
Sends setting given rounds m = (plain : List ℕ) × IsNamed setting.name (given.main ++ waiting_in m.main) plain
    × SendsTo setting (with_plain given plain) rounds m.state

-- A round is open, and these bytes of its streams were copied out.
abbrev pub InRound : MultiSetting → Image → List Place → Drained → List DealtRound → Multi → Type 0
InRound setting image dirty given rounds m = (plain : List ℕ) × IsNamed setting.name (given.main ++ waiting_in m.main) plain
    × InRoundTo setting image dirty (with_plain given plain) rounds m.state

abbrev pub IsIdle : MultiState → Type 0
IsIdle (Idle s) = ⊤
IsIdle (Round r) = ⊥
IsIdle (Over e) = ⊥

abbrev pub IsOpen : MultiState → Type 0
IsOpen (Idle s) = ⊥
IsOpen (Round r) = ⊤
IsOpen (Over e) = ⊥

abbrev pub IsOver : MultiState → Type 0
IsOver (Idle s) = ⊥
IsOver (Round r) = ⊥
IsOver (Over e) = ⊤

-- the main stream was left open after RAM's END
abbrev pub is_left_open : MultiState → Bool
is_left_open (Idle s) = false
is_left_open (Round r) = false
is_left_open (Over e) = e.left_open

-- the main stream of so many rounds once it is ended, with its end byte or left open
abbrev pub ended_main : Bool → Option (List ℕ) → RamTable → ℕ → List ℕ
ended_main false None table rounds = main table rounds
ended_main false (Some name) table rounds = machine_closed (Some name) table (replicate rounds FlushPart)
ended_main true name table rounds = machine_written name table (replicate rounds FlushPart)

-- The streams are over, and nothing of them is left to copy out.
abbrev pub HasNothingLeft : MultiState → Type 0
HasNothingLeft (Idle s) = ⊥
HasNothingLeft (Round r) = ⊥
HasNothingLeft (Over e) = (e.sent.main.items ≡ []) × (texts_of e.sent.channels.items ≡ [])

-- The sender has given its streams up: no byte waits, and none will.
abbrev pub HasGivenUp : Multi → Type 0
HasGivenUp m = HasNothingLeft m.state × (waiting_in m.main ≡ [])

-- a round is open, and this is so of it
abbrev pub OfRound : (OpenMulti → Type 0) → MultiState → Type 0
OfRound IsSo (Idle s) = ⊥
OfRound IsSo (Round r) = IsSo r.round
OfRound IsSo (Over e) = ⊥

-- a call changes the state of the sender, and no bytes that wait
abbrev pub ChangesMulti : (MultiState → MultiState → Type 0) → Multi → Multi → Type 0
ChangesMulti step old new = step old.state new.state × (new.main ≡ old.main)

-- The sender is unchanged.
abbrev pub IsSame : MultiState → MultiState → Type 0
IsSame (Idle s) (Idle t) = s ≡ t
IsSame (Idle s) (Round t) = ⊥
IsSame (Idle s) (Over t) = ⊥
IsSame (Round s) (Idle t) = ⊥
IsSame (Round s) (Round t) = s.round ≡ t.round
IsSame (Round s) (Over t) = ⊥
IsSame (Over s) (Idle t) = ⊥
IsSame (Over s) (Round t) = ⊥
IsSame (Over s) (Over t) = s ≡ t

-- ---- its workers

-- The bytes of a worker's channel were `sent` after the rounds before. `given` of them was copied
-- out before the worker was given out. The worker has packed the batches that it drew from the
-- pages of this image, and `more` was copied out of it.
pub record Packs (image : Image) (sent given more : List ℕ) (w : HeldWorker) : Type 0 where
  pub own : List ℕ
  pub has_sent : sent ≡ given ++ own
  pub has_packed : HasPacked image own ((more ++ waiting_in w.drained) ++ w.worker.text) w.worker

-- the bytes of a worker's channel that weren't copied out
abbrev pub left_in : HeldWorker → List ℕ
left_in w = waiting_in w.drained ++ w.worker.text

-- ---- the calls

-- a sender that has sent nothing
abbrev pub Starts : MultiSetting → Multi → Type 0
Starts setting m = Sends setting nothing_drained [] m × IsIdle m.state

-- the place that C names, and the set of some places
abbrev pub place_of : NamedPlace → Place
place_of named = place_at named.block named.page

abbrev pub set_of : RamTable → List Place → PlaceSet
set_of table places = fold with_place (record { table = table; marked = [] }) places

-- a sender of this table is idle
abbrev pub IdleOf : (RamTable → Type 0) → MultiState → Type 0
IdleOf IsSo (Idle s) = IsSo s.main.table
IdleOf IsSo (Round r) = ⊥
IdleOf IsSo (Over e) = ⊥

-- The effect of `begin_round` with the dirty places that it is passed. Each counts once.
pub record BeginsRound (places : List Place) (status : ℕ) (old new : MultiState) : Type 0 where
  pub is_named : IsOneOf (done ∷ no_memory ∷ no_page ∷ out_of_turn ∷ []) status
  pub begins : status ≡ done → (setting : MultiSetting) (image : Image) (drained : Drained) (rounds : List DealtRound) → SendsTo setting drained rounds old
      → InRoundTo setting image (set_of setting.table places).marked drained rounds new
  pub all_left : status ≡ done → OfRound (λ r. (length r.seats ≡ length r.sender.channels) × (r.spents ≡ [])) new
  pub same : status ≢ done → IsSame new old
  pub wrong : status ≡ out_of_turn → IsIdle old → ⊥
  pub in_turn : status ≢ out_of_turn → IsIdle old
  pub foreign : status ≡ no_page → IdleOf (λ table. All (IsPlace table) places → ⊥) old
  pub has_places : status ≢ out_of_turn → status ≢ no_page → IdleOf (λ table. All (IsPlace table) places) old

-- what `begin_round` does to a sender that is idle
abbrev pub Deals : List Place → ℕ → MultiSending → MultiState → Type 0
Deals places status s new = BeginsRound places status (Idle s) new × (status ≢ out_of_turn)

-- The effect of `begin_round_bitmaps` with bitmaps of these words: the pages whose bits are set are
-- dirty.
pub record BeginsBitmaps (bitmaps : List (List ℕ)) (status : ℕ) (old new : MultiState) : Type 0 where
  pub is_named : IsOneOf (done ∷ no_memory ∷ bad_length ∷ out_of_turn ∷ []) status
  pub begins : status ≡ done → (setting : MultiSetting) (image : Image) (drained : Drained) (rounds : List DealtRound) → SendsTo setting drained rounds old
      → InRoundTo setting image (bitmap_set setting.table bitmaps).marked drained rounds new
  pub all_left : status ≡ done → OfRound (λ r. (length r.seats ≡ length r.sender.channels) × (r.spents ≡ [])) new
  pub same : status ≢ done → IsSame new old
  pub wrong : status ≡ out_of_turn → IsIdle old → ⊥
  pub in_turn : status ≢ out_of_turn → IsIdle old
  pub unfit : status ≡ bad_length → IdleOf (λ table. AreBitmaps table bitmaps → ⊥) old
  pub fits : status ≢ out_of_turn → status ≢ bad_length → IdleOf (λ table. AreBitmaps table bitmaps) old

-- what it does to a sender that is idle
abbrev pub DealsBitmaps : List (List ℕ) → ℕ → MultiSending → MultiState → Type 0
DealsBitmaps bitmaps status s new = BeginsBitmaps bitmaps status (Idle s) new × (status ≢ out_of_turn)

-- no worker of the round was given out
abbrev pub HasAllWorkers : OpenMulti → Type 0
HasAllWorkers r = length r.seats ≡ length r.sender.channels

-- The effect of `take_back_round`: the round is gone, and the sender has sent what it had before.
pub record TakesBackRound (status : ℕ) (old new : MultiState) : Type 0 where
  pub is_named : IsOneOf (done ∷ out_of_turn ∷ []) status
  pub takes : status ≡ done → (setting : MultiSetting) (image : Image) (dirty : List Place) (drained : Drained) (rounds : List DealtRound)
      → InRoundTo setting image dirty drained rounds old → SendsTo setting drained rounds new
  pub idle : status ≡ done → IsIdle new
  pub same : status ≢ done → IsSame new old
  pub wrong : status ≡ out_of_turn → OfRound HasAllWorkers old → ⊥
  pub in_turn : status ≢ out_of_turn → OfRound HasAllWorkers old

-- this is the worker of the next channel, and of the open round
pub record IsNext (old : OpenMulti) (w : HeldWorker) : Type 0 where
  pub has_terms : w.worker.terms ≡ old.terms
  pub is_next : w.worker.channel ≡ handed_out old
  pub is_channel : w.worker.channel < length old.sender.channels

abbrev pub HasMade : (HeldWorker → Type 0) → Option HeldWorker → Type 0
HasMade IsSo None = ⊥
HasMade IsSo (Some w) = IsSo w

-- It is given out by a round, and has its channel's bytes.
pub record GivesNext (old new : OpenMulti) (w : HeldWorker) : Type 0 where
  pub hands : HandsOut old new w.worker
  pub none_wait : waiting_in w.drained ≡ []
  pub few : length old.spents + length old.seats ≤ length old.sender.channels

-- The effect of `held_worker`: it gives out the worker of the next channel, none of whose bytes
-- were copied out.
pub record HandsOutWorker (status : ℕ) (old new : MultiState) (made : Option HeldWorker) : Type 0 where
  pub is_named : IsOneOf (done ∷ no_memory ∷ out_of_turn ∷ []) status
  pub next : status ≡ done → OfRound (λ r. HasMade (IsNext r) made) old
  pub hands : status ≡ done → (setting : MultiSetting) (image : Image) (dirty : List Place) (drained : Drained) (rounds : List DealtRound)
      → InRoundTo setting image dirty drained rounds old
      → InRoundTo setting image dirty drained rounds new
      × HasMade (λ w. Packs image (channel_text setting.uuid rounds w.worker.channel) (drained.channel w.worker.channel) [] w) made
  pub same : status ≢ done → IsSame new old × (made ≡ None)
  pub one_fewer : status ≡ done → OfRound (λ r. OfRound (λ r'. (length r.seats ≡ length r'.seats + 1) × (r'.terms ≡ r.terms)) new) old
  pub wrong : status ≡ out_of_turn → OfRound (λ r. 0 < length r.seats) old → ⊥
  pub in_turn : status ≢ out_of_turn → OfRound (λ r. 0 < length r.seats) old

-- The effect of `drain` of a worker: it copies out the next bytes of its channel. 0 says that none
-- is left.
pub record DrainsWorker (count : ℕ) (out : List ℕ) (old new : HeldWorker) : Type 0 where
  pub fits : count ≤ length out
  pub hands : (image : Image) (sent given more : List ℕ) → Packs image sent given more old → Packs image sent given (more ++ take count out) new
  pub none : count ≡ 0 → 0 < length out → (waiting_in new.drained ≡ []) × (new.worker.text ≡ [])
  pub same_work : (new.worker.terms ≡ old.worker.terms) × (new.worker.channel ≡ old.worker.channel) × (new.worker.hand ≡ old.worker.hand)

-- the first step of `drain`: if no byte waits, those that were written since are drained
pub record RefillsWorker (old new : HeldWorker) : Type 0 where
  pub keeps : (image : Image) (sent given more : List ℕ) → Packs image sent given more old → Packs image sent given more new
  pub none : waiting_in new.drained ≡ [] → new.worker.text ≡ []
  pub same_left : left_in new ≡ left_in old
  pub same_work : (new.worker.terms ≡ old.worker.terms) × (new.worker.channel ≡ old.worker.channel) × (new.worker.hand ≡ old.worker.hand)

-- The worker is one of the open round, if one is open.
abbrev pub IsOfRound : ChannelWork → MultiState → Type 0
IsOfRound worker (Idle s) = ⊤
IsOfRound worker (Round r) = worker.terms ≡ r.round.terms
IsOfRound worker (Over e) = ⊤

-- The worker can be given back: it is that of the next channel, has ended, and no bytes that were
-- drained of it wait.
pub record CanComeBack (w : HeldWorker) (r : OpenMulti) : Type 0 where
  pub is_out : length r.spents < handed_out r
  pub is_next : w.worker.channel ≡ length r.spents
  pub has_ended : HasEnded w.worker.hand
  pub none_wait : waiting_in w.drained ≡ []

-- The effect of `give_back`. With `done` the worker is gone.
pub record TakesBackWorker (status : ℕ) (w : HeldWorker) (old new : MultiState) (left : Option HeldWorker) : Type 0 where
  pub is_named : IsOneOf (done ∷ no_memory ∷ out_of_turn ∷ []) status
  pub takes : status ≡ done → (setting : MultiSetting) (image : Image) (dirty : List Place) (drained : Drained) (rounds : List DealtRound) (more : List ℕ)
      → InRoundTo setting image dirty drained rounds old
      → Packs image (channel_text setting.uuid rounds w.worker.channel) (drained.channel w.worker.channel) more w
      → InRoundTo setting image dirty (with_channel drained w.worker.channel more) rounds new
  pub one_more : status ≡ done → OfRound (λ r. OfRound (λ r'. (length r'.spents ≡ length r.spents + 1) × (r'.terms ≡ r.terms)) new) old
  pub gone : status ≡ done → left ≡ None
  pub same : status ≢ done → IsSame new old × (left ≡ Some w)
  pub wrong : status ≡ out_of_turn → OfRound (CanComeBack w) old → ⊥
  pub in_turn : status ≢ out_of_turn → OfRound (CanComeBack w) old

-- The effect of `end_round`, once all workers were given back: it sends a round of the dirty pages
-- of the image.
pub record EndsRound (status : ℕ) (old new : MultiState) : Type 0 where
  pub is_named : IsOneOf (done ∷ no_memory ∷ out_of_turn ∷ []) status
  pub ends : status ≡ done → (setting : MultiSetting) (image : Image) (dirty : List Place) (drained : Drained) (rounds : List DealtRound)
      → IsImage image → image.table ≡ setting.table → InRoundTo setting image dirty drained rounds old
      → (round : DealtRound) × (round.snapshot ≡ record { image = image; dirty = dirty }) × SendsTo setting drained (rounds ++ round ∷ []) new
  pub idle : status ≡ done → IsIdle new
  pub same : status ≢ done → IsSame new old
  pub wrong : status ≡ out_of_turn → OfRound (λ r. length r.spents ≡ length r.sender.channels) old → ⊥
  pub in_turn : status ≢ out_of_turn → OfRound (λ r. length r.spents ≡ length r.sender.channels) old

-- What `cancel_round` does: the sender gives its streams up. What was copied out of the main stream
-- goes no further than the rounds that were ended, so it lacks the stream's END.
pub record CancelsRound (status : ℕ) (old new : Multi) : Type 0 where
  pub is_named : IsOneOf (done ∷ out_of_turn ∷ []) status
  pub gives_up : status ≡ done → HasGivenUp new
  pub breaks_off : status ≡ done → (setting : MultiSetting) (image : Image) (dirty : List Place) (given : Drained) (rounds : List DealtRound)
      → InRound setting image dirty given rounds old
      → (rest : List ℕ) × IsNamed setting.name (given.main ++ rest) (written_so_far setting.table (replicate (length rounds) FlushPart))
  pub same : status ≢ done → new ≡ old
  pub wrong : status ≡ out_of_turn → IsOpen old.state → ⊥
  pub in_turn : status ≢ out_of_turn → IsOpen old.state

-- The rest of the streams of a sender that is idle: with what was drained they are the whole ones.
abbrev pub EndsStreams : Bool → MultiSending → Sent Global → Type 0
EndsStreams left_open s sent = (drained : Drained) (rounds : List DealtRound) → HasSentRounds drained s rounds
    → AreEnded left_open s.main.table s.uuid s.limit (length s.channels) rounds (drained.main ++ sent.main.items) (whole_texts drained (texts_of sent.channels.items))

-- What `finish` does, and `finish_open`, which leaves the main stream open after RAM's END.
pub record Finishes (left_open : Bool) (status : ℕ) (old new : MultiState) : Type 0 where
  pub is_named : IsOneOf (done ∷ no_memory ∷ out_of_turn ∷ []) status
  pub ends : status ≡ done → IsOver new × (is_left_open new ≡ left_open)
  pub keeps : (setting : MultiSetting) (drained : Drained) (rounds : List DealtRound) → SendsTo setting drained rounds old → SendsTo setting drained rounds new
  pub same : status ≢ done → IsSame new old
  pub wrong : status ≡ out_of_turn → IsIdle old → ⊥
  pub in_turn : status ≢ out_of_turn → IsIdle old

-- What `drain` does: it copies out the next bytes of the main stream. Where it has none between two
-- rounds, all that was written so far was copied out; of streams that are ended, all of it. A round
-- that is open stays as it is. Of streams that were given up it copies out nothing.
pub record DrainsMain (count : ℕ) (out : List ℕ) (old new : Multi) : Type 0 where
  pub fits : count ≤ length out
  pub hands : (setting : MultiSetting) (given : Drained) (rounds : List DealtRound) → Sends setting given rounds old
      → Sends setting (with_main given (take count out)) rounds new
  pub hands_in_round : (setting : MultiSetting) (image : Image) (dirty : List Place) (given : Drained) (rounds : List DealtRound)
      → InRound setting image dirty given rounds old → InRound setting image dirty (with_main given (take count out)) rounds new
  pub in_round : IsOpen old.state → new.state ≡ old.state
  pub idle : IsIdle old.state → IsIdle new.state
  pub ended : IsOver old.state → IsOver new.state × (is_left_open new.state ≡ is_left_open old.state)
  pub given_up : HasGivenUp old → (count ≡ 0) × HasGivenUp new
  pub written : IsIdle old.state → count ≡ 0 → 0 < length out → (setting : MultiSetting) (given : Drained) (rounds : List DealtRound)
      → Sends setting given rounds old → IsNamed setting.name given.main (written_so_far setting.table (replicate (length rounds) FlushPart))
  pub all : IsOver old.state → count ≡ 0 → 0 < length out → (setting : MultiSetting) (given : Drained) (rounds : List DealtRound)
      → Sends setting given rounds old → given.main ≡ ended_main (is_left_open old.state) setting.name setting.table (length rounds)

-- the first step of `drain`: if no byte waits, those that were written since are drained
pub record RefillsMain (old new : Multi) : Type 0 where
  pub keeps : (setting : MultiSetting) (given : Drained) (rounds : List DealtRound) → Sends setting given rounds old → Sends setting given rounds new
  pub keeps_round : (setting : MultiSetting) (image : Image) (dirty : List Place) (given : Drained) (rounds : List DealtRound)
      → InRound setting image dirty given rounds old → InRound setting image dirty given rounds new
  pub in_round : IsOpen old.state → (new.state ≡ old.state) × (new.main ≡ old.main)
  pub idle : IsIdle old.state → IsIdle new.state
  pub ended : IsOver old.state → IsOver new.state × (is_left_open new.state ≡ is_left_open old.state)
  pub given_up : HasGivenUp old → HasGivenUp new
  pub written : IsIdle old.state → waiting_in new.main ≡ [] → (setting : MultiSetting) (given : Drained) (rounds : List DealtRound)
      → Sends setting given rounds old → IsNamed setting.name given.main (written_so_far setting.table (replicate (length rounds) FlushPart))
  pub all : IsOver old.state → waiting_in new.main ≡ [] → (setting : MultiSetting) (given : Drained) (rounds : List DealtRound)
      → Sends setting given rounds old → given.main ≡ ended_main (is_left_open old.state) setting.name setting.table (length rounds)

-- What `drain_channel` does: of streams that are ended it copies out what is left of a channel, and
-- of streams that were given up nothing.
pub record DrainsChannel (channel count : ℕ) (out : List ℕ) (old new : MultiState) : Type 0 where
  pub fits : count ≤ length out
  pub hands : IsOver old → (setting : MultiSetting) (drained : Drained) (rounds : List DealtRound) → SendsTo setting drained rounds old
      → SendsTo setting (with_channel drained channel (take count out)) rounds new
  pub ended : IsOver old → IsOver new × (is_left_open new ≡ is_left_open old)
  pub given_up : HasNothingLeft old → (count ≡ 0) × HasNothingLeft new
  pub all : IsOver old → count ≡ 0 → 0 < length out → (setting : MultiSetting) (drained : Drained) (rounds : List DealtRound) → SendsTo setting drained rounds old
      → channel < setting.channels → drained.channel channel ≡ channel_text setting.uuid rounds channel
  pub same : (IsOver old → ⊥) → (count ≡ 0) × (new ≡ old)

-- ---- `drain` in two calls, for a caller whose output may take fewer bytes than it is offered

-- The next bytes of the main stream are copied out, and still wait.
abbrev pub PeeksMain : ℕ → List ℕ → Multi → Multi → Type 0
PeeksMain count out old new = RefillsMain old new × ShowsFront count out (waiting_in new.main)

-- The result of `waiting`: the number of bytes that can be copied out, until more is written.
abbrev pub CountsMain : ℕ → Multi → Multi → Type 0
CountsMain count old new = RefillsMain old new × (count ≡ length (waiting_in new.main))

-- The first `len` bytes that wait of the main stream count as copied out, or all of them.
pub record SkipsMain (len count : ℕ) (old new : Multi) : Type 0 where
  pub counts : count ≡ min len (length (waiting_in old.main))
  pub still : waiting_in new.main ≡ drop count (waiting_in old.main)
  pub same_state : new.state ≡ old.state
  pub hands : (setting : MultiSetting) (given : Drained) (rounds : List DealtRound) → Sends setting given rounds old
      → Sends setting (with_main given (take count (waiting_in old.main))) rounds new
  pub hands_in_round : (setting : MultiSetting) (image : Image) (dirty : List Place) (given : Drained) (rounds : List DealtRound)
      → InRound setting image dirty given rounds old → InRound setting image dirty (with_main given (take count (waiting_in old.main))) rounds new

-- what can be copied out of a channel: nothing before the streams are ended
abbrev pub left_at : MultiState → ℕ → List ℕ
left_at (Idle s) channel = []
left_at (Round r) channel = []
left_at (Over e) channel = left_of e channel

-- Of streams that are ended the first `len` bytes that are left of a channel count as copied out,
-- or all of them, and of streams that were given up none.
pub record SkipsChannel (channel len count : ℕ) (old new : MultiState) : Type 0 where
  pub counts : IsOver old → (setting : MultiSetting) (drained : Drained) (rounds : List DealtRound) → SendsTo setting drained rounds old
      → channel < setting.channels → count ≡ min len (length (left_at old channel))
  pub hands : IsOver old → (setting : MultiSetting) (drained : Drained) (rounds : List DealtRound) → SendsTo setting drained rounds old
      → SendsTo setting (with_channel drained channel (take count (left_at old channel))) rounds new
  pub ended : IsOver old → IsOver new × (is_left_open new ≡ is_left_open old)
  pub given_up : HasNothingLeft old → (count ≡ 0) × HasNothingLeft new
  pub same : (IsOver old → ⊥) → (count ≡ 0) × (new ≡ old)
