-- What is kept of a channel, and what it reports.
use Rattle.std.proofs.Common.{ℕ, ◌≡◌, ◌≢◌, true, false, Bool, List, ◌++◌, length, refl, sym, ap, subst, ◌∙◌, Option, Some, None, arith}
use Rattle.std.specs.Prelude.{IfSome, IsFalse}
use Rattle.std.proofs.lemmas.Bool.{cond-false}
use Rattle.mig_mem.specs.RamTable.{RamTable}
use Rattle.mig_packet.specs.PageSize.{IsPageSize}
use Rattle.mig_packet.specs.declared.state.ChannelState.{ChannelState}
use Rattle.mig_packet.specs.Progress.{ChannelProgress, after_packet}
use Rattle.mig_packet.specs.Reading.{Settings, ChannelReading, IsReading, state_at}
use Rattle.mig_packet.specs.Reader.{HasHello}
use Rattle.mig_packet.specs.Paging.{OpenPacket, GivenSoFar, PageHolder, Gives, HolderTells, HasReading, is_complete, read_to, open_bytes, bytes_of}
use Rattle.mig_packet.proofs.Exists.{one_reading_law}
use Rattle.mig_answer.specs.declared.status.Status.{Status}
use Rattle.mig_answer.specs.declared.status.Status.TheVariants.{Whole}
use Rattle.mig_load_types.specs.declared.fault.Fault.{Fault}
use Rattle.mig_answer.specs.Status.{channel_status, channel_end, is_pending, fault_of}
use Rattle.mig_answer.specs.Texts.{Text, over}
use Rattle.mig_answer.proofs.Statuses.{status_whole, status_end}
use Rattle.mig_answer.proofs.GrowingChannels.{same_rounds}
use Rattle.mig_in_place.specs.declared.main_stream.SizeList.{SizeList}
use Rattle.mig_in_place.specs.declared.main_stream.SizeList.TheVariants as list
use Rattle.mig_in_place.specs.Sources.{KeptChannel, HoldsChannel, TellsChannelStatus, TellsChannelFault, TellsHello, TellsTakes, holds_back, rounds_come}
use Rattle.mig_in_place.proofs.Waits.{pending_is}

abbrev pub kept : PageHolder → Option ℕ → Bool → KeptChannel
kept reader block is_whole = record { reader = reader; block = block; is_whole = is_whole }

-- ---- before the first byte, and after the end

-- a channel with its reader ended, which gave the same, represents its stream ended
pub ends : (given : Settings) (table : RamTable) (k : ℕ) (text : Text) (so_far : GivenSoFar) (old now : PageHolder) (block : Option ℕ) (whole : Bool)
    → (Gives given text.bytes so_far old → Gives given text.bytes so_far now) → now.ended ≡ true
    → HoldsChannel given table k text so_far (kept old block whole) → HoldsChannel given table k (over text) so_far (kept now block whole)
ends given table k text so_far old now block whole gives over_ holds = record {
  gives = gives holds.gives;
  has_ended = over_;
  has_rounds = holds.has_rounds;
  is_between = holds.is_between;
  has_hello = holds.has_hello;
  has_missing = holds.has_missing;
  has_block = holds.has_block;
}

-- ---- what it reports

-- no complete packet waits in the reader
pub read_as_given : (read : ChannelProgress) (o : Option OpenPacket) → IfSome o (λ packet. IsFalse (is_complete packet)) → read_to read o ≡ read
read_as_given read None missing = refl
read_as_given read (Some packet) missing = cond-false (is_complete packet) (after_packet read (bytes_of packet)) read missing

-- the rounds of its reading are those that were given
pub rounds_given : (given : Settings) (table : RamTable) (k : ℕ) (text : Text) (so_far : GivenSoFar) (c : KeptChannel) (reading : ChannelReading)
    → IsPageSize given.page_size
    → HoldsChannel given table k text so_far c → IsReading given text.bytes text.ended reading → reading.rounds ≡ so_far.read.rounds
rounds_given given table k text so_far c reading size holds is =
    let to : ChannelProgress = read_to so_far.read so_far.packet in
    let rest : List ℕ = open_bytes so_far.packet ++ c.reader.kept in
    let other : ChannelReading = record { hello = to.hello; rounds = to.rounds; state = state_at text.ended to rest c.reader.found } in
    let is_other : IsReading given text.bytes text.ended other =
    record { to = to; rest = rest; found = c.reader.found; reads = holds.gives.reads; has_hello = refl; has_rounds = refl; has_state = refl } in
    let one = one_reading_law given text.bytes text.ended size in
    let same : reading ≡ other = one.2 reading is ∙ sym (one.2 other is_other) in
    ap (λ (x : ChannelReading). x.rounds) same ∙ ap (λ (x : ChannelProgress). x.rounds) (read_as_given so_far.read so_far.packet holds.has_missing)

-- this many
pub rounds_are : (given : Settings) (table : RamTable) (k : ℕ) (text : Text) (so_far : GivenSoFar) (c : KeptChannel) (reading : ChannelReading)
    → IsPageSize given.page_size
    → HoldsChannel given table k text so_far c → IsReading given text.bytes text.ended reading → length reading.rounds ≡ rounds_come k c.is_whole
rounds_are given table k text so_far c reading size holds is =
    ap (λ (l : List (List (List ℕ))). length l) (rounds_given given table k text so_far c reading size holds is) ∙ holds.has_rounds

-- a channel whose round has ended is reported as whole
pub tells_whole : (reader : PageHolder) (block : Option ℕ) → TellsChannelStatus (kept reader block true) Whole
tells_whole reader block = λ given table k text so_far reading size holds is.
    let e = rounds_are given table k text so_far (kept reader block true) reading size holds is in
    sym (status_whole k (length reading.rounds) (channel_end reading.state) (omega (arith, e)))

-- a channel in a round is reported as its stream stands
pub tells_end : (reader : PageHolder) (block : Option ℕ) (state : ChannelState) (status : Status)
    → HolderTells reader (λ given text so_far. HasReading given text reader.ended so_far state)
    → status ≡ channel_end state → TellsChannelStatus (kept reader block false) status
tells_end reader block state status tells e = λ given table k text so_far reading size holds is.
    let has = tells given text.bytes so_far holds.gives in
    let there : IsReading given text.bytes text.ended has.reading =
    subst (λ (ended : Bool). IsReading given text.bytes ended has.reading) holds.has_ended has.is_reading in
    let one = one_reading_law given text.bytes text.ended size in
    let same : reading ≡ has.reading = one.2 reading is ∙ sym (one.2 has.reading there) in
    let rounds = rounds_are given table k text so_far (kept reader block false) reading size holds is in
    e ∙ ap channel_end (sym has.has_state ∙ sym (ap (λ (x : ChannelReading). x.state) same))
    ∙ sym (status_end k (length reading.rounds) (channel_end reading.state) (omega (arith, rounds)))

-- the fault of a channel's state by its reader is that of the bytes taken
pub tells_fault : (c : KeptChannel) (state : ChannelState) (status : Status) (found : Option Fault)
    → HolderTells c.reader (λ given text so_far. HasReading given text c.reader.ended so_far state)
    → status ≡ channel_end state → found ≡ fault_of status → TellsChannelFault c found
tells_fault c state status found tells is e = λ given text reading size has reads.
    let gave = tells given text.bytes has.0 has.1 in
    let there : IsReading given text.bytes text.ended gave.reading =
    subst (λ (ended : Bool). IsReading given text.bytes ended gave.reading) has.2 gave.is_reading in
    let one = one_reading_law given text.bytes text.ended size in
    let same : reading ≡ gave.reading = one.2 reading reads ∙ sym (one.2 gave.reading there) in
    e ∙ ap fault_of (is ∙ ap channel_end (sym gave.has_state ∙ sym (ap (λ (x : ChannelReading). x.state) same)))

-- the hello id by a channel's reader is the one in its bytes
pub tells_hello : (c : KeptChannel) (hello : Option ℕ) → HolderTells c.reader (λ given text so_far. HasHello given text hello) → TellsHello c hello
tells_hello c hello tells = λ given table k text so_far reading size holds is.
    let has = tells given text.bytes so_far holds.gives in
    has.2 ∙ (same_rounds given text.bytes false text.ended has.0 reading has.1 is).1

-- ---- which bytes are taken

is_held : (l : SizeList) (hello : Option ℕ) → holds_back l hello ≡ true → (l ≡ list.Awaited) × (hello ≢ None)
is_held list.Awaited None e = absurd cc
is_held list.Awaited (Some id) e = (refl, λ none. absurd cc)
is_held list.Complete hello e = absurd cc
is_held list.Lost hello e = absurd cc

is_free : (l : SizeList) (hello : Option ℕ) → holds_back l hello ≡ false → l ≡ list.Awaited → hello ≡ None
is_free list.Awaited None e is = refl
is_free list.Awaited (Some id) e is = absurd cc
is_free list.Complete hello e is = absurd cc
is_free list.Lost hello e is = absurd cc

-- a channel that is held back takes no bytes
pub held_takes : (l : SizeList) (c : KeptChannel) (hello : Option ℕ) → TellsHello c hello → holds_back l hello ≡ true → TellsTakes l c false
held_takes l c hello tells held = λ given table k text so_far reading size holds is.
    let same : hello ≡ reading.hello = tells given table k text so_far reading size holds is in
    (λ t. absurd cc, λ both. absurd ((is_held l hello held).1 (same ∙ both.1 (is_held l hello held).0)))

-- a channel that isn't held back takes bytes exactly if its status is pending
pub free_takes : (l : SizeList) (c : KeptChannel) (hello : Option ℕ) (status : Status) (takes : Bool) → TellsHello c hello
    → TellsChannelStatus c status → holds_back l hello ≡ false → takes ≡ is_pending status
    → TellsTakes l c takes
free_takes l c hello status takes tells stands free e = λ given table k text so_far reading size holds is.
    let same : hello ≡ reading.hello = tells given table k text so_far reading size holds is in
    let at : status ≡ channel_status k reading = stands given table k text so_far reading size holds is in (
      λ t. (sym at ∙ pending_is status (sym e ∙ t), λ awaited. sym same ∙ is_free l hello free awaited),
      λ both. e ∙ ap is_pending (at ∙ both.0),
    )
