-- Turns: a source's bytes are read into a buffer of its own, and a load in place takes those of the
-- current round from it. The others wait there.
use Rattle.std.specs.Prelude.{ℕ, ◌≡◌, ◌≢◌, ◌+◌, ◌<◌, ◌≤◌, ◌^◌, ◌⊎◌, true, List, [], ◌∷◌, ◌++◌, length, take, drop, get_or, slice_set, IsTrue, IsFalse, Option, None, Some, Result, Ok, Err, if◌then◌else◌, nat_lt}
use Rattle.std.specs.Io.KnownBytes.{Consumes, IsAtEnd, Keeps}
use Rattle.mig_mem.specs.Image.{Image}
use Rattle.mig_stream.specs.Reading.{Settings}
use Rattle.mig_stream.specs.Reader.{IsClosedAt, HasClosedAt}
use Rattle.mig_load_types.specs.Settings.{for_table, main_of}
use Rattle.mig_load_types.specs.declared.settings.LoadSettings.{LoadSettings}
use Rattle.mig_answer.specs.declared.verdict.Verdict.{Verdict}
use Rattle.mig_answer.specs.declared.verdict.Verdict.TheVariants.{Running}
use Rattle.mig_answer.specs.Texts.{Text, Texts}
use Rattle.mig_sources.specs.declared.counts.Count.{Count}
use Rattle.mig_sources.specs.declared.source.Source.{Source}
use Rattle.mig_sources.specs.declared.source.Source.TheVariants as source
use Rattle.mig_sources.specs.Reads.{ReadsSoFar, no_reads, after_pieces, after_end, after_failure, IsPiece, piece_limit}
use Rattle.mig_sources.specs.Sources.{HasSource, count_of, with_fed, with_end, feed_step, end_step}
use Rattle.mig_in_place.specs.declared.source_reader.Turn.{Turn}
use Rattle.mig_in_place.specs.declared.source_reader.Turn.TheVariants as turn
use Rattle.mig_in_place.specs.declared.source_reader.TurnFault.{TurnFault}
use Rattle.mig_in_place.specs.declared.source_reader.TurnFault.TheVariants as fault
use Rattle.mig_in_place.specs.Sources.{counts_of}
use Rattle.mig_in_place.specs.Session.{InPlaceLoad, TakesBytes, StandsFor, StepsOn, RunsOut, Tells, text_of}

-- ---- reads

-- a source's reader, and its buffer
pub record KeptSource : Type 0 where
  pub reads : ReadsSoFar
  -- how often the reader may still be read
  pub left : ℕ
  -- the bytes that the reader will give, if they are known
  pub remaining : Option (List ℕ)
  -- the bytes of the last piece that were taken
  pub taken : List ℕ
  -- the bytes that were read, and weren't taken yet
  pub waiting : List ℕ

-- how often a reader may be read
abbrev pub read_limit : ℕ
read_limit = 2 ^ 62

-- a source before its first read
abbrev pub new_source : ReadsSoFar → Option (List ℕ) → KeptSource
new_source reads remaining = record { reads = reads; left = read_limit; remaining = remaining; taken = []; waiting = [] }

-- The reader was read once more, and this is how it counts that.
pub record ReadsOn (counts : ReadsSoFar → ReadsSoFar) (old new : KeptSource) : Type 0 where
  pub is_counted : new.reads ≡ counts old.reads
  pub has_left : old.left ≡ new.left + 1

-- A piece was read into the buffer, which was empty.
pub record Fills (old new : KeptSource) : Type 0 where
  pub was_empty : old.waiting ≡ []
  pub is_piece : IsPiece new.waiting
  pub none_taken : new.taken ≡ []
  pub reads_on : ReadsOn (λ reads. after_pieces reads 1) old new
  pub is_given : Consumes old.remaining new.remaining new.waiting

-- A read found the end of the input, and the buffer is empty.
pub record FindsEnd (old new : KeptSource) : Type 0 where
  pub was_empty : old.waiting ≡ []
  pub is_empty : new.waiting ≡ []
  pub none_taken : new.taken ≡ []
  pub reads_on : ReadsOn after_end old new
  pub none_given : Consumes old.remaining new.remaining []
  pub is_at_end : IsAtEnd new.remaining

-- A read failed, or no more reads are allowed, and the buffer is empty.
pub record FailsToRead (old new : KeptSource) : Type 0 where
  pub was_empty : old.waiting ≡ []
  pub is_empty : new.waiting ≡ []
  pub reads_on : ((new.taken ≡ []) × ReadsOn after_failure old new) ⊎ ((old.left ≡ 0) × (new ≡ old))
  pub is_kept : Keeps old.remaining new.remaining

-- The source with the bytes that are fed: those that wait, or, if none do, a piece that is read.
abbrev pub HasBytes : KeptSource → KeptSource → Type 0
HasBytes old full = ((old.waiting ≢ []) × (full ≡ old)) ⊎ Fills old full

-- the source whose first n bytes that wait were taken
abbrev pub without_first : ℕ → KeptSource → KeptSource
without_first n s = record s { taken = s.taken ++ take n s.waiting; waiting = drop n s.waiting }

-- ---- the sources whose bytes are taken

-- The load takes bytes of a source: it runs, and the source wasn't ended. It doesn't have the
-- current round of it, and the source isn't closed, has no fault and isn't held back.
pub record Takes (from : Source) (memory : Image) (load : InPlaceLoad) : Type 0 where
  pub runs : load.verdict ≡ Running
  pub is_open : IsFalse (count_of (counts_of load.sources) from).ended
  pub takes : Tells memory load (λ given uuid first texts. TakesBytes (for_table first.table given) uuid load.rounds texts from)

-- The load takes no bytes of a source: its verdict is there, the source was ended, or it has the
-- current round, is closed, has a fault, or is held back.
abbrev pub TakesNone : Source → Image → InPlaceLoad → Type 0
TakesNone from memory load = (load.verdict ≢ Running) ⊎ (IsTrue (count_of (counts_of load.sources) from).ended
    ⊎ Tells memory load (λ given uuid first texts. TakesBytes (for_table first.table given) uuid load.rounds texts from → ⊥))

-- ---- what a turn leaves

-- a load, the memory into which it loads, and one of its sources
pub record AtTurn : Type 0 where
  pub load : InPlaceLoad
  pub memory : Image
  pub source : KeptSource

-- The load took the first n of the bytes. The others wait: it takes none of them now.
pub record HasTaken (from : Source) (n : ℕ) (old new : AtTurn) : Type 0 where
  pub takes : Takes from old.memory old.load
  pub full : KeptSource
  pub has_bytes : HasBytes old.source full
  pub is_within : n ≤ length full.waiting
  pub is_left : new.source ≡ without_first n full
  pub steps : StepsOn (feed_step from (take n full.waiting)) old.memory old.load new.memory new.load
  pub takes_all : n < length full.waiting → TakesNone from new.memory new.load
  pub has_counts : counts_of new.load.sources ≡ with_fed (counts_of old.load.sources) from n

-- All bytes of the source were taken, its input is at its end, and the source was ended.
pub record HasEnded (from : Source) (old new : AtTurn) : Type 0 where
  pub takes : Takes from old.memory old.load
  pub finds_end : FindsEnd old.source new.source
  pub steps : StepsOn (end_step from) old.memory old.load new.memory new.load
  pub same_memory : new.memory ≡ old.memory
  pub has_counts : counts_of new.load.sources ≡ with_end (counts_of old.load.sources) from

-- The load takes no bytes of the source. Nothing was read, and nothing has changed.
pub record Waits (from : Source) (old new : AtTurn) : Type 0 where
  pub is_same : new ≡ old
  pub takes_none : TakesNone from old.memory old.load

-- A read failed. The load and the memory are as they were.
pub record HasFailedRead (from : Source) (old new : AtTurn) : Type 0 where
  pub takes : Takes from old.memory old.load
  pub fails : FailsToRead old.source new.source
  pub same_load : new.load ≡ old.load
  pub same_memory : new.memory ≡ old.memory

-- The memory has another table than the load. The memory and the load are as they were, and the
-- bytes wait.
pub record IsOfOther (from : Source) (old new : AtTurn) : Type 0 where
  pub takes : Takes from old.memory old.load
  pub has_bytes : HasBytes old.source new.source
  pub is_other : old.memory.table ≢ old.load.table
  pub same_load : new.load ≡ old.load
  pub same_memory : new.memory ≡ old.memory

-- An allocation was refused as the bytes were fed.
pub record HasRunOut (from : Source) (old new : AtTurn) : Type 0 where
  pub takes : Takes from old.memory old.load
  pub has_bytes : HasBytes old.source new.source
  pub runs_out : RunsOut from new.source.waiting old.memory old.load new.memory new.load

-- The effect of a source's turn, by its result.
abbrev pub TurnsTo : Source → Result Turn TurnFault → AtTurn → AtTurn → Type 0
TurnsTo from (Ok (turn.Taken n)) old new = HasTaken from n old new
TurnsTo from (Ok turn.Ended) old new = HasEnded from old new
TurnsTo from (Ok turn.Waits) old new = Waits from old new
TurnsTo from (Err fault.Read) old new = HasFailedRead from old new
TurnsTo from (Err fault.OtherTable) old new = IsOfOther from old new
TurnsTo from (Err fault.NoMemory) old new = HasRunOut from old new

-- ---- the source of the next turn

-- a load, the memory into which it loads, all of its sources, the main stream's first, and the
-- order of their turns
pub record AtTurns (O : Type 0) : Type 0 where
  pub load : InPlaceLoad
  pub memory : Image
  pub sources : List KeptSource
  pub order : O

-- the number of a source among all: 0 for the main stream, j + 1 for channel j
abbrev pub number_of : Source → ℕ
number_of source.Main = 0
number_of (source.Channel j) = j + 1

abbrev pub no_source : KeptSource
no_source = record { reads = no_reads; left = 0; remaining = None; taken = []; waiting = [] }

abbrev pub source_in : List KeptSource → Source → KeptSource
source_in sources from = get_or sources (number_of from) no_source

-- with one of its sources
abbrev pub one_source : {O : Type 0} → AtTurns O → Source → AtTurn
one_source t from = record { load = t.load; memory = t.memory; source = source_in t.sources from }

-- The load has a source, and room for a piece of it.
pub record HasRoom (load : InPlaceLoad) (from : Source) : Type 0 where
  pub is_there : HasSource (counts_of load.sources) from
  pub has_room : (count_of (counts_of load.sources) from).fed + piece_limit < 2 ^ 64

-- A source can have a turn: the load has it and takes bytes of it.
pub record CanTurn {O : Type 0} (t : AtTurns O) (from : Source) : Type 0 where
  pub is_there : number_of from < length t.sources
  pub has_room : HasRoom t.load from
  pub takes : Takes from t.memory t.load

-- A source can't have a turn: none of its bytes are taken, if there is room for a piece of it.
abbrev pub CantTurn : {O : Type 0} → AtTurns O → Source → Type 0
CantTurn t from = number_of from < length t.sources → HasRoom t.load from → TakesNone from t.memory t.load

-- The load takes none of the bytes that wait in buffers. The order was asked: this is its choice,
-- from the order before, the load, the number of a source, and the order after. It chose the
-- source, or else a source that can't have a turn.
pub record IsChosen {O : Type 0} (chooses : O → InPlaceLoad → ℕ → O → Type 0) (t : AtTurns O) (after : O) (from : Source) : Type 0 where
  pub none_waits : (other : Source) → (source_in t.sources other).waiting ≢ [] → CantTurn t other
  pub number : ℕ
  pub is_choice : chooses t.order t.load number after
  pub is_followed : (number_of from ≡ number) ⊎ ((other : Source) → number_of other ≡ number → CantTurn t other)

-- The source has the next turn: some bytes of it wait, or the order chose it.
pub record IsNext {O : Type 0} (chooses : O → InPlaceLoad → ℕ → O → Type 0) (t : AtTurns O) (after : O) (from : Source) : Type 0 where
  pub can : CanTurn t from
  pub is_next : (((source_in t.sources from).waiting ≢ []) × (after ≡ t.order)) ⊎ IsChosen chooses t after from

-- No source can have a turn. The order was asked.
pub record NoneIsNext {O : Type 0} (chooses : O → InPlaceLoad → ℕ → O → Type 0) (t : AtTurns O) (after : O) : Type 0 where
  pub none : (from : Source) → CantTurn t from
  pub number : ℕ
  pub is_choice : chooses t.order t.load number after

-- ---- all turns

-- The source with the turn had it, and the others are as they were.
pub record TakesTurn {O : Type 0} (chooses : O → InPlaceLoad → ℕ → O → Type 0) (from : Source) (answer : Result Turn TurnFault) (old new : AtTurns O) : Type 0 where
  pub is_next : IsNext chooses old new.order from
  pub turns : TurnsTo from answer (one_source old from) (one_source new from)
  pub is_some : answer ≢ Ok turn.Waits
  pub others_stay : new.sources ≡ slice_set old.sources (number_of from) (source_in new.sources from)

-- These sources had a turn, one after another, each with this answer.
abbrev pub TakeTurns : {O : Type 0} → (O → InPlaceLoad → ℕ → O → Type 0) → List (Source × Turn) → AtTurns O → AtTurns O → Type 0
TakeTurns chooses [] old new = new ≡ old
TakeTurns chooses (t ∷ turns) old new = (mid : AtTurns _) × TakesTurn chooses t.0 (Ok t.1) old mid × TakeTurns chooses turns mid new

-- There were all the turns, or no source can have one more.
abbrev pub Stops : {O : Type 0} → (O → InPlaceLoad → ℕ → O → Type 0) → ℕ → ℕ → AtTurns O → AtTurns O → Type 0
Stops chooses most count old new = ((count ≡ most) × (new ≡ old)) ⊎ (NoneIsNext chooses old new.order × (new ≡ record old { order = new.order }))

-- The effect of a pump of at most `most` turns. With Ok the verdict is the load's. With Err the
-- last turn failed.
abbrev pub Pumps : {O : Type 0} → (O → InPlaceLoad → ℕ → O → Type 0) → ℕ → Result Verdict TurnFault → AtTurns O → AtTurns O → Type 0
Pumps chooses most (Ok verdict) old new = (turns : List (Source × Turn)) × (mid : AtTurns _)
    × TakeTurns chooses turns old mid × (length turns ≤ most) × Stops chooses most (length turns) mid new × (verdict ≡ new.load.verdict)
Pumps chooses most (Err fault) old new = (turns : List (Source × Turn)) × (mid : AtTurns _) × (from : Source)
    × TakeTurns chooses turns old mid × (length turns < most) × TakesTurn chooses from (Err fault) mid new

-- ---- the bytes of a source

-- a source's bytes that a load took, and how many it counts
pub record Came : Type 0 where
  pub text : Text
  pub count : Count

abbrev pub came_in : {O : Type 0} → AtTurns O → Texts → Source → Came
came_in t texts from = record { text = text_of texts from; count = count_of (counts_of t.load.sources) from }

-- It was ended since its input was at its end, and all of it was taken.
pub record IsOver (old new : Came) (after : KeptSource) : Type 0 where
  pub was_open : IsFalse old.count.ended
  pub is_ended : (new.text.ended ≡ true) × (new.count.ended ≡ true)
  pub none_wait : after.waiting ≡ []
  pub is_at_end : IsAtEnd after.remaining

-- Its reader gave some bytes, and the load took some. The waiting bytes are those that were read
-- and not taken, and no more than a piece. A source that was ended stays as it is.
pub record ComesTo (before after : KeptSource) (old new : Came) : Type 0 where
  pub read : List ℕ
  pub taken : List ℕ
  pub is_read : Consumes before.remaining after.remaining read
  pub none_lost : before.waiting ++ read ≡ taken ++ after.waiting
  pub is_taken : new.text.bytes ≡ old.text.bytes ++ taken
  pub is_counted : new.count.fed ≡ old.count.fed + length taken
  pub is_few : length before.waiting ≤ piece_limit → length after.waiting ≤ piece_limit
  pub ends : ((new.text.ended ≡ old.text.ended) × (new.count.ended ≡ old.count.ended)) ⊎ IsOver old new after
  pub stays : IsTrue old.count.ended → (after ≡ before) × (new ≡ old)

-- This holds of all sources of a load, which represented some streams and then represents others.
pub record HaveCome {O : Type 0} (old new : AtTurns O) (before after : Texts) : Type 0 where
  pub same_sources : length new.sources ≡ length old.sources
  pub same_channels : length after.channels ≡ length before.channels
  pub comes : (from : Source) → ComesTo (source_in old.sources from) (source_in new.sources from) (came_in old before from) (came_in new after from)

-- A main stream, whose last bytes are those taken of its source's last piece, wasn't closed before
-- them.
pub record EndsWithTaken (given : Settings) (text : List ℕ) (main : KeptSource) : Type 0 where
  pub before : List ℕ
  pub has_text : text ≡ before ++ main.taken
  pub was_open : HasClosedAt given before None

-- this holds of the main stream of a load into memory of a table
abbrev pub HasLastPiece : LoadSettings → Image → Texts → KeptSource → Type 0
HasLastPiece given first texts main = EndsWithTaken (main_of (for_table first.table given)) texts.main.bytes main

-- If the load represented some streams, it represents them with the bytes that were taken: no byte
-- that was read is lost, and none is taken twice. A main stream is closed by its last piece, if it
-- is closed.
abbrev pub KeepsBytes : {O : Type 0} → AtTurns O → AtTurns O → Type 0
KeepsBytes old new = (given : LoadSettings) (uuid : List ℕ) (first : Image) (texts : Texts) → StandsFor given uuid first texts old.memory old.load
    → (after : Texts) × HaveCome old new texts after × StandsFor given uuid first after new.memory new.load
    × (HasLastPiece given first texts (source_in old.sources source.Main) → HasLastPiece given first after (source_in new.sources source.Main))

-- ---- the bytes behind the main stream's end

-- These bytes of a main stream's source were read behind its end: those that were taken, and those
-- that wait. There are none before it is closed.
abbrev pub HasBehind : Settings → List ℕ → KeptSource → Option (List ℕ) → Type 0
HasBehind given text main None = HasClosedAt given text None
HasBehind given text main (Some rest) = (n : ℕ) × IsClosedAt given text n × (rest ≡ drop n text ++ main.waiting)

-- ---- an order of all sources

-- the number after the one that was chosen last, among the main stream and the channels
abbrev pub next_after : Option ℕ → ℕ → ℕ
next_after None channels = 0
next_after (Some last) channels = if nat_lt last channels then last + 1 else 0

-- All sources have their turns one after another, and the main stream after the last channel.
pub record IsInTurn (before : Option ℕ) (load : InPlaceLoad) (number : ℕ) (after : Option ℕ) : Type 0 where
  pub is_next : number ≡ next_after before (length (counts_of load.sources).channels)
  pub is_last : after ≡ Some number
