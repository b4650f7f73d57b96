-- A load into blocks of C, of each kind: what each call does is what it does for its kind.
use Rattle.std.specs.Prelude.{◌≡◌, ◌≢◌, ℕ, Bool, List, [], length, IsFalse, Option, None, Some, ⊤}
use Rattle.mig_mem.specs.RamTable.{RamTable}
use Rattle.mig_mem.specs.PlaceSet.{PlaceSet}
use Rattle.mig_single_load.specs.LoadInPlace.{LoadInPlace}
use Rattle.mig_sources.specs.declared.source.Source.{Source}
use Rattle.mig_sources.specs.declared.source.Source.TheVariants as source
use Rattle.mig_sections.specs.Sections.{SectionsLoad}
use Rattle.mig_apart.specs.Claims.{ApartLoad}
use Rattle.mig_c_calls.specs.Status.{done, bad_source, out_of_turn}
use Rattle.mig_c_loads.specs.declared.settings.AskedSettings.{AskedSettings}
use Rattle.mig_c_loads.specs.declared.load.Load.{Load}
use Rattle.mig_c_loads.specs.declared.load.Load.TheVariants as load
use Rattle.mig_c_loads.specs.declared.fault.FoundFault.{FoundFault}
use Rattle.mig_c_loads.specs.declared.claimed_pages.ClaimedPages.{ClaimedPages}
use Rattle.mig_c_loads.specs.declared.next_bytes.NextBytes.{NextBytes}
use Rattle.mig_c_loads.specs.Frames.{waiting_of, are_zeros}
use Rattle.mig_c_loads.specs.Found.{seen_of_verdict}
use Rattle.mig_c_loads.specs.ZeroBlocks.{filled_at_first}
use Rattle.mig_c_loads.specs.InPlace as stream
use Rattle.mig_c_loads.specs.NextBytes.{TellsNext, TakesPage, FillsPage}
use Rattle.mig_c_loads.specs.BySections as sections
use Rattle.mig_c_loads.specs.BySections.{OpensSections, FeedsSections, EndsSections, TakesSections}
use Rattle.mig_c_loads.specs.OneStream.{FeedsOne, EndsOne, CountsOne, TakesOne, ValidOne, FaultOne, AllInOne}
use Rattle.mig_c_loads.specs.InPlaceSessions.{TellsTaken, TellsTakes, TellsClosedAt, TellsValidUpTo, TellsFault, TellsAllRounds, TellsMissing}
use Rattle.mig_c_loads.specs.Apart.{OpensApart, ClaimsHead, TakesHead, FillsTaken, FeedsApart, EndsApart}
use Rattle.mig_c_loads.specs.ByRounds.{RoundsLoad, OpensRounds, FeedsRounds, EndsRounds, ClaimsNone, TakesNone}

-- ---- the load of each kind

abbrev pub one_of : Option Load → Option LoadInPlace
one_of None = None
one_of (Some (load.One x)) = Some x.load
one_of (Some (load.Sections x)) = None
one_of (Some (load.Several x)) = None
one_of (Some (load.Rounds x)) = None

abbrev pub sections_of : Option Load → Option SectionsLoad
sections_of None = None
sections_of (Some (load.One x)) = None
sections_of (Some (load.Sections x)) = Some x.load
sections_of (Some (load.Several x)) = None
sections_of (Some (load.Rounds x)) = None

abbrev pub several_of : Option Load → Option ApartLoad
several_of None = None
several_of (Some (load.One x)) = None
several_of (Some (load.Sections x)) = None
several_of (Some (load.Several x)) = Some x.load
several_of (Some (load.Rounds x)) = None

abbrev pub rounds_of : Option Load → Option RoundsLoad
rounds_of None = None
rounds_of (Some (load.One x)) = None
rounds_of (Some (load.Sections x)) = None
rounds_of (Some (load.Several x)) = None
rounds_of (Some (load.Rounds x)) = Some x.load

-- the pages that may hold something else than zeros, of a load into blocks that were zeros
abbrev pub filled_of : Load → Option PlaceSet
filled_of (load.One x) = x.filled
filled_of (load.Sections x) = x.filled
filled_of (load.Several x) = x.filled
filled_of (load.Rounds x) = x.filled

-- ---- `new`

-- The effect of `new`, with a table: the load is of the kind that the number of channels and the
-- setting `whole_rounds` ask for.
pub record OpensLoad (table : RamTable) (uuid : List ℕ) (channels : ℕ) (asked : AskedSettings) (status : ℕ) (made : Option Load) : Type 0 where
  pub one : channels ≡ 0 → asked.whole_rounds ≡ 0 → stream.OpensInPlace (Some table) asked.frame (waiting_of asked.waiting) status (one_of made)
  pub sections : channels ≡ 0 → asked.whole_rounds ≢ 0 → OpensSections table asked.frame (waiting_of asked.waiting) status (sections_of made)
  pub several : channels ≢ 0 → asked.whole_rounds ≡ 0
      → OpensApart (Some table) uuid channels asked.frame (waiting_of asked.waiting) asked.round_end status (several_of made)
  pub rounds : channels ≢ 0 → asked.whole_rounds ≢ 0
      → OpensRounds (Some table) uuid channels asked.frame (waiting_of asked.waiting) asked.round_end status (rounds_of made)
  pub filled : (l : Load) → made ≡ Some l → filled_of l ≡ filled_at_first (are_zeros asked.zero_blocks) table

-- ---- calls that change it

-- the same kind before and after
abbrev pub Feeds : Source → List ℕ → List (List ℕ) → List (List ℕ) → ℕ → ℕ → Load → Load → Type 0
Feeds from piece before after taken status (load.One old) (load.One new) = FeedsOne from piece before after taken status old.load new.load
Feeds from piece before after taken status (load.Sections old) (load.Sections new) = FeedsSections from piece before after taken status old.load new.load
Feeds from piece before after taken status (load.Several old) (load.Several new) = FeedsApart from piece before after taken status old.load new.load
Feeds from piece before after taken status (load.Rounds old) (load.Rounds new) = FeedsRounds from piece before after taken status old.load new.load
Feeds from piece before after taken status old new = ⊥

abbrev pub Ends : Source → ℕ → Load → Load → Type 0
Ends from status (load.One old) (load.One new) = EndsOne from status old.load new.load × (new.filled ≡ old.filled)
Ends from status (load.Sections old) (load.Sections new) = EndsSections from status old.load new.load × (new.filled ≡ old.filled)
Ends from status (load.Several old) (load.Several new) = EndsApart from status old.load new.load × (new.filled ≡ old.filled)
Ends from status (load.Rounds old) (load.Rounds new) = EndsRounds from status old.load new.load × (new.filled ≡ old.filled)
Ends from status old new = ⊥

-- Of one stream alone, each page of which goes to its place as it comes, C reads the next page
-- there.
abbrev pub ReadsPage : List (List ℕ) → ℕ → Load → Load → Type 0
ReadsPage blocks status (load.One old) (load.One new) = TakesPage blocks status old.load new.load × FillsPage status old.load old.filled new.filled
ReadsPage blocks status (load.Sections old) (load.Sections new) = (status ≡ out_of_turn) × (new ≡ old)
ReadsPage blocks status (load.Several old) (load.Several new) = (status ≡ out_of_turn) × (new ≡ old)
ReadsPage blocks status (load.Rounds old) (load.Rounds new) = (status ≡ out_of_turn) × (new ≡ old)
ReadsPage blocks status old new = ⊥

-- Of several channels C reads the pages of a packet to their places, where each page goes there as
-- it comes.
abbrev pub Claims : ℕ → List ℕ → ℕ → ClaimedPages → ClaimedPages → Load → Load → Type 0
Claims channel head status before after (load.One old) (load.One new) = (status ≡ bad_source) × (new ≡ old) × (after ≡ before)
Claims channel head status before after (load.Sections old) (load.Sections new) = (status ≡ bad_source) × (new ≡ old) × (after ≡ before)
Claims channel head status before after (load.Several old) (load.Several new) =
    ClaimsHead channel head status before after old.filled old.load new.load × (new.filled ≡ old.filled)
Claims channel head status before after (load.Rounds old) (load.Rounds new) = ClaimsNone (source.Channel channel) status old.load × (new ≡ old) × (after ≡ before)
Claims channel head status before after old new = ⊥

abbrev pub Takes : ℕ → List ℕ → List (List ℕ) → ℕ → Load → Load → Type 0
Takes channel head contents status (load.One old) (load.One new) = (status ≡ bad_source) × (new ≡ old)
Takes channel head contents status (load.Sections old) (load.Sections new) = (status ≡ bad_source) × (new ≡ old)
Takes channel head contents status (load.Several old) (load.Several new) =
    TakesHead channel head contents status old.load new.load × FillsTaken head status old.load old.filled new.filled
Takes channel head contents status (load.Rounds old) (load.Rounds new) = TakesNone (source.Channel channel) status old.load × (new ≡ old)
Takes channel head contents status old new = ⊥

-- ---- calls that tell how it stands

abbrev pub TellsTakesOf : Source → Bool → Load → Type 0
TellsTakesOf from told (load.One x) = TakesOne from told x.load
TellsTakesOf from told (load.Sections x) = TakesSections from told x.load
TellsTakesOf from told (load.Several x) = TellsTakes from told x.load.load
TellsTakesOf from told (load.Rounds x) = TellsTakes from told x.load.load

abbrev pub TellsWanted : Bool → NextBytes → NextBytes → Load → Type 0
TellsWanted told before after (load.One x) = TellsNext told before after x.load
TellsWanted told before after (load.Sections x) = IsFalse told × (after ≡ before)
TellsWanted told before after (load.Several x) = IsFalse told × (after ≡ before)
TellsWanted told before after (load.Rounds x) = IsFalse told × (after ≡ before)

abbrev pub TellsClaimed : ℕ → Load → Type 0
TellsClaimed count (load.One x) = count ≡ 0
TellsClaimed count (load.Sections x) = count ≡ 0
TellsClaimed count (load.Several x) = count ≡ length x.load.claimed.marked
TellsClaimed count (load.Rounds x) = count ≡ 0

abbrev pub TellsVerdict : FoundFault → Load → Type 0
TellsVerdict found (load.One x) = stream.TellsVerdict found x.load
TellsVerdict found (load.Sections x) = sections.TellsVerdict found x.load
TellsVerdict found (load.Several x) = found ≡ seen_of_verdict x.load.load.rounds x.load.load.verdict
TellsVerdict found (load.Rounds x) = found ≡ seen_of_verdict x.load.load.rounds x.load.load.verdict

abbrev pub TellsFaultOf : Source → ℕ → FoundFault → FoundFault → Load → Type 0
TellsFaultOf from status before after (load.One x) = FaultOne from status before after x.load
TellsFaultOf from status before after (load.Sections x) = sections.TellsFaultOf from status before after x.load
TellsFaultOf from status before after (load.Several x) = TellsFault from status before after x.load.load
TellsFaultOf from status before after (load.Rounds x) = TellsFault from status before after x.load.load

abbrev pub TellsAllIn : Bool → Load → Type 0
TellsAllIn told (load.One x) = AllInOne told x.load
TellsAllIn told (load.Sections x) = sections.TellsAllIn told x.load
TellsAllIn told (load.Several x) = TellsAllRounds told x.load.load
TellsAllIn told (load.Rounds x) = TellsAllRounds told x.load.load

abbrev pub TellsRounds : ℕ → Load → Type 0
TellsRounds count (load.One x) = count ≡ x.load.rounds
TellsRounds count (load.Sections x) = count ≡ x.load.sections
TellsRounds count (load.Several x) = count ≡ x.load.load.rounds
TellsRounds count (load.Rounds x) = count ≡ x.load.load.rounds

abbrev pub TellsMissingOf : ℕ → Load → Type 0
TellsMissingOf count (load.One x) = stream.TellsMissing count x.load
TellsMissingOf count (load.Sections x) = sections.TellsMissing count x.load
TellsMissingOf count (load.Several x) = TellsMissing count x.load.load
TellsMissingOf count (load.Rounds x) = TellsMissing count x.load.load

abbrev pub TellsFed : Source → ℕ → Load → Type 0
TellsFed from count (load.One x) = CountsOne from count x.load.fed
TellsFed from count (load.Sections x) = CountsOne from count x.load.fed
TellsFed from count (load.Several x) = TellsTaken from count x.load.load
TellsFed from count (load.Rounds x) = TellsTaken from count x.load.load

abbrev pub TellsClosed : ℕ → ℕ → ℕ → Load → Type 0
TellsClosed status before after (load.One x) = stream.TellsClosedAt status before after x.load
TellsClosed status before after (load.Sections x) = sections.TellsClosedAt status before after x.load
TellsClosed status before after (load.Several x) = TellsClosedAt status before after x.load.load
TellsClosed status before after (load.Rounds x) = TellsClosedAt status before after x.load.load

abbrev pub TellsValid : Source → Bool → ℕ → ℕ → Load → Type 0
TellsValid from told before after (load.One x) = ValidOne from told before after x.load
TellsValid from told before after (load.Sections x) = sections.TellsValidUpTo from told before after x.load
TellsValid from told before after (load.Several x) = TellsValidUpTo from told before after x.load.load
TellsValid from told before after (load.Rounds x) = TellsValidUpTo from told before after x.load.load
