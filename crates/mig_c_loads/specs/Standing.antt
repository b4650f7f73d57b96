-- What C reads of a load: how it stands, and how much it has of a source.
use Rattle.std.specs.Prelude.{◌≡◌, ◌↔◌, ℕ, Bool, true, false, IsTrue}
use Rattle.mig_sources.specs.declared.source.Source.{Source}
use Rattle.mig_c_calls.specs.Status.{done}
use Rattle.mig_c_loads.specs.declared.load.Load.{Load}
use Rattle.mig_c_loads.specs.declared.standing.Standing.{Standing}
use Rattle.mig_c_loads.specs.declared.standing.SourceBytes.{SourceBytes}
use Rattle.mig_c_loads.specs.Loads.{TellsClaimed, TellsAllIn, TellsRounds, TellsMissingOf, TellsFed, TellsClosed, TellsValid}

-- an answer, as C reads it
abbrev pub flag : Bool → ℕ
flag true = 1
flag false = 0

-- C reads how a load stands: its rounds, the pages that nothing named, those that are claimed,
-- whether all rounds are in, and the bytes of the main stream, once it is closed, before that 0.
pub record TellsStanding (seen : Standing) (l : Load) : Type 0 where
  pub rounds : TellsRounds seen.rounds l
  pub missing : TellsMissingOf seen.missing l
  pub claimed : TellsClaimed seen.claimed l
  pub all_in : Bool
  pub says_all_in : TellsAllIn all_in l
  pub is_all_in : seen.has_all_rounds ≡ flag all_in
  pub status : ℕ
  pub says_closed : TellsClosed status 0 seen.closed_at l
  pub closed : Bool
  pub is_closed : seen.is_closed ≡ flag closed
  pub is_done : IsTrue closed ↔ status ≡ done

-- C reads how many bytes of a source were taken, and how many of them are complete items without a
-- fault, if it is known, else 0.
pub record TellsSource (from : Source) (seen : SourceBytes) (l : Load) : Type 0 where
  pub fed : TellsFed from seen.fed l
  pub known : Bool
  pub says_valid : TellsValid from known 0 seen.valid_up_to l
  pub is_known : seen.is_known ≡ flag known
