-- How a session advances: its load begins once the table is known, takes what it can, and ends
-- sources; and the verdict is told.
use Rattle.std.proofs.Common.{ℕ, zero, suc, ◌≡◌, true, false, List, [], ◌∷◌, ◌++◌, length, map, set, get_or, refl, sym, ap, subst, ◌∙◌, Option, Some, None}
use Rattle.std.proofs.Common.{arith}
use Rattle.std.specs.Prelude.{is_some}
use Rattle.std.specs.List.{range_with_len}
use Rattle.std.specs.Option.{option_map}
use Rattle.std.proofs.lemmas.List.{length-map, get_or-map}
use Rattle.std.proofs.lemmas.List.Elements.{All-head}
use Rattle.mig_mem.specs.PageSize.{IsPageSize}
use Rattle.mig_mem.specs.RamTable.{RamTable}
use Rattle.mig_mem.specs.Round.{after}
use Rattle.mig_stream.specs.Reader.{HasTable}
use Rattle.mig_stream.proofs.Limits.{limits_law}
use Rattle.mig_load_types.specs.Settings.{main_of}
use Rattle.mig_load_types.specs.declared.settings.LoadSettings.{LoadSettings}
use Rattle.mig_sources.specs.declared.source.Source.{Source}
use Rattle.mig_sources.specs.declared.source.Source.TheVariants as source
use Rattle.mig_sources.specs.Sources.{Counts, HasSource, count_in, counts_in, feed_step, end_step}
use Rattle.mig_sources.specs.Due.{IsDue}
use Rattle.mig_sources.proofs.Due.{due_sources, told_here}
use Rattle.mig_answer.specs.declared.verdict.Verdict.{Verdict}
use Rattle.mig_answer.specs.Status.{main_status, stream_end, is_whole}
use Rattle.mig_answer.specs.Texts.{Text, Texts, Readings, no_text, no_texts, with_piece, over as text_over}
use Rattle.mig_answer.specs.Rounds.{pages_at, missing_after}
use Rattle.mig_answer.specs.MultiLoad.{main_at, channels_at}
use Rattle.mig_answer.specs.Growing.{GoOn}
use Rattle.mig_answer.proofs.OneAnswer.{some_readings}
use Rattle.mig_answer.proofs.Judged.{IsWhole}
use Rattle.mig_answer.proofs.Statuses.{status_end, stream_ends}
use Rattle.mig_session.specs.Sources.{Waits, waiting_of, with_waiting, FedSources, Holds, TellsFirst}
use Rattle.mig_session.specs.Loading.{RoundLoad, Took, Feeding, fed, over, AllWait, Takes, TakesOrWaits, HasAloneIfAny, Settles}
use Rattle.mig_session.specs.Session.{Fed, LoadsWith, IsRunning}
use Rattle.mig_session.specs.Advancing.{IsMadeWith, IsTold, LoadsAfter}
use Rattle.mig_in_place.proofs.Turning.{texts_long}
use Rattle.mig_session.proofs.MainScanning.{no_rounds}
use Rattle.mig_session.proofs.Parts.{parts_first}
use Rattle.mig_session.proofs.Settling.{table_read, settles_told, takes_alone, alone_further}

-- ---- the load begins

-- a table has the page size that was passed
pub table_size : (given : LoadSettings) (text : List ℕ) (table : RamTable) → IsPageSize given.page_size → HasTable (main_of given) text (Some table)
    → table.page_size ≡ given.page_size
table_size given text table size has = (limits_law (main_of given) text has.0 size has.1).has_page_size table (sym has.2)

-- a load that is made takes the streams from their first bytes on
pub load_begins : (settings : LoadSettings) (uuid : List ℕ) (channels : ℕ) (f : Feeding) (w : Waits) (l : RoundLoad) (table : RamTable)
    → IsMadeWith settings uuid channels f
    → Took settings uuid (no_texts channels) l → l.load.table ≡ table → HasTable (main_of f.given) f.texts.main.bytes (Some table) → AllWait w f.texts
    → Takes f w l
load_begins settings uuid channels f w l table made took same has waits = record {
  taken = no_texts (length f.texts.channels);
  took = subst (λ (n : ℕ). Took f.given f.uuid (no_texts n) l) made.has_channels
      (subst (λ (u : List ℕ). Took f.given u (no_texts channels) l) made.has_uuid
      (subst (λ (g : LoadSettings). Took g uuid (no_texts channels) l) made.has_settings took));
  are_parts = parts_first w f.texts waits;
  has_table = subst (λ (t : RamTable). HasTable (main_of f.given) f.texts.main.bytes (Some t)) (sym same) has;
}

-- ---- before the table is known

-- the verdict of the sources is told
pub first_told : (f : Feeding) (s : FedSources) (v : Verdict) → IsPageSize f.given.page_size → Holds f.given f.uuid f.texts s
    → HasTable (main_of f.given) f.texts.main.bytes None → TellsFirst s (Some v) → IsTold f None v
first_told f s v size holds has told =
    let next = some_readings f.given f.uuid f.texts size in
    let readings : Readings = next.0 in
    let none : readings.main.table ≡ None = table_read f.given f.texts.main None readings.main size has next.1.has_main in
    let here = told_here 0 readings v (told f.given f.uuid f.texts readings size holds next.1 none) in
    record {
      readings = readings;
      are_readings = next.1;
      told = record {
        is_first_stop = record { before = λ j below. absurd (omega (arith, below)); here = here.0 };
        has_memory = sym (ap (option_map (λ (t : RamTable). after t (map (λ i. pages_at t i readings) (range_with_len 0 0)))) none);
        has_missing = sym (ap (option_map (λ (t : RamTable). missing_after t 0 readings)) none);
        has_verdict = here.1;
      };
    }

-- there is one, since the main stream has no round
pub never_due : (f : Feeding) (s : FedSources) → IsPageSize f.given.page_size → Holds f.given f.uuid f.texts s
    → HasTable (main_of f.given) f.texts.main.bytes None → TellsFirst s None → ⊥
never_due f s size holds has told =
    let next = some_readings f.given f.uuid f.texts size in
    let readings : Readings = next.0 in
    let none : readings.main.table ≡ None = table_read f.given f.texts.main None readings.main size has next.1.has_main in
    let due : IsDue 0 readings = sym (told f.given f.uuid f.texts readings size holds next.1 none) in
    let whole : is_whole (main_status 0 readings.main) ≡ true = All-head IsWhole (main_at 0 readings) (channels_at 0 readings) (due_sources 0 readings due).0 in
    let other : is_whole (main_status 0 readings.main) ≡ false =
    ap is_whole (status_end 0 (length readings.main.rounds) (stream_end readings.main.state)
    (no_rounds f.given f.texts.main readings.main size next.1.has_main none))
    ∙ stream_ends readings.main.state in
    absurd cc

-- ---- bytes that all wait

mapped_set : (texts : List Text) (j : ℕ) (x : Text) → map (λ (t : Text). t.bytes) (set texts j x) ≡ set (map (λ (t : Text). t.bytes) texts) j x.bytes
mapped_set [] j x = refl
mapped_set (t ∷ texts) zero x = refl
mapped_set (t ∷ texts) (suc j) x = ap (λ (l : List (List ℕ)). t.bytes ∷ l) (mapped_set texts j x)

-- a piece waits behind them
pub all_pushed : (from : Source) (piece : List ℕ) (w : Waits) (texts : Texts) → HasSource (counts_in texts) from → AllWait w texts
    → AllWait (with_waiting from (waiting_of w from ++ piece) w) (feed_step from piece texts)
all_pushed source.Main piece w texts there all = record { main = ap (λ (l : List ℕ). l ++ piece) all.main; channels = all.channels }
all_pushed (source.Channel j) piece w texts there all =
    let text : Text = get_or texts.channels j no_text in
    let here : get_or w.channels j [] ≡ text.bytes =
    ap (λ (l : List (List ℕ)). get_or l j []) all.channels
    ∙ get_or-map (λ (t : Text). t.bytes) texts.channels j no_text [] (omega (arith, there, length-map texts.channels count_in)) in
    record {
      main = all.main;
      channels = ap (λ (l : List ℕ). set w.channels j (l ++ piece)) here ∙ ap (λ (l : List (List ℕ)). set l j (text.bytes ++ piece)) all.channels
          ∙ sym (mapped_set texts.channels j (with_piece piece text));
    }

same_bytes : (texts : List Text) (j : ℕ) → map (λ (t : Text). t.bytes) (set texts j (text_over (get_or texts j no_text))) ≡ map (λ (t : Text). t.bytes) texts
same_bytes [] j = refl
same_bytes (t ∷ texts) zero = refl
same_bytes (t ∷ texts) (suc j) = ap (λ (l : List (List ℕ)). t.bytes ∷ l) (same_bytes texts j)

-- a source ends
all_over : (from : Source) (w : Waits) (texts : Texts) → AllWait w texts → AllWait w (end_step from texts)
all_over source.Main w texts all = record { main = all.main; channels = all.channels }
all_over (source.Channel j) w texts all = record { main = all.main; channels = all.channels ∙ sym (same_bytes texts.channels j) }

table_none_over : (from : Source) (f : Feeding) → HasTable (main_of f.given) f.texts.main.bytes None
    → HasTable (main_of f.given) (end_step from f.texts).main.bytes None
table_none_over source.Main f has = has
table_none_over (source.Channel j) f has = has

-- before the load a source ends
pub ends_waiting : (f : Feeding) (w : Waits) (from : Source) (verdict : Verdict) → LoadsWith f w None verdict → LoadsAfter (over from f) w None
ends_waiting f w from verdict loads = (all_over from w f.texts loads.0, table_none_over from f loads.1)

-- ---- a load or none

-- what a load has of streams whose bytes it takes, or which all wait
pub takes_of : (f : Feeding) (w : Waits) (load : Option RoundLoad) (verdict : Verdict) → LoadsWith f w load verdict → TakesOrWaits f w load
takes_of f w None verdict loads = loads.0
takes_of f w (Some l) verdict loads = loads.0.takes

-- if it settled, it runs on
pub ran_on : (f : Feeding) (fed : Fed) (load : Option RoundLoad) (l : RoundLoad) (verdict : Verdict) → IsPageSize f.given.page_size → load ≡ Some l
    → verdict ≡ l.load.verdict
    → Holds f.given f.uuid f.texts fed.read → Settles f fed.waiting l → IsRunning f load verdict fed × IsTold f load verdict
ran_on f fed load l verdict size some same holds s =
    rw some (
      record { holds = holds; loads = (s, same) },
      subst (λ (v : Verdict). IsTold f (Some l) v) (sym same) (settles_told f fed.waiting l size s),
    )

-- and so do streams without a table
pub waited_on : (f : Feeding) (fed : Fed) (load : Option RoundLoad) (verdict : Verdict) → load ≡ None → Holds f.given f.uuid f.texts fed.read
    → AllWait fed.waiting f.texts → HasTable (main_of f.given) f.texts.main.bytes None → IsTold f None verdict
    → IsRunning f load verdict fed × IsTold f load verdict
waited_on f fed load verdict none holds all has told = rw none (record { holds = holds; loads = (all, has) }, told)

-- the rounds of a load that takes the streams
pub alone_if_any : (f : Feeding) (w : Waits) (load : Option RoundLoad) → IsPageSize f.given.page_size → TakesOrWaits f w load → HasAloneIfAny f load
alone_if_any f w None size takes = tt
alone_if_any f w (Some l) size takes = takes_alone f w l size takes

-- they stay if the streams go on
pub alone_on : (f : Feeding) (texts : Texts) (load : Option RoundLoad) → IsPageSize f.given.page_size → GoOn f.texts texts → HasAloneIfAny f load
    → HasAloneIfAny (record f { texts = texts }) load
alone_on f texts None size goes a = tt
alone_on f texts (Some l) size goes a = alone_further f (record f { texts = texts }) l size refl refl goes a

-- a session with one more piece was made as before
pub made_next : (settings : LoadSettings) (uuid : List ℕ) (counts : Counts) (from : Source) (piece : List ℕ) (f : Feeding) (channels : ℕ)
    → IsMadeWith settings uuid (length counts.channels) f → channels ≡ length counts.channels → IsMadeWith settings uuid channels (fed from piece f)
made_next settings uuid counts from piece f channels made same =
    let many : length (feed_step from piece f.texts).channels ≡ length f.texts.channels = texts_long from (with_piece piece) f.texts in
    record {
      has_settings = made.has_settings;
      has_uuid = made.has_uuid;
      has_channels = same ∙ made.has_channels ∙ sym many;
      is_of_session = record {
        is_page_size = made.is_of_session.is_page_size;
        has_limit = made.is_of_session.has_limit;
        has_channel = omega (arith, many, made.is_of_session.has_channel);
        has_few = omega (arith, many, made.is_of_session.has_few);
      };
    }

-- ---- options

pub none_there : {X : Type 0} (o : Option X) → is_some o ≡ false → o ≡ None
none_there None e = refl
none_there (Some x) e = absurd cc
