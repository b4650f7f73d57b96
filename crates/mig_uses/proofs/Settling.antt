-- The verdict on a stream stays, once the stream is complete or refused.
use Rattle.std.proofs.Common.{ℕ, ◌≡◌, ◌≢◌, List, ◌++◌, length, refl, sym, ap, ◌∙◌, inl, inr, Option, Some, None}
use Rattle.std.specs.Prelude.{Result, Ok, Err, ⊤}
use Rattle.mig_mem.specs.PageSize.{IsPageSize}
use Rattle.mig_mem.specs.RamTable.{RamTable}
use Rattle.mig_stream.specs.declared.item.StreamState.{StreamState}
use Rattle.mig_stream.specs.declared.item.StreamState.TheVariants.{Reading, Closed, Bad}
use Rattle.mig_stream.specs.declared.fault.StreamFault.TheVariants.{Truncated}
use Rattle.mig_stream.specs.Reading.{StreamReading}
use Rattle.mig_stream.specs.Law.{HasOneReading, LongerTextsStay}
use Rattle.mig_load_types.specs.Settings.{single_of}
use Rattle.mig_load_types.specs.declared.settings.LoadSettings.{LoadSettings}
use Rattle.mig_load_types.specs.declared.fault.LoadFault.{LoadFault}
use Rattle.mig_load_types.specs.declared.fault.Fault.TheVariants.{Stream}
use Rattle.mig_single_load.specs.SingleLoad.{memory_after, verdict_of, at_main}
use Rattle.mig_single_load.specs.Loader.{Loader, memory_of, HasAllSections, Waits, HasVerdict, Judges}

-- ---- the verdict is the stream's own

-- a loader that waits for memory hasn't all sections
never_waits : HasOneReading → (given : LoadSettings) (l : Loader) (text : List ℕ) → IsPageSize given.page_size
    → HasAllSections given l text → Waits given l text → ⊥
never_waits law given l text size all waits =
    let one = law (single_of given) text size in
    let has = waits.has_table in
    let same : all.reading ≡ has.0 = one.2 all.reading all.is_reading ∙ sym (one.2 has.0 has.1) in
    let table : all.reading.table ≡ Some waits.table = ap (λ (r : StreamReading). r.table) same ∙ sym has.2 in
    let some = all.has_memory ∙ ap (λ (t : Option RamTable). memory_after given.page_size t all.reading.rounds) table in
    let none : memory_of l ≡ None = ap (λ t. memory_of (record l { target = t })) waits.has_no_memory in
    absurd cc

-- the verdict of a loader that has all sections of its stream is the stream's own
pub own_verdict : HasOneReading → (given : LoadSettings) (l : Loader) (text : List ℕ) (v : Result ⊤ LoadFault)
    → IsPageSize given.page_size → HasAllSections given l text
    → Judges given l text v → HasVerdict given text v
own_verdict law given l text v size all (inl own) = own.1
own_verdict law given l text v size all (inr want) = absurd (never_waits law given l text size all want.0)

-- ---- what stays

-- once a stream is closed or bad, its verdict stays
settled : HasOneReading → LongerTextsStay → (given : LoadSettings) (text : List ℕ) (v : Result ⊤ LoadFault)
    → IsPageSize given.page_size → (told : HasVerdict given text v)
    → told.reading.state ≢ Reading → (more : List ℕ) → HasVerdict given (text ++ more) v
settled law stay given text v size told over more =
    let next = law (single_of given) (text ++ more) size in
    let same : next.0 ≡ told.reading = (stay (single_of given) text more told.reading next.0 size told.is_reading next.1).same_once_over over in
    record {
      reading = next.0;
      is_reading = next.1;
      is_verdict = told.is_verdict ∙ sym (ap (λ (r : StreamReading). verdict_of (length r.rounds) r.state) same);
    }

not_ok : (n : ℕ) (state : StreamState) (x : ⊤) → Ok x ≡ verdict_of n state → state ≢ Reading
not_ok n state x is reading = let bad : verdict_of n state ≡ at_main n (Stream Truncated) = ap (verdict_of n) reading in absurd cc

-- a stream whose verdict is Ok has this verdict whatever bytes follow it
pub whole_stays : HasOneReading → LongerTextsStay → (given : LoadSettings) (text : List ℕ) (x : ⊤) → IsPageSize given.page_size → HasVerdict given text (Ok x)
    → (more : List ℕ) → HasVerdict given (text ++ more) (Ok x)
whole_stays law stay given text x size told =
    settled law stay given text (Ok x) size told (not_ok (length told.reading.rounds) told.reading.state x told.is_verdict)

same_fault : (e f : LoadFault) → (let a : Result ⊤ LoadFault = Err e in a) ≡ Err f → e ≡ f
same_fault e f is = cc

not_truncated : (n : ℕ) (state : StreamState) (e : LoadFault) → Err e ≡ verdict_of n state → e.fault ≢ Stream Truncated → state ≢ Reading
not_truncated n state e is other reading =
    let bad : verdict_of n state ≡ at_main n (Stream Truncated) = ap (verdict_of n) reading in
    absurd (other (ap (λ (f : LoadFault). f.fault) (same_fault e _ (is ∙ bad))))

-- a stream whose verdict is a fault but Truncated has this verdict whatever bytes follow it
pub refused_stays : HasOneReading → LongerTextsStay → (given : LoadSettings) (text : List ℕ) (e : LoadFault)
    → IsPageSize given.page_size → HasVerdict given text (Err e)
    → e.fault ≢ Stream Truncated → (more : List ℕ) → HasVerdict given (text ++ more) (Err e)
refused_stays law stay given text e size told other =
    settled law stay given text (Err e) size told (not_truncated (length told.reading.rounds) told.reading.state e told.is_verdict other)

-- ---- what is still coming

cut_short : (n : ℕ) (state : StreamState) (e : LoadFault) → Err e ≡ verdict_of n state → e.fault ≡ Stream Truncated
    → at_main n (Stream Truncated) ≡ verdict_of n state
cut_short n Closed e is same = absurd cc
cut_short n Reading e is same = refl
cut_short n (Bad f) e is same =
    let fault : e.fault ≡ Stream f = ap (λ (x : LoadFault). x.fault) (same_fault e _ is) in
    ap (λ x. at_main n x) (sym same ∙ fault)

-- a verdict with the fault Truncated is this fault of the main stream, after some rounds
pub coming : (given : LoadSettings) (text : List ℕ) (e : LoadFault) → HasVerdict given text (Err e) → e.fault ≡ Stream Truncated
    → (rounds : ℕ) × HasVerdict given text (at_main rounds (Stream Truncated))
coming given text e told same = (
  length told.reading.rounds,
  record {
    reading = told.reading;
    is_reading = told.is_reading;
    is_verdict = cut_short (length told.reading.rounds) told.reading.state e told.is_verdict same;
  },
)
