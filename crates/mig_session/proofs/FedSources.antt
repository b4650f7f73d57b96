-- What a session's sources say together, and what is noted of each.
use Rattle.std.proofs.Common.{ℕ, suc, ◌≡◌, ◌+◌, ◌≤◌, Bool, true, false, List, [], ◌∷◌, ◌++◌, length, map, set, get_or, refl, sym, ap, subst, ◌∙◌, Option, Some}
use Rattle.std.proofs.Common.{None, arith}
use Rattle.std.specs.Prelude.{◌&&◌, ◌↔◌, IsTrue, slice_get, Result, Ok, Err, IfOk, OnOk, OnErr}
use Rattle.std.specs.List.{All, AllZip, enumerate_from, list_all}
use Rattle.std.proofs.lemmas.Bool.{and_parts}
use Rattle.std.proofs.lemmas.List.{set_past, length-set, length-map}
use Rattle.std.proofs.lemmas.Option.{slice_get_read}
use Rattle.std.proofs.lemmas.List.Elements.{All-nil, All-cons, All-head, All-tail}
use Rattle.mig_mem.specs.PageSize.{IsPageSize}
use Rattle.mig_mem.specs.First.{first_some}
use Rattle.mig_stream.specs.Reader.{HasClosedAt}
use Rattle.mig_packet.specs.Reading.{Settings, ChannelReading, IsReading}
use Rattle.mig_load_types.specs.Settings.{main_of, channel_of}
use Rattle.mig_load_types.specs.declared.settings.LoadSettings.{LoadSettings}
use Rattle.mig_load_types.specs.declared.fault.Origin.TheVariants as origin
use Rattle.mig_session.specs.declared.places.Noted.{Noted}
use Rattle.mig_answer.specs.declared.status.Status.{Status}
use Rattle.mig_answer.specs.declared.verdict.Verdict.{Verdict}
use Rattle.mig_sources.specs.declared.source.Source.TheVariants as source
use Rattle.mig_answer.specs.Status.{main_status, channel_status}
use Rattle.mig_answer.specs.Texts.{Text, Texts, no_text}
use Rattle.mig_answer.specs.MultiLoad.{Standing, main_standing, main_at, channels_at, hello_ids, repeated_hello, sources_verdicts}
use Rattle.mig_answer.specs.Told.{standings}
use Rattle.mig_sources.specs.Sources.{HasSource, count_in, counts_in, at_source}
use Rattle.mig_sources.proofs.Zips.{zip_set, zip_at, zip_here}
use Rattle.mig_session.specs.Scan.{MainScan, ScansMain, SaysMain, IsClosedAfter, Scan, Scans, TellsFirstStatus, TellsHello, HasOnly, TellsOnly}
use Rattle.mig_session.specs.Sources.{Places, FedSources, Holds, TellsFirst}
use Rattle.mig_session.specs.Session.{IsNotedOfMain, IsNotedOfChannel, HasPlaces, TellAllIn}

-- ---- one place of two lists

-- a place that there isn't
pub set_beyond : (ns : List Noted) (j : ℕ) (n : Noted) → length ns ≤ j → set ns j n ≡ ns
set_beyond ns j n le = set_past ns j n le

-- ---- the verdict before the table is known

statuses_are : (given : Settings) (texts : List Text) (readings : List ChannelReading) (channels : List Scan) (statuses : List Status)
    → IsPageSize given.page_size
    → AllZip (Scans given) texts channels
    → AllZip (λ (text : Text) (reading : ChannelReading). IsReading given text.bytes text.ended reading) texts readings
    → AllZip TellsFirstStatus channels statuses → statuses ≡ map (channel_status 0) readings
statuses_are given [] [] [] [] size holds are told = refl
statuses_are given [] readings (c ∷ channels) statuses size holds are told = absurd holds
statuses_are given [] (r ∷ readings) channels statuses size holds are told = absurd are
statuses_are given [] [] [] (s ∷ statuses) size holds are told = absurd told
statuses_are given (text ∷ texts) readings [] statuses size holds are told = absurd holds
statuses_are given (text ∷ texts) [] (c ∷ channels) statuses size holds are told = absurd are
statuses_are given (text ∷ texts) (r ∷ readings) (c ∷ channels) [] size holds are told = absurd told
statuses_are given (text ∷ texts) (r ∷ readings) (c ∷ channels) (s ∷ statuses) size holds are told =
    ap (λ (x : Status). x ∷ statuses) (told.0 given text r size holds.0 are.0)
    ∙ ap (λ (l : List Status). channel_status 0 r ∷ l) (statuses_are given texts readings channels statuses size holds.1 are.1 told.1)

hellos_are : (given : Settings) (texts : List Text) (readings : List ChannelReading) (channels : List Scan) (hellos : List (Option ℕ))
    → IsPageSize given.page_size
    → AllZip (Scans given) texts channels
    → AllZip (λ (text : Text) (reading : ChannelReading). IsReading given text.bytes text.ended reading) texts readings
    → AllZip TellsHello channels hellos → hellos ≡ map (λ (r : ChannelReading). r.hello) readings
hellos_are given [] [] [] [] size holds are told = refl
hellos_are given [] readings (c ∷ channels) hellos size holds are told = absurd holds
hellos_are given [] (r ∷ readings) channels hellos size holds are told = absurd are
hellos_are given [] [] [] (h ∷ hellos) size holds are told = absurd told
hellos_are given (text ∷ texts) readings [] hellos size holds are told = absurd holds
hellos_are given (text ∷ texts) [] (c ∷ channels) hellos size holds are told = absurd are
hellos_are given (text ∷ texts) (r ∷ readings) (c ∷ channels) [] size holds are told = absurd told
hellos_are given (text ∷ texts) (r ∷ readings) (c ∷ channels) (h ∷ hellos) size holds are told =
    ap (λ (x : Option ℕ). x ∷ hellos) (told.0 given text r size holds.0 are.0)
    ∙ ap (λ (l : List (Option ℕ)). r.hello ∷ l) (hellos_are given texts readings channels hellos size holds.1 are.1 told.1)

standings_are : (k from : ℕ) (readings : List ChannelReading)
    → map {B = Standing} (λ (s : ℕ × Status). record { source = origin.Channel s.0; status = s.1 }) (enumerate_from from (map (channel_status k) readings))
    ≡ map {B = Standing} (λ (c : ℕ × ChannelReading). record { source = origin.Channel c.0; status = channel_status k c.1 }) (enumerate_from from readings)
standings_are k from [] = refl
standings_are k from (r ∷ readings) =
    let rest : map {B = Standing} (λ (s : ℕ × Status). record { source = origin.Channel s.0; status = s.1 })
    (enumerate_from (from + 1) (map (channel_status k) readings))
    ≡ map {B = Standing} (λ (c : ℕ × ChannelReading). record { source = origin.Channel c.0; status = channel_status k c.1 })
    (enumerate_from (from + 1) readings) =
    standings_are k (from + 1) readings in
    ap (λ (l : List Standing). record { source = origin.Channel from; status = channel_status k r } ∷ l) rest

-- the first verdict by the sources' statuses and their repeated hello is the one at the first round
pub tells_first : (s : FedSources) (main_told : Status) (statuses : List Status) (hellos : List (Option ℕ)) (repeated : Option ℕ) (told : Option Verdict)
    → SaysMain s.main (λ reading. reading.table ≡ None → main_told ≡ main_status 0 reading) → AllZip TellsFirstStatus s.channels statuses
    → AllZip TellsHello s.channels hellos → repeated ≡ repeated_hello hellos
    → told ≡ first_some (sources_verdicts 0 (main_standing main_told) (standings statuses) repeated) → TellsFirst s told
tells_first s main_told statuses hellos repeated told tells_main tells_channels tells_hellos again e = λ given uuid texts readings size holds are none.
    let channel_given = channel_of given uuid (length texts.channels) in
    let m : main_told ≡ main_status 0 readings.main = tells_main given texts.main readings.main size holds.main are.has_main none in
    let c : standings statuses ≡ channels_at 0 readings =
    ap standings (statuses_are channel_given texts.channels readings.channels s.channels statuses size holds.channels are.has_channels tells_channels)
    ∙ standings_are 0 0 readings.channels in
    let h : repeated ≡ repeated_hello (hello_ids readings) =
    again ∙ ap repeated_hello (hellos_are channel_given texts.channels readings.channels s.channels hellos size holds.channels
    are.has_channels tells_hellos) in
    e ∙ ap (λ (x : Status). first_some (sources_verdicts 0 (main_standing x) (standings statuses) repeated)) m
    ∙ ap (λ (l : List Standing). first_some (sources_verdicts 0 (main_at 0 readings) l repeated)) c
    ∙ ap (λ (o : Option ℕ). first_some (sources_verdicts 0 (main_at 0 readings) (channels_at 0 readings) o)) h

-- ---- whether all rounds are in

and_true : (b : Bool) → (b && true) ≡ b
and_true true = refl
and_true false = refl

and_false : (b : Bool) → (b && false) ≡ false
and_false true = refl
and_false false = refl

told_more : (told : List Bool) (t : Bool) → list_all (λ (x : Bool). x) (told ++ t ∷ []) ≡ (list_all (λ (x : Bool). x) told && t)
told_more [] t = and_true t
told_more (true ∷ told) t = told_more told t
told_more (false ∷ told) t = refl

-- one more channel was looked at
pub more_true : (told : List Bool) (t : Bool) → t ≡ true → list_all (λ (x : Bool). x) (told ++ t ∷ []) ≡ list_all (λ (x : Bool). x) told
more_true told t e = told_more told t ∙ ap (λ (b : Bool). list_all (λ (x : Bool). x) told && b) e ∙ and_true (list_all (λ (x : Bool). x) told)

-- a list of booleans with one more, which is false, is not all true
pub more_false : (told : List Bool) (t : Bool) → t ≡ false → list_all (λ (x : Bool). x) (told ++ t ∷ []) ≡ false
more_false told t e = told_more told t ∙ ap (λ (b : Bool). list_all (λ (x : Bool). x) told && b) e ∙ and_false (list_all (λ (x : Bool). x) told)

only_all : (given : Settings) (k : ℕ) (texts : List Text) (readings : List ChannelReading) (channels : List Scan) (told : List Bool)
    → IsPageSize given.page_size
    → AllZip (Scans given) texts channels
    → AllZip (λ (text : Text) (reading : ChannelReading). IsReading given text.bytes text.ended reading) texts readings
    → AllZip (TellsOnly k) channels told → IsTrue (list_all (λ (t : Bool). t) told) ↔ All (HasOnly k) readings
only_all given k [] [] [] [] size holds are tell = (λ t. All-nil (HasOnly k), λ all. refl)
only_all given k [] readings (c ∷ channels) told size holds are tell = absurd holds
only_all given k [] (r ∷ readings) channels told size holds are tell = absurd are
only_all given k [] [] [] (t ∷ told) size holds are tell = absurd tell
only_all given k (text ∷ texts) readings [] told size holds are tell = absurd holds
only_all given k (text ∷ texts) [] (c ∷ channels) told size holds are tell = absurd are
only_all given k (text ∷ texts) (r ∷ readings) (c ∷ channels) [] size holds are tell = absurd tell
only_all given k (text ∷ texts) (r ∷ readings) (c ∷ channels) (t ∷ told) size holds are tell =
    let here = tell.0 given text r size holds.0 are.0 in
    let rest = only_all given k texts readings channels told size holds.1 are.1 tell.1 in (
      λ yes. let parts = and_parts t (list_all (λ (x : Bool). x) told) yes in All-cons (HasOnly k) r readings (here.0 parts.0) (rest.0 parts.1),
      λ all. rw (here.1 (All-head (HasOnly k) r readings all), rest.1 (All-tail (HasOnly k) r readings all)) refl,
    )

-- if the main stream is closed after k rounds, all are in exactly if each channel has these alone
pub all_in_closed : (k : ℕ) (s : FedSources) (told : List Bool) (result : Bool) → SaysMain s.main (λ reading. true ≡ true ↔ IsClosedAfter k reading)
    → AllZip (TellsOnly k) s.channels told → result ≡ list_all (λ t. t) told → TellAllIn k s result
all_in_closed k s told result tells tell e = λ given uuid texts readings size holds are.
    let closed = (tells given texts.main readings.main size holds.main are.has_main).0 refl in
    let only = only_all (channel_of given uuid (length texts.channels)) k texts.channels readings.channels s.channels told size
    holds.channels are.has_channels tell in (
      λ yes. record { is_closed = closed.is_closed; has_all = closed.has_all; channels = only.0 (sym e ∙ yes) },
      λ all. e ∙ only.1 all.channels,
    )

-- if it isn't, they aren't
pub all_in_open : (k : ℕ) (s : FedSources) → SaysMain s.main (λ reading. false ≡ true ↔ IsClosedAfter k reading) → TellAllIn k s false
all_in_open k s tells = λ given uuid texts readings size holds are. (
  λ no. absurd cc,
  λ all. (tells given texts.main readings.main size holds.main are.has_main).1 (record { is_closed = all.is_closed; has_all = all.has_all }),
)

-- ---- a source takes a step

-- with the main stream after a step the sources represent the streams with that step
pub main_steps : (given : LoadSettings) (uuid : List ℕ) (step : Text → Text) (texts : Texts) (s : FedSources) (m : MainScan) → Holds given uuid texts s
    → ScansMain (main_of given) (step texts.main) m → Holds given uuid (at_source source.Main step texts) (record s { main = m })
main_steps given uuid step texts s m holds here = record { main = here; channels = holds.channels }

-- with one channel after a step they represent the streams with that step
pub channel_steps : (given : LoadSettings) (uuid : List ℕ) (j : ℕ) (step : Text → Text) (texts : Texts) (s : FedSources) (c : Scan) → Holds given uuid texts s
    → Scans (channel_of given uuid (length texts.channels)) (step (get_or texts.channels j no_text)) c
    → Holds given uuid (at_source (source.Channel j) step texts) (record s { channels = set s.channels j c })
channel_steps given uuid j step texts s c holds here =
    let text : Text = step (get_or texts.channels j no_text) in
    let channel_given = channel_of given uuid (length texts.channels) in
    record {
      main = holds.main;
      channels = subst (λ (n : ℕ). AllZip (Scans (channel_of given uuid n)) (set texts.channels j text)
          (set s.channels j c)) (sym (length-set texts.channels j text))
          (zip_set (Scans channel_given) texts.channels s.channels j text c holds.channels here);
    }

-- there are as many channels as streams of channels
zip_long : {X Y : Type 0} (R : X → Y → Type 0) (xs : List X) (ys : List Y) → AllZip R xs ys → length xs ≡ length ys
zip_long R [] [] zip = refl
zip_long R [] (y ∷ ys) zip = absurd zip
zip_long R (x ∷ xs) [] zip = absurd zip
zip_long R (x ∷ xs) (y ∷ ys) zip = ap suc (zip_long R xs ys zip.1)

pub channels_long : (given : LoadSettings) (uuid : List ℕ) (texts : Texts) (s : FedSources) → Holds given uuid texts s
    → length s.channels ≡ length texts.channels
channels_long given uuid texts s holds = sym (zip_long (Scans (channel_of given uuid (length texts.channels))) texts.channels s.channels holds.channels)

-- a channel that is there was scanned
pub channel_scans : (given : LoadSettings) (uuid : List ℕ) (j : ℕ) (texts : Texts) (s : FedSources) (q : Scan) → Holds given uuid texts s
    → slice_get s.channels j ≡ Some q
    → Scans (channel_of given uuid (length texts.channels)) (get_or texts.channels j no_text) q
channel_scans given uuid j texts s q holds there =
    zip_at (Scans (channel_of given uuid (length texts.channels))) texts.channels s.channels j no_text q holds.channels there

-- ---- what is noted

pub main_noted : (given : LoadSettings) (uuid : List ℕ) (step : Text
    → Text) (texts : Texts) (places : Places) (n : Noted) (o : Option ℕ) → HasPlaces given uuid texts places
    → IsNotedOfMain (main_of given) (step texts.main) n → HasClosedAt (main_of given) (step texts.main).bytes o
    → HasPlaces given uuid (at_source source.Main step texts) (record places { main = n; closed_at = o })
main_noted given uuid step texts places n o have noted closed = record { main = noted; closed = closed; channels = have.channels }

-- with a channel's place and fault noted after a step, the notes are those of the streams with it
pub channel_noted : (given : LoadSettings) (uuid : List ℕ) (j : ℕ) (step : Text
    → Text) (texts : Texts) (places : Places) (n : Noted) → HasPlaces given uuid texts places
    → IsNotedOfChannel (channel_of given uuid (length (at_source (source.Channel j) step texts).channels)) (step (get_or texts.channels j no_text)) n
    → HasPlaces given uuid (at_source (source.Channel j) step texts) (record places { channels = set places.channels j n })
channel_noted given uuid j step texts places n have noted =
    let text : Text = step (get_or texts.channels j no_text) in
    let are_noted : ℕ → Text → Noted → Type 0 = λ many t m. IsNotedOfChannel (channel_of given uuid many) t m in
    record {
      main = have.main;
      closed = have.closed;
      channels = zip_set (are_noted (length (set texts.channels j text))) texts.channels places.channels j text n
          (subst (λ (many : ℕ). AllZip (are_noted many) texts.channels places.channels) (sym (length-set texts.channels j text)) have.channels) noted;
    }

-- the channel that was read represents the stream with the step
pub channel_stands : (given : LoadSettings) (uuid : List ℕ) (j : ℕ) (step : Text → Text) (texts : Texts) (s : FedSources) (c : Scan)
    → Holds given uuid (at_source (source.Channel j) step texts) s → slice_get s.channels j ≡ Some c
    → Scans (channel_of given uuid (length (at_source (source.Channel j) step texts).channels)) (step (get_or texts.channels j no_text)) c
channel_stands given uuid j step texts s c holds there =
    let text : Text = step (get_or texts.channels j no_text) in
    zip_here (Scans (channel_of given uuid (length (set texts.channels j text)))) texts.channels s.channels j text c holds.channels there

-- ---- one channel

-- a channel that the streams have is among those scanned
pub there_of : (given : LoadSettings) (uuid : List ℕ) (texts : Texts) (s : FedSources) (j : ℕ) (q : Scan) → Holds given uuid texts s
    → HasSource (counts_in texts) (source.Channel j) → q ≡ get_or s.channels j q → slice_get s.channels j ≡ Some q
there_of given uuid texts s j q holds there is =
    slice_get_read s.channels (length s.channels) j q refl
    (omega (arith, there, length-map texts.channels count_in, channels_long given uuid texts s holds)) is

-- what follows where a call is answered Ok
pub on_ok : {T E : Type 0} {P Q : Type 0} (result : Result T E) → OnOk result P → (P → Q) → OnOk result Q
on_ok (Ok x) h f = f h
on_ok (Err e) h f = tt

-- and where it is refused
pub on_err : {T E : Type 0} {Q : Type 0} (result : Result T E) → Q → OnErr result Q
on_err (Ok x) q = tt
on_err (Err e) q = q

-- what follows of the value of an Ok, or of an Err
pub if_ok : {T E : Type 0} {P Q : T → Type 0} (result : Result T E) → IfOk result P → ((x : T) → P x → Q x) → IfOk result Q
if_ok (Ok x) p f = f x p
if_ok (Err e) p f = tt

pub err_on : {T E : Type 0} {P Q : Type 0} (result : Result T E) → OnErr result P → (P → Q) → OnErr result Q
err_on (Ok x) p f = tt
err_on (Err e) p f = f p
