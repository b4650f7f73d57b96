-- A load in place before the first byte.
use Rattle.std.proofs.Common.{ℕ, zero, suc, ◌≡◌, ◌≤◌, List, [], ◌∷◌, length, replicate, Option, Some, None, refl, sym, ap, subst, ◌∙◌, inl, arith}
use Rattle.std.specs.Prelude.{IsFalse, IfSome, zip}
use Rattle.std.specs.List.{AllZip, All}
use Rattle.std.proofs.lemmas.List.{length-replicate}
use Rattle.std.proofs.lemmas.List.Elements.{All-nil, All-cons}
use Rattle.mig_mem.specs.PageSize.{IsPageSize}
use Rattle.mig_mem.specs.First.{first_some}
use Rattle.mig_mem.specs.RamTable.{RamTable, IsTable}
use Rattle.mig_mem.specs.Image.{Image, IsImage}
use Rattle.mig_stream.specs.Progress.{StreamProgress, start}
use Rattle.mig_stream.specs.Reading.{StreamReading}
use Rattle.mig_stream.proofs.Feeding.{reads_short}
use Rattle.mig_packet.specs.Reading.{Settings}
use Rattle.mig_packet.specs.Paging.{none_given}
use Rattle.mig_load_types.specs.Settings.{main_of, channel_of, for_table, mode_of}
use Rattle.mig_load_types.specs.declared.settings.LoadSettings.{LoadSettings}
use Rattle.mig_answer.specs.declared.verdict.Verdict.{Verdict}
use Rattle.mig_answer.specs.declared.verdict.Verdict.TheVariants.{Running}
use Rattle.mig_answer.specs.Rounds.{base_at}
use Rattle.mig_answer.specs.Texts.{Readings, no_text, no_texts}
use Rattle.mig_answer.proofs.OneAnswer.{some_readings}
use Rattle.mig_answer.proofs.ToldSources.{told_at}
use Rattle.mig_sources.proofs.First.{nothing_read, main_nothing}
use Rattle.mig_in_place.specs.Round.{Keeps}
use Rattle.mig_in_place.specs.Sources.{KeptMain, KeptChannel, HoldsMain, HoldsChannel, IsChannelOf, HasHelloAlone}
use Rattle.mig_in_place.specs.Session.{InPlaceLoad, Loading, Loads, StandsFor, IsMainOf}
use Rattle.mig_in_place.proofs.MissingPages.{none_named}
use Rattle.mig_in_place.proofs.Told.{stands_told}

-- each channel gave nothing
channels_first : (given : Settings) (table : RamTable) (n : ℕ) (channels : List KeptChannel)
    → AllZip (λ text c. HoldsChannel given table 0 text (none_given given) c) (replicate n no_text) channels
    → AllZip (λ c kept. HoldsChannel given table 0 c.0 c.1 kept)
    (zip (replicate n no_text) (replicate n (none_given given))) channels × All (λ c. c.block ≡ None) channels
channels_first given table zero [] holds = (tt, All-nil (λ (c : KeptChannel). c.block ≡ None))
channels_first given table zero (c ∷ channels) holds = absurd holds
channels_first given table (suc n) [] holds = absurd holds
channels_first given table (suc n) (c ∷ channels) holds =
    let rest = channels_first given table n channels holds.1 in
    ((holds.0, rest.0), All-cons (λ (c : KeptChannel). c.block ≡ None) c channels (no_block c.block holds.0.has_block) rest.1)
  where
    no_block : (o : Option ℕ) → IfSome o (λ b. ⊥) → o ≡ None
    no_block None none = refl
    no_block (Some b) none = absurd none

all_alone : (given : Settings) (n : ℕ) → All HasHelloAlone (replicate n (none_given given))
all_alone given zero = All-nil HasHelloAlone
all_alone given (suc n) = All-cons HasHelloAlone (none_given given) (replicate n (none_given given))
    (record { no_rounds = refl; no_packets = refl; none_begun = refl }) (all_alone given n)

-- a load with nothing taken or judged, at least one channel and the verdict Running represents
-- streams without bytes, with the memory as it was
pub stands_first : (given : LoadSettings) (uuid : List ℕ) (first : Image) (n : ℕ) (s : InPlaceLoad) → IsTable first.table
    → IsImage first → first.table ≡ s.table → 1 ≤ n → s.rounds ≡ 0 → s.base ≡ 0
    → s.verdict ≡ Running → HoldsMain (main_of (for_table first.table given)) 0 no_text s.sources.main
    → AllZip (λ text c. HoldsChannel (channel_of (for_table first.table given) uuid n) first.table 0 text
    (none_given (channel_of (for_table first.table given) uuid n)) c) (replicate n no_text) s.sources.channels
    → Keeps first.table [] s.round → s.named ≡ record { table = first.table; marked = [] } → StandsFor given uuid first (no_texts n) first s
stands_first given uuid first n s is_table is_image same many none no_base running main channels keeps named =
    let here : LoadSettings = for_table first.table given in
    let size : IsPageSize here.page_size = is_table.has_page_size in
    let some = some_readings here uuid (no_texts n) size in
    let readings : Readings = some.0 in
    let is : readings.main ≡ nothing_read = main_nothing here readings.main size some.1.has_main in
    let unknown : readings.main.table ≡ None = ap (λ (x : StreamReading). x.table) is in
    let no : readings.main.table ≡ Some first.table → ⊥ = λ own. (let clash : None ≡ Some first.table = sym unknown ∙ own in cc) in
    let count : length (replicate n no_text) ≡ n = length-replicate n no_text in
    let channel_given : Settings = channel_of here uuid n in
    let each = channels_first channel_given first.table n s.sources.channels channels in
    let f : Loading = record { given = given; uuid = uuid; first = first; texts = no_texts n } in
    let loads : Loads f first s = record {
      is_table = is_table;
      is_image = is_image;
      same_table = same;
      is_running = record {
        readings = readings;
        are_readings = some.1;
        is_own = inl unknown;
        have_passed = λ j below. absurd (omega (arith, below, none));
        main = subst (λ (k : ℕ). HoldsMain (main_of here) k no_text s.sources.main) (sym none) main;
        gave = replicate n (none_given channel_given);
        as_many = length-replicate n (none_given channel_given) ∙ sym count;
        has_channel = omega (arith, count, many);
        channels = subst (λ (m : ℕ). AllZip (λ c kept. HoldsChannel (channel_of here uuid m) first.table s.rounds c.0 c.1 kept)
            (zip (replicate n no_text) (replicate n (none_given channel_given))) s.sources.channels) (sym count)
            (subst (λ (k : ℕ). AllZip (λ c kept. HoldsChannel channel_given first.table k c.0 c.1 kept)
            (zip (replicate n no_text) (replicate n (none_given channel_given))) s.sources.channels) (sym none) each.0);
        has_base = no_base ∙ ap (λ (k : ℕ). base_at k readings) (sym none);
        has_named = none_named first.table s.rounds readings s.named none named;
        own = λ own. absurd (no own);
        writes = λ own right. absurd (no own);
        unknown = λ _. (refl, none, keeps);
        is_unwritten = λ _. each.1;
        awaited = λ _ _. all_alone channel_given n;
      };
    } in
    let told : Some Running ≡ first_some (told_at s.rounds readings) =
    sym (ap (λ (k : ℕ). first_some (told_at k readings)) none
    ∙ ap (λ (m : StreamReading). first_some (told_at 0 (record { main = m; channels = readings.channels }))) is) in
    subst (λ (v : Verdict). StandsFor given uuid first (no_texts n) first (record s { verdict = v })) (sym running) (stands_told f first s Running loads told)

-- ---- whatever the memory holds

-- channels of which nothing was taken are those of a load into memory of their page size
pub first_channels : (given : Settings) (t : RamTable) (n : ℕ) (channels : List KeptChannel) → given.page_size ≡ t.page_size
    → AllZip (λ text c. HoldsChannel given t 0 text (none_given given) c) (replicate n no_text) channels → All (IsChannelOf t) channels
first_channels given t zero [] same holds = All-nil (IsChannelOf t)
first_channels given t zero (c ∷ channels) same holds = absurd holds
first_channels given t (suc n) [] same holds = absurd holds
first_channels given t (suc n) (c ∷ channels) same holds =
    All-cons (IsChannelOf t) c channels
    (record {
      given = given;
      text = [];
      so_far = none_given given;
      has_page_size = same;
      gives = holds.0.gives;
      has_block = holds.0.has_block;
    }) (first_channels given t n channels same holds.1)

-- a main stream of which nothing was taken fits memory of its page size
pub first_main : (given : LoadSettings) (t : RamTable) (m : KeptMain) → IsPageSize given.page_size → given.page_size ≡ t.page_size
    → HoldsMain (main_of given) 0 no_text m → IsFalse m.is_whole → IsMainOf t m
first_main given t m size same holds open_ =
    let begin : StreamProgress = start given.frame (mode_of given.round_end) given.page_size given.limit given.waiting in
    record {
      given = main_of given;
      k = 0;
      text = no_text;
      stands = holds.stands;
      is_page_size = size;
      has_page_size = same;
      is_own = inl (nothing_read, record { to = begin; rest = []; reads = reads_short begin [] (omega arith); has_table = refl; has_rounds = refl }, refl);
    }
