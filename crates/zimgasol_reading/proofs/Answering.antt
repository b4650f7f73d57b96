-- The answer on a main stream and its channels, as their survey has it.
use Rattle.std.proofs.Common.{ℕ, ◌≡◌, ◌≢◌, List, [], ◌++◌, length, map, Option, Some, None, true, false, refl, sym, ap, ◌∙◌, subst, inl, inr}
use Rattle.std.specs.Prelude.{IfSome, Result, Ok, Err, OnOk}
use Rattle.std.specs.Io.KnownBytes.{Keeps, prepend_known}
use Rattle.std.specs.List.{range_with_len}
use Rattle.std.specs.Option.{option_map}
use Rattle.std.proofs.lemmas.List.{length-map}
use Rattle.mig_mem.specs.RamTable.{RamTable, IsTable}
use Rattle.mig_mem.specs.Image.{Page, Image, IsImage, zero_image}
use Rattle.mig_mem.specs.Round.{after}
use Rattle.mig_mem.proofs.Rounds.{onto-zeros}
use Rattle.mig_stream.specs.declared.item.Frame.{Frame}
use Rattle.mig_stream.specs.PageRecord.{PageRecord}
use Rattle.mig_load_types.specs.Settings.{for_table}
use Rattle.mig_load_types.specs.declared.settings.LoadSettings.{LoadSettings}
use Rattle.mig_answer.specs.declared.verdict.Verdict.{Verdict}
use Rattle.mig_answer.specs.declared.verdict.Verdict.TheVariants.{Done}
use Rattle.mig_answer.specs.Texts.{Texts, Readings, no_texts}
use Rattle.mig_answer.specs.Rounds.{pages_at, memory_at}
use Rattle.mig_answer.specs.MultiLoad.{Answer, IsAnswer}
use Rattle.mig_answer.proofs.OneAnswer.{same_readings, one_answer_law}
use Rattle.mig_in_place.specs.Answer.{IsInPlaceAnswer, rounds_onto}
use Rattle.mig_in_place.specs.Session.{InPlaceLoad, StandsFor}
use Rattle.mig_in_place.proofs.Done.{own_or_other, alike_law}
use Rattle.mig_in_place.proofs.Exact.{exact_law}
use Rattle.zimgasol_files.specs.Waiting.{waits}
use Rattle.zimgasol_reading.specs.declared.channel.Channel.{Channel}
use Rattle.zimgasol_reading.specs.declared.inlet.Inlet.{Inlet}
use Rattle.zimgasol_reading.specs.declared.main_stream.MainStream.{MainStream}
use Rattle.zimgasol_reading.specs.declared.several.Several.{Several}
use Rattle.zimgasol_reading.specs.Consumed.{Bytes}
use Rattle.zimgasol_reading.specs.Inlets.{inlet_left}
use Rattle.zimgasol_reading.specs.Left.{inlets_of, channels_left, main_held, sources_left, sources_held, IsOver, IsBegun}
use Rattle.zimgasol_reading.specs.Recorded.{StillHolds}
use Rattle.zimgasol_reading.specs.Passed.{HasPassed}
use Rattle.zimgasol_reading.specs.Loaded.{LoadInto, TakesOn, settings_for}
use Rattle.zimgasol_reading.specs.Answered.{IsAnswered, StaysAsked, BeginsLoad, HasLoadedAll}
use Rattle.zimgasol_reading.proofs.Images.{zeros_image}
use Rattle.zimgasol_reading.proofs.Consuming.{keeps_then, begun_none, loaded}

-- a sink that has taken more calls still has the memory
passed_on : (old new : RamTable → List PageRecord → Type 0) (memory : Image) → StillHolds old new → HasPassed old memory → HasPassed new memory
passed_on old new memory keeps had = record {
  records = had.records;
  has_records = keeps memory.table had.records had.has_records;
  make_memory = had.make_memory;
}

-- ---- the memory of a load that is done

-- the rounds of a table's pages
rounds_of : RamTable → ℕ → Readings → List (List Page)
rounds_of table k readings = map (λ i. pages_at table i readings) (range_with_len 0 k)

memory_of : ℕ → Readings → Option RamTable → Option Image
memory_of k readings table = option_map (λ t. after t (map (λ i. pages_at t i readings) (range_with_len 0 k))) table

-- a load into zeros that is done leaves the memory of the answer
made : (given : LoadSettings) (uuid : List ℕ) (table : RamTable) (texts : Texts) (memory : Image) (rounds : ℕ) (answer : Answer) (P : Image → Type 0)
    → IsTable table → IsImage memory → IsInPlaceAnswer given uuid (zero_image table) texts memory rounds Done
    → IsAnswer (for_table table given) uuid texts answer
    → P memory → IfSome answer.memory P
unfolding rounds_of memory_of
made given uuid table texts memory rounds answer P is_table is_image here told has = elim (own_or_other (zero_image table) here.readings.main) [
  | inr other ↦ absurd (let bad = (here.other other).has_verdict in cc)
  | inl own ↦
      let same : told.readings ≡ here.readings =
      same_readings (for_table table given) uuid texts told.readings here.readings is_table.has_page_size told.are_readings here.are_readings in
      let alike = alike_law given uuid (zero_image table) texts memory rounds Done answer is_table here told (λ e. absurd cc) in
      let exact : memory ≡ rounds_onto (zero_image table) rounds here.readings =
      exact_law given uuid (zero_image table) texts memory rounds is_table (zeros_image table) is_image here in
      let at : answer.memory ≡ memory_of rounds here.readings here.readings.main.table =
      told.has_memory ∙ ap (λ (k : ℕ). memory_at k told.readings) (sym alike.0) ∙ ap (λ (r : Readings). memory_at rounds r) same in
      elim own [
        | inl none ↦ subst (λ (o : Option Image). IfSome o P) (sym (at ∙ ap (λ (o : Option RamTable). memory_of rounds here.readings o) none)) tt
        | inr some ↦ subst (λ (o : Option Image). IfSome o P) (sym (at ∙ ap (λ (o : Option RamTable). memory_of rounds here.readings o) some))
            (subst P (exact ∙ sym (onto-zeros table (rounds_of table rounds here.readings))) has)
      ]
]

made_at : (given : LoadSettings) (uuid : List ℕ) (table : RamTable) (texts : Texts) (memory : Image) (rounds : ℕ) (verdict : Verdict) (answer : Answer)
    (P : Image → Type 0) → IsTable table → IsImage memory → IsInPlaceAnswer given uuid (zero_image table) texts memory rounds verdict
    → IsAnswer (for_table table given) uuid texts answer → P memory → verdict ≡ Done → IfSome answer.memory P
made_at given uuid table texts memory rounds verdict answer P is_table is_image here told has done =
    made given uuid table texts memory rounds answer P is_table is_image
    (subst (λ (v : Verdict). IsInPlaceAnswer given uuid (zero_image table) texts memory rounds v) done here) told has

-- ---- what the survey says

-- The survey is that of the load. If the load is done, the sink that is returned has what the
-- load's sink had.
pub answered : {F : Type 0} (all : Bytes) (old new : RamTable → List PageRecord → Type 0) (table : RamTable) (several : Several F)
    → HasLoadedAll all old table several → (several.verdict ≡ Done → StillHolds old new) → IsAnswered all new several
answered all old new table several l keeps =
    let given = settings_for several.frame several.page_size several.limit in
    let one = one_answer_law (for_table table given) several.uuid l.texts l.is_table.has_page_size in
    record {
      page_size = table.page_size;
      texts = l.texts;
      has_channels = l.has_channels;
      left = l.left;
      are_consumed = l.are_consumed;
      answer = one.0;
      is_answer = one.1;
      has_verdict = λ other. alike_law given several.uuid (zero_image table) l.texts l.memory several.rounds several.verdict one.0
          l.is_table l.is_answer one.1 other;
      has_memory = λ done. made_at given several.uuid table l.texts l.memory several.rounds several.verdict one.0 (HasPassed new)
          l.is_table l.is_image l.is_answer
          one.1 (passed_on old new l.memory (keeps done) l.has_passed) done;
    }

-- the same sink
pub answered_all : {F : Type 0} (all : Bytes) (holds : RamTable → List PageRecord → Type 0) (table : RamTable) (several : Several F)
    → HasLoadedAll all holds table several → IsAnswered all holds several
answered_all all holds table several l = answered all holds holds table several l (λ _ t records has. has)

-- no load that is done
pub answered_none : {F : Type 0} (all : Bytes) (old new : RamTable → List PageRecord → Type 0) (table : RamTable) (several : Several F)
    → HasLoadedAll all old table several → several.verdict ≢ Done → IsAnswered all new several
answered_none all old new table several l other = answered all old new table several l (λ done. absurd (other done))

if_some : (o : Option Image) (P Q : Image → Type 0) → ((m : Image) → P m → Q m) → IfSome o P → IfSome o Q
if_some None P Q f has = tt
if_some (Some m) P Q f has = f m has

-- after the rest of the main stream was read
pub answered_on : {F : Type 0} (all : Bytes) (old new : RamTable → List PageRecord → Type 0) (before then : Several F) → IsAnswered all old before
    → then ≡ record before { main = then.main } → StillHolds old new → IsAnswered all new then
answered_on {F} all old new before then is same keeps =
    let here : IsAnswered all new before = record {
      page_size = is.page_size;
      texts = is.texts;
      has_channels = is.has_channels;
      left = is.left;
      are_consumed = is.are_consumed;
      answer = is.answer;
      is_answer = is.is_answer;
      has_verdict = is.has_verdict;
      has_memory = λ done. if_some is.answer.memory (HasPassed old) (HasPassed new) (λ m has. passed_on old new m keeps has) (is.has_memory done);
    } in
    let moved : IsAnswered all new (record before { main = then.main }) = record {
      page_size = here.page_size;
      texts = here.texts;
      has_channels = here.has_channels;
      left = here.left;
      are_consumed = here.are_consumed;
      answer = here.answer;
      is_answer = here.is_answer;
      has_verdict = here.has_verdict;
      has_memory = here.has_memory;
    } in
    subst (λ (s : Several F). IsAnswered all new s) (sym same) moved

-- ---- what was asked for

pub asked_none : {F : Type 0} (s : Several F) → StaysAsked s s
asked_none s = (refl, refl, refl, refl, refl)

pub asked_both : {F : Type 0} (a b c : Several F) → StaysAsked a b → StaysAsked b c → StaysAsked a c
asked_both a b c one other = (other.0 ∙ one.0, other.1 ∙ one.1, other.2 ∙ one.2, other.3 ∙ one.3, other.4 ∙ one.4)

-- a load that was begun as it was asked for, is so as long as that stays
begun_on : {F : Type 0} (table : RamTable) (judge : InPlaceLoad) (old new : Several F) → StaysAsked old new → BeginsLoad old table judge
    → BeginsLoad new table judge
begun_on table judge old new asked stands =
    let n : ℕ = length new.channels.items in
    let stood : Frame → ℕ → ℕ → List ℕ → ℕ → Type 0 =
    λ f p l u k. StandsFor (settings_for f p l) u (zero_image table) (no_texts k) (zero_image table) judge in
    subst (λ (f : Frame). stood f new.page_size new.limit new.uuid n) (sym asked.1)
    (subst (λ (p : ℕ). stood old.frame p new.limit new.uuid n) (sym asked.2)
    (subst (λ (l : ℕ). stood old.frame old.page_size l new.uuid n) (sym asked.3)
    (subst (λ (u : List ℕ). stood old.frame old.page_size old.limit u n) (sym asked.0)
    (subst (λ (k : ℕ). stood old.frame old.page_size old.limit old.uuid k) (sym asked.4) stands))))

-- the rest of the main stream was read
pub asked_main : {F : Type 0} (a b c : Several F) → StaysAsked a b → c ≡ record b { main = c.main } → StaysAsked a c
asked_main {F} a b c asked same =
    let here : StaysAsked a (record b { main = c.main }) = (asked.0, asked.1, asked.2, asked.3, asked.4) in
    subst (λ (s : Several F). StaysAsked a s) (sym same) here

-- the survey after the whole load
pub loaded_all : {F : Type 0} (remaining : F → Option (List ℕ)) (left then : Option (List ℕ)) (all : Bytes) (holds : RamTable → List PageRecord → Type 0)
    (table : RamTable) (judge : InPlaceLoad) (memory : Image) (start end : LoadInto) (old new : Several F) → start ≡ record { load = judge; memory = memory }
    → memory ≡ zero_image table → (IsOver left old.main → TakesOn (sources_held remaining left old) (sources_left remaining then new) start end)
    → (new.rounds ≡ end.load.rounds) × (new.verdict ≡ end.load.verdict)
    → StaysAsked old new → IsImage end.memory → HasPassed holds end.memory → IsBegun remaining all left old → BeginsLoad old table judge
    → HasLoadedAll all holds table new
loaded_all {F} remaining left then all holds table judge memory start end old new begins zeros takes told asked image passed begun stands =
    let first : Image → LoadInto = λ m. record { load = judge; memory = m } in
    let many : (s : Several F) → length (channels_left remaining s.channels.items) ≡ length s.channels.items =
    λ s. length-map (inlets_of s.channels.items) (inlet_left remaining) ∙ length-map s.channels.items (λ (c : Channel F). c.inlet) in
    loaded holds (settings_for new.frame new.page_size new.limit) new.uuid table all (sources_held remaining left old) (sources_left remaining then new)
    (length new.channels.items) judge start end new.rounds new.verdict
    (begins ∙ ap first zeros) (begun_none all (sources_held remaining left old) (length new.channels.items) begun.0 begun.1 (many old ∙ sym asked.4))
    (many new) (takes begun.2) told image passed (begun_on table judge old new asked stands)

-- ---- what is left of the sources

-- the first bytes of the main stream were read
pub still_begun : {F : Type 0} (remaining : F → Option (List ℕ)) (all : Bytes) (left then : Option (List ℕ)) (old new : Several F)
    (kept main : MainStream) → new ≡ record old { main = main; blocks = new.blocks } → kept ≡ record old.main { front = kept.front }
    → Keeps (main_held left kept) (main_held then main) × (IsOver left kept → IsOver then main) → IsBegun remaining all left old
    → IsBegun remaining all then new
still_begun {F} remaining all left then old new kept main same front read begun =
    let was : Keeps all.main (main_held left kept) × IsOver left kept =
    subst (λ (m : MainStream). Keeps all.main (main_held left m) × IsOver left m) (sym front) (begun.0, begun.2) in
    let moved : IsBegun remaining all then (record old { main = main; blocks = new.blocks }) =
    (keeps_then all.main (main_held left kept) (main_held then main) was.0 read.0, begun.1, read.1 was.1) in
    subst (λ (s : Several F). IsBegun remaining all then s) (sym same) moved

none_held : (left : Option (List ℕ)) (held waiting : List ℕ) → held ≡ [] → waiting ≡ [] → Keeps left (prepend_known held (prepend_known waiting left))
none_held None held waiting a b = tt
none_held (Some xs) held waiting a b = ap (λ (l : List ℕ). l ++ (waiting ++ xs)) a ∙ ap (λ (l : List ℕ). l ++ xs) b

-- the length of its file is known
pub begun_file : {F : Type 0} (remaining : F → Option (List ℕ)) (all : Bytes) (left : Option (List ℕ)) (old : Several F) (main : MainStream)
    → main ≡ record old.main { file_len = main.file_len } → IsBegun remaining all left old → IsBegun remaining all left (record old { main = main })
begun_file {F} remaining all left old main same begun =
    let moved : IsBegun remaining all left (record old { main = record old.main { file_len = main.file_len } }) = (begun.0, begun.1, begun.2) in
    subst (λ (m : MainStream). IsBegun remaining all left (record old { main = m })) (sym same) moved

-- nothing was read of the main stream
pub begun_parts : {F : Type 0} (remaining : F → Option (List ℕ)) (inlets : List (Inlet F)) (left : Option (List ℕ)) (main : MainStream)
    (channels : List (Channel F))
    → (main.held.items ≡ []) × (waits main.pieces ≡ []) × (main.is_over ≡ false) → inlets_of channels ≡ inlets
    → Keeps left (main_held left main) × (map (inlet_left remaining) inlets ≡ channels_left remaining channels) × IsOver left main
begun_parts {F} remaining inlets left main channels fresh same = (
  none_held left main.held.items (waits main.pieces) fresh.0 fresh.1,
  ap (λ (l : List (Inlet F)). map (inlet_left remaining) l) (sym same),
  λ over. absurd (let e : false ≡ true = sym fresh.2 ∙ over in cc),
)

-- of a value, if there is one
pub when_ok : {T E : Type 0} (r : Result T E) (P Q : Type 0) → (P → Q) → OnOk r P → OnOk r Q
when_ok (Ok x) P Q f has = f has
when_ok (Err e) P Q f has = tt

pub both_ok : {T E : Type 0} (r : Result T E) (P Q R : Type 0) → (P → Q → R) → OnOk r P → OnOk r Q → OnOk r R
both_ok (Ok x) P Q R f has other = f has other
both_ok (Err e) P Q R f has other = tt
