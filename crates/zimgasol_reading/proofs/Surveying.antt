-- The survey of a single stream.
use Rattle.std.proofs.Common.{ℕ, ◌≡◌, ◌≢◌, ◌≤◌, ◌<◌, ◌^◌, Bool, true, false, List, [], ◌∷◌}
use Rattle.std.proofs.Common.{◌++◌, length, map, drop, Option, Some, None, refl, sym, ap, ◌∙◌, subst, ◌⊎◌, inl, inr, arith}
use Rattle.std.specs.Prelude.{⊤, All, IfSome, IsSomeAnd, Result, Ok, Err, IfOk, OnOk}
use Rattle.std.specs.List.{flat_map}
use Rattle.std.proofs.lemmas.List.{append-nil}
use Rattle.std.specs.Io.KnownBytes.{Consumes}
use Rattle.mig_mem.specs.declared.place.Place.{Place}
use Rattle.mig_mem.specs.PageSize.{IsPageSize}
use Rattle.mig_mem.specs.PlaceSet.{PlaceSet}
use Rattle.mig_mem.specs.RamTable.{RamTable}
use Rattle.mig_stream.specs.declared.item.Frame.{Frame}
use Rattle.mig_stream.specs.declared.item.Frame.TheVariants.{Ram, Machine}
use Rattle.mig_stream.specs.declared.item.Mode.TheVariants.{Single}
use Rattle.mig_stream.specs.declared.item.StreamState.{StreamState}
use Rattle.mig_stream.specs.declared.item.StreamState.TheVariants.{Closed}
use Rattle.mig_stream.specs.PageRecord.{PageRecord}
use Rattle.mig_stream.specs.Reading.{Settings, settings, in_frame, StreamReading, IsReading}
use Rattle.mig_stream.specs.Text.{Record, page_records}
use Rattle.mig_stream.specs.Law.{HasMachineRam}
use Rattle.mig_stream.specs.Giving.{GivenSoFar, Paused}
use Rattle.mig_stream.proofs.Exists.{one_reading_law}
use Rattle.mig_stream.proofs.Found.{read_law, machine_read_law}
use Rattle.zimgasol_course.specs.Course.{all_records, HoldsAll, Stands}
use Rattle.zimgasol_reading.specs.declared.blocks.Blocks.{Blocks}
use Rattle.zimgasol_reading.specs.declared.libvirt.LibvirtHeader.{LibvirtHeader}
use Rattle.zimgasol_reading.specs.declared.survey.Survey.{Survey}
use Rattle.zimgasol_reading.specs.Libvirt.{IsHeader}
use Rattle.zimgasol_reading.specs.Recorded.{records_of, AreNamed, AreCounted, HasTaken, AreCountedAndTaken}
use Rattle.zimgasol_reading.specs.Surveyed.{IsSurveyed, IsTaken, IsAsked, before_of}
use Rattle.zimgasol_reading.proofs.Counting.{named_none}
use Rattle.zimgasol_reading.proofs.Headers.{headed}

-- ---- a closed stream has a section

first_round : (rounds : List (List PageRecord)) (first : List Record) (others : List (List Record)) → rounds ≡ map page_records (first ∷ others) → rounds ≢ []
first_round rounds first others is = λ none. absurd (let e : [] ≡ page_records first ∷ map page_records others = sym none ∙ is in cc)

closed_rounds : (frame : Frame) (page_size limit : ℕ) (text : List ℕ) (reading : StreamReading) → IsPageSize page_size → limit ≤ 2 ^ 40
    → All (λ byte. byte < 2 ^ 8) text
    → IsReading (in_frame frame (settings Single page_size limit)) text reading → reading.state ≡ Closed → reading.rounds ≢ []
closed_rounds Ram page_size limit text reading size small all is closed =
    let found = read_law (in_frame Ram (settings Single page_size limit)) text reading refl size small all is closed in
    first_round reading.rounds found.3.3.first _ found.3.3.has_rounds.1
closed_rounds Machine page_size limit text reading size small all is closed =
    of_either (machine_read_law (in_frame Machine (settings Single page_size limit)) text reading refl size small all is closed).3
  where
    of_either : {table : RamTable} → HasMachineRam Single limit text table reading.rounds → reading.rounds ≢ []
    of_either (inl is) = first_round reading.rounds is.3.first _ is.3.has_rounds.1
    of_either (inr is) = λ none. absurd (omega (arith, is.3.has_part, ap (λ (l : List (List PageRecord)). length l) none))

-- ---- the blocks

none_all : (so_far : GivenSoFar) → so_far.sections ≡ [] → so_far.open_section ≡ [] → all_records so_far ≡ []
none_all so_far sections open_section = ap (λ (x : List (List PageRecord)). flat_map (λ r. r) x ++ so_far.open_section) sections ∙ open_section

-- the pages that are marked
named_in : (blocks : Option Blocks) (begun : Bool) (given : Settings) (text : List ℕ) (so_far : GivenSoFar)
    → HoldsAll (AreCounted blocks) given text so_far begun
    → IfSome blocks (λ b. AreNamed b.recorded.table (all_records so_far) b)
named_in None begun given text so_far has = tt
named_in (Some b) true given text so_far has =
    let same : has.0 ≡ b.recorded.table = sym (ap (λ (s : PlaceSet). s.table) has.2) in
    subst (λ (t : RamTable). AreNamed t (all_records so_far) b) same has.2
named_in (Some b) false given text so_far has =
    let none : AreNamed b.recorded.table [] b =
    named_none b.recorded.table b (ap (λ (ps : List Place). record { table = b.recorded.table; marked = ps }) has.2.1) in
    subst (λ (l : List PageRecord). AreNamed b.recorded.table l b) (sym (none_all so_far has.0 has.1)) none

-- their table
table_in : (blocks : Option Blocks) (begun : Bool) (given : Settings) (text : List ℕ) (so_far : GivenSoFar) (reading : StreamReading)
    → IsPageSize given.page_size
    → IsReading given text reading → so_far.sections ≢ [] → HoldsAll (AreCounted blocks) given text so_far begun
    → IsSomeAnd blocks (λ b. reading.table ≡ Some b.recorded.table)
table_in blocks false given text so_far reading size is some has = absurd (some has.0)
table_in None true given text so_far reading size is some has = absurd has.2
table_in (Some b) true given text so_far reading size is some has =
    let one = one_reading_law given text size in
    let same : has.0 ≡ b.recorded.table = sym (ap (λ (s : PlaceSet). s.table) has.2) in
    ap (λ (x : StreamReading). x.table) (one.2 reading is ∙ sym (one.2 has.1.0 has.1.1)) ∙ sym has.1.2 ∙ ap (λ (t : RamTable). Some t) same

-- ---- the survey

pub surveyed : (frame : Frame) (page_size limit : ℕ) (text : List ℕ) (pause : Option Paused) (found : StreamState) (n valid : ℕ) (begun : Bool)
    (blocks : Option Blocks) → limit ≤ 2 ^ 40
    → Stands (AreCounted blocks) (in_frame frame (settings Single page_size limit)) text pause found n valid begun
    → IsSurveyed (in_frame frame (settings Single page_size limit)) text found n valid blocks
surveyed frame page_size limit text pause found n valid begun blocks small s =
    let given : Settings = in_frame frame (settings Single page_size limit) in
    let has = s.has_reading in
    let all : all_records s.so_far ≡ records_of has.reading.rounds ++ has.is_reading.to.records =
    ap (λ (x : List (List PageRecord)). records_of x ++ s.so_far.open_section) (sym has.has_sections)
    ∙ ap (λ (l : List PageRecord). records_of has.reading.rounds ++ l) (sym has.has_open) in
    record {
      reading = has.reading;
      is_reading = has.is_reading;
      has_state = sym has.has_state;
      has_sections = s.has_sections ∙ ap (λ (l : List (List PageRecord)). length l) (sym has.has_sections);
      has_valid = s.has_valid;
      has_pages = subst (λ (l : List PageRecord). IfSome blocks (λ b. AreNamed b.recorded.table l b)) all (named_in blocks begun given text s.so_far s.has_all);
      has_none_open = λ closed. has.has_open ∙ has.has_none_open closed;
      has_table = λ closed bytes. table_in blocks begun given text s.so_far has.reading s.is_page_size has.is_reading
          (λ none. closed_rounds frame page_size limit text has.reading s.is_page_size small bytes has.is_reading (has.has_state ∙ closed)
          (has.has_sections ∙ none))
          s.has_all;
    }

-- ---- what takes the pages

weaker : (a b : Option RamTable → List PageRecord → Type 0) (given : Settings) (text : List ℕ) (so_far : GivenSoFar) (begun : Bool)
    → ((table : Option RamTable) (records : List PageRecord) → a table records → b table records)
    → HoldsAll a given text so_far begun → HoldsAll b given text so_far begun
weaker a b given text so_far true to has = (has.0, has.1, to (Some has.0) (all_records so_far) has.2)
weaker a b given text so_far false to has = (has.0, has.1, to None [] has.2)

stands_weaker : (a b : Option RamTable → List PageRecord → Type 0) (given : Settings) (text : List ℕ) (pause : Option Paused) (found : StreamState)
    (n valid : ℕ) (begun : Bool) → ((table : Option RamTable) (records : List PageRecord) → a table records → b table records)
    → Stands a given text pause found n valid begun → Stands b given text pause found n valid begun
stands_weaker a b given text pause found n valid begun to s = record {
  is_page_size = s.is_page_size;
  so_far = s.so_far;
  has_reading = s.has_reading;
  has_sections = s.has_sections;
  has_valid = s.has_valid;
  has_all = weaker a b given text s.so_far begun to s.has_all;
  pauses = s.pauses;
}

-- it has the table, and all records
taken_in : (holds : RamTable → List PageRecord → Type 0) (given : Settings) (text : List ℕ) (so_far : GivenSoFar) (reading : StreamReading)
    (records : List PageRecord) → IsPageSize given.page_size → IsReading given text reading → all_records so_far ≡ records
    → HoldsAll (HasTaken holds) given text so_far true → IsSomeAnd reading.table (λ table. holds table records)
taken_in holds given text so_far reading records size is all has =
    let one = one_reading_law given text size in
    let same : reading.table ≡ Some has.0 = ap (λ (x : StreamReading). x.table) (one.2 reading is ∙ sym (one.2 has.1.0 has.1.1)) ∙ sym has.1.2 in
    subst (λ (o : Option RamTable). IsSomeAnd o (λ t. holds t records)) (sym same) (subst (λ (l : List PageRecord). holds has.0 l) all has.2)

-- the records so far
some_taken : (holds : RamTable → List PageRecord → Type 0) (begun : Bool) (given : Settings) (text : List ℕ) (so_far : GivenSoFar)
    (reading : StreamReading) (records : List PageRecord) → IsPageSize given.page_size → IsReading given text reading → all_records so_far ≡ records
    → HoldsAll (HasTaken holds) given text so_far begun → (records ≡ []) ⊎ IsSomeAnd reading.table (λ table. holds table records)
some_taken holds true given text so_far reading records size is all has = inr (taken_in holds given text so_far reading records size is all has)
some_taken holds false given text so_far reading records size is all has = inl (sym all ∙ none_all so_far has.0 has.1)

-- a closed stream
all_taken : (holds : RamTable → List PageRecord → Type 0) (begun : Bool) (given : Settings) (text : List ℕ) (so_far : GivenSoFar)
    (reading : StreamReading) (records : List PageRecord) → IsPageSize given.page_size → IsReading given text reading → so_far.sections ≢ []
    → all_records so_far ≡ records → HoldsAll (HasTaken holds) given text so_far begun → IsSomeAnd reading.table (λ table. holds table records)
all_taken holds true given text so_far reading records size is some all has = taken_in holds given text so_far reading records size is all has
all_taken holds false given text so_far reading records size is some all has = absurd (some has.0)

pub taken : (frame : Frame) (page_size limit : ℕ) (text : List ℕ) (pause : Option Paused) (found : StreamState) (n valid : ℕ) (begun : Bool)
    (holds : RamTable → List PageRecord → Type 0) → limit ≤ 2 ^ 40
    → Stands (HasTaken holds) (in_frame frame (settings Single page_size limit)) text pause found n valid begun
    → IsTaken holds (in_frame frame (settings Single page_size limit)) text found
taken frame page_size limit text pause found n valid begun holds small s =
    let given : Settings = in_frame frame (settings Single page_size limit) in
    let has = s.has_reading in
    let now : List PageRecord = records_of has.reading.rounds ++ has.is_reading.to.records in
    let all : all_records s.so_far ≡ now =
    ap (λ (x : List (List PageRecord)). records_of x ++ s.so_far.open_section) (sym has.has_sections)
    ∙ ap (λ (l : List PageRecord). records_of has.reading.rounds ++ l) (sym has.has_open) in
    record {
      reading = has.reading;
      is_reading = has.is_reading;
      has_records = some_taken holds begun given text s.so_far has.reading now s.is_page_size has.is_reading all s.has_all;
      has_all = λ closed bytes.
          let none : has.is_reading.to.records ≡ [] = has.has_open ∙ has.has_none_open closed in
          let whole : all_records s.so_far ≡ records_of has.reading.rounds =
          all ∙ ap (λ (l : List PageRecord). records_of has.reading.rounds ++ l) none ∙ append-nil (records_of has.reading.rounds) in
          all_taken holds begun given text s.so_far has.reading (records_of has.reading.rounds) s.is_page_size has.is_reading
          (λ no_section. closed_rounds frame page_size limit text has.reading s.is_page_size small bytes has.is_reading (has.has_state ∙ closed)
          (has.has_sections ∙ no_section))
          whole s.has_all;
    }

-- ---- the whole input

-- what was taken before the first byte: nothing
none_taken : (holds : RamTable → List PageRecord → Type 0) (given : Settings) (text : List ℕ) (pause : Option Paused) (found : StreamState)
    (n valid : ℕ) (begun : Bool) → begun ≡ false
    → Stands (λ _ _. ⊤) given text pause found n valid begun → Stands (AreCountedAndTaken None holds) given text pause found n valid begun
none_taken holds given text pause found n valid true none s = absurd cc
none_taken holds given text pause found n valid false none s = record {
  is_page_size = s.is_page_size;
  so_far = s.so_far;
  has_reading = s.has_reading;
  has_sections = s.has_sections;
  has_valid = s.has_valid;
  has_all = (s.has_all.0, s.has_all.1, (refl, tt));
  pauses = s.pauses;
}

pub stands_none : (blocks : Option Blocks) (holds : RamTable → List PageRecord → Type 0) (given : Settings) (text : List ℕ) (pause : Option Paused)
    (found : StreamState) (n valid : ℕ) (begun : Bool) → blocks ≡ None → begun ≡ false
    → Stands (λ _ _. ⊤) given text pause found n valid begun → Stands (AreCountedAndTaken blocks holds) given text pause found n valid begun
stands_none blocks holds given text pause found n valid begun none begins s =
    subst (λ (b : Option Blocks). Stands (AreCountedAndTaken b holds) given text pause found n valid begun) (sym none)
    (none_taken holds given text pause found n valid begun begins s)

-- what holds of a result
pub on_ok : {X E A : Type 0} (r : Result X E) → A → OnOk r A
on_ok (Ok x) a = a
on_ok (Err e) a = tt

pub on_ok_map : {X E A B : Type 0} (r : Result X E) → OnOk r A → (A → B) → OnOk r B
on_ok_map (Ok x) a f = f a
on_ok_map (Err e) a f = tt

pub of_ok : {X E A : Type 0} (r : Result X E) (x : X) → r ≡ Ok x → OnOk r A → A
of_ok {X = X} {E = E} {A = A} r x is = subst (λ (o : Result X E). OnOk o A → A) (sym is) (λ a. a)

pub if_ok : {X E : Type 0} (P : X → Type 0) (r : Result X E) (x : X) → r ≡ Ok x → IfOk r P → P x
if_ok {X = X} {E = E} P r x is held = subst (λ (o : Result X E). IfOk o P) is held

pub consumes_left : (text : List ℕ) (after : Option (List ℕ)) (piece : List ℕ) → Consumes (Some text) after piece
    → (rest : List ℕ) × (after ≡ Some rest) × (text ≡ piece ++ rest)
consumes_left text None piece c = absurd c
consumes_left text (Some rest) piece c = (rest, refl, c)

-- the settings that a survey reads with
abbrev pub given_of : Survey → Settings
given_of s = in_frame s.frame (settings Single s.page_size s.limit)

pub given_as_asked : (before after : Survey) → IsAsked before after → given_of after ≡ given_of before
given_as_asked before after asked =
    ap (λ (f : Frame). in_frame f (settings Single after.page_size after.limit)) asked.0
    ∙ ap (λ p. in_frame before.frame (settings Single p after.limit)) asked.1
    ∙ ap (λ l. in_frame before.frame (settings Single before.page_size l)) asked.2

-- The first piece was read before the others, for a survey that asked the same, and libvirt's
-- header is as long for one that has taken the course.
stands_whole : (holds : Option RamTable → List PageRecord → Type 0) (asked first : Survey) (text piece : List ℕ) (before k : ℕ)
    (input after : Option (List ℕ)) (pause : Option Paused) (found : StreamState) (n valid : ℕ) (begun : Bool)
    → IsAsked asked first → input ≡ Some text → length text < 2 ^ 63 → Consumes input after piece → before ≡ k
    → ((rest : List ℕ) → after ≡ Some rest → length (piece ++ rest) < 2 ^ 63
    → Stands holds (given_of first) (drop before (piece ++ rest)) pause found n valid begun)
    → Stands holds (given_of asked) (drop k text) pause found n valid begun
stands_whole holds asked first text piece before k input after pause found n valid begun same_asked is few consumes same read =
    let from = consumes_left text after piece (subst (λ (o : Option (List ℕ)). Consumes o after piece) is consumes) in
    let whole : drop before (piece ++ from.0) ≡ drop k text = ap (λ m. drop m (piece ++ from.0)) same ∙ ap (λ (l : List ℕ). drop k l) (sym from.2) in
    subst (λ (g : Settings). Stands holds g (drop k text) pause found n valid begun) (given_as_asked asked first same_asked)
    (subst (λ (l : List ℕ). Stands holds (given_of first) l pause found n valid begun) whole
    (read from.0 from.1 (subst (λ (l : List ℕ). length l < 2 ^ 63) from.2 few)))

both_of : (asked : Survey) (text : List ℕ) (pause : Option Paused) (found : StreamState) (n valid : ℕ) (begun : Bool) (blocks : Option Blocks)
    (holds : RamTable → List PageRecord → Type 0) → asked.limit ≤ 2 ^ 40
    → Stands (AreCountedAndTaken blocks holds) (given_of asked) text pause found n valid begun
    → IsSurveyed (given_of asked) text found n valid blocks × IsTaken holds (given_of asked) text found
both_of asked text pause found n valid begun blocks holds small s = (
  surveyed asked.frame asked.page_size asked.limit text pause found n valid begun blocks small
      (stands_weaker (AreCountedAndTaken blocks holds) (AreCounted blocks) (given_of asked) text pause found n valid begun (λ _ _ both. both.0) s),
  taken asked.frame asked.page_size asked.limit text pause found n valid begun holds small
      (stands_weaker (AreCountedAndTaken blocks holds) (HasTaken holds) (given_of asked) text pause found n valid begun (λ _ _ both. both.1) s),
)

-- the survey after the course was taken
at_last : (given : Settings) (text : List ℕ) (holds : RamTable → List PageRecord → Type 0) (first last : Survey) (found : StreamState) (n valid : ℕ)
    (blocks : Option Blocks)
    → last.libvirt ≡ first.libvirt → last.state ≡ found → last.sections ≡ n → last.valid ≡ valid → last.blocks ≡ blocks
    → IsSurveyed given (drop (before_of first.libvirt) text) found n valid blocks × IsTaken holds given (drop (before_of first.libvirt) text) found
    → IsSurveyed given (drop (before_of last.libvirt) text) last.state last.sections last.valid last.blocks
    × IsTaken holds given (drop (before_of last.libvirt) text) last.state
at_last given text holds first last found n valid blocks libvirt state sections bytes listed both =
    subst (λ (l : Option LibvirtHeader). IsSurveyed given (drop (before_of l) text) last.state last.sections last.valid last.blocks
    × IsTaken holds given (drop (before_of l) text) last.state) (sym libvirt)
    (subst (λ (f : StreamState). IsSurveyed given (drop (before_of first.libvirt) text) f last.sections last.valid last.blocks
    × IsTaken holds given (drop (before_of first.libvirt) text) f) (sym state)
    (subst (λ k. IsSurveyed given (drop (before_of first.libvirt) text) found k last.valid last.blocks
    × IsTaken holds given (drop (before_of first.libvirt) text) found) (sym sections)
    (subst (λ k. IsSurveyed given (drop (before_of first.libvirt) text) found n k last.blocks
    × IsTaken holds given (drop (before_of first.libvirt) text) found) (sym bytes)
    (subst (λ (b : Option Blocks). IsSurveyed given (drop (before_of first.libvirt) text) found n valid b
    × IsTaken holds given (drop (before_of first.libvirt) text) found) (sym listed) both))))

-- The first piece was read, with libvirt's header, then the others.
pub survey_of : (asked first last : Survey) (holds : RamTable → List PageRecord → Type 0) (text piece : List ℕ) (before : ℕ)
    (input after : Option (List ℕ)) (pause : Option Paused) (found : StreamState) (n valid : ℕ) (begun : Bool) (blocks : Option Blocks)
    → asked.limit ≤ 2 ^ 40 → IsAsked asked first → before ≡ before_of first.libvirt
    → last.libvirt ≡ first.libvirt → last.state ≡ found → last.sections ≡ n → last.valid ≡ valid → last.blocks ≡ blocks
    → input ≡ Some text → length text < 2 ^ 63 → Consumes input after piece
    → ((rest : List ℕ) → after ≡ Some rest → length (piece ++ rest) < 2 ^ 63
    → Stands (AreCountedAndTaken blocks holds) (given_of first) (drop before (piece ++ rest)) pause found n valid begun)
    → IsSurveyed (given_of asked) (drop (before_of last.libvirt) text) last.state last.sections last.valid last.blocks
    × IsTaken holds (given_of asked) (drop (before_of last.libvirt) text) last.state
survey_of asked first last holds text piece before input after pause found n valid begun blocks small same_asked same libvirt state sections bytes listed is few
    consumes read =
    at_last (given_of asked) text holds first last found n valid blocks libvirt state sections bytes listed
    (both_of asked (drop (before_of first.libvirt) text) pause found n valid begun blocks holds small
    (stands_whole (AreCountedAndTaken blocks holds) asked first text piece before (before_of first.libvirt) input after pause found n valid begun same_asked is
    few consumes same read))

-- libvirt's header in the first piece is in the input.
pub header_whole : (first last : Option LibvirtHeader) (text piece : List ℕ) (input after : Option (List ℕ))
    → last ≡ first → input ≡ Some text → Consumes input after piece → IfSome first (λ h. IsHeader piece h.len) → IfSome last (λ h. IsHeader text h.len)
header_whole first last text piece input after same is consumes header =
    let from = consumes_left text after piece (subst (λ (o : Option (List ℕ)). Consumes o after piece) is consumes) in
    subst (λ (l : Option LibvirtHeader). IfSome l (λ h. IsHeader text h.len)) (sym same)
    (subst (λ (b : List ℕ). IfSome first (λ h. IsHeader b h.len)) (sym from.2) (headed first piece from.0 header))
