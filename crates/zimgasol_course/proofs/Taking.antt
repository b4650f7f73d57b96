-- What takes the records of a stream as they are read.
use Rattle.std.proofs.Common.{ℕ, ◌≡◌, ◌≢◌, ◌+◌, ◌<◌, ◌^◌, Bool, true, false, List, [], ◌∷◌}
use Rattle.std.proofs.Common.{◌++◌, length, Option, Some, None, All, take, Bor, refl, sym, ap, ◌∙◌, subst, append_assoc, arith}
use Rattle.std.specs.Prelude.{IfSome, MatchOption}
use Rattle.std.specs.List.{flat_map}
use Rattle.std.proofs.Math.Nat.{min-eq_left}
use Rattle.std.specs.Option.{option_copied}
use Rattle.std.proofs.lemmas.List.{append-nil, length-append, flat_map_more, take_more}
use Rattle.std.proofs.lemmas.List.Elements.{All-get_or}
use Rattle.mig_mem.specs.declared.place.Place.{Place}
use Rattle.mig_mem.specs.Place.{place_at}
use Rattle.mig_mem.specs.PageSize.{IsPageSize}
use Rattle.mig_mem.specs.RamTable.{RamTable}
use Rattle.mig_mem.specs.Place.{IsPlace}
use Rattle.mig_stream.specs.declared.item.StreamState.{StreamState}
use Rattle.mig_stream.specs.declared.item.StreamState.TheVariants.{Reading}
use Rattle.mig_stream.specs.declared.record_reader.RecordEvent.{RecordEvent}
use Rattle.mig_stream.specs.declared.record_reader.RecordEvent.TheVariants.{Records, Section, End}
use Rattle.mig_stream.specs.PageRecord.{PageRecord}
use Rattle.mig_stream.specs.Progress.{StreamProgress, start, whole_table}
use Rattle.mig_stream.specs.Round.{RoundOfRecords, record_at}
use Rattle.mig_stream.specs.Reading.{Settings, StreamReading, Reads}
use Rattle.mig_stream.specs.Reader.{HasTable, IsValidUpTo}
use Rattle.mig_stream.specs.Giving.{Giver, GivenSoFar, none_given, with_given, Gives, GivesOn, GiverTells, EndsSo, HasNoneLeft, Paused, PausesAt}
use Rattle.mig_stream.proofs.Exists.{one_reading_law}
use Rattle.mig_stream.proofs.Feeding.{reads_short}
use Rattle.mig_stream.proofs.Later.{Ends-more}
use Rattle.mig_stream.proofs.Limits.{limits_law}
use Rattle.mig_stream.proofs.Longer.{longer_law}
use Rattle.mig_stream.proofs.Valid.{one_place, stays_valid}
use Rattle.mig_stream.proofs.Giver.{none_before_table, few_sections, table_each}
use Rattle.zimgasol_course.specs.Course.{all_records, HoldsAll, Keeps, Begins, Puts, Counts, IsEnd, Waits, Taken, TakesOn, TakesAll, Stands}

-- ---- all records

flat_last : (xs : List (List PageRecord)) (x : List PageRecord) → flat_map (λ r. r) xs ++ x ≡ flat_map (λ r. r) (xs ++ x ∷ []) ++ []
flat_last xs x = flat_map_more (λ (r : List PageRecord). r) [] xs x ∙ sym (append-nil (flat_map (λ r. r) (xs ++ x ∷ [])))

all_more : (gave : RecordEvent) (records : List PageRecord) (so_far : GivenSoFar) → (IsEnd gave → ⊥)
    → all_records so_far ++ records ≡ all_records (with_given gave records so_far)
all_more Records records so_far more = append_assoc (flat_map (λ r. r) so_far.sections) so_far.open_section records
all_more Section records so_far more =
    append_assoc (flat_map (λ r. r) so_far.sections) so_far.open_section records ∙ flat_last so_far.sections (so_far.open_section ++ records)
all_more (End found) records so_far more = absurd (more tt)

none_all : (so_far : GivenSoFar) → so_far.sections ≡ [] → so_far.open_section ≡ [] → all_records so_far ≡ []
none_all so_far sections open_section = ap (λ (x : List (List PageRecord)). flat_map (λ r. r) x ++ so_far.open_section) sections ∙ open_section

-- ---- the records given last

-- so many of them were taken
abbrev pub PutsSome : (Option RamTable → List PageRecord → Type 0) → (Option RamTable → List PageRecord → Type 0) → RoundOfRecords → ℕ → Type 0
PutsSome old new round n = (table : RamTable) (records : List PageRecord) → All (λ x. IsPlace table x.place) round.records → round.page_size ≡ table.page_size
    → old (Some table) records → new (Some table) (records ++ take n round.records)

pub puts_none : (old : Option RamTable → List PageRecord → Type 0) (round : RoundOfRecords) → PutsSome old old round 0
puts_none old round = λ table records places size had. subst (λ (l : List PageRecord). old (Some table) l) (sym (append-nil records)) had

pub puts_more : (old mid new : Option RamTable → List PageRecord → Type 0) (round : RoundOfRecords) (i : ℕ) (place : Place)
    (content : Option (Bor (List ℕ))) → i < length round.records
    → place ≡ (record_at round.records i).place → option_copied content ≡ (record_at round.records i).content
    → IfSome content (λ bytes. length bytes.now ≡ round.page_size)
    → ((table : RamTable) (records : List PageRecord) → IsPlace table place → IfSome content (λ bytes. length bytes.now ≡ table.page_size)
    → mid (Some table) records
    → new (Some table) (records ++ record { place = place; content = option_copied content } ∷ []))
    → PutsSome old mid round i → PutsSome old new round (i + 1)
puts_more old mid new round i place content lt there is has_size put so = λ table records places size had.
    let r : PageRecord = record_at round.records i in
    let here : IsPlace table place = subst (IsPlace table) (sym there) (All-get_or (λ x. IsPlace table x.place) round.records i
    (record { place = place_at 0 0; content = None }) lt places) in
    let bytes : IfSome content (λ b. length b.now ≡ table.page_size) = subst (λ (n : ℕ). IfSome content (λ b. length b.now ≡ n)) size has_size in
    let one : record { place = place; content = option_copied content } ≡ r = rw (there, is) refl in
    let all : new (Some table) ((records ++ take i round.records) ++ record { place = place; content = option_copied content } ∷ []) = put table
    (records ++ take i round.records) here bytes (so table records places size had) in
    let next : take i round.records ++ r ∷ [] ≡ take (i + 1) round.records = sym (take_more round.records i
    (record { place = place_at 0 0; content = None }) lt) in
    let put_next : take i round.records ++ record { place = place; content = option_copied content } ∷ [] ≡ take (i + 1) round.records = ap
    (λ (x : PageRecord). take i round.records ++ x ∷ []) one ∙ next in
    let is_next : (records ++ take i round.records) ++ record { place = place; content = option_copied content } ∷ [] ≡ records ++ take (i + 1) round.records =
    append_assoc records (take i round.records) (record { place = place; content = option_copied content } ∷ []) ∙ ap
    (λ (l : List PageRecord). records ++ l) put_next in
    subst (λ (l : List PageRecord). new (Some table) l) is_next all

pub puts_whole : (old new : Option RamTable → List PageRecord → Type 0) (round : RoundOfRecords) (n : ℕ) → take n round.records ≡ round.records
    → PutsSome old new round n → Puts true old new round
puts_whole old new round n whole so = λ table records places size had.
    subst (λ (l : List PageRecord). new (Some table) (records ++ l)) whole (so table records places size had)

-- ---- the count of sections

count_more : (gave : RecordEvent) (records : List PageRecord) (so_far : GivenSoFar) (n more : ℕ) → Counts gave n more → n ≡ length so_far.sections
    → length (with_given gave records so_far).sections < 2 ^ 63
    → more ≡ length (with_given gave records so_far).sections
count_more Records records so_far n more counts is few = counts ∙ is
count_more Section records so_far n more counts is few =
    let one : length (so_far.sections ++ (so_far.open_section ++ records) ∷ []) ≡ length so_far.sections + 1 = length-append so_far.sections
    ((so_far.open_section ++ records) ∷ []) in
    counts ∙ min-eq_left (omega (arith, few, one, is)) ∙ ap (λ (k : ℕ). k + 1) is ∙ sym one
count_more (End found) records so_far n more counts is few = counts ∙ is

-- ---- the taker

size_of : (given : Settings) (text : List ℕ) (table : RamTable) → IsPageSize given.page_size → HasTable given text (Some table)
    → table.page_size ≡ given.page_size
size_of given text table size has = (limits_law given text has.0 size has.1).has_page_size table (sym has.2)

known : (old mid put new : Option RamTable → List PageRecord → Type 0) (given : Settings) (text : List ℕ) (so_far : GivenSoFar) (gave : RecordEvent)
    (r : Giver) (begun : Bool) (n : ℕ) (then : Bool)
    → Waits old given text so_far gave r begun n → then ≡ true → Puts then mid put r.given → Keeps put new
    → (table : RamTable) → HasTable given text (Some table) → mid (Some table) (all_records so_far)
    → HoldsAll new given text (with_given gave r.given.records so_far) then
known old mid put new given text so_far gave r begun n then w is puts keeps table has held =
    let p : Puts true mid put r.given = subst (λ (b : Bool). Puts b mid put r.given) is puts in
    let size : r.given.page_size ≡ table.page_size = w.is_size ∙ sym (size_of given text table w.gives.is_page_size has) in
    let all : new (Some table) (all_records so_far ++ r.given.records) = keeps (Some table) _
    (p table (all_records so_far) (w.has_places table has) size held) in
    subst (λ (b : Bool). HoldsAll new given text (with_given gave r.given.records so_far) b) (sym is)
    (table, has, subst (λ (l : List PageRecord). new (Some table) l) (all_more gave r.given.records so_far w.is_more) all)

holds_next : (old mid put new : Option RamTable → List PageRecord → Type 0) (given : Settings) (text : List ℕ) (so_far : GivenSoFar) (gave : RecordEvent)
    (r : Giver) (begun : Bool) (n : ℕ) (then : Bool) (o : Option RamTable)
    → whole_table r.progress ≡ o → Waits old given text so_far gave r begun n → Begins old mid o begun then → Puts then mid put r.given → Keeps put new
    → HoldsAll new given text (with_given gave r.given.records so_far) then
holds_next old mid put new given text so_far gave r true n then o whole w begins puts keeps =
    let has : HoldsAll old given text so_far true = w.has_all in
    known old mid put new given text so_far gave r true n then w begins.0 puts keeps has.0 has.1 (begins.1 (Some has.0) (all_records so_far) has.2)
holds_next old mid put new given text so_far gave r false n then (Some table) whole w begins puts keeps =
    let none : HoldsAll old given text so_far false = w.has_all in
    let has : HasTable given text (Some table) = table_each r (Some table) (Some table) refl (sym whole) given text (with_given gave r.given.records so_far)
    w.gives in
    known old mid put new given text so_far gave r false n then w begins.0 puts keeps table has
    (subst (λ (l : List PageRecord). mid (Some table) l) (sym (none_all so_far none.0 none.1)) (begins.1 none.2))
holds_next old mid put new given text so_far gave r false n then None whole w begins puts keeps =
    let none : HoldsAll old given text so_far false = w.has_all in
    let p : Keeps mid put = subst (λ (b : Bool). Puts b mid put r.given) begins.0 puts in
    let both = none_before_table given text (with_given gave r.given.records so_far) r w.gives whole in
    subst (λ (b : Bool). HoldsAll new given text (with_given gave r.given.records so_far) b) (sym begins.0)
    (both.0, both.1, keeps None [] (p None [] (begins.1 None [] none.2)))

pub taken_next : (old mid put new : Option RamTable → List PageRecord → Type 0) (gave : RecordEvent) (r : Giver) (begun : Bool) (n : ℕ) (then : Bool) (more : ℕ)
    → Begins old mid (whole_table r.progress) begun then → Puts then mid put r.given → Keeps put new → Counts gave n more
    → (given : Settings) (text : List ℕ) (so_far : GivenSoFar) → Waits old given text so_far gave r begun n
    → Taken new given text (with_given gave r.given.records so_far) r then more
taken_next old mid put new gave r begun n then more begins puts keeps counts = λ given text so_far w.
    let few = few_sections given text (with_given gave r.given.records so_far) r w.gives in record {
      is_short = w.is_short;
      gives = w.gives;
      has_sections = count_more gave r.given.records so_far n more counts w.has_sections (omega (arith, few, w.is_short));
      has_all = holds_next old mid put new given text so_far gave r begun n then (whole_table r.progress) refl w begins puts keeps;
    }

-- ---- the loop

-- what a call of a reader gives
pub record Step (gave : RecordEvent) (old new : Giver) : Type 0 where
  pub ok : GivesOn (with_given gave new.given.records) old new
  pub page_size : GiverTells old (λ given text so_far. new.given.page_size ≡ given.page_size)
  pub places : GiverTells old (λ given text so_far. (table : RamTable) → HasTable given text (Some table) → All (λ x. IsPlace table x.place) new.given.records)
  pub end : GiverTells old (EndsSo gave)

waits_of : (holds : Option RamTable → List PageRecord → Type 0) (given : Settings) (text : List ℕ) (so_far : GivenSoFar) (gave : RecordEvent) (r s : Giver)
    (begun : Bool) (n : ℕ) → (IsEnd gave → ⊥) → Step gave r s
    → Taken holds given text so_far r begun n → Waits holds given text so_far gave s begun n
waits_of holds given text so_far gave r s begun n more step t = record {
  is_short = t.is_short;
  is_more = more;
  gives = step.ok given text so_far t.gives;
  is_size = step.page_size given text so_far t.gives;
  has_places = step.places given text so_far t.gives;
  has_sections = t.has_sections;
  has_all = t.has_all;
}

pub takes_none : (holds : Option RamTable → List PageRecord → Type 0) (r : Giver) (begun : Bool) (n : ℕ) → TakesOn holds r begun n holds r begun n
takes_none holds r begun n = λ given text so_far t. (so_far, t)

pub takes_on : (old mid new : Option RamTable → List PageRecord → Type 0) (gave : RecordEvent) (r0 r s : Giver) (b0 b then : Bool) (n0 n more : ℕ)
    → (IsEnd gave → ⊥) → Step gave r s
    → ((given : Settings) (text : List ℕ) (so_far : GivenSoFar) → Waits mid given text so_far gave s b n
    → Taken new given text (with_given gave s.given.records so_far) s then more)
    → TakesOn old r0 b0 n0 mid r b n → TakesOn old r0 b0 n0 new s then more
takes_on old mid new gave r0 r s b0 b then n0 n more not_end step next so = λ given text so_far t.
    let was = so given text so_far t in
    (with_given gave s.given.records was.0, next given text was.0 (waits_of mid given text was.0 gave r s b n not_end step was.1))

pub takes_all : (old mid : Option RamTable → List PageRecord → Type 0) (gave : RecordEvent) (found : StreamState) (r0 r s : Giver) (b0 b : Bool) (n0 n : ℕ)
    → gave ≡ End found → Step gave r s
    → TakesOn old r0 b0 n0 mid r b n → TakesAll old r0 b0 n0 mid s b n found
takes_all old mid gave found r0 r s b0 b n0 n is step so = λ given text so_far t.
    let was = so given text so_far t in
    let last : Step (End found) r s = subst (λ (x : RecordEvent). Step x r s) is step in (
      was.0,
      record { is_short = was.1.is_short; gives = last.ok given text was.0 was.1.gives; has_sections = was.1.has_sections; has_all = was.1.has_all },
      last.end given text was.0 was.1.gives,
    )

-- ---- between two pieces

pub stands_first : (holds : Option RamTable → List PageRecord → Type 0) (given : Settings) (p : Paused) → holds None [] → PausesAt given [] none_given p
    → Stands holds given [] (Some p) Reading 0 0 false
stands_first holds given p held at =
    let begin : StreamProgress = start given.frame given.mode given.page_size given.limit given.waiting in
    let reading : StreamReading = record { table = None; rounds = []; state = Reading } in
    let reads : Reads begin [] begin [] Reading = reads_short begin [] (omega arith) in
    record {
      is_page_size = at.is_page_size;
      so_far = none_given;
      has_reading = record {
        reading = reading;
        is_reading = record { to = begin; rest = []; reads = reads; has_table = refl; has_rounds = refl };
        has_sections = refl;
        has_state = refl;
        has_open = refl;
        has_none_open = λ e. refl;
      };
      has_sections = refl;
      has_valid = record {
        to = begin;
        rest = [];
        state = Reading;
        reads = reads;
        has_length = omega
            (arith, ap (λ (l : List ℕ). length l) reads.has_text, length-append reads.front []);
      };
      has_all = (refl, refl, held);
      pauses = at;
    }

-- a longer stream keeps its table
longer_table : (given : Settings) (text piece : List ℕ) (table : RamTable) → IsPageSize given.page_size → HasTable given text (Some table)
    → HasTable given (text ++ piece) (Some table)
longer_table given text piece table size has =
    let now = one_reading_law given (text ++ piece) size in
    (now.0, now.1, sym ((longer_law given text piece has.0 now.0 size has.1 now.1).same_table table (sym has.2)))

longer_all : (holds : Option RamTable → List PageRecord → Type 0) (given : Settings) (text piece : List ℕ) (so_far : GivenSoFar) (begun : Bool)
    → IsPageSize given.page_size
    → HoldsAll holds given text so_far begun → HoldsAll holds given (text ++ piece) so_far begun
longer_all holds given text piece so_far true size has = (has.0, longer_table given text piece has.0 size has.1, has.2)
longer_all holds given text piece so_far false size has = has

pub stands_over : (holds : Option RamTable → List PageRecord → Type 0) (given : Settings) (text piece : List ℕ) (found : StreamState) (n valid : ℕ)
    (begun : Bool)
    → Stands holds given text None found n valid begun → Stands holds given (text ++ piece) None found n valid begun
stands_over holds given text piece found n valid begun s =
    let h = s.has_reading in
    let over : h.reading.state ≢ Reading = λ e. s.pauses (sym h.has_state ∙ e) in
    let i = h.is_reading in
    let place = one_place given (text ++ piece) s.is_page_size in
    let same : valid ≡ place.0 = (stays_valid given text piece valid place.0 s.has_valid place.1).1 (h.reading, i, over) in
    record {
      is_page_size = s.is_page_size;
      so_far = s.so_far;
      has_reading = record {
        reading = h.reading;
        is_reading = record {
          to = i.to;
          rest = i.rest ++ piece;
          reads = record {
            front = i.reads.front;
            has_text = ap (λ (l : List ℕ). l ++ piece) i.reads.has_text ∙ append_assoc i.reads.front i.rest piece;
            leads = i.reads.leads;
            ends = Ends-more i.to i.rest piece h.reading.state over i.reads.ends;
          };
          has_table = i.has_table;
          has_rounds = i.has_rounds;
        };
        has_sections = h.has_sections;
        has_state = h.has_state;
        has_open = h.has_open;
        has_none_open = h.has_none_open;
      };
      has_sections = s.has_sections;
      has_valid = subst (λ (k : ℕ). IsValidUpTo given (text ++ piece) k) (sym same) place.1;
      has_all = longer_all holds given text piece s.so_far begun s.is_page_size s.has_all;
      pauses = s.pauses;
    }

-- a piece that was read
resumes : (holds : Option RamTable → List PageRecord → Type 0) (given : Settings) (text piece : List ℕ) (p : Paused) (r : Giver) (found : StreamState)
    (n valid : ℕ) (begun : Bool)
    → length (text ++ piece) < 2 ^ 63
    → ((given : Settings) (text : List ℕ) (so_far : GivenSoFar) → PausesAt given text so_far p → Gives given (text ++ piece) so_far r)
    → (s : Stands holds given text (Some p) found n valid begun) → Taken holds given (text ++ piece) s.so_far r begun n
resumes holds given text piece p r found n valid begun few resume s = record {
  is_short = few;
  gives = resume given text s.so_far s.pauses;
  has_sections = s.has_sections;
  has_all = longer_all holds given text piece s.so_far begun s.is_page_size s.has_all;
}

pub stands_next : (old new : Option RamTable → List PageRecord → Type 0) (given : Settings) (text piece : List ℕ) (p : Paused) (r0 r : Giver)
    (before found : StreamState) (n0 n v valid : ℕ) (b0 b : Bool) (next : Option Paused)
    → length (text ++ piece) < 2 ^ 63
    → ((given : Settings) (text : List ℕ) (so_far : GivenSoFar) → PausesAt given text so_far p → Gives given (text ++ piece) so_far r0)
    → TakesAll old r0 b0 n0 new r b n found
    → ((given : Settings) (text : List ℕ) (so_far : GivenSoFar) → Gives given text so_far r → length text < 2 ^ 64 → IsValidUpTo given text valid)
    → MatchOption next (found ≢ Reading) (λ q. (given : Settings) (text : List ℕ) (so_far : GivenSoFar) → Gives given text so_far r
    → PausesAt given text so_far q)
    → Stands old given text (Some p) before n0 v b0 → Stands new given (text ++ piece) next found n valid b
stands_next old new given text piece p r0 r before found n0 n v valid b0 b next few resume takes is_valid pausing s =
    let all = takes given (text ++ piece) s.so_far (resumes old given text piece p r0 before n0 v b0 few resume s) in
    record {
      is_page_size = s.is_page_size;
      so_far = all.0;
      has_reading = all.2;
      has_sections = all.1.has_sections;
      has_valid = is_valid given (text ++ piece) all.0 all.1.gives (omega (arith, few));
      has_all = all.1.has_all;
      pauses = pauses_at next pausing all.1.gives;
    }
  where
    pauses_at : {text : List ℕ} {so_far : GivenSoFar} (o : Option Paused)
        → MatchOption o (found ≢ Reading) (λ q. (given : Settings) (text : List ℕ) (so_far : GivenSoFar) → Gives given text so_far r
        → PausesAt given text so_far q)
        → Gives given text so_far r → MatchOption o (found ≢ Reading) (PausesAt given text so_far)
    pauses_at {text} {so_far} None over g = over
    pauses_at {text} {so_far} (Some q) at g = at given text so_far g

pub not_end : (gave : RecordEvent) → ((found : StreamState) → gave ≡ End found → ⊥) → IsEnd gave → ⊥
not_end Records other end = end
not_end Section other end = end
not_end (End found) other end = other found refl

pub found_some : (r : Giver) (found : StreamState) → HasNoneLeft found r → r.found ≢ None
found_some r found none = λ e. absurd (let both : Some found ≡ None = sym none.has_found ∙ e in cc)

kept_all : (old new : Option RamTable → List PageRecord → Type 0) (given : Settings) (text : List ℕ) (so_far : GivenSoFar) (b : Bool) → Keeps old new
    → HoldsAll old given text so_far b → HoldsAll new given text so_far b
kept_all old new given text so_far true keeps has = (has.0, has.1, keeps (Some has.0) (all_records so_far) has.2)
kept_all old new given text so_far false keeps has = (has.0, has.1, keeps None [] has.2)

pub stands_kept : (old new : Option RamTable → List PageRecord → Type 0) (given : Settings) (text : List ℕ) (pause : Option Paused) (found : StreamState)
    (n valid : ℕ) (begun : Bool) → Keeps old new
    → Stands old given text pause found n valid begun → Stands new given text pause found n valid begun
stands_kept old new given text pause found n valid begun keeps s = record {
  is_page_size = s.is_page_size;
  so_far = s.so_far;
  has_reading = s.has_reading;
  has_sections = s.has_sections;
  has_valid = s.has_valid;
  has_all = kept_all old new given text s.so_far begun keeps s.has_all;
  pauses = s.pauses;
}

-- a taker that kept what it had has taken as much as before
pub takes_kept : (old mid new : Option RamTable → List PageRecord → Type 0) (r0 r : Giver) (b0 b : Bool) (n0 n : ℕ) → Keeps mid new
    → TakesOn old r0 b0 n0 mid r b n → TakesOn old r0 b0 n0 new r b n
takes_kept old mid new r0 r b0 b n0 n keeps so = λ given text so_far t.
    let was = so given text so_far t in (
      was.0,
      record {
        is_short = was.1.is_short;
        gives = was.1.gives;
        has_sections = was.1.has_sections;
        has_all = kept_all mid new given text was.0 b keeps was.1.has_all;
      },
    )
