-- What is read to its end byte is spelled so.
use Rattle.std.proofs.Common.{◌≡◌, ℕ, ◌+◌, ◌^◌, ◌<◌, ◌≤◌, Bool, true, false, cond, List, [], ◌∷◌, ◌++◌, length}
use Rattle.std.proofs.Common.{get_or, Option, Some, None, refl, sym, ap, subst}
use Rattle.std.proofs.Common.{◌∙◌, append_assoc, arith, inl, inr}
use Rattle.std.specs.List.{flat_map, list_any, AllByRecursion}
use Rattle.std.specs.Prelude.{All, IfSome, ◌&&◌}
use Rattle.std.proofs.lemmas.List.{append-nil, map-append, length-map}
use Rattle.std.proofs.lemmas.List.Elements.{All-append, All-cons, All-nil}
use Rattle.mig_mem.specs.PageSize.{IsPageSize}
use Rattle.mig_mem.specs.RamTable.{RamTable, IsTable}
use Rattle.mig_stream.specs.declared.item.Frame.{Frame}
use Rattle.mig_stream.specs.declared.item.Frame.TheVariants.{Ram, Machine}
use Rattle.mig_stream.specs.declared.item.Mode.{Mode}
use Rattle.mig_stream.specs.declared.item.Mode.TheVariants.{Single}
use Rattle.mig_stream.specs.declared.item.Section.{Section}
use Rattle.mig_stream.specs.declared.item.Section.TheVariants.{Start, Part, End}
use Rattle.mig_stream.specs.declared.item.Before.TheVariants as before
use Rattle.mig_stream.specs.declared.item.Due.{Due}
use Rattle.mig_stream.specs.declared.item.Due.TheVariants.{TypeByte, Nothing}
use Rattle.mig_stream.specs.declared.item.StreamState.{StreamState}
use Rattle.mig_stream.specs.declared.item.StreamState.TheVariants.{Closed}
use Rattle.mig_stream.specs.declared.item.EntryForm.{EntryForm}
use Rattle.mig_stream.specs.declared.item.EntryForm.TheVariants.{Plain, Addressed}
use Rattle.mig_stream.specs.declared.item.RecordKind.TheVariants.{SizeList}
use Rattle.mig_stream.specs.PageRecord.{PageRecord}
use Rattle.mig_stream.specs.Fields.{be64}
use Rattle.mig_stream.specs.Format.{end_byte, full_type, flags_of, most_name_bytes}
use Rattle.mig_stream.specs.Progress.{StreamProgress, start, whole_table}
use Rattle.mig_stream.specs.Items.{is_single, is_machine, is_part, is_addressed, size}
use Rattle.mig_stream.specs.Reading.{Settings, IsOver, Ends, StreamReading, IsReading}
use Rattle.mig_stream.specs.Text.{Record, HasNoFlush, page_records, file_header, configuration, start_head, size_list, total_bytes, Follow}
use Rattle.mig_stream.specs.Text.{all_records, body, section, IsText, AreRounds}
use Rattle.mig_stream.specs.Machine.{PassedSection, passed_section, IsPassedSection, has_advise, names_shared, ignores_shared, form_of, IsTail, entries}
use Rattle.mig_stream.specs.Machine.{tailed_list}
use Rattle.mig_stream.specs.Machine.{SubsectionBody, subsection, Configuration, configured, IsConfiguration, PartOrPassed, PartOf, PassedOf, part_or_passed}
use Rattle.mig_stream.specs.Machine.{AreBetween, parts_of, IsMachineText, IsSnapshotText}
use Rattle.mig_stream.specs.Law.{ReadIsSpelled, HasMachineText, HasSnapshot, HasMachineRam, MachineReadIsSpelled}
use Rattle.mig_stream.proofs.Stopping.{over_is}
use Rattle.mig_stream.proofs.Plain.{plain_due, single_from}
use Rattle.mig_stream.proofs.Tables.{sum_of, table_from_blocks, total_is_sum}
use Rattle.mig_stream.proofs.After.{FlushesFit}
use Rattle.mig_stream.proofs.Modes.{single_kept}
use Rattle.mig_stream.proofs.SectionRounds.{rounds_spelled}
use Rattle.mig_stream.proofs.FoundFields.{IsBytes, bytes_from_all, bytes_of_front}
use Rattle.mig_stream.proofs.Tails.{plain_list}
use Rattle.mig_stream.proofs.FoundTail.{ends_of, last_records, end_bytes, StandsAfter, HasNoPassed, Follow-append, FlushesFit-cons}
use Rattle.mig_stream.proofs.FoundOpening.{RestOfFile}
use Rattle.mig_stream.proofs.FoundItems.{MayStop, items_back}

-- the size list, in front of what is left
list_spelled : (table : RamTable) (tails : List (List ℕ)) (bytes : List ℕ)
    → be64 (sum_of table.page_size table.blocks + flags_of SizeList) ++ (entries table.page_size table.blocks tails ++ bytes) ≡ tailed_list table tails ++ bytes
unfolding tailed_list
list_spelled table tails bytes =
    ap (λ (n : ℕ). be64 (n + flags_of SizeList) ++ (entries table.page_size table.blocks tails ++ bytes)) (sym (total_is_sum table))
    ∙ sym (append_assoc (be64 (total_bytes table + flags_of SizeList)) (entries table.page_size table.blocks tails) bytes)

-- the parts of a stream, put together otherwise
regroup : (f c x s l b p e : List ℕ) → f ++ (c ++ (x ++ (s ++ (l ++ (b ++ (p ++ e)))))) ≡ f ++ c ++ x ++ s ++ l ++ b ++ p ++ e
regroup f c x s l b p e = simp append_assoc

-- A stream of either frame: what a machine's stream alone has isn't there in the other. A background
-- snapshot has no END.
pub record IsFramedText (frame : Frame) (mode : Mode) (limit : ℕ) (text : List ℕ) (table : RamTable) (rounds : List (List PageRecord)) : Type 0 where
  pub id : ℕ
  pub machine : Option Configuration
  pub opening : List PassedSection
  pub tails : List (List ℕ)
  pub first : List Record
  pub others : List PartOrPassed
  pub last : Option (List Record)
  pub is_spelled : text ≡ file_header ++ configured machine ++ flat_map passed_section opening ++ start_head id ++ tailed_list table tails
      ++ body table id first
      ++ flat_map (part_or_passed table id) others ++ end_bytes table id (is_machine frame) last
  pub has_table : IsTable table
  pub has_limit : total_bytes table ≤ limit
  pub has_id : id < 2 ^ 32
  pub has_machine : IfSome machine (IsConfiguration table.page_size)
  pub is_opening : AllByRecursion (IsPassedSection true) opening
  pub is_one_form : ignores_shared machine ≡ true → list_any has_advise opening ≡ false
  pub has_tails : length tails ≡ length table.blocks
  pub are_tails : AllByRecursion (IsTail (form_of machine opening)) tails
  pub are_others : AreBetween true others
  pub follow : Follow table None (first ++ all_records (parts_of others) ++ last_records last)
  pub has_rounds : AreRounds mode (first ∷ parts_of others ++ ends_of last) rounds
  pub no_subsections : is_machine frame ≡ false → IfSome machine (λ x. x.subsections ≡ [])
  pub no_opening : is_machine frame ≡ false → opening ≡ []
  pub no_others : is_machine frame ≡ false → HasNoPassed others

-- A complete stream that is left from the first byte on is a stream of its table and its rounds.
pub record IsFound (frame : Frame) (mode : Mode) (page_size limit : ℕ) (to : StreamProgress) (text : List ℕ) : Type 0 where
  pub table : RamTable
  pub has_page_size : table.page_size ≡ page_size
  pub has_table : whole_table to ≡ Some table
  pub has_text : IsFramedText frame mode limit text table to.rounds
  pub stands : StandsAfter to Start has_text.others has_text.last

-- Such a rest is a stream.
pub text_found : (frame : Frame) (mode : Mode) (page_size limit : ℕ) (waiting : Option ℕ) (to : StreamProgress) (text : List ℕ)
    → IsPageSize page_size → limit ≤ 2 ^ 40 → RestOfFile to (start frame mode page_size limit waiting) text
    → IsFound frame mode page_size limit to text
text_found frame mode page_size limit waiting to text size small file =
    let opening = file.rest in
    let before = opening.rest in
    let begun = before.rest in
    let list = begun.rest in
    let records = list.rest in
    let tail = records.others in
    let id = begun.id in
    let table : RamTable = record { page_size = page_size; blocks = list.blocks } in
    let others = flat_map (part_or_passed table id) tail.others ++ end_bytes table id (is_machine frame) tail.last in
    let six : list.tail ≡ body table id records.records ++ others = records.has_bytes
    ∙ ap (λ (x : List ℕ). body table id records.records ++ x) tail.has_bytes in
    let five : begun.tail ≡ tailed_list table list.tails ++ (body table id records.records ++ others) =
    list.has_bytes ∙ list_spelled table list.tails list.tail ∙ ap (λ (x : List ℕ). tailed_list table list.tails ++ x) six in
    let four : before.tail ≡ start_head id ++ (tailed_list table list.tails ++ (body table id records.records ++ others)) =
    begun.has_bytes ∙ ap (λ (x : List ℕ). start_head id ++ x) five in
    let commands : opening.tail ≡ flat_map passed_section before.opening
    ++ (start_head id ++ (tailed_list table list.tails ++ (body table id records.records ++ others))) =
    before.has_bytes ∙ ap (λ (x : List ℕ). flat_map passed_section before.opening ++ x) four in
    let three : file.tail ≡ configured opening.machine
    ++ (flat_map passed_section before.opening ++ (start_head id ++ (tailed_list table list.tails ++ (body table id records.records ++ others)))) =
    opening.has_bytes ∙ ap (λ (x : List ℕ). configured opening.machine ++ x) commands in
    let spelled : text ≡ file_header ++ (configured opening.machine
    ++ (flat_map passed_section before.opening ++ (start_head id ++ (tailed_list table list.tails ++ (body table id records.records ++ others))))) =
    file.has_bytes ∙ ap (λ (x : List ℕ). file_header ++ x) three in
    let sum : total_bytes table ≡ sum_of page_size list.blocks = total_is_sum table in
    let behind : List (List Record) = parts_of tail.others ++ ends_of tail.last in
    let rounds = rounds_spelled mode (records.records ∷ behind)
    (FlushesFit-cons (is_single mode) records.records behind records.flushes
    (subst (λ (single : Bool). FlushesFit single behind) (single_kept mode true [] records.records) tail.flushes)) tail.no_tail in
    record {
      table = table;
      has_page_size = refl;
      has_table = tail.has_table;
      has_text = record {
        id = id;
        machine = opening.machine;
        opening = before.opening;
        tails = list.tails;
        first = records.records;
        others = tail.others;
        last = tail.last;
        is_spelled = spelled ∙ regroup file_header (configured opening.machine) (flat_map passed_section before.opening) (start_head id)
            (tailed_list table list.tails) (body table id records.records) (flat_map (part_or_passed table id) tail.others)
            (end_bytes table id (is_machine frame) tail.last);
        has_table = table_from_blocks table size list.has_some (omega (arith, list.has_few)) list.are_blocks (omega (arith, sum, list.has_limit));
        has_limit = omega (arith, sum, list.has_limit);
        has_id = begun.has_id;
        has_machine = opening.has_machine;
        is_opening = before.is_opening;
        is_one_form = λ shared. before.is_one_form (ap (λ (b : Bool). is_addressed (cond b Addressed Plain)) shared);
        has_tails = list.has_tails;
        are_tails = list.are_tails;
        are_others = tail.are_others;
        follow = subst (Follow table None) (sym (append_assoc records.records (all_records (parts_of tail.others)) (last_records tail.last)))
            (Follow-append table None records.records (all_records (parts_of tail.others) ++ last_records tail.last) records.follow tail.follow);
        has_rounds = subst (AreRounds mode (records.records ∷ parts_of tail.others ++ ends_of tail.last)) (sym tail.has_rounds) rounds;
        no_subsections = opening.in_frame;
        no_opening = before.in_frame;
        no_others = tail.in_frame;
      };
      stands = tail.stands;
    }

-- What was read to the end of RAM is a stream of its frame. The reading stands at `to` after it.
record IsReadAs (given : Settings) (bytes rest : List ℕ) (to : StreamProgress) (reading : StreamReading) : Type 0 where
  table : RamTable
  has_page_size : table.page_size ≡ given.page_size
  has_table : reading.table ≡ Some table
  text : List ℕ
  has_bytes : bytes ≡ text ++ rest
  has_text : IsFramedText given.frame given.mode given.limit text table reading.rounds
  stands : StandsAfter to Start has_text.others has_text.last

-- the rounds of a stream are those that were read
with_rounds : (given : Settings) (to : StreamProgress) (text : List ℕ) (table : RamTable) (rounds : List (List PageRecord)) → to.rounds ≡ rounds
    → (t : IsFramedText given.frame given.mode given.limit text table to.rounds) → StandsAfter to Start t.others t.last
    → (now : IsFramedText given.frame given.mode given.limit text table rounds) × StandsAfter to Start now.others now.last
with_rounds given to text table rounds e t stands =
    subst (λ (r : List (List PageRecord)). (now : IsFramedText given.frame given.mode given.limit text table r)
    × StandsAfter to Start now.others now.last) e (t, stands)

read_as : (given : Settings) (bytes : List ℕ) (reading : StreamReading) → IsPageSize given.page_size → given.limit ≤ 2 ^ 40
    → All (λ byte. byte < 2 ^ 8) bytes → (is : IsReading given bytes reading) → MayStop is.to → IsReadAs given bytes is.rest is.to reading
read_as given bytes reading size small all is stop =
    let from : StreamProgress = start given.frame given.mode given.page_size given.limit given.waiting in
    let reads = is.reads in
    let leads = reads.leads in
    let whole : IsBytes bytes = bytes_from_all bytes all in
    let front : IsBytes reads.front = bytes_of_front reads.front is.rest (subst IsBytes reads.has_text whole) in
    let left = items_back is.to from leads.items leads.are_faultless (subst IsBytes leads.has_bytes front) leads.leads_to stop in
    let file : RestOfFile is.to from reads.front = subst (λ (x : List ℕ). RestOfFile is.to from x) (sym leads.has_bytes) (left refl) in
    let found = text_found given.frame given.mode given.page_size given.limit given.waiting is.to reads.front size small file in
    let now = with_rounds given is.to reads.front found.table reading.rounds (sym is.has_rounds) found.has_text found.stands in
    record {
      table = found.table;
      has_page_size = found.has_page_size;
      has_table = is.has_table ∙ found.has_table;
      text = reads.front;
      has_bytes = reads.has_text;
      has_text = now.0;
      stands = now.1;
    }

-- where no item is due after it, there is END
last_is : (to : StreamProgress) (kind : Section) (others : List PartOrPassed) (last : Option (List Record)) → StandsAfter to kind others last
    → to.due ≡ Nothing → (records : List Record) × (last ≡ Some records)
last_is to kind others None stands due = absurd (let clash : Nothing ≡ TypeByte before.Footer = sym due ∙ stands.0 in cc)
last_is to kind others (Some records) stands due = (records, refl)

-- ---- of RAM's sections alone

abbrev name_of : Option Configuration → Option (List ℕ)
name_of None = None
name_of (Some x) = Some x.name

plain_configuration : (o : Option Configuration) → IfSome o (λ x. x.subsections ≡ []) → configured o ≡ configuration (name_of o)
plain_configuration None none = refl
plain_configuration (Some x) none = ap (λ (hs : List SubsectionBody). configuration (Some x.name) ++ flat_map subsection hs) none
    ∙ append-nil (configuration (Some x.name))

plain_name : (p : ℕ) (o : Option Configuration) → IfSome o (IsConfiguration p) → IfSome (name_of o) (λ bytes. length bytes ≤ most_name_bytes)
plain_name p None is = tt
plain_name p (Some x) is = is.has_name

plain_parts : (table : RamTable) (id : ℕ) (others : List PartOrPassed) → HasNoPassed others
    → flat_map (part_or_passed table id) others ≡ flat_map (section table Part id) (parts_of others)
plain_parts table id [] none = refl
plain_parts table id (PartOf records ∷ others) none = ap (λ (x : List ℕ). section table Part id records ++ x) (plain_parts table id others none)
plain_parts table id (PassedOf x ∷ others) none = absurd none

-- and nothing follows the entries
plain_machine : (o : Option Configuration) → IfSome o (λ x. x.subsections ≡ []) → form_of o [] ≡ Plain
plain_machine None none = refl
plain_machine (Some x) none = ap (λ (hs : List SubsectionBody). cond (list_any names_shared hs) Addressed Plain) none

ram_text : (mode : Mode) (limit : ℕ) (text : List ℕ) (table : RamTable) (rounds : List (List PageRecord))
    → (t : IsFramedText Ram mode limit text table rounds) (last : List Record) → t.last ≡ Some last → IsText mode limit text table rounds
ram_text mode limit text table rounds t last is_last =
    let c = plain_configuration t.machine (t.no_subsections refl) in
    let p = plain_parts table t.id t.others (t.no_others refl) in
    let form : form_of t.machine t.opening ≡ Plain = ap (form_of t.machine) (t.no_opening refl) ∙ plain_machine t.machine (t.no_subsections refl) in
    let l : tailed_list table t.tails ≡ size_list table =
    plain_list table t.tails t.has_tails (subst (λ (f : EntryForm). AllByRecursion (IsTail f) t.tails) form t.are_tails) in
    let parts : List ℕ = flat_map (part_or_passed table t.id) t.others in
    let before_end : List ℕ → List ℕ → List ℕ → List ℕ → List ℕ =
    λ c x l p. file_header ++ c ++ x ++ start_head t.id ++ l ++ body table t.id t.first ++ p in
    let behind : List ℕ → List ℕ → List ℕ → List ℕ → List ℕ = λ c x l p. before_end c x l p ++ section table End t.id last ++ end_byte ∷ [] in
    let spelled : text ≡ behind (configured t.machine) (flat_map passed_section t.opening) (tailed_list table t.tails) parts =
    t.is_spelled ∙ ap (λ (o : Option (List Record)). before_end (configured t.machine) (flat_map passed_section t.opening) (tailed_list table t.tails) parts
    ++ end_bytes table t.id false o) is_last
    ∙ sym (append_assoc (before_end (configured t.machine) (flat_map passed_section t.opening) (tailed_list table t.tails) parts)
    (section table End t.id last) (end_byte ∷ [])) in
    let one : text ≡ behind (configuration (name_of t.machine)) (flat_map passed_section t.opening) (tailed_list table t.tails) parts =
    spelled ∙ ap (λ (x : List ℕ). behind x (flat_map passed_section t.opening) (tailed_list table t.tails) parts) c in
    let two : text ≡ behind (configuration (name_of t.machine)) [] (tailed_list table t.tails) parts = one
    ∙ ap (λ (x : List PassedSection). behind (configuration (name_of t.machine)) (flat_map passed_section x) (tailed_list table t.tails) parts)
    (t.no_opening refl) in
    let listed : text ≡ behind (configuration (name_of t.machine)) [] (size_list table) parts = two
    ∙ ap (λ (x : List ℕ). behind (configuration (name_of t.machine)) [] x parts) l in
    let three : text ≡ behind (configuration (name_of t.machine)) [] (size_list table)
    (flat_map (section table Part t.id) (parts_of t.others)) = listed ∙ ap (behind (configuration (name_of t.machine)) [] (size_list table)) p in
    record {
      id = t.id;
      name = name_of t.machine;
      first = t.first;
      parts = parts_of t.others;
      last = last;
      is_spelled = three ∙ simp append-nil refl;
      has_table = t.has_table;
      has_limit = t.has_limit;
      has_id = t.has_id;
      has_name = plain_name table.page_size t.machine t.has_machine;
      follow = subst (λ (o : Option (List Record)). Follow table None (t.first ++ all_records (parts_of t.others) ++ last_records o)) is_last t.follow;
      has_rounds = subst (λ (o : Option (List Record)). AreRounds mode (t.first ∷ parts_of t.others ++ ends_of o) rounds) is_last t.has_rounds;
    }

ram_found : (frame : Frame) (mode : Mode) (limit : ℕ) (text : List ℕ) (table : RamTable) (rounds : List (List PageRecord)) → frame ≡ Ram
    → (t : IsFramedText frame mode limit text table rounds) (last : List Record) → t.last ≡ Some last → IsText mode limit text table rounds
ram_found frame mode limit text table rounds ram t last is_last =
    subst (λ (f : Frame). (t : IsFramedText f mode limit text table rounds) → t.last ≡ Some last → IsText mode limit text table rounds) (sym ram)
    (λ t is_last. ram_text mode limit text table rounds t last is_last) t is_last

-- Whatever is read to its end byte is spelled so.
pub read_law : ReadIsSpelled
read_law given bytes reading ram size small all is closed =
    let due : is.to.due ≡ Nothing = plain_due given is.reads.front is.to is.rest (ap (λ (f : Frame). is_machine f && is_single given.mode) ram)
    is.reads.leads (subst (λ (x : StreamState). Ends is.to is.rest x) closed is.reads.ends) in
    let found = read_as given bytes reading size small all is (inl due) in
    let last = last_is is.to Start found.has_text.others found.has_text.last found.stands due in (
      found.table,
      found.has_page_size,
      found.has_table,
      (
        found.text,
        is.rest,
        found.has_bytes,
        ram_found given.frame given.mode given.limit found.text found.table reading.rounds ram found.has_text last.0 last.1,
      ),
    )

-- ---- of a machine's stream

machine_text : (mode : Mode) (limit : ℕ) (text : List ℕ) (table : RamTable) (rounds : List (List PageRecord))
    → (t : IsFramedText Machine mode limit text table rounds) (last : List Record) → t.last ≡ Some last → IsMachineText mode limit text table rounds
machine_text mode limit text table rounds t last is_last =
    let front : List ℕ = file_header ++ configured t.machine ++ flat_map passed_section t.opening ++ start_head t.id ++ tailed_list table t.tails
    ++ body table t.id t.first ++ flat_map (part_or_passed table t.id) t.others in
    record {
      id = t.id;
      machine = t.machine;
      opening = t.opening;
      tails = t.tails;
      first = t.first;
      others = t.others;
      last = last;
      is_spelled = t.is_spelled ∙ ap (λ (o : Option (List Record)). front ++ end_bytes table t.id true o) is_last
          ∙ ap (λ (x : List ℕ). front ++ x) (append-nil (section table End t.id last));
      has_table = t.has_table;
      has_limit = t.has_limit;
      has_id = t.has_id;
      has_machine = t.has_machine;
      is_opening = t.is_opening;
      is_one_form = t.is_one_form;
      has_tails = t.has_tails;
      are_tails = t.are_tails;
      are_others = t.are_others;
      follow = subst (λ (o : Option (List Record)). Follow table None (t.first ++ all_records (parts_of t.others) ++ last_records o)) is_last t.follow;
      has_rounds = subst (λ (o : Option (List Record)). AreRounds mode (t.first ∷ parts_of t.others ++ ends_of o) rounds) is_last t.has_rounds;
    }

machine_found : (frame : Frame) (mode : Mode) (limit : ℕ) (text : List ℕ) (table : RamTable) (rounds : List (List PageRecord)) → frame ≡ Machine
    → (t : IsFramedText frame mode limit text table rounds) (last : List Record) → t.last ≡ Some last → IsMachineText mode limit text table rounds
machine_found frame mode limit text table rounds machine t last is_last =
    subst (λ (f : Frame). (t : IsFramedText f mode limit text table rounds) → t.last ≡ Some last → IsMachineText mode limit text table rounds) (sym machine)
    (λ t is_last. machine_text mode limit text table rounds t last is_last) t is_last

-- ---- of a background snapshot

-- one more section without records is one more round
round_more : (mode : Mode) (sections : List (List Record)) (rounds : List (List PageRecord)) → mode ≡ Single → AreRounds mode sections rounds
    → AreRounds mode (sections ++ [] ∷ []) (rounds ++ [] ∷ [])
round_more mode sections rounds single are =
    subst (λ (m : Mode). AreRounds m sections rounds → AreRounds m (sections ++ [] ∷ []) (rounds ++ [] ∷ [])) (sym single) (λ are. (
      All-append HasNoFlush sections ([] ∷ []) are.0 (All-cons HasNoFlush [] [] tt (All-nil HasNoFlush)),
      ap (λ (x : List (List PageRecord)). x ++ [] ∷ []) are.1 ∙ sym (map-append page_records sections ([] ∷ [])),
    )) are

-- a section is a round
pub sections_are : (mode : Mode) (sections : List (List Record)) (rounds : List (List PageRecord)) → mode ≡ Single → AreRounds mode sections rounds
    → length rounds ≡ length sections
sections_are mode sections rounds single are =
    subst (λ (m : Mode). AreRounds m sections rounds → length rounds ≡ length sections) (sym single)
    (λ are. ap (λ (x : List (List PageRecord)). length x) are.1 ∙ length-map sections page_records) are

snapshot_text : (mode : Mode) (limit : ℕ) (text : List ℕ) (table : RamTable) (rounds : List (List PageRecord)) → mode ≡ Single
    → (t : IsFramedText Machine mode limit text table rounds) → t.last ≡ None → 0 < length (parts_of t.others) → IsSnapshotText mode limit text table rounds
snapshot_text mode limit text table rounds single t none some =
    let front : List ℕ = file_header ++ configured t.machine ++ flat_map passed_section t.opening ++ start_head t.id ++ tailed_list table t.tails
    ++ body table t.id t.first ++ flat_map (part_or_passed table t.id) t.others in
    let sections : List (List Record) = t.first ∷ parts_of t.others in
    let spelled : text ≡ front = t.is_spelled ∙ ap (λ (o : Option (List Record)). front ++ end_bytes table t.id true o) none ∙ append-nil front in
    let rounds_are : AreRounds mode sections rounds = subst (λ (x : List (List Record)). AreRounds mode x rounds) (append-nil sections)
    (subst (λ (o : Option (List Record)). AreRounds mode (sections ++ ends_of o) rounds) none t.has_rounds) in
    record {
      id = t.id;
      is_single = single;
      with_end = record {
        id = t.id;
        machine = t.machine;
        opening = t.opening;
        tails = t.tails;
        first = t.first;
        others = t.others;
        last = [];
        is_spelled = ap (λ (x : List ℕ). x ++ section table End t.id []) spelled;
        has_table = t.has_table;
        has_limit = t.has_limit;
        has_id = t.has_id;
        has_machine = t.has_machine;
        is_opening = t.is_opening;
        is_one_form = t.is_one_form;
        has_tails = t.has_tails;
        are_tails = t.are_tails;
        are_others = t.are_others;
        follow = subst (λ (o : Option (List Record)). Follow table None (t.first ++ all_records (parts_of t.others) ++ last_records o)) none t.follow;
        has_rounds = round_more mode sections rounds single rounds_are;
      };
      has_part = omega (arith, some, sections_are mode sections rounds single rounds_are);
    }

-- where RAM is over without END, there is no END, and a PART
none_last : (to : StreamProgress) (others : List PartOrPassed) (last : Option (List Record)) → StandsAfter to Start others last
    → to.due ≡ TypeByte before.Footer → is_part to.section ≡ true → (last ≡ None) × (0 < length (parts_of others))
none_last to others (Some records) stands due part = absurd (let clash : Nothing ≡ TypeByte before.Footer = sym stands ∙ due in cc)
none_last to others None stands due part = (refl, some_part (parts_of others) refl)
  where
    some_part : (parts : List (List Record)) → parts_of others ≡ parts → 0 < length parts
    some_part [] none = absurd (let clash : false ≡ true = sym (ap is_part (stands.1 none)) ∙ part in cc)
    some_part (x ∷ parts) e = omega arith

-- the type byte of a device's section
full_item : (d : Due) (page_size : ℕ) (item : List ℕ) → d ≡ TypeByte before.Footer → length item ≡ size page_size d item → get_or item 0 0 ≡ full_type
    → item ≡ full_type ∷ []
full_item d page_size [] type whole full = absurd cc
full_item d page_size (x ∷ []) type whole full = ap (λ (y : ℕ). y ∷ []) full
full_item d page_size (x ∷ y ∷ item) type whole full =
    absurd (omega (arith, whole ∙ ap (λ (k : Due). size page_size k (x ∷ y ∷ item)) type))

snapshot_found : (given : Settings) (bytes rest : List ℕ) (to : StreamProgress) (reading : StreamReading) → given.frame ≡ Machine → given.mode ≡ Single
    → IsOver to rest → (found : IsReadAs given bytes rest to reading) → HasSnapshot given.mode given.limit bytes found.table reading.rounds
snapshot_found given bytes rest to reading machine single over found =
    let at = over_is to over.0 over.4 in
    let item : over.0 ≡ full_type ∷ [] = full_item to.due to.page_size over.0 at.is_type over.3.is_whole at.is_full in
    let none = none_last to found.has_text.others found.has_text.last found.stands at.is_type at.behind_part in (
      found.text,
      over.1,
      found.has_bytes ∙ ap (λ (x : List ℕ). found.text ++ x) (over.2 ∙ ap (λ (x : List ℕ). x ++ over.1) item),
      of_frame given.frame machine found.has_text none.0 none.1,
    )
  where
    of_frame : (frame : Frame) → frame ≡ Machine → (t : IsFramedText frame given.mode given.limit found.text found.table reading.rounds) → t.last ≡ None
        → 0 < length (parts_of t.others) → IsSnapshotText given.mode given.limit found.text found.table reading.rounds
    of_frame frame is t none some =
        subst (λ (f : Frame). (t : IsFramedText f given.mode given.limit found.text found.table reading.rounds) → t.last ≡ None
        → 0 < length (parts_of t.others) → IsSnapshotText given.mode given.limit found.text found.table reading.rounds) (sym is)
        (λ t none some. snapshot_text given.mode given.limit found.text found.table reading.rounds single t none some) t none some

-- Whatever is read to the end of RAM is spelled so.
pub machine_read_law : MachineReadIsSpelled
machine_read_law given bytes reading machine size small all is closed = by (subst (λ (x : StreamState). Ends is.to is.rest x) closed is.reads.ends)
  where
    by : Ends is.to is.rest Closed
        → (table : RamTable) × (table.page_size ≡ given.page_size) × (reading.table ≡ Some table)
        × HasMachineRam given.mode given.limit bytes table reading.rounds
    by (inl due) =
        let found = read_as given bytes reading size small all is (inl due) in
        let last = last_is is.to Start found.has_text.others found.has_text.last found.stands due in (
          found.table,
          found.has_page_size,
          found.has_table,
          inl (
            found.text,
            is.rest,
            found.has_bytes,
            machine_found given.frame given.mode given.limit found.text found.table reading.rounds machine found.has_text last.0 last.1,
          ),
        )
    by (inr over) =
        let at = over_is is.to over.0 over.4 in
        let found = read_as given bytes reading size small all is (inr (at.is_type, at.in_single)) in
        let single : given.mode ≡ Single = single_from given is.reads.front is.to at.in_single is.reads.leads in
        (found.table, found.has_page_size, found.has_table, inr (snapshot_found given bytes is.rest is.to reading machine single over found))

-- a main stream is no background snapshot
pub main_text : (mode : Mode) (limit : ℕ) (bytes : List ℕ) (table : RamTable) (rounds : List (List PageRecord)) → is_single mode ≡ false
    → HasMachineRam mode limit bytes table rounds → HasMachineText mode limit bytes table rounds
main_text mode limit bytes table rounds main (inl is) = is
main_text mode limit bytes table rounds main (inr is) = absurd (let clash : true ≡ false = sym (ap is_single is.3.is_single) ∙ main in cc)
