-- A machine's complete stream is read as it is spelled.
use Rattle.std.proofs.Common.{◌≡◌, ◌⊎◌, ℕ, ◌^◌, ◌<◌, Bool, cond, true, false, List, [], ◌∷◌, ◌++◌, length, Option, Some, None, refl, sym, ap, subst, ◌∙◌}
use Rattle.std.proofs.Common.{append_assoc, inl, inr}
use Rattle.std.specs.Prelude.{is_none, not, ◌==◌, ◌&&◌, IfSome}
use Rattle.std.specs.List.{flat_map, list_any, AllByRecursion}
use Rattle.mig_mem.specs.RamTable.{RamTable, IsTable}
use Rattle.mig_stream.specs.declared.item.Frame.TheVariants.{Machine}
use Rattle.mig_stream.specs.declared.item.Mode.{Mode}
use Rattle.mig_stream.specs.declared.item.Mode.TheVariants.{Single, Main, MainBySection, MainAsShown}
use Rattle.mig_stream.specs.declared.item.Section.{Section}
use Rattle.mig_stream.specs.declared.item.Section.TheVariants as sections
use Rattle.mig_stream.specs.declared.item.Before.{Before}
use Rattle.mig_stream.specs.declared.item.Before.TheVariants as before
use Rattle.mig_stream.specs.declared.item.EntryForm.TheVariants.{Addressed, Sized}
use Rattle.mig_stream.specs.declared.item.Due.TheVariants.{FileHeader, TypeByte, RecordHead, StartHead, Nothing}
use Rattle.mig_stream.specs.Format.{section_type}
use Rattle.mig_stream.specs.PageRecord.{PageRecord}
use Rattle.mig_stream.specs.Progress.{StreamProgress, start, table_of}
use Rattle.mig_stream.specs.Items.{is_single, open_records, is_allowed, is_machine, is_start, is_addressed, may_pass, has_tail, end_records}
use Rattle.mig_stream.specs.Reading.{settings, in_frame, Front, IsReading}
use Rattle.mig_stream.specs.Text.{Record, Follow, HasNoFlush, all_records, body, section, file_header, start_head}
use Rattle.mig_stream.specs.Machine.{PassedSection, passed_section, IsPassedSection, has_advise, Configuration, configured, IsConfiguration}
use Rattle.mig_stream.specs.Machine.{ignores_shared, form_of, tailed_list}
use Rattle.mig_stream.specs.Machine.{PartOrPassed, PartOf, PassedOf, part_or_passed, AreBetween, parts_of, IsMachineText}
use Rattle.mig_stream.specs.Law.{closed}
use Rattle.mig_stream.proofs.Fronts.{Front-none, Front-append}
use Rattle.mig_stream.proofs.After.{unlimited, after_records, after_body, mode_behind, records_behind, FlushesFit, HasNoTail}
use Rattle.mig_stream.proofs.Modes.{single_kept}
use Rattle.mig_stream.proofs.SectionRounds.{rounds_read}
use Rattle.mig_stream.proofs.SpelledItems.{type_front, section_front, header_front, configuration_front, start_front}
use Rattle.mig_stream.proofs.SpelledRecords.{body_front}
use Rattle.mig_stream.proofs.NoPageSize.{nothing_elsewhere}
use Rattle.mig_stream.proofs.SpelledList.{tailed_front}
use Rattle.mig_stream.proofs.SpelledSections.{FlushesFit-first, FlushesFit-rest, Follow-first, Follow-rest, at_end, part_front}
use Rattle.mig_stream.proofs.SpelledPassed.{late_passed_front, IsOpening, behind_passed, openings_front, subsections_front}
use Rattle.mig_stream.proofs.Tails.{addressed_told}

-- ---- what stands before START

-- after the configuration, or where there is none
abbrev before_commands : Option Configuration → Before
before_commands None = before.FileHeader
before_commands (Some x) = before.Configuration

configured_front : (c : StreamProgress) (o : Option Configuration) → is_machine c.frame ≡ true → IfSome o (IsConfiguration c.page_size)
    → Front (record c { due = TypeByte before.FileHeader }) (configured o)
    (record c { due = TypeByte (before_commands o); form = cond (ignores_shared o) Addressed c.form })
configured_front c None machine is = Front-none (record c { due = TypeByte before.FileHeader })
configured_front c (Some x) machine is =
    Front-append _ _ _ _ _ (configuration_front c (Some x.name) is.has_name) (subsections_front c x.subsections machine is.are_bodies)

opens : (o : Option Configuration) → IsOpening (before_commands o)
opens None = refl
opens (Some x) = refl

-- START may stand there
abbrev MayStart : Before → Type 0
MayStart b = (is_allowed b (section_type sections.Start) ≡ true) × ((kind : Section) → may_pass kind b (section_type sections.Start) ≡ false)

start_behind : (xs : List PassedSection) → MayStart (behind_passed before.Command xs)
start_behind [] = (refl, λ kind. refl)
start_behind (x ∷ xs) = start_behind xs

may_start : (o : Option Configuration) (xs : List PassedSection) → MayStart (behind_passed (before_commands o) xs)
may_start None [] = (refl, λ kind. refl)
may_start (Some x) [] = (refl, λ kind. refl)
may_start None (x ∷ xs) = start_behind xs
may_start (Some y) (x ∷ xs) = start_behind xs

pub opening_front : (c : StreamProgress) (o : Option Configuration) (xs : List PassedSection) (id : ℕ) → is_machine c.frame ≡ true
    → IfSome o (IsConfiguration c.page_size) → AllByRecursion (IsPassedSection true) xs
    → (is_addressed (cond (ignores_shared o) Addressed c.form) ≡ true → list_any has_advise xs ≡ false) → id < 2 ^ 32
    → Front (record c { due = FileHeader }) (file_header ++ configured o ++ flat_map passed_section xs ++ start_head id)
    (record c {
      due = RecordHead;
      section = sections.Start;
      section_id = id;
      form = cond (list_any has_advise xs) Sized (cond (ignores_shared o) Addressed c.form);
    })
opening_front c o xs id machine is are one small =
    let named : StreamProgress = record c { form = cond (ignores_shared o) Addressed c.form } in
    let told : StreamProgress = record named { form = cond (list_any has_advise xs) Sized named.form } in
    let d : StreamProgress = record told { section = sections.Start } in
    let b : Before = behind_passed (before_commands o) xs in
    let may : MayStart b = may_start o xs in
    let first : Front (record told { due = TypeByte b }) (section_type sections.Start ∷ []) (record d { due = StartHead }) =
    type_front told b (section_type sections.Start) may.0 (may.1 told.section) refl in
    let passed : Front (record named { due = TypeByte (before_commands o) }) (flat_map passed_section xs)
    (record told { due = TypeByte b }) = openings_front named (before_commands o) xs machine (opens o) are one in
    Front-append _ _ _ _ _ (Front-append _ _ _ _ _
    (Front-append _ _ _ _ _ (header_front c) (configured_front c o machine is)) passed) (Front-append _ _ _ _ _ first (start_front d id small))

-- ---- what stands after START's footer

-- after the last records no FLUSH is missing
no_tail_left : (mode : Mode) (records : List PageRecord) → HasNoTail mode (open_records mode records)
    → (not (is_single mode) && not (length records == 0)) ≡ false
no_tail_left Single records none = refl
no_tail_left Main records (inl e) = absurd cc
no_tail_left Main records (inr e) = ap (λ (x : List PageRecord). not (length x == 0)) e
no_tail_left MainBySection records (inl e) = absurd cc
no_tail_left MainBySection records (inr e) = ap (λ (x : List PageRecord). not (length x == 0)) e
no_tail_left MainAsShown records (inl e) = absurd cc
no_tail_left MainAsShown records (inr e) = ap (λ (x : List PageRecord). not (length x == 0)) e

-- END, whose footer closes the stream
end_front_of : (c : StreamProgress) (records : List Record) → is_machine c.frame ≡ true → IsTable (table_of c)
    → c.section_id < 2 ^ 32 → is_none c.left ≡ false → is_single c.mode ≡ false ⊎ HasNoFlush records
    → Follow (table_of c) c.named records → HasNoTail (mode_behind c.mode false c.records (records ∷ [])) (records_behind c.mode false c.records (records ∷ []))
    → Front (record (unlimited c) { due = TypeByte before.Footer }) (section (table_of c) sections.End c.section_id records)
    (at_end (unlimited c) (records ∷ []))
end_front_of c records machine is small begun flushes follow none =
    let u : StreamProgress = unlimited c in
    let d : StreamProgress = record u { section = sections.End } in
    let e : StreamProgress = end_records (after_records d records) in
    let whole : has_tail (is_machine u.frame) e ≡ false = ap (λ (x : Bool). has_tail x e) machine ∙ no_tail_left e.mode e.records none in
    let due : after_body d records ≡ at_end u (records ∷ []) =
    ap (λ (x : Bool). record (after_body d records) { due = cond x Nothing (TypeByte before.LastFooter) }) machine in
    let there : Front (record d { due = RecordHead }) (body (table_of u) u.section_id records) (at_end u (records ∷ [])) =
    subst (λ (x : StreamProgress). Front (record d { due = RecordHead }) (body (table_of u) u.section_id records) x) due
    (body_front d records is small begun flushes follow whole) in
    Front-append _ _ _ _ _ (type_front u before.Footer (section_type sections.End) refl refl refl) (Front-append _ _ _ _ _ (section_front d small) there)

-- PARTs and what is passed over, and END
others_front : (c : StreamProgress) (others : List PartOrPassed) (last : List Record) → is_machine c.frame ≡ true
    → AreBetween (is_start c.section) others → IsTable (table_of c) → c.section_id < 2 ^ 32 → is_none c.left ≡ false
    → FlushesFit (is_single c.mode) (parts_of others ++ last ∷ [])
    → Follow (table_of c) c.named (all_records (parts_of others) ++ last)
    → HasNoTail (mode_behind c.mode false c.records (parts_of others ++ last ∷ [])) (records_behind c.mode false c.records (parts_of others ++ last ∷ []))
    → Front (record (unlimited c) { due = TypeByte before.Footer })
    (flat_map (part_or_passed (table_of c) c.section_id) others ++ section (table_of c) sections.End c.section_id last)
    (at_end (unlimited c) (parts_of others ++ last ∷ []))
others_front c [] last machine may is small begun flushes follow none =
    let u : StreamProgress = unlimited c in
    end_front_of u last machine is small begun (FlushesFit-first (is_single u.mode) last [] flushes) follow none
others_front c (PassedOf x ∷ others) last machine may is small begun flushes follow none =
    let u : StreamProgress = unlimited c in
    let end : List ℕ = section (table_of u) sections.End u.section_id last in
    let bytes = append_assoc (passed_section x) (flat_map (part_or_passed (table_of u) u.section_id) others) end in
    let there : StreamProgress = at_end u (parts_of others ++ last ∷ []) in
    subst (λ (z : List ℕ). Front (record u { due = TypeByte before.Footer }) z there) (sym bytes)
    (Front-append _ _ _ _ _ (late_passed_front u x machine may.0) (others_front u others last machine may.1 is small begun flushes follow none))
others_front c (PartOf records ∷ others) last machine may is small begun flushes follow none =
    let u : StreamProgress = unlimited c in
    let more : List Record = all_records (parts_of others) ++ last in
    let all : all_records (records ∷ parts_of others) ++ last ≡ records ++ more = append_assoc records (all_records (parts_of others)) last in
    let f : Follow (table_of u) u.named (records ++ more) = subst (Follow (table_of u) u.named) all follow in
    let d : StreamProgress = after_body (record u { section = sections.Part }) records in
    let end : List ℕ = section (table_of u) sections.End u.section_id last in
    let one = part_front u records is small begun
    (FlushesFit-first (is_single u.mode) records (parts_of others ++ last ∷ []) flushes) (Follow-first (table_of u) u.named records more f) in
    let fit : FlushesFit (is_single d.mode) (parts_of others ++ last ∷ []) =
    subst (λ (single : Bool). FlushesFit single (parts_of others ++ last ∷ [])) (sym (single_kept u.mode false u.records records))
    (FlushesFit-rest (is_single u.mode) records (parts_of others ++ last ∷ []) flushes) in
    let rest = others_front d others last machine may is small begun fit (Follow-rest (table_of u) u.named records more f) none in
    let bytes = append_assoc (section (table_of u) sections.Part u.section_id records) (flat_map (part_or_passed (table_of u) u.section_id) others) end in
    subst (λ (z : List ℕ). Front (record u { due = TypeByte before.Footer }) z
    (at_end u ((records ∷ parts_of others) ++ last ∷ []))) (sym bytes) (Front-append _ _ _ _ _ one rest)

-- ---- the complete stream

-- the parts of a stream, put together otherwise
regroup : (a b c d e f g h : List ℕ) → ((((((a ++ b) ++ c) ++ d) ++ e) ++ f) ++ g) ++ h ≡ (((a ++ b) ++ c) ++ d) ++ (e ++ (f ++ (g ++ h)))
regroup a b c d e f g h = simp append_assoc refl

-- Each machine's stream is read closed, whatever follows it.
pub machine_is_read : (mode : Mode) (limit : ℕ) (text rest : List ℕ) (table : RamTable) (rounds : List (List PageRecord))
    → IsMachineText mode limit text table rounds
    → IsReading (in_frame Machine (settings mode table.page_size limit)) (text ++ rest) (closed table rounds)
machine_is_read mode limit text rest table rounds is =
    let others : List (List Record) = parts_of is.others ++ is.last ∷ [] in
    let behind : List Record = all_records (parts_of is.others) ++ is.last in
    let told = rounds_read mode (is.first ∷ others) rounds is.has_rounds in
    let follow : Follow table None (is.first ++ behind) =
    subst (Follow table None) (append_assoc is.first (all_records (parts_of is.others)) is.last) is.follow in
    let from : StreamProgress = start Machine mode table.page_size limit None in
    let begun : StreamProgress = record from { due = RecordHead; section_id = is.id; form = form_of is.machine is.opening } in
    let listed : StreamProgress = record begun { left = Some 0; blocks = table.blocks } in
    let first : StreamProgress = after_body listed is.first in
    let opening = opening_front from is.machine is.opening is.id refl is.has_machine is.is_opening
    (λ e. is.is_one_form (addressed_told (ignores_shared is.machine) e)) is.has_id in
    let fit : FlushesFit (is_single first.mode) others =
    subst (λ (single : Bool). FlushesFit single others) (sym (single_kept mode true [] is.first)) (FlushesFit-rest (is_single mode) is.first others told.0) in
    let start_body = body_front listed is.first is.has_table is.has_id refl
    (FlushesFit-first (is_single mode) is.first others told.0) (Follow-first table None is.first behind follow) refl in
    let end = others_front first is.others is.last refl is.are_others is.has_table is.has_id refl fit (Follow-rest table None is.first behind follow) told.1 in
    let spelled = is.is_spelled ∙ regroup file_header (configured is.machine) (flat_map passed_section is.opening) (start_head is.id)
    (tailed_list table is.tails) (body table is.id is.first) (flat_map (part_or_passed table is.id) is.others)
    (section table sections.End is.id is.last) in
    let to : StreamProgress = at_end first others in
    let list = tailed_front begun to table is.tails _ is.has_table is.has_limit is.has_tails is.are_tails nothing_elsewhere
    (Front-append _ _ _ _ _ start_body end) in
    let leads : Front from text to = subst (λ (x : List ℕ). Front from x to) (sym spelled) (Front-append _ _ _ _ _ opening list) in
    record {
      to = to;
      rest = rest;
      reads = record { front = text; has_text = refl; leads = leads; ends = inl refl };
      has_table = refl;
      has_rounds = sym told.2;
    }
