-- The RAM of a background snapshot is read as it is spelled.
use Rattle.std.proofs.Common.{◌≡◌, ℕ, ◌^◌, ◌<◌, Bool, true, false, List, [], ◌∷◌, ◌++◌, length, take, drop, Option, Some, None, refl, sym, ap, subst, ◌∙◌}
use Rattle.std.proofs.Common.{append_assoc, arith, inr}
use Rattle.std.specs.Prelude.{is_none, All, map}
use Rattle.std.specs.Bool.{then_some}
use Rattle.std.specs.List.{flat_map}
use Rattle.std.proofs.lemmas.List.{append-nil, map-append, length-append, take_at, drop_at}
use Rattle.std.proofs.lemmas.List.Elements.{All-head, All-tail, All-cons, All-nil}
use Rattle.mig_mem.specs.RamTable.{Block, RamTable, IsTable}
use Rattle.mig_stream.specs.declared.item.Frame.TheVariants.{Machine}
use Rattle.mig_stream.specs.declared.item.Mode.{Mode}
use Rattle.mig_stream.specs.declared.item.Mode.TheVariants.{Single}
use Rattle.mig_stream.specs.declared.item.Section.TheVariants as sections
use Rattle.mig_stream.specs.declared.item.Before.TheVariants as before
use Rattle.mig_stream.specs.declared.item.Due.{Due}
use Rattle.mig_stream.specs.declared.item.Due.TheVariants.{TypeByte, RecordHead, Nothing}
use Rattle.mig_stream.specs.Format.{full_type}
use Rattle.mig_stream.specs.PageRecord.{PageRecord}
use Rattle.mig_stream.specs.Progress.{StreamProgress, start, table_of, is_used_up, whole_table}
use Rattle.mig_stream.specs.Items.{size, is_single, is_machine, is_start, is_part, ends_before, is_over}
use Rattle.mig_stream.specs.Reading.{IsItem, Front}
use Rattle.mig_stream.specs.Text.{Record, PageOf, FlushMark, Follow, HasNoFlush, page_records, all_records, body, section, file_header, start_head, AreRounds}
use Rattle.mig_stream.specs.Machine.{passed_section, configured, form_of, tailed_list, ignores_shared}
use Rattle.mig_stream.specs.Machine.{PartOrPassed, PartOf, PassedOf, part_or_passed, AreBetween, parts_of}
use Rattle.mig_stream.specs.Law.{SnapshotIsRead}
use Rattle.mig_stream.proofs.Fronts.{Front-none, Front-append}
use Rattle.mig_stream.proofs.After.{unlimited, after_body, rounds_behind, FlushesFit}
use Rattle.mig_stream.proofs.Modes.{single_kept}
use Rattle.mig_stream.proofs.SectionRounds.{rounds_read}
use Rattle.mig_stream.proofs.SpelledRecords.{body_front}
use Rattle.mig_stream.proofs.NoPageSize.{IsElsewhere, type_elsewhere}
use Rattle.mig_stream.proofs.SpelledList.{tailed_front}
use Rattle.mig_stream.proofs.SpelledSections.{FlushesFit-first, FlushesFit-rest, Follow-first, Follow-rest, part_front}
use Rattle.mig_stream.proofs.SpelledPassed.{late_passed_front}
use Rattle.mig_stream.proofs.SpelledMachine.{opening_front}
use Rattle.mig_stream.proofs.Tails.{addressed_told}
use Rattle.mig_stream.proofs.Steps.{IsLater-front}
use Rattle.mig_stream.proofs.Found.{sections_are}

-- ---- PARTs and what is passed over

-- how far a stream has been read after these
abbrev behind : StreamProgress → List PartOrPassed → StreamProgress
behind c [] = record c { due = TypeByte before.Footer }
behind c (PassedOf x ∷ others) = behind c others
behind c (PartOf records ∷ others) = behind (after_body (record c { section = sections.Part }) records) others

parts_front : (c : StreamProgress) (others : List PartOrPassed) → is_machine c.frame ≡ true
    → AreBetween (is_start c.section) others → IsTable (table_of c) → c.section_id < 2 ^ 32 → is_none c.left ≡ false
    → FlushesFit (is_single c.mode) (parts_of others) → Follow (table_of c) c.named (all_records (parts_of others))
    → Front (record (unlimited c) { due = TypeByte before.Footer }) (flat_map (part_or_passed (table_of c) c.section_id) others)
    (behind (unlimited c) others)
parts_front c [] machine may is small begun flushes follow = Front-none (record (unlimited c) { due = TypeByte before.Footer })
parts_front c (PassedOf x ∷ others) machine may is small begun flushes follow =
    let u : StreamProgress = unlimited c in
    Front-append _ _ _ _ _ (late_passed_front u x machine may.0) (parts_front u others machine may.1 is small begun flushes follow)
parts_front c (PartOf records ∷ others) machine may is small begun flushes follow =
    let u : StreamProgress = unlimited c in
    let d : StreamProgress = after_body (record u { section = sections.Part }) records in
    let one = part_front u records is small begun (FlushesFit-first (is_single u.mode) records (parts_of others) flushes)
    (Follow-first (table_of u) u.named records (all_records (parts_of others)) follow) in
    let fit : FlushesFit (is_single d.mode) (parts_of others) =
    subst (λ (single : Bool). FlushesFit single (parts_of others)) (sym (single_kept u.mode false u.records records))
    (FlushesFit-rest (is_single u.mode) records (parts_of others) flushes) in
    Front-append _ _ _ _ _ one
    (parts_front d others machine may is small begun fit (Follow-rest (table_of u) u.named records (all_records (parts_of others)) follow))

-- the rounds after them
behind_rounds : (c : StreamProgress) (others : List PartOrPassed)
    → (behind c others).rounds ≡ rounds_behind c.mode false c.records c.rounds (parts_of others)
behind_rounds c [] = refl
behind_rounds c (PassedOf x ∷ others) = behind_rounds c others
behind_rounds c (PartOf records ∷ others) = behind_rounds (after_body (record c { section = sections.Part }) records) others

-- the item that is due after them, and what was read before
behind_due : (c : StreamProgress) (others : List PartOrPassed) → (behind c others).due ≡ TypeByte before.Footer
behind_due c [] = refl
behind_due c (PassedOf x ∷ others) = behind_due c others
behind_due c (PartOf records ∷ others) = behind_due (after_body (record c { section = sections.Part }) records) others

after_parts : (c : StreamProgress) (others : List PartOrPassed) → c.section ≡ sections.Part → (behind c others).section ≡ sections.Part
after_parts c [] e = e
after_parts c (PassedOf x ∷ others) e = after_parts c others e
after_parts c (PartOf records ∷ others) e = after_parts (after_body (record c { section = sections.Part }) records) others refl

behind_part : (c : StreamProgress) (others : List PartOrPassed) → 0 < length (parts_of others) → (behind c others).section ≡ sections.Part
behind_part c [] some = absurd (omega arith)
behind_part c (PassedOf x ∷ others) some = behind_part c others some
behind_part c (PartOf records ∷ others) some = after_parts (after_body (record c { section = sections.Part }) records) others refl

same_list : (c : StreamProgress) (others : List PartOrPassed)
    → ((behind c others).page_size ≡ c.page_size) × ((behind c others).left ≡ c.left) × ((behind c others).blocks ≡ c.blocks)
same_list c [] = (refl, refl, refl)
same_list c (PassedOf x ∷ others) = same_list c others
same_list c (PartOf records ∷ others) = same_list (after_body (record c { section = sections.Part }) records) others

-- ---- without the END that was put behind it

-- the last of some lists
last_of : {X : Type 0} (xs ys : List X) (x y : X) → xs ++ x ∷ [] ≡ ys ++ y ∷ [] → (xs ≡ ys) × (x ≡ y)
last_of {X} xs ys x y e =
    let lens : length xs ≡ length ys = omega (arith, length-append xs (x ∷ []), length-append ys (y ∷ []), ap (λ (l : List X). length l) e) in
    let front : xs ≡ ys = sym (take_at xs (x ∷ []) (length xs) refl) ∙ ap (take (length xs)) e ∙ take_at ys (y ∷ []) (length xs) (sym lens) in
    let back : x ∷ [] ≡ y ∷ [] = sym (drop_at xs (x ∷ []) (length xs) refl) ∙ ap (drop (length xs)) e ∙ drop_at ys (y ∷ []) (length xs) (sym lens) in
    (front, cc)

-- records without a FLUSH that are no page records are none
no_records : (records : List Record) → HasNoFlush records → page_records records ≡ [] → records ≡ []
no_records [] none e = refl
no_records (PageOf continued r ∷ records) none e = absurd cc
no_records (FlushMark ∷ records) none e = absurd none

front_all : (sections : List (List Record)) (last : List Record) → All HasNoFlush (sections ++ last ∷ []) → All HasNoFlush sections × HasNoFlush last
front_all [] last all = (All-nil HasNoFlush, All-head HasNoFlush last [] all)
front_all (records ∷ others) last all =
    let rest = front_all others last (All-tail HasNoFlush records (others ++ last ∷ []) all) in
    (All-cons HasNoFlush records others (All-head HasNoFlush records (others ++ last ∷ []) all) rest.0, rest.1)

-- of sections whose last round has no records, the last section has none
record WithoutLast (mode : Mode) (before_it : List (List Record)) (last : List Record) (rounds : List (List PageRecord)) : Type 0 where
  has_none : last ≡ []
  has_rounds : AreRounds mode before_it rounds

without_last : (mode : Mode) (before_it : List (List Record)) (last : List Record) (rounds : List (List PageRecord)) → mode ≡ Single
    → AreRounds mode (before_it ++ last ∷ []) (rounds ++ [] ∷ []) → WithoutLast mode before_it last rounds
without_last mode before_it last rounds single are =
    subst (λ (m : Mode). AreRounds m (before_it ++ last ∷ []) (rounds ++ [] ∷ []) → WithoutLast m before_it last rounds) (sym single) without are
  where
    without : AreRounds Single (before_it ++ last ∷ []) (rounds ++ [] ∷ []) → WithoutLast Single before_it last rounds
    without are =
        let free = front_all before_it last are.0 in
        let parts = last_of rounds (map page_records before_it) [] (page_records last) (are.1 ∙ map-append page_records before_it (last ∷ [])) in
        record { has_none = no_records last free.1 (sym parts.1); has_rounds = (free.0, parts.0) }

-- an END without records has the same length for each section id
cut_end : (table : RamTable) (a b : List ℕ) (m n : ℕ) → a ++ section table sections.End m [] ≡ b ++ section table sections.End n [] → a ≡ b
cut_end table a b m n e =
    let x : List ℕ = section table sections.End m [] in
    let y : List ℕ = section table sections.End n [] in
    let same : length x ≡ length y = refl in
    let lens : length a ≡ length b = omega (arith, length-append a x, length-append b y, ap (λ (l : List ℕ). length l) e, same) in
    sym (take_at a x (length a) refl) ∙ ap (take (length a)) e ∙ take_at b y (length a) (sym lens)

-- ---- where RAM is over

-- the type byte of a device is the next item
type_item : (c : StreamProgress) → c.due ≡ TypeByte before.Footer → IsItem c.page_size c.due (full_type ∷ [])
type_item c due = record {
  is_due = λ e. let clash : TypeByte before.Footer ≡ Nothing = sym due ∙ e in absurd cc;
  is_whole = ap (λ (d : Due). size c.page_size d (full_type ∷ [])) (sym due);
}

-- RAM is over before it
over : (c : StreamProgress) → is_machine c.frame ≡ true → is_single c.mode ≡ true → is_part c.section ≡ true → c.due ≡ TypeByte before.Footer
    → is_over c (full_type ∷ []) ≡ true
over c machine single part due =
    ap (λ (d : Due). ends_before c.frame c.mode c.section d (full_type ∷ [])) due ∙ rw (machine, single, part) refl

-- the table stays
table_kept : (c : StreamProgress) (table : RamTable) → c.page_size ≡ table.page_size → c.left ≡ Some 0 → c.blocks ≡ table.blocks → Some table ≡ whole_table c
table_kept c table size left blocks =
    ap (λ (p : ℕ). Some (record { page_size = p; blocks = table.blocks })) (sym size)
    ∙ ap (λ (b : List Block). Some (record { page_size = c.page_size; blocks = b })) (sym blocks)
    ∙ ap (λ (l : Option ℕ). then_some (is_used_up l) (table_of c)) (sym left)

-- ---- the snapshot

-- the parts of a stream, put together otherwise
regroup : (a b c d e f g : List ℕ) → (((((a ++ b) ++ c) ++ d) ++ e) ++ f) ++ g ≡ (((a ++ b) ++ c) ++ d) ++ (e ++ (f ++ g))
regroup a b c d e f g = simp append_assoc refl

-- Each background snapshot is read closed, whatever follows the type byte of its first device.
pub snapshot_is_read : SnapshotIsRead
snapshot_is_read = λ mode limit text rest table rounds snap.
    let is = snap.with_end in
    let before_it : List (List Record) = is.first ∷ parts_of is.others in
    let cut = without_last mode before_it is.last rounds snap.is_single is.has_rounds in
    let told = rounds_read mode before_it rounds cut.has_rounds in
    let behind_first : List Record = all_records (parts_of is.others) in
    let follow : Follow table None (is.first ++ behind_first) =
    subst (Follow table None) (append-nil (is.first ++ behind_first))
    (subst (λ (l : List Record). Follow table None (is.first ++ behind_first ++ l)) cut.has_none is.follow) in
    let from : StreamProgress = start Machine mode table.page_size limit None in
    let begun : StreamProgress = record from { due = RecordHead; section_id = is.id; form = form_of is.machine is.opening } in
    let listed : StreamProgress = record begun { left = Some 0; blocks = table.blocks } in
    let first : StreamProgress = after_body listed is.first in
    let opening = opening_front from is.machine is.opening is.id refl is.has_machine is.is_opening
    (λ e. is.is_one_form (addressed_told (ignores_shared is.machine) e)) is.has_id in
    let fit : FlushesFit (is_single first.mode) (parts_of is.others) =
    subst (λ (single : Bool). FlushesFit single (parts_of is.others)) (sym (single_kept mode true [] is.first))
    (FlushesFit-rest (is_single mode) is.first (parts_of is.others) told.0) in
    let start_body = body_front listed is.first is.has_table is.has_id refl
    (FlushesFit-first (is_single mode) is.first (parts_of is.others) told.0) (Follow-first table None is.first behind_first follow) refl in
    let parts = parts_front first is.others refl is.are_others is.has_table is.has_id refl fit (Follow-rest table None is.first behind_first follow) in
    let front : List ℕ = file_header ++ configured is.machine ++ flat_map passed_section is.opening ++ start_head is.id ++ tailed_list table is.tails
    ++ body table is.id is.first ++ flat_map (part_or_passed table is.id) is.others in
    let whole : text ++ section table sections.End snap.id [] ≡ front ++ section table sections.End is.id [] =
    is.is_spelled ∙ ap (λ (l : List Record). front ++ section table sections.End is.id l) cut.has_none in
    let spelled : text ≡ front = cut_end table text front snap.id is.id whole in
    let to : StreamProgress = behind first is.others in
    let list = tailed_front begun to table is.tails _ is.has_table is.has_limit is.has_tails is.are_tails
    (subst IsElsewhere (sym (behind_due first is.others)) (type_elsewhere before.Footer)) (Front-append _ _ _ _ _ start_body parts) in
    let leads : Front from text to = subst (λ (x : List ℕ). Front from x to)
    (sym (spelled ∙ regroup file_header (configured is.machine) (flat_map passed_section is.opening) (start_head is.id) (tailed_list table is.tails)
    (body table is.id is.first) (flat_map (part_or_passed table is.id) is.others))) (Front-append _ _ _ _ _ opening list) in
    let later = IsLater-front from to text leads in
    let some : 0 < length (parts_of is.others) =
    omega (arith, snap.has_part, sections_are mode before_it rounds snap.is_single cut.has_rounds) in
    let list_kept = same_list first is.others in
    record {
      to = to;
      rest = full_type ∷ rest;
      reads = record {
        front = text;
        has_text = refl;
        leads = leads;
        ends = inr (
          full_type ∷ [],
          rest,
          refl,
          type_item to (behind_due first is.others),
          over to (ap is_machine later.same_frame) (later.same_single ∙ ap is_single snap.is_single)
              (ap is_part (behind_part first is.others some)) (behind_due first is.others),
        );
      };
      has_table = table_kept to table list_kept.0 list_kept.1 list_kept.2;
      has_rounds = sym (behind_rounds first is.others ∙ told.2);
    }
