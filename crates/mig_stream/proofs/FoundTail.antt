-- What is left of a stream after a footer: PARTs, END and the end byte.
use Rattle.std.proofs.Common.{◌≡◌, ◌⊎◌, ℕ, Bool, true, false, not, eqb, List, [], ◌∷◌, ◌++◌, length, Option, Some}
use Rattle.std.proofs.Common.{None, refl, sym, ap, subst, ◌∙◌, append_assoc, inl}
use Rattle.std.proofs.Common.{inr, arith}
use Rattle.std.specs.Prelude.{◌&&◌, ⊤}
use Rattle.std.specs.List.{flat_map}
use Rattle.std.proofs.lemmas.Bool.{not-false, eqb-true}
use Rattle.mig_mem.specs.RamTable.{RamTable}
use Rattle.mig_stream.specs.declared.item.Mode.{Mode}
use Rattle.mig_stream.specs.declared.item.Mode.TheVariants.{Single, Main, MainBySection, MainAsShown}
use Rattle.mig_stream.specs.declared.item.Section.{Section}
use Rattle.mig_stream.specs.declared.item.Section.TheVariants.{Start, Part, End}
use Rattle.mig_stream.specs.declared.item.Due.{Due}
use Rattle.mig_stream.specs.declared.item.Due.TheVariants.{TypeByte, SectionHead, Nothing}
use Rattle.mig_stream.specs.declared.item.Before.TheVariants as before
use Rattle.mig_stream.specs.Fields.{be32}
use Rattle.mig_stream.specs.Format.{end_byte, section_type}
use Rattle.mig_stream.specs.PageRecord.{PageRecord}
use Rattle.mig_stream.specs.Progress.{StreamProgress, table_of, whole_table}
use Rattle.mig_stream.specs.Items.{is_single, is_machine, is_start, open_records}
use Rattle.mig_stream.specs.Machine.{PassedSection, passed_section, IsPassedSection, PartOrPassed, PartOf, PassedOf, part_or_passed, AreBetween, parts_of}
use Rattle.mig_stream.specs.Text.{named_after, Record, PageOf, FlushMark, Follow, HasNoFlush, all_records, body, section}
use Rattle.mig_stream.proofs.After.{mode_behind, records_behind, rounds_behind, FlushesFit, HasNoTail}
use Rattle.mig_stream.proofs.Modes.{single_kept}
use Rattle.mig_stream.proofs.FoundSections.{RestOfSection}

-- what ends a stream: the end byte, and of a machine's stream nothing
abbrev pub ending : Bool → List ℕ
ending true = []
ending false = end_byte ∷ []

-- outside of a machine's stream nothing is passed over
abbrev pub HasNoPassed : List PartOrPassed → Type 0
HasNoPassed [] = ⊤
HasNoPassed (PartOf records ∷ others) = HasNoPassed others
HasNoPassed (PassedOf x ∷ others) = ⊥

-- END as a list of sections, and its records: none of them in a background snapshot
abbrev pub ends_of : Option (List Record) → List (List Record)
ends_of None = []
ends_of (Some records) = records ∷ []

abbrev pub last_records : Option (List Record) → List Record
last_records None = []
last_records (Some records) = records

-- END and the ending, or no bytes
abbrev pub end_bytes : RamTable → ℕ → Bool → Option (List Record) → List ℕ
end_bytes table id machine None = []
end_bytes table id machine (Some records) = section table End id records ++ ending machine

-- Where the reading stands after these: at no item after END; without END at a type byte, after the
-- last PART if there is one.
abbrev pub StandsAfter : StreamProgress → Section → List PartOrPassed → Option (List Record) → Type 0
StandsAfter to kind others None = (to.due ≡ TypeByte before.Footer) × (parts_of others ≡ [] → to.section ≡ kind)
StandsAfter to kind others (Some records) = to.due ≡ Nothing

stands_part : (to : StreamProgress) (kind before_it : Section) (records : List Record) (others : List PartOrPassed) (last : Option (List Record))
    → StandsAfter to kind others last → StandsAfter to before_it (PartOf records ∷ others) last
stands_part to kind before_it records others None s = (s.0, λ none. absurd cc)
stands_part to kind before_it records others (Some l) s = s

stands_passed : (to : StreamProgress) (kind : Section) (x : PassedSection) (others : List PartOrPassed) (last : Option (List Record))
    → StandsAfter to kind others last → StandsAfter to kind (PassedOf x ∷ others) last
stands_passed to kind x others None s = s
stands_passed to kind x others (Some l) s = s

-- The ending is left, and after it the reading stands at `to`.
pub record RestOfEnd (to c : StreamProgress) (bytes : List ℕ) : Type 0 where
  pub has_bytes : bytes ≡ ending (is_machine c.frame)
  pub is_closed : to.due ≡ Nothing
  pub no_tail : HasNoTail c.mode c.records
  pub has_rounds : to.rounds ≡ c.rounds
  pub has_table : whole_table to ≡ whole_table c

-- PARTs and what is passed over, END and the ending are left, and after them the reading stands at
-- `to`. A background snapshot has no END.
pub record RestOfParts (to c : StreamProgress) (bytes : List ℕ) : Type 0 where
  pub others : List PartOrPassed
  pub last : Option (List Record)
  pub stands : StandsAfter to c.section others last
  pub has_bytes : bytes ≡ flat_map (part_or_passed (table_of c) c.section_id) others ++ end_bytes (table_of c) c.section_id (is_machine c.frame) last
  pub are_others : AreBetween (is_start c.section) others
  pub in_frame : is_machine c.frame ≡ false → HasNoPassed others
  pub follow : Follow (table_of c) c.named (all_records (parts_of others) ++ last_records last)
  pub flushes : FlushesFit (is_single c.mode) (parts_of others ++ ends_of last)
  pub no_tail : HasNoTail (mode_behind c.mode false c.records (parts_of others ++ ends_of last))
      (records_behind c.mode false c.records (parts_of others ++ ends_of last))
  pub has_rounds : to.rounds ≡ rounds_behind c.mode false c.records c.rounds (parts_of others ++ ends_of last)
  pub has_table : whole_table to ≡ whole_table c

-- what is left after the footer of a section
abbrev pub RestBehind : StreamProgress → Section → StreamProgress → List ℕ → Type 0
RestBehind to Start c bytes = RestOfParts to c bytes
RestBehind to Part c bytes = RestOfParts to c bytes
RestBehind to End c bytes = RestOfEnd to c bytes

-- what is left after the footer of the section that is being read
abbrev pub Behind : StreamProgress → StreamProgress → List ℕ → Type 0
Behind to c bytes = RestBehind to c.section c bytes

-- ---- records that follow, section after section

-- records may follow records where their ends fit
pub Follow-append : (table : RamTable) (before : Option ℕ) (xs ys : List Record) → Follow table before xs
    → Follow table (named_after before xs) ys → Follow table before (xs ++ ys)
Follow-append table before [] ys f g = g
Follow-append table before (PageOf continued r ∷ xs) ys f g = (f.0, Follow-append table (Some r.place.block) xs ys f.1 g)
Follow-append table before (FlushMark ∷ xs) ys f g = Follow-append table before xs ys f g

-- a section in front of others
pub FlushesFit-cons : (single : Bool) (records : List Record) (sections : List (List Record))
    → (single ≡ false) ⊎ HasNoFlush records → FlushesFit single sections → FlushesFit single (records ∷ sections)
FlushesFit-cons single records sections (inl main) others = inl main
FlushesFit-cons single records sections (inr none) (inl main) = inl main
FlushesFit-cons single records sections (inr none) (inr others) = inr (none, others)

-- ---- a PART or END, in front of what is left after it

-- a PART and what follows it, put together otherwise
regroup_part : (head items others end : List ℕ) (kind : ℕ) → kind ∷ (head ++ (items ++ (others ++ end))) ≡ ((kind ∷ (head ++ items)) ++ others) ++ end
regroup_part head items others end kind = simp append_assoc

-- a PART in front of the PARTs and END after it
pub part_back : (to c : StreamProgress) (bytes : List ℕ)
    → RestOfSection (Behind to) (record c { due = SectionHead; section = Part }) bytes → RestOfParts to c (section_type Part ∷ bytes)
part_back to c bytes r =
    let s = r.rest in
    let q = s.others in
    let parts = flat_map (part_or_passed (table_of c) c.section_id) q.others in
    let end = end_bytes (table_of c) c.section_id (is_machine c.frame) q.last in
    let items = body (table_of c) c.section_id s.records in
    let spelled : bytes ≡ be32 c.section_id ++ (items ++ (parts ++ end)) =
    r.has_bytes ∙ ap (λ (x : List ℕ). be32 c.section_id ++ x) (s.has_bytes ∙ ap (λ (x : List ℕ). items ++ x) q.has_bytes) in
    record {
      others = PartOf s.records ∷ q.others;
      last = q.last;
      stands = stands_part to Part c.section s.records q.others q.last q.stands;
      has_bytes = ap (λ (x : List ℕ). section_type Part ∷ x) spelled ∙ regroup_part (be32 c.section_id) items parts end (section_type Part);
      are_others = q.are_others;
      in_frame = q.in_frame;
      follow = subst (Follow (table_of c) c.named) (sym (append_assoc s.records (all_records (parts_of q.others)) (last_records q.last)))
          (Follow-append (table_of c) c.named s.records (all_records (parts_of q.others) ++ last_records q.last) s.follow q.follow);
      flushes = FlushesFit-cons (is_single c.mode) s.records (parts_of q.others ++ ends_of q.last) s.flushes
          (subst (λ (single : Bool). FlushesFit single (parts_of q.others ++ ends_of q.last)) (single_kept c.mode false c.records s.records) q.flushes);
      no_tail = q.no_tail;
      has_rounds = q.has_rounds;
      has_table = q.has_table;
    }

-- END and what follows it, put together otherwise
regroup_end : (head items end : List ℕ) (kind : ℕ) → kind ∷ (head ++ (items ++ end)) ≡ (kind ∷ (head ++ items)) ++ end
regroup_end head items end kind = simp append_assoc

-- END in front of the end byte
pub last_back : (to c : StreamProgress) (bytes : List ℕ)
    → RestOfSection (Behind to) (record c { due = SectionHead; section = End }) bytes → RestOfParts to c (section_type End ∷ bytes)
last_back to c bytes r =
    let s = r.rest in
    let q = s.others in
    let items = body (table_of c) c.section_id s.records in
    let end : List ℕ = ending (is_machine c.frame) in
    let spelled : bytes ≡ be32 c.section_id ++ (items ++ end) =
    r.has_bytes ∙ ap (λ (x : List ℕ). be32 c.section_id ++ x) (s.has_bytes ∙ ap (λ (x : List ℕ). items ++ x) q.has_bytes) in
    record {
      others = [];
      last = Some s.records;
      stands = q.is_closed;
      has_bytes = ap (λ (x : List ℕ). section_type End ∷ x) spelled ∙ regroup_end (be32 c.section_id) items end (section_type End);
      are_others = tt;
      in_frame = λ ram. tt;
      follow = s.follow;
      flushes = FlushesFit-cons (is_single c.mode) s.records [] s.flushes (inr tt);
      no_tail = q.no_tail;
      has_rounds = q.has_rounds;
      has_table = q.has_table;
    }

-- what is left after a footer doesn't depend on the item that is due
pub parts_at : (to c : StreamProgress) (d : Due) (bytes : List ℕ) → RestOfParts to (record c { due = d }) bytes → RestOfParts to c bytes
parts_at to c d bytes r = record {
  others = r.others;
  last = r.last;
  stands = r.stands;
  has_bytes = r.has_bytes;
  are_others = r.are_others;
  in_frame = r.in_frame;
  follow = r.follow;
  flushes = r.flushes;
  no_tail = r.no_tail;
  has_rounds = r.has_rounds;
  has_table = r.has_table;
}

-- what is passed over, in front of the PARTs and END after it
pub passed_back : (to c : StreamProgress) (x : PassedSection) (tail bytes : List ℕ) → is_machine c.frame ≡ true
    → IsPassedSection (is_start c.section) x → bytes ≡ passed_section x ++ tail → RestOfParts to c tail → RestOfParts to c bytes
passed_back to c x tail bytes machine is e q = record {
  others = PassedOf x ∷ q.others;
  last = q.last;
  stands = stands_passed to c.section x q.others q.last q.stands;
  has_bytes = e ∙ ap (λ (y : List ℕ). passed_section x ++ y) q.has_bytes
      ∙ sym (append_assoc (passed_section x) (flat_map (part_or_passed (table_of c) c.section_id) q.others)
      (end_bytes (table_of c) c.section_id (is_machine c.frame) q.last));
  are_others = (is, q.are_others);
  in_frame = λ ram. absurd (let clash : true ≡ false = sym machine ∙ ram in cc);
  follow = q.follow;
  flushes = q.flushes;
  no_tail = q.no_tail;
  has_rounds = q.has_rounds;
  has_table = q.has_table;
}

no_records_left : (records : List PageRecord) → not (eqb (length records) 0) ≡ false → records ≡ []
no_records_left [] e = refl
no_records_left (r ∷ records) e =
    let none : length (r ∷ records) ≡ 0 = eqb-true _ _ (not-false (eqb (length (r ∷ records)) 0) e) in
    absurd (omega arith)

-- the end byte's second test found no fault
pub no_tail_found : (mode : Mode) (records : List PageRecord) → (true && not (is_single mode) && not (eqb (length records) 0)) ≡ false → HasNoTail mode records
no_tail_found Single records e = inl refl
no_tail_found Main records e = inr (no_records_left records e)
no_tail_found MainBySection records e = inr (no_records_left records e)
no_tail_found MainAsShown records e = inr (no_records_left records e)

-- and so the last footer's second test
pub no_tail_closed : (mode : Mode) (records : List PageRecord) → (not (is_single mode) && not (eqb (length records) 0)) ≡ false
    → HasNoTail mode (open_records mode records)
no_tail_closed Single records e = inl refl
no_tail_closed Main records e = no_tail_found Main records e
no_tail_closed MainBySection records e = no_tail_found MainBySection records e
no_tail_closed MainAsShown records e = no_tail_found MainAsShown records e
