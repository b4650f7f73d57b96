-- What is spelled is read as the sections after START's footer, up to and with the end byte.
use Rattle.std.proofs.Common.{◌≡◌, ◌⊎◌, ℕ, ◌^◌, ◌<◌, Bool, cond, false, List, [], ◌∷◌, ◌++◌, Option, Some, refl, sym, ap, subst, append_assoc, inl, inr}
use Rattle.std.specs.Prelude.{is_none}
use Rattle.std.specs.List.{flat_map}
use Rattle.mig_mem.specs.RamTable.{RamTable, IsTable}
use Rattle.mig_stream.specs.declared.item.Section.TheVariants as sections
use Rattle.mig_stream.specs.declared.item.Before.TheVariants as before
use Rattle.mig_stream.specs.declared.item.Due.TheVariants.{TypeByte, RecordHead, Nothing}
use Rattle.mig_stream.specs.Format.{end_byte, section_type}
use Rattle.mig_stream.specs.Progress.{StreamProgress, table_of}
use Rattle.mig_stream.specs.Items.{is_single, is_machine, has_tail, end_records}
use Rattle.mig_stream.specs.Reading.{Front}
use Rattle.mig_stream.specs.Text.{named_after, Record, PageOf, FlushMark, Follow, HasNoFlush, all_records, body, section}
use Rattle.mig_stream.proofs.Fronts.{Front-append}
use Rattle.mig_stream.proofs.After.{unlimited, after_records, after_body, mode_behind, records_behind, rounds_behind, FlushesFit, HasNoTail}
use Rattle.mig_stream.proofs.Modes.{single_kept}
use Rattle.mig_stream.proofs.SpelledItems.{type_front, section_front, end_front}
use Rattle.mig_stream.proofs.SpelledRecords.{body_front}

-- ---- what holds of sections holds of the first and of the others

-- the FLUSHes of the first section fit the mode
pub FlushesFit-first : (single : Bool) (records : List Record) (others : List (List Record))
    → FlushesFit single (records ∷ others) → single ≡ false ⊎ HasNoFlush records
FlushesFit-first single records others (inl e) = inl e
FlushesFit-first single records others (inr h) = inr h.0

-- and those of the others do
pub FlushesFit-rest : (single : Bool) (records : List Record) (others : List (List Record)) → FlushesFit single (records ∷ others) → FlushesFit single others
FlushesFit-rest single records others (inl e) = inl e
FlushesFit-rest single records others (inr h) = inr h.1

-- of records that may stand one after another, so may the first ones
pub Follow-first : (table : RamTable) (named : Option ℕ) (xs ys : List Record) → Follow table named (xs ++ ys) → Follow table named xs
Follow-first table named [] ys f = tt
Follow-first table named (PageOf continued r ∷ xs) ys f = (f.0, Follow-first table (Some r.place.block) xs ys f.1)
Follow-first table named (FlushMark ∷ xs) ys f = Follow-first table named xs ys f

-- and the others, after them
pub Follow-rest : (table : RamTable) (named : Option ℕ) (xs ys : List Record) → Follow table named (xs ++ ys) → Follow table (named_after named xs) ys
Follow-rest table named [] ys f = f
Follow-rest table named (PageOf continued r ∷ xs) ys f = Follow-rest table (Some r.place.block) xs ys f.1
Follow-rest table named (FlushMark ∷ xs) ys f = Follow-rest table named xs ys f

-- ---- sections one after another

-- the block named last after sections
abbrev pub named_behind : Option ℕ → List (List Record) → Option ℕ
named_behind named [] = named
named_behind named (records ∷ others) = named_behind (named_after named records) others

-- how far a stream has been read after its end byte, if these sections were the last ones
abbrev pub at_end : StreamProgress → List (List Record) → StreamProgress
at_end c others = record c {
  mode = mode_behind c.mode false c.records others;
  due = Nothing;
  section = sections.End;
  named = named_behind c.named others;
  records = records_behind c.mode false c.records others;
  rounds = rounds_behind c.mode false c.records c.rounds others;
}

-- a PART
pub part_front : (c : StreamProgress) (records : List Record) → IsTable (table_of c) → c.section_id < 2 ^ 32
    → is_none c.left ≡ false → is_single c.mode ≡ false ⊎ HasNoFlush records
    → Follow (table_of c) c.named records
    → Front (record (unlimited c) { due = TypeByte before.Footer }) (section (table_of c) sections.Part c.section_id records)
    (after_body (record (unlimited c) { section = sections.Part }) records)
part_front c records is small begun flushes follow =
    let u : StreamProgress = unlimited c in
    let d : StreamProgress = record u { section = sections.Part } in
    Front-append _ _ _ _ _ (type_front u before.Footer (section_type sections.Part) refl refl refl)
    (Front-append _ _ _ _ _ (section_front d small) (body_front d records is small begun flushes follow refl))

-- END and the end byte
end_front_of : (c : StreamProgress) (records : List Record) → is_machine c.frame ≡ false → IsTable (table_of c)
    → c.section_id < 2 ^ 32 → is_none c.left ≡ false → is_single c.mode ≡ false ⊎ HasNoFlush records
    → Follow (table_of c) c.named records → HasNoTail (mode_behind c.mode false c.records (records ∷ [])) (records_behind c.mode false c.records (records ∷ []))
    → Front (record (unlimited c) { due = TypeByte before.Footer })
    (section (table_of c) sections.End c.section_id records ++ end_byte ∷ []) (at_end (unlimited c) (records ∷ []))
end_front_of c records ram is small begun flushes follow none =
    let u : StreamProgress = unlimited c in
    let d : StreamProgress = record u { section = sections.End } in
    let e : StreamProgress = record (after_body d records) { due = TypeByte before.LastFooter } in
    let whole : has_tail (is_machine u.frame) (end_records (after_records d records)) ≡ false =
    ap (λ (x : Bool). has_tail x (end_records (after_records d records))) ram in
    let due : after_body d records ≡ e = ap (λ (x : Bool). record (after_body d records) { due = cond x Nothing (TypeByte before.LastFooter) }) ram in
    let body_there : Front (record d { due = RecordHead }) (body (table_of u) u.section_id records) e =
    subst (λ (x : StreamProgress). Front (record d { due = RecordHead }) (body (table_of u) u.section_id records) x) due
    (body_front d records is small begun flushes follow whole) in
    let first = Front-append _ _ _ _ _ (type_front u before.Footer (section_type sections.End) refl refl refl)
    (Front-append _ _ _ _ _ (section_front d small) body_there) in
    Front-append _ _ _ _ _ first (end_front (after_body d records) none)

-- PARTs, END and the end byte
pub sections_front : (c : StreamProgress) (parts : List (List Record)) (last : List Record) → is_machine c.frame ≡ false
    → IsTable (table_of c) → c.section_id < 2 ^ 32 → is_none c.left ≡ false
    → FlushesFit (is_single c.mode) (parts ++ last ∷ []) → Follow (table_of c) c.named (all_records parts ++ last)
    → HasNoTail (mode_behind c.mode false c.records (parts ++ last ∷ [])) (records_behind c.mode false c.records (parts ++ last ∷ []))
    → Front (record (unlimited c) { due = TypeByte before.Footer })
    (flat_map (section (table_of c) sections.Part c.section_id) parts
    ++ (section (table_of c) sections.End c.section_id last ++ end_byte ∷ [])) (at_end (unlimited c) (parts ++ last ∷ []))
sections_front c [] last ram is small begun flushes follow none =
    let u : StreamProgress = unlimited c in
    end_front_of u last ram is small begun (FlushesFit-first (is_single u.mode) last [] flushes) follow none
sections_front c (records ∷ parts) last ram is small begun flushes follow none =
    let u : StreamProgress = unlimited c in
    let others : List Record = all_records parts ++ last in
    let all : all_records (records ∷ parts) ++ last ≡ records ++ others = append_assoc records (all_records parts) last in
    let f : Follow (table_of u) u.named (records ++ others) = subst (Follow (table_of u) u.named) all follow in
    let d : StreamProgress = after_body (record u { section = sections.Part }) records in
    let end : List ℕ = section (table_of u) sections.End u.section_id last ++ end_byte ∷ [] in
    let one = part_front u records is small begun (FlushesFit-first (is_single u.mode) records (parts ++ last ∷ []) flushes)
    (Follow-first (table_of u) u.named records others f) in
    let fit : FlushesFit (is_single d.mode) (parts ++ last ∷ []) =
    subst (λ (single : Bool). FlushesFit single (parts ++ last ∷ [])) (sym (single_kept u.mode false u.records records))
    (FlushesFit-rest (is_single u.mode) records (parts ++ last ∷ []) flushes) in
    let rest = sections_front d parts last ram is small begun fit (Follow-rest (table_of u) u.named records others f) none in
    let bytes = append_assoc (section (table_of u) sections.Part u.section_id records) (flat_map (section (table_of u) sections.Part u.section_id) parts) end in
    subst (λ (x : List ℕ). Front (record u { due = TypeByte before.Footer }) x (at_end u ((records ∷ parts) ++ last ∷ [])))
    (sym bytes) (Front-append _ _ _ _ _ one rest)
