-- A complete stream is read as it is spelled, and so no bytes have two prefixes that are streams.
use Rattle.std.proofs.Common.{◌≡◌, ℕ, Bool, true, List, [], ◌∷◌, ◌++◌, Some, None, refl, sym, ap, subst, ◌∙◌, append_assoc, inl}
use Rattle.std.specs.List.{flat_map}
use Rattle.std.proofs.lemmas.List.{append_cancel_right}
use Rattle.mig_mem.specs.RamTable.{RamTable}
use Rattle.mig_stream.specs.declared.item.Frame.TheVariants.{Ram}
use Rattle.mig_stream.specs.declared.item.Mode.{Mode}
use Rattle.mig_stream.specs.declared.item.Section.TheVariants as sections
use Rattle.mig_stream.specs.declared.item.Due.TheVariants.{RecordHead, Nothing}
use Rattle.mig_stream.specs.declared.item.StreamState.TheVariants.{Closed}
use Rattle.mig_stream.specs.Format.{end_byte}
use Rattle.mig_stream.specs.PageRecord.{PageRecord}
use Rattle.mig_stream.specs.Progress.{StreamProgress, start, whole_table}
use Rattle.mig_stream.specs.Reading.{Front, Reads}
use Rattle.mig_stream.specs.Text.{Record, Follow, all_records, file_header, configuration, start_head, size_list, body, section, IsText}
use Rattle.mig_stream.specs.Law.{SpelledIsRead, HasOneText}
use Rattle.mig_stream.proofs.Fronts.{Front-append}
use Rattle.mig_stream.proofs.Unique.{one_reading}
use Rattle.mig_stream.proofs.After.{after_body, FlushesFit}
use Rattle.mig_stream.proofs.Modes.{single_kept}
use Rattle.mig_stream.specs.Items.{is_single}
use Rattle.mig_stream.proofs.SectionRounds.{rounds_read}
use Rattle.mig_stream.proofs.SpelledItems.{opening_front}
use Rattle.mig_stream.proofs.SpelledRecords.{body_front}
use Rattle.mig_stream.proofs.NoPageSize.{nothing_elsewhere}
use Rattle.mig_stream.proofs.SpelledList.{list_front}
use Rattle.mig_stream.proofs.SpelledSections.{FlushesFit-first, FlushesFit-rest, Follow-first, Follow-rest, at_end, sections_front}

-- a front that is a complete stream: it leads to the end of the stream, and says this table and
-- these rounds
pub record IsReadWhole (mode : Mode) (limit : ℕ) (text : List ℕ) (table : RamTable) (rounds : List (List PageRecord)) : Type 0 where
  pub to : StreamProgress
  pub leads : Front (start Ram mode table.page_size limit None) text to
  pub is_closed : to.due ≡ Nothing
  pub has_table : whole_table to ≡ Some table
  pub has_rounds : to.rounds ≡ rounds

-- the eight parts of a stream, put together otherwise
regroup : (a b c d e f g h : List ℕ) → ((((((a ++ b) ++ c) ++ d) ++ e) ++ f) ++ g) ++ h ≡ ((a ++ b) ++ c) ++ (d ++ (e ++ (f ++ (g ++ h))))
regroup a b c d e f g h = simp append_assoc refl

-- Each stream is read completely.
pub text_is_read : (mode : Mode) (limit : ℕ) (text : List ℕ) (table : RamTable) (rounds : List (List PageRecord))
    → IsText mode limit text table rounds → IsReadWhole mode limit text table rounds
text_is_read mode limit text table rounds is =
    let others : List (List Record) = is.parts ++ is.last ∷ [] in
    let behind : List Record = all_records is.parts ++ is.last in
    let told = rounds_read mode (is.first ∷ others) rounds is.has_rounds in
    let follow : Follow table None (is.first ++ behind) = subst (Follow table None) (append_assoc is.first (all_records is.parts) is.last) is.follow in
    let from : StreamProgress = start Ram mode table.page_size limit None in
    let begun : StreamProgress = record from { due = RecordHead; section_id = is.id } in
    let listed : StreamProgress = record begun { left = Some 0; blocks = table.blocks } in
    let first : StreamProgress = after_body listed is.first in
    let opening = opening_front from is.name is.id is.has_name is.has_id in
    let fit : FlushesFit (is_single first.mode) others =
    subst (λ (single : Bool). FlushesFit single others) (sym (single_kept mode true [] is.first)) (FlushesFit-rest (is_single mode) is.first others told.0) in
    let start_body = body_front listed is.first is.has_table is.has_id refl
    (FlushesFit-first (is_single mode) is.first others told.0) (Follow-first table None is.first behind follow) refl in
    let end = sections_front first is.parts is.last refl is.has_table is.has_id refl fit (Follow-rest table None is.first behind follow) told.1 in
    let parts : List ℕ = flat_map (section table sections.Part is.id) is.parts in
    let to : StreamProgress = at_end first others in
    let list = list_front begun to table _ is.has_table is.has_limit nothing_elsewhere (Front-append _ _ _ _ _ start_body end) in
    let spelled = is.is_spelled ∙ regroup file_header (configuration is.name) (start_head is.id) (size_list table)
    (body table is.id is.first) parts (section table sections.End is.id is.last) (end_byte ∷ []) in
    record {
      to = to;
      leads = subst (λ (x : List ℕ). Front from x to) (sym spelled) (Front-append _ _ _ _ _ opening list);
      is_closed = refl;
      has_table = refl;
      has_rounds = told.2;
    }

-- The reading of a stream ends with it, whatever follows it.
text_reads : (mode : Mode) (limit : ℕ) (text rest : List ℕ) (table : RamTable) (rounds : List (List PageRecord))
    → (is : IsReadWhole mode limit text table rounds)
    → Reads (start Ram mode table.page_size limit None) (text ++ rest) is.to rest Closed
text_reads mode limit text rest table rounds is = record { front = text; has_text = refl; leads = is.leads; ends = inl is.is_closed }

-- Whatever is spelled is read so.
pub spelled_law : SpelledIsRead
spelled_law = λ mode limit text rest table rounds is_text.
    let is = text_is_read mode limit text table rounds is_text in
    record {
      to = is.to;
      rest = rest;
      reads = text_reads mode limit text rest table rounds is;
      has_table = sym is.has_table;
      has_rounds = sym is.has_rounds;
    }

-- two whole readings of the same bytes are one
one_whole : (mode : Mode) (limit : ℕ) (a b x y : List ℕ) (s t : RamTable) (p q : List (List PageRecord))
    → s.page_size ≡ t.page_size → IsReadWhole mode limit a s p → IsReadWhole mode limit b t q
    → a ++ x ≡ b ++ y → (a ≡ b) × (s ≡ t) × (p ≡ q)
one_whole mode limit a b x y s t p q size f g e =
    let from : StreamProgress = start Ram mode t.page_size limit None in
    let one : Reads (start Ram mode s.page_size limit None) (a ++ x) f.to x Closed = text_reads mode limit a x s p f in
    let two : Reads from (b ++ y) g.to y Closed = text_reads mode limit b y t q g in
    let here : Reads from (b ++ y) f.to x Closed =
    subst (λ (n : ℕ). Reads (start Ram mode n limit None) (b ++ y) f.to x Closed) size
    (subst (λ (z : List ℕ). Reads (start Ram mode s.page_size limit None) z f.to x Closed) e one) in
    let same = one_reading from (b ++ y) f.to g.to x y Closed Closed here two in
    let fronts : a ++ x ≡ b ++ x = e ∙ ap (λ (z : List ℕ). b ++ z) (sym same.1) in
    let tables : Some s ≡ Some t = sym f.has_table ∙ ap whole_table same.0 ∙ g.has_table in
    (append_cancel_right a b x fronts, cc, sym f.has_rounds ∙ ap (λ (c : StreamProgress). c.rounds) same.0 ∙ g.has_rounds)

-- No bytes have two prefixes that are streams.
pub one_text_law : HasOneText
one_text_law = λ mode limit a b x y s t p q size is_a is_b e.
    one_whole mode limit a b x y s t p q size (text_is_read mode limit a s p is_a) (text_is_read mode limit b t q is_b) e
