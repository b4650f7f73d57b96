-- An item without a fault, of any kind, goes in front of what is left after it.
use Rattle.std.proofs.Common.{◌≡◌, ◌≢◌, ◌⊎◌, inl, inr, ℕ, zero, suc, ◌+◌, ◌-◌, ◌^◌, ◌<◌, ◌/◌, ◌%◌, Bool, true}
use Rattle.std.proofs.Common.{false, not, cond, eqb, List, [], ◌∷◌, ◌++◌, length}
use Rattle.std.proofs.Common.{get_or, Option, Some, None, refl, sym, ap, subst, ◌∙◌, append_assoc, arith}
use Rattle.std.specs.Prelude.{is_none, ◌==◌, ◌&&◌}
use Rattle.std.specs.Option.{unwrap_or}
use Rattle.std.specs.List.{concat, flat_map}
use Rattle.std.specs.Str.{bytes_eq}
use Rattle.std.proofs.lemmas.Bool.{cases_Bool, not-false, not-true, eqb-true, eqb-false, and_parts}
use Rattle.mig_mem.specs.Place.{place_at}
use Rattle.mig_mem.specs.RamTable.{block_of}
use Rattle.mig_stream.specs.declared.item.Filling.{Filling}
use Rattle.mig_stream.specs.declared.item.Filling.TheVariants.{Zero, Normal}
use Rattle.mig_stream.specs.declared.item.Before.TheVariants as before
use Rattle.mig_stream.specs.declared.item.EntryForm.{EntryForm}
use Rattle.mig_stream.specs.declared.item.EntryForm.TheVariants.{Plain, Addressed, Sized}
use Rattle.mig_stream.specs.declared.item.PassedItem.{PassedItem}
use Rattle.mig_stream.specs.declared.item.PassedItem.TheVariants as pass
use Rattle.mig_stream.specs.declared.item.Subsection.{Subsection}
use Rattle.mig_stream.specs.declared.item.Subsection.TheVariants as kinds
use Rattle.mig_stream.specs.Format.{footer_type, ignore_shared, least_page_size}
use Rattle.mig_stream.specs.Machine.{ignore_shared_in, names_shared, IsBlockPageSize, PageBits, Uuid, Capabilities, kind_of, body_bytes, subsection_head}
use Rattle.mig_stream.specs.declared.item.Section.{Section}
use Rattle.mig_stream.specs.declared.item.Section.TheVariants as section
use Rattle.mig_stream.specs.declared.item.Due.{Due}
use Rattle.mig_stream.specs.declared.item.Due.TheVariants.{FileHeader, TypeByte, ConfigLength, ConfigName, StartHead, SectionHead, RecordHead, ListEntry}
use Rattle.mig_stream.specs.declared.item.Due.TheVariants.{PageSize, BlockName, Content, Footer, Passed, Nothing}
use Rattle.mig_stream.specs.declared.fault.StreamFault.TheVariants as fault
use Rattle.mig_stream.specs.Fields.{be32, counted, be32_at, be64_at}
use Rattle.mig_stream.specs.Progress.{StreamProgress, whole_table}
use Rattle.mig_mem.specs.First.{first_of}
use Rattle.mig_stream.specs.Items.{is_page_size, is_machine, is_single, closes, has_tail, body_of, list_due, entry_due, behind_passed, passed_form, passed_size}
use Rattle.mig_stream.specs.Items.{passed_faults, open_records, after_footer, id_in, record_kind, has_page, record_faults, entry_faults, faults, end_section}
use Rattle.mig_stream.specs.Items.{after_record, after_entry, after_item, after}
use Rattle.mig_stream.specs.Reading.{IsItem, AreFaultless, after_all}
use Rattle.mig_stream.proofs.FoundFields.{IsBytes, bytes_of_front, bytes_of_rest, be32_found, be64_found, head_found}
use Rattle.mig_stream.proofs.FoundPages.{RestOfPage, RestOfName, zero_back, normal_back, name_back}
use Rattle.mig_stream.proofs.FoundSections.{at_head, footer_back, section_back}
use Rattle.mig_stream.proofs.FoundList.{RestOfEntries, RestOfList, RestOfListed, RestOfTail, IsEntry, entry_is, left_after, entries_at, behind_entry}
use Rattle.mig_stream.proofs.FoundList.{entry_back}
use Rattle.mig_stream.proofs.FoundTail.{ending, RestOfEnd, RestBehind, Behind, no_tail_closed}
use Rattle.mig_stream.proofs.FoundOpening as opening
use Rattle.mig_stream.proofs.After.{HasNoTail}
use Rattle.mig_stream.proofs.FoundParts.{be32_small, be64_small}
use Rattle.mig_stream.proofs.Fronts.{sized, sized_some}
use Rattle.mig_stream.proofs.NoPageSize.{named_first}
use Rattle.mig_stream.proofs.Tails.{twice}
use Rattle.mig_stream.proofs.Steps.{not_size, passed}
use Rattle.mig_stream.proofs.FoundPassed.{command_found, head_found as head_found_of, bits_found, capability_found}
use Rattle.mig_stream.proofs.FoundRest.{RestAt, RestAtPassed, RestFrom}
use Rattle.mig_stream.proofs.FoundHeads.{head_back}
use Rattle.mig_stream.proofs.FoundEarly.{early_back}
use Rattle.mig_stream.proofs.FoundTypes.{type_back}

-- after the length of a configuration's name stands the name, or no byte of it
configuration_behind : (to c : StreamProgress) (len : ℕ) (bytes : List ℕ) (b : Bool) → eqb len 0 ≡ b
    → RestFrom to (record c { due = cond b (TypeByte before.Configuration) (ConfigName len) }) bytes
    → c.left ≡ None → opening.RestOfConfigName to (record c { due = ConfigName len }) len bytes
configuration_behind to c len bytes true test r none = opening.no_name_back to (record c { due = ConfigName len }) len bytes (eqb-true len 0 test) (r none)
configuration_behind to c len bytes false test r none = r none

-- after START's head, in START
in_start : (to c : StreamProgress) (id : ℕ) (bytes : List ℕ) → c.section ≡ section.Start
    → RestOfList (Behind to) (record c { due = RecordHead; section_id = id }) bytes
    → RestOfList (Behind to) (record c { due = RecordHead; section = section.Start; section_id = id }) bytes
in_start to c id bytes is r = subst (λ (x : Section). RestOfList (Behind to) (record c { due = RecordHead; section = x; section_id = id }) bytes) is r

-- ---- entries, and what follows their lengths

-- what follows an entry and its tail
listed_at : (to c : StreamProgress) (last : Bool) (bytes : List ℕ)
    → RestAt to (record c { due = list_due last }) (list_due last) bytes → RestOfListed (Behind to) c last bytes
listed_at to c true bytes r = λ used. at_head (Behind to) c bytes (r.1 used)
listed_at to c false bytes r = entries_at (Behind to) c ListEntry bytes r

-- what follows an entry begins with its tail
tail_of : (to c : StreamProgress) (form : EntryForm) (last : Bool) (bytes : List ℕ) → RestAt to c (entry_due form last) bytes
    → RestOfTail (Behind to) c form last bytes
tail_of to c Plain true bytes r = record { tail = []; more = bytes; has_bytes = refl; is_tail = refl; rest = r.1 }
tail_of to c Plain false bytes r = record { tail = []; more = bytes; has_bytes = refl; is_tail = refl; rest = r }
tail_of to c Addressed last bytes r = r
tail_of to c Sized last bytes r = r

-- an entry in front of what follows it
entry_before : (to c : StreamProgress) (item bytes : List ℕ) → length item ≡ 9 + get_or item 0 0 → IsBytes item → IsEntry c item
    → RestFrom to (after_entry c item) bytes → RestOfEntries (Behind to) c (item ++ bytes)
entry_before to c item bytes len all is r =
    let last : Bool = eqb (left_after c item) 0 in
    let d : Due = entry_due c.form last in
    entry_back (Behind to) c d last item bytes len all is refl (tail_of to (behind_entry c d item) c.form last bytes r)

-- ---- the page size of a block

positive : (n : ℕ) → (n ≡ 0 → ⊥) → 0 < n
positive zero some = absurd (some refl)
positive (suc n) some = omega arith

size_found : (item : List ℕ) → length item ≡ 8 → IsBytes item → is_page_size item ≡ true → IsBlockPageSize (be64_at 0 item)
size_found item len all is =
    let n : ℕ = be64_at 0 item in
    let outer = and_parts (eqb (get_or item 0 0) 0) (not (eqb n 0) && eqb (n % least_page_size) 0) is in
    let inner = and_parts (not (eqb n 0)) (eqb (n % least_page_size) 0) outer.1 in
    record {
      is_some = positive n (eqb-false n 0 (not-true (eqb n 0) inner.0));
      is_multiple = eqb-true (n % least_page_size) 0 inner.1;
      fits = be64_small item len all (eqb-true (get_or item 0 0) 0 outer.0);
    }

-- a page size in front of what follows it
size_before : (to c : StreamProgress) (last : Bool) (item bytes : List ℕ) → length item ≡ 8 → IsBytes item
    → is_page_size item ≡ true → RestAt to (record c { due = list_due last }) (list_due last) bytes → RestOfTail (Behind to) c Sized last (item ++ bytes)
size_before to c last item bytes len all is r = record {
  tail = item;
  more = bytes;
  has_bytes = refl;
  is_tail = inr (be64_at 0 item, sym (be64_found item len all), size_found item len all is);
  rest = listed_at to c last bytes r;
}

-- a record where the page size might be
record_before : (to c : StreamProgress) (item bytes : List ℕ) → length item ≡ 8 → IsBytes item
    → first_of (record_faults c item) ≡ None → RestFrom to (after_record c item) bytes → RestOfTail (Behind to) c Sized true (item ++ bytes)
record_before to c item bytes len all free r =
    let flags = be64_at 0 item % c.page_size in
    let page = be64_at 0 item / c.page_size in
    let here : RestAt to c RecordHead (item ++ bytes) =
    head_back to c flags page item bytes (record_kind flags) (head_found c.page_size item len all) refl free r in
    record { tail = []; more = item ++ bytes; has_bytes = refl; is_tail = inl refl; rest = here.1 }

-- an entry where the page size might be
next_before : (to c : StreamProgress) (item bytes : List ℕ) → length item ≡ sized (get_or item 0 0) → IsBytes item
    → first_of (entry_faults c item) ≡ None → RestFrom to (after_entry c item) bytes → RestOfTail (Behind to) c Sized false (item ++ bytes)
next_before to c item bytes whole all free r =
    let n : ℕ = get_or item 0 0 in
    let is = entry_is c item free in
    let some : eqb n 0 ≡ false = named_first item (omega (arith, whole, sized_some n)) is.has_id in
    let len : length item ≡ 9 + n = whole ∙ ap (λ (b : Bool). cond b 8 (9 + n)) some in
    record { tail = []; more = item ++ bytes; has_bytes = refl; is_tail = inl refl; rest = entry_before to c item bytes len all is r }

-- the page size of the last entry's block, or a record
last_size_back : (to c : StreamProgress) (item bytes : List ℕ) → length item ≡ 8 → IsBytes item
    → first_of (faults c (PageSize true) item) ≡ None → RestFrom to (after_item c (PageSize true) item) bytes
    → RestOfTail (Behind to) c Sized true (item ++ bytes)
last_size_back to c item bytes len all free r =
    let here : Bool → StreamProgress = λ b. cond b (record c { due = RecordHead }) (after_record c item) in
    elim (cases_Bool (is_page_size item)) [
      | inl found ↦ size_before to c true item bytes len all found (subst (λ (b : Bool). RestFrom to (here b) bytes) found r)
      | inr isnt ↦ record_before to c item bytes len all (not_size (is_page_size item) (record_faults c item) isnt free)
          (subst (λ (b : Bool). RestFrom to (here b) bytes) isnt r)
    ]

-- that of another entry's block, or the next entry
next_size_back : (to c : StreamProgress) (item bytes : List ℕ) → length item ≡ sized (get_or item 0 0) → IsBytes item
    → first_of (faults c (PageSize false) item) ≡ None → RestFrom to (after_item c (PageSize false) item) bytes
    → RestOfTail (Behind to) c Sized false (item ++ bytes)
next_size_back to c item bytes whole all free r =
    let n : ℕ = get_or item 0 0 in
    let here : Bool → StreamProgress = λ b. cond b (record c { due = ListEntry }) (after_entry c item) in
    elim (cases_Bool (is_page_size item)) [
      | inl found ↦
          let zero_first = (and_parts (eqb n 0) (not (eqb (be64_at 0 item) 0) && eqb (be64_at 0 item % least_page_size) 0) found).0 in
          let len : length item ≡ 8 = whole ∙ ap (λ (b : Bool). cond b 8 (9 + n)) zero_first in
          size_before to c false item bytes len all found (subst (λ (b : Bool). RestFrom to (here b) bytes) found r)
      | inr isnt ↦ next_before to c item bytes whole all (not_size (is_page_size item) (entry_faults c item) isnt free)
          (subst (λ (b : Bool). RestFrom to (here b) bytes) isnt r)
    ]

-- ---- page records, and footers

-- the id of a page record names a block
id_back : (Behind : StreamProgress → List ℕ → Type 0) (c : StreamProgress) (f : Filling) (page : ℕ)
    (item bytes : List ℕ) (named : Option ℕ) → length item ≡ 1 + get_or item 0 0
    → block_of c.blocks (id_in item) ≡ named → has_page c.blocks named page ≡ true
    → RestOfPage Behind (record c { due = Content f (place_at (unwrap_or named 0) page); named = named }) f (place_at (unwrap_or named 0) page) bytes
    → RestOfName Behind c f page (item ++ bytes)
id_back Behind c f page item bytes None len is in_range r = absurd cc
id_back Behind c f page item bytes (Some b) len is in_range r = name_back Behind c f page item bytes len b is in_range r

-- after the footer of END stands the ending
ending_behind : (to c : StreamProgress) (bytes : List ℕ) (machine : Bool) → is_machine c.frame ≡ machine
    → (machine ≡ true → HasNoTail c.mode c.records) → RestAt to c (cond machine Nothing (TypeByte before.LastFooter)) bytes → RestOfEnd to c bytes
ending_behind to c bytes true is whole r = record {
  has_bytes = r.0 ∙ sym (ap ending is);
  is_closed = r.3;
  no_tail = whole refl;
  has_rounds = r.1;
  has_table = r.2;
}
ending_behind to c bytes false is whole r = r is

-- after a footer
footer_behind : (to c : StreamProgress) (s : Section) (bytes : List ℕ) → c.left ≡ Some 0
    → (closes c.frame s ≡ true → HasNoTail c.mode c.records) → RestAt to c (after_footer c.frame s) bytes → RestBehind to s c bytes
footer_behind to c section.Start bytes used whole r = r used
footer_behind to c section.Part bytes used whole r = r used
footer_behind to c section.End bytes used whole r = ending_behind to c bytes (is_machine c.frame) refl whole r

-- a footer that closes the stream was tested so
closed_whole : (c : StreamProgress) (closing : Bool) → has_tail closing c ≡ false → closing ≡ true → HasNoTail c.mode (open_records c.mode c.records)
closed_whole c true free e = no_tail_closed c.mode c.records free
closed_whole c false free e = absurd cc

-- ---- items that are passed over

-- after the count of capabilities stand their names
names_behind : (to c : StreamProgress) (n : ℕ) (bytes : List ℕ) (b : Bool) → eqb n 0 ≡ b
    → RestAt to (record c { due = cond b (TypeByte before.Configuration) (Passed (pass.Capability (n - 1))) })
    (cond b (TypeByte before.Configuration) (Passed (pass.Capability (n - 1)))) bytes
    → c.left ≡ None → opening.RestOfNames to c n bytes
names_behind to c n bytes true test r none = record {
  names = [];
  has_length = sym (eqb-true n 0 test);
  tail = bytes;
  has_bytes = refl;
  are_capabilities = tt;
  rest = opening.configured_at to c (TypeByte before.Configuration) bytes (r none);
}
names_behind to c n bytes false test r none =
    let q = r none in
    record {
      names = q.names;
      has_length = q.has_length ∙ some n (eqb-false n 0 test);
      tail = q.tail;
      has_bytes = q.has_bytes;
      are_capabilities = q.are_capabilities;
      rest = opening.configured_at to (record c { form = cond (ignore_shared_in q.names) Addressed c.form }) (Passed (pass.Capability (n - 1))) q.tail q.rest;
    }
  where
    some : (k : ℕ) → k ≢ 0 → k - 1 + 1 ≡ k
    some zero e = absurd (e refl)
    some (suc k) e = omega arith

body_back : (to c : StreamProgress) (kind : Subsection) (item bytes : List ℕ)
    → length item ≡ passed_size (pass.SubsectionBody kind) item → IsBytes item
    → first_of (passed_faults c.page_size c.form (pass.SubsectionBody kind) item) ≡ None
    → RestAt to (record c { due = behind_passed (pass.SubsectionBody kind) item })
    (behind_passed (pass.SubsectionBody kind) item) bytes → c.left ≡ None → opening.RestOfBodyOf to c kind (item ++ bytes)
body_back to c kinds.PageBits item bytes len all free r none = record {
  held = PageBits (be32_at 0 item);
  has_kind = refl;
  tail = bytes;
  has_bytes = ap (λ (x : List ℕ). x ++ bytes) (sym (be32_found item len all));
  is_body = (be32_small item (omega (arith, len)) all, bits_found c.page_size c.form item free);
  rest = opening.configured_at to c (TypeByte before.Configuration) bytes (r none);
}
body_back to c kinds.Uuid item bytes len all free r none = record {
  held = Uuid item;
  has_kind = refl;
  tail = bytes;
  has_bytes = refl;
  is_body = len;
  rest = opening.configured_at to c (TypeByte before.Configuration) bytes (r none);
}
body_back to c kinds.Capabilities item bytes len all free r none =
    let n : ℕ = be32_at 0 item in
    let q = names_behind to c n bytes (eqb n 0) refl r none in
    let count : item ≡ be32 (length q.names) = sym (be32_found item len all) ∙ ap be32 (sym q.has_length) in
    record {
      held = Capabilities q.names;
      has_kind = refl;
      tail = q.tail;
      has_bytes = ap (λ (x : List ℕ). x ++ bytes) count ∙ ap (λ (x : List ℕ). be32 (length q.names) ++ x) q.has_bytes
          ∙ sym (append_assoc (be32 (length q.names)) (flat_map counted q.names) q.tail);
      is_body = (subst (λ (x : ℕ). x < 2 ^ 32) (sym q.has_length) (be32_small item (omega (arith, len)) all), q.are_capabilities);
      rest = q.rest;
    }

head_back_of : (to c : StreamProgress) (item bytes : List ℕ) (kind : Subsection) → item ≡ subsection_head kind
    → opening.RestOfBodyOf to (record c { due = Passed (pass.SubsectionBody kind) }) kind bytes → opening.RestOfSubsection to c (item ++ bytes)
head_back_of to c item bytes kind is q = record {
  held = q.held;
  tail = q.tail;
  has_bytes = ap (λ (x : List ℕ). x ++ bytes) (is ∙ ap subsection_head (sym q.has_kind))
      ∙ ap (λ (x : List ℕ). subsection_head (kind_of q.held) ++ x) q.has_bytes
      ∙ sym (append_assoc (subsection_head (kind_of q.held)) (body_bytes q.held) q.tail);
  is_body = q.is_body;
  rest = opening.configured_at to (record c { form = cond (names_shared q.held) Addressed c.form }) (Passed (pass.SubsectionBody kind)) q.tail q.rest;
}

passed_back : (to c : StreamProgress) (passed : PassedItem) (item bytes : List ℕ) → length item ≡ passed_size passed item
    → IsBytes item → first_of (passed_faults c.page_size c.form passed item) ≡ None
    → RestAt to (record c { due = behind_passed passed item; form = passed_form c.form passed item })
    (behind_passed passed item) bytes → RestAtPassed to c passed (item ++ bytes)
passed_back to c (pass.Command b) item bytes len all free r =
    let found = command_found c.page_size c.form b item len all free in
    record {
      command_is = found.command_is;
      tail = bytes;
      has_bytes = ap (λ (x : List ℕ). x ++ bytes) found.has_bytes;
      is_command = found.is_command;
      fits = found.fits;
      rest = subst (λ (t : Bool). RestAt to (record c { due = TypeByte b; form = cond t Sized c.form }) (TypeByte b) bytes) found.is_told r;
    }
passed_back to c pass.SubsectionHead item bytes len all free r =
    let found = head_found_of item len all free in
    let q = subst (λ (o : Option Subsection). RestAt to (record c { due = body_of o }) (body_of o) bytes) found.is_told r in
    λ none. head_back_of to c item bytes found.kind_is found.has_bytes (q none)
passed_back to c (pass.SubsectionBody kind) item bytes len all free r = body_back to c kind item bytes len all free r
passed_back to c (pass.Capability others) item bytes len all free r =
    let found = capability_found c.page_size c.form others item len all free in
    let shared : Bool = bytes_eq (id_in item) ignore_shared in
    let named : StreamProgress = record c { form = cond shared Addressed c.form } in
    λ none.
    let q = names_behind to named others bytes (eqb others 0) refl r none in
    record {
      names = id_in item ∷ q.names;
      has_length = omega (arith, q.has_length);
      tail = q.tail;
      has_bytes = ap (λ (x : List ℕ). x ++ bytes) found.0 ∙ ap (λ (x : List ℕ). counted (id_in item) ++ x) q.has_bytes
          ∙ sym (append_assoc (counted (id_in item)) (flat_map counted q.names) q.tail);
      are_capabilities = (found.1, q.are_capabilities);
      rest = subst (λ (form : EntryForm). opening.RestOfConfigured to (record c { form = form }) q.tail)
          (twice shared (ignore_shared_in q.names) Addressed c.form) q.rest;
    }
passed_back to c (pass.Address last) item bytes len all free r = record {
  tail = item;
  more = bytes;
  has_bytes = refl;
  is_tail = len;
  rest = listed_at to c last bytes r;
}
passed_back to c (pass.Early b part) item bytes len all free r = early_back to c b part item bytes len all free r

-- The item of each kind in front of what is left after it.
pub item_back : (to c : StreamProgress) (d : Due) (item bytes : List ℕ) → c.due ≡ d → IsItem c.page_size d item → IsBytes item
    → first_of (faults c d item) ≡ None
    → RestFrom to (after_item c d item) bytes → RestAt to c d (item ++ bytes)
item_back to c FileHeader item bytes due is all free r = λ none. opening.header_back to c item bytes is.is_whole all free (r none)
item_back to c (TypeByte b) item bytes due is all free r = type_back to c b item bytes is.is_whole free r
item_back to c ConfigLength item bytes due is all free r =
    λ none. opening.length_back to c item bytes is.is_whole all free (configuration_behind to c (be32_at 0 item) bytes (eqb (be32_at 0 item) 0) refl r none)
item_back to c (ConfigName len) item bytes due is all free r = λ none. opening.name_back to c len item bytes is.is_whole (r none)
item_back to c StartHead item bytes due is all free r =
    λ none start. opening.start_head_back to c item bytes is.is_whole all free (in_start to c (be32_at 0 item) bytes start (r.0 none))
item_back to c SectionHead item bytes due is all free r = λ used. section_back (Behind to) c item bytes is.is_whole all free (r.1 used)
item_back to c RecordHead item bytes due is all free r =
    let flags = be64_at 0 item % c.page_size in
    let page = be64_at 0 item / c.page_size in
    head_back to c flags page item bytes (record_kind flags) (head_found c.page_size item is.is_whole all) refl free r
item_back to c ListEntry item bytes due is all free r = entry_before to c item bytes is.is_whole all (entry_is c item free) r
item_back to c (PageSize true) item bytes due is all free r = last_size_back to c item bytes is.is_whole all free r
item_back to c (PageSize false) item bytes due is all free r = next_size_back to c item bytes is.is_whole all free r
item_back to c (BlockName f page) item bytes due is all free r =
    let named = block_of c.blocks (id_in item) in
    let out = not (has_page c.blocks named page) in
    let t1 = passed (is_none named) fault.UnknownBlock ((out, fault.OffsetOut) ∷ []) free in
    let t2 = passed out fault.OffsetOut [] t1.1 in
    λ used. id_back (Behind to) c f page item bytes named is.is_whole refl (not-false (has_page c.blocks named page) t2.0) (r used)
item_back to c (Content Zero place) item bytes due is all free r = λ used. zero_back (Behind to) c place item bytes is.is_whole free (r.1 used)
item_back to c (Content Normal place) item bytes due is all free r = λ used. normal_back (Behind to) c place item bytes is.is_whole (r.1 used)
item_back to c Footer item bytes due is all free r =
    let footer_test = not (get_or item 0 0 == footer_type && be32_at 1 item == c.section_id) in
    let t1 = passed footer_test fault.Footer ((has_tail (closes c.frame c.section) c, fault.Tail) ∷ []) free in
    let t2 = passed (has_tail (closes c.frame c.section) c) fault.Tail [] t1.1 in
    λ used. footer_back (Behind to) c item bytes is.is_whole all free
    (footer_behind to (end_section c) c.section bytes used (closed_whole c (closes c.frame c.section) t2.0) r)
item_back to c (Passed passed) item bytes due is all free r = passed_back to c passed item bytes is.is_whole all free r
item_back to c Nothing item bytes due is all free r = absurd (is.is_due refl)

-- where a reading may stop: at no item, or in a single stream where a section may begin
abbrev pub MayStop : StreamProgress → Type 0
MayStop to = (to.due ≡ Nothing) ⊎ ((to.due ≡ TypeByte before.Footer) × (is_single to.mode ≡ true))

-- no bytes are left there
none_back : (to c : StreamProgress) → to ≡ c → MayStop to → RestFrom to c []
none_back to c leads (inl due) =
    let end : c.due ≡ Nothing = ap (λ (x : StreamProgress). x.due) (sym leads) ∙ due in
    subst (λ (d : Due). RestAt to c d []) (sym end) (refl, ap (λ (x : StreamProgress). x.rounds) leads, ap whole_table leads, due)
none_back to c leads (inr over) =
    let at : c.due ≡ TypeByte before.Footer = ap (λ (x : StreamProgress). x.due) (sym leads) ∙ over.0 in
    subst (λ (d : Due). RestAt to c d []) (sym at) (λ used. record {
      others = [];
      last = None;
      stands = (over.0, λ none. ap (λ (x : StreamProgress). x.section) leads);
      has_bytes = refl;
      are_others = tt;
      in_frame = λ ram. tt;
      follow = tt;
      flushes = inr tt;
      no_tail = inl (ap (λ (x : StreamProgress). is_single x.mode) (sym leads) ∙ over.1);
      has_rounds = ap (λ (x : StreamProgress). x.rounds) leads;
      has_table = ap whole_table leads;
    })

-- Items without a fault that lead to where a reading may stop are what is left before it.
pub items_back : (to c : StreamProgress) (items : List (List ℕ)) → AreFaultless c items → IsBytes (concat items)
    → to ≡ after_all c items → MayStop to → RestFrom to c (concat items)
items_back to c [] free all leads stop = none_back to c leads stop
items_back to c (item ∷ items) free all leads stop =
    item_back to c c.due item (concat items) refl free.0 (bytes_of_front item (concat items) all) free.1
    (items_back to (after c item) items free.2 (bytes_of_rest item (concat items) all) leads stop)
