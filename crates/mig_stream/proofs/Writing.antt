-- What a writer holds, a page and a part further.
use Rattle.std.proofs.Common.{◌≡◌, ◌≤◌, ℕ, List, [], ◌∷◌, ◌++◌, length, take, Option, Some, None, refl, sym, ap, subst, ◌∙◌, append_assoc, arith}
use Rattle.std.specs.Prelude.{Result, Ok, Err, OnOk, OnErr}
use Rattle.std.specs.List.{flat_map}
use Rattle.std.proofs.lemmas.List.{append-nil, map-append, length-append, take_at, take-take, take-append-le}
use Rattle.std.proofs.lemmas.List.Elements.{All-nil, All-cons, All-append}
use Rattle.mig_mem.specs.declared.place.Place.{Place}
use Rattle.mig_mem.specs.Image.{Page, Image, content_at, pages_of}
use Rattle.mig_mem.specs.Place.{IsPlace}
use Rattle.mig_mem.specs.Round.{IsRound, round_of}
use Rattle.mig_mem.specs.RamTable.{RamTable}
use Rattle.mig_stream.specs.declared.item.Section.TheVariants as sections
use Rattle.mig_stream.specs.Text.{named_after, record_bytes, page_record, section}
use Rattle.mig_stream.specs.Written.{Part, RoundPart, FlushPart, written_id, is_named, written_record, written_records, part_records, named_after_parts}
use Rattle.mig_stream.specs.Written.{written_parts, opening, closing, written}
use Rattle.mig_stream.specs.Writer.{Writer, PartSoFar, HasDrained, HasPut, with_head, with_pages, with_part, KeepsFront}

-- ---- clauses about results

-- whatever a call returns, a fact holds of its error
pub on_err : {A B : Type 0} (r : Result A B) (P : Type 0) → P → OnErr r P
on_err (Ok x) P p = tt
on_err (Err e) P p = p

-- what holds where a call succeeds may be weakened
pub on_ok_so : {A B : Type 0} (r : Result A B) (P Q : Type 0) → OnOk r P → (P → Q) → OnOk r Q
on_ok_so (Ok x) P Q p f = f p
on_ok_so (Err e) P Q p f = tt

-- ---- a page further

-- the block named last, after some pages and after a part
abbrev pub named_by_pages : Option ℕ → List Page → Option ℕ
named_by_pages before pages = named_after before (written_records before pages)

abbrev pub named_by : Option ℕ → Part → Option ℕ
named_by before part = named_after before (part_records before part)

abbrev pub pages_bytes : RamTable → Option ℕ → List Page → List ℕ
pages_bytes table before pages = flat_map (record_bytes table) (written_records before pages)

pages_bytes-push : (table : RamTable) (before : Option ℕ) (pages : List Page) (x : Page)
    → pages_bytes table before (pages ++ x ∷ []) ≡ pages_bytes table before pages ++ pages_bytes table (named_by_pages before pages) (x ∷ [])
pages_bytes-push table before [] x = refl
pages_bytes-push table before (y ∷ pages) x =
    let first : List ℕ = page_record table (is_named before y.place.block) (written_record y) in
    ap (λ (b : List ℕ). first ++ b) (pages_bytes-push table (Some y.place.block) pages x)
    ∙ sym (append_assoc first (pages_bytes table (Some y.place.block) pages) (pages_bytes table (named_by_pages (Some y.place.block) pages) (x ∷ [])))

named_by_pages-push : (before : Option ℕ) (pages : List Page) (x : Page) → named_by_pages before (pages ++ x ∷ []) ≡ Some x.place.block
named_by_pages-push before [] x = refl
named_by_pages-push before (y ∷ pages) x = named_by_pages-push (Some y.place.block) pages x

-- a page that is written after others is written with them
pub with_pages-push : (w : Writer) (pages : List Page) (x : Page) → with_pages (with_pages w pages) (x ∷ []) ≡ with_pages w (pages ++ x ∷ [])
with_pages-push w pages x =
    let text : (w.text ++ pages_bytes w.table w.named pages) ++ pages_bytes w.table (named_by_pages w.named pages)
    (x ∷ []) ≡ w.text ++ pages_bytes w.table w.named (pages ++ x ∷ []) =
    append_assoc w.text (pages_bytes w.table w.named pages) (pages_bytes w.table (named_by_pages w.named pages) (x ∷ []))
    ∙ ap (λ (b : List ℕ). w.text ++ b) (sym (pages_bytes-push w.table w.named pages x)) in
    ap (λ (b : List ℕ). record w { text = b; named = Some x.place.block }) text
    ∙ ap (λ (n : Option ℕ). record w { text = w.text ++ pages_bytes w.table w.named (pages ++ x ∷ []); named = n }) (sym (named_by_pages-push w.named pages x))

-- no page leaves the writer as it is
pub with_no_pages : (w : Writer) → w ≡ with_pages w []
with_no_pages w = ap (λ (b : List ℕ). record w { text = b }) (sym (append-nil w.text))

-- the round of one place more
pub round_of-push : (m : Image) (ps : List Place) (p : Place) → round_of m (ps ++ p ∷ []) ≡ round_of m ps ++ record { place = p; content = content_at m p } ∷ []
unfolding pages_of
round_of-push m ps p = map-append (λ (q : Place). record { place = q; content = content_at m q }) ps (p ∷ [])

-- the beginning of a stream that grew, and grew again
front_of_more : (x more z : List ℕ) → take (length (x ++ more)) z ≡ x ++ more → take (length x) z ≡ x
front_of_more x more z h =
    let short : length x ≤ length (x ++ more) = omega (arith, length-append x more) in
    sym (take-take (length x) (length (x ++ more)) z short) ∙ ap (λ (l : List ℕ). take (length x) l) h ∙ take_at x more (length x) refl

-- pages written before keep the front of what is written
pub KeepsFront-pages : (old mid now : Writer) (pages : List Page) → mid ≡ with_pages old pages → KeepsFront mid now → KeepsFront old now
KeepsFront-pages old mid now pages is h = record {
  same_table = h.same_table ∙ ap (λ (w : Writer). w.table) is;
  same_front = front_of_more old.text (pages_bytes old.table old.named pages) now.text
      (ap (λ (b : List ℕ). take (length b) now.text) (sym (ap (λ (w : Writer). w.text) is)) ∙ h.same_front ∙ ap (λ (w : Writer). w.text) is);
}

-- ---- a part further

written_parts-push : (table : RamTable) (before : Option ℕ) (parts : List Part) (last : Part)
    → written_parts table before (parts ++ last ∷ []) ≡ written_parts table before parts ++ section table sections.Part written_id
    (part_records (named_after_parts before parts) last)
written_parts-push table before [] last = append-nil (section table sections.Part written_id (part_records before last))
written_parts-push table before (part ∷ parts) last =
    let first : List ℕ = section table sections.Part written_id (part_records before part) in
    ap (λ (b : List ℕ). first ++ b) (written_parts-push table (named_by before part) parts last)
    ∙ sym (append_assoc first (written_parts table (named_by before part) parts)
    (section table sections.Part written_id (part_records (named_after_parts (named_by before part) parts) last)))

named_after_parts-push : (before : Option ℕ) (parts : List Part) (last : Part)
    → named_after_parts before (parts ++ last ∷ []) ≡ named_by (named_after_parts before parts) last
named_after_parts-push before [] last = refl
named_after_parts-push before (part ∷ parts) last = named_after_parts-push (named_by before part) parts last

-- a writer by its parts
pub same_writer : (a b : Writer) → a.table ≡ b.table → a.text ≡ b.text → a.named ≡ b.named → a ≡ b
same_writer a b table text named =
    ap (λ (t : RamTable). record { table = t; text = a.text; named = a.named }) table
    ∙ ap (λ (t : List ℕ). record { table = b.table; text = t; named = a.named }) text
    ∙ ap (λ (n : Option ℕ). record { table = b.table; text = b.text; named = n }) named

HasDrained-part : (drained : List ℕ) (w : Writer) (parts : List Part) (part : Part) → HasDrained drained w parts
    → HasDrained drained (with_part w part) (parts ++ part ∷ [])
HasDrained-part drained w parts part h = record {
  has_text =
      sym (append_assoc drained w.text (section w.table sections.Part written_id (part_records w.named part)))
      ∙ ap (λ (n : Option ℕ). (drained ++ w.text) ++ section w.table sections.Part written_id (part_records n part)) h.has_named
      ∙ ap (λ (b : List ℕ). b ++ section w.table sections.Part written_id (part_records (named_after_parts None parts) part)) h.has_text
      ∙ append_assoc (opening w.table) (written_parts w.table None parts)
      (section w.table sections.Part written_id (part_records (named_after_parts None parts) part))
      ∙ ap (λ (b : List ℕ). opening w.table ++ b) (sym (written_parts-push w.table None parts part));
  has_named = ap (λ (n : Option ℕ). named_by n part) h.has_named ∙ sym (named_after_parts-push None parts part);
}

-- a part that is written follows those that were
pub HasDrained-next : (drained : List ℕ) (old new : Writer) (parts : List Part) (part : Part) → new ≡ with_part old part
    → HasDrained drained old parts → HasDrained drained new (parts ++ part ∷ [])
HasDrained-next drained old new parts part is h =
    subst (λ (w : Writer). HasDrained drained w (parts ++ part ∷ [])) (sym is) (HasDrained-part drained old parts part h)

-- a PART of FLUSH alone
abbrev pub flush_bytes : List ℕ
flush_bytes = 2 ∷ 0 ∷ 0 ∷ 0 ∷ 1 ∷ 0 ∷ 0 ∷ 0 ∷ 0 ∷ 0 ∷ 0 ∷ 2 ∷ 0 ∷ 0 ∷ 0 ∷ 0 ∷ 0 ∷ 0 ∷ 0 ∷ 0 ∷ 0x10 ∷ 0x7E ∷ 0 ∷ 0 ∷ 0 ∷ 1 ∷ []

-- a FLUSH that is written is a part of the stream
pub flush_part : (drained : List ℕ) (old new : Writer) (parts : List Part) → new.table ≡ old.table → new.text ≡ old.text ++ flush_bytes → new.named ≡ old.named
    → HasDrained drained old parts → HasDrained drained new (parts ++ FlushPart ∷ [])
flush_part drained old new parts table text named h =
    HasDrained-next drained old new parts FlushPart (same_writer new (with_part old FlushPart) table text named) h

-- END and the end byte
abbrev pub closing_bytes : List ℕ
closing_bytes = 3 ∷ 0 ∷ 0 ∷ 0 ∷ 1 ∷ 0 ∷ 0 ∷ 0 ∷ 0 ∷ 0 ∷ 0 ∷ 0 ∷ 0x10 ∷ 0x7E ∷ 0 ∷ 0 ∷ 0 ∷ 1 ∷ 0 ∷ []

-- the bytes drained and those that the end completes are the stream
pub finished : (drained : List ℕ) (w : Writer) (parts : List Part) → HasDrained drained w parts → drained ++ (w.text ++ closing_bytes) ≡ written w.table parts
unfolding closing
finished drained w parts h =
    sym (append_assoc drained w.text closing_bytes) ∙ ap (λ (b : List ℕ). b ++ closing_bytes) h.has_text

-- ---- a part, page after page

-- the part of a writer that had this many bytes of a stream, and this block named last, when it
-- began
abbrev pub part_from : ℕ → Option ℕ → Writer → PartSoFar
part_from len named w = record { before = record { table = w.table; text = take len w.text; named = named }; now = w }

before_stays : (len : ℕ) (named : Option ℕ) (old new : Writer) (pages : List Page) → len ≤ length old.text → new ≡ with_pages old pages
    → (part_from len named new).before ≡ (part_from len named old).before
before_stays len named old new pages within step =
    ap (λ (w : Writer). (part_from len named w).before) step
    ∙ ap (λ (b : List ℕ). record { table = old.table; text = b; named = named }) (take-append-le len old.text (pages_bytes old.table old.named pages) within)

-- one page more was put into the part that is open
pub put_more : (len : ℕ) (named : Option ℕ) (old new : Writer) (pages : List Page) (x : Page) → len ≤ length old.text → new ≡ with_pages old (x ∷ [])
    → IsPlace old.table x.place → length x.content ≡ old.table.page_size → HasPut (part_from len named old) pages
    → HasPut (part_from len named new) (pages ++ x ∷ [])
put_more len named old new pages x within step at size h =
    let table : RamTable = old.table in
    let before : Writer = (part_from len named old).before in
    let same : (part_from len named new).before ≡ before = before_stays len named old new (x ∷ []) within step in
    let text : new ≡ with_pages (with_head before) (pages ++ x ∷ []) =
    step ∙ ap (λ (w : Writer). with_pages w (x ∷ [])) h.has_pages ∙ with_pages-push (with_head before) pages x in
    let round : IsRound table (pages ++ x ∷ []) = record {
      has_places = All-append (λ y. IsPlace table y.place) pages (x ∷ []) h.is_round.has_places
          (All-cons (λ y. IsPlace table y.place) x [] at (All-nil (λ y. IsPlace table y.place)));
      has_sizes = All-append (λ y. length y.content ≡ table.page_size) pages (x ∷ []) h.is_round.has_sizes
          (All-cons (λ y. length y.content ≡ table.page_size) x [] size (All-nil (λ y. length y.content ≡ table.page_size)));
    } in
    record {
      has_pages = text ∙ ap (λ (w : Writer). with_pages (with_head w) (pages ++ x ∷ [])) (sym same);
      is_round = subst (λ (w : Writer). IsRound w.table (pages ++ x ∷ [])) (sym same) round;
    }

-- EOS and the footer
abbrev pub section_end : List ℕ
section_end = 0 ∷ 0 ∷ 0 ∷ 0 ∷ 0 ∷ 0 ∷ 0 ∷ 0x10 ∷ 0x7E ∷ 0 ∷ 0 ∷ 0 ∷ 1 ∷ []

abbrev part_head : List ℕ
part_head = 2 ∷ 0 ∷ 0 ∷ 0 ∷ 1 ∷ []

-- a part that ends is written with the pages that were put into it
pub part_ended : (part : PartSoFar) (new : Writer) (pages : List Page) → HasPut part pages → new.table ≡ part.now.table
    → new.text ≡ part.now.text ++ section_end → new.named ≡ part.now.named
    → new ≡ with_part part.before (RoundPart pages)
part_ended part new pages h table text named =
    let old : Writer = part.before in
    let bytes : List ℕ = pages_bytes old.table old.named pages in
    same_writer new (with_part old (RoundPart pages)) (table ∙ ap (λ (w : Writer). w.table) h.has_pages)
    (text ∙ ap (λ (w : Writer). w.text ++ section_end) h.has_pages ∙ append_assoc (old.text ++ part_head) bytes section_end
    ∙ append_assoc old.text part_head (bytes ++ section_end))
    (named ∙ ap (λ (w : Writer). w.named) h.has_pages)
