-- What is left of a section from a page record on, if its items were read without a fault: ids,
-- contents and heads.
use Rattle.std.proofs.Common.{◌≡◌, ◌⊎◌, ℕ, ◌+◌, ◌*◌, ◌<◌, true, false, not, eqb, ltb, List, [], ◌∷◌, ◌++◌, length, get_or, Option, Some, None, refl, sym, ap}
use Rattle.std.proofs.Common.{◌∙◌, append_assoc, inl, inr, arith}
use Rattle.std.specs.Prelude.{IfSome}
use Rattle.std.specs.List.{flat_map}
use Rattle.std.proofs.lemmas.List.{get_or_past}
use Rattle.std.proofs.lemmas.Bool.{cases_lt, not-false, eqb-true, ltb-true}
use Rattle.mig_mem.specs.declared.place.Place.{Place}
use Rattle.mig_mem.specs.Place.{IsPlace, place_at}
use Rattle.mig_mem.specs.RamTable.{Block, block, block_of}
use Rattle.mig_stream.specs.declared.item.Filling.{Filling}
use Rattle.mig_stream.specs.declared.item.Filling.TheVariants.{Zero, Normal}
use Rattle.mig_stream.specs.declared.item.Due.TheVariants.{RecordHead, BlockName, Content}
use Rattle.mig_stream.specs.declared.item.RecordKind.TheVariants.{Named, Continued, EndOfSection}
use Rattle.mig_stream.specs.Fields.{be64, counted}
use Rattle.mig_stream.specs.Format.{flags_of}
use Rattle.mig_stream.specs.PageRecord.{PageRecord, filling_of, page_kind}
use Rattle.mig_stream.specs.Progress.{StreamProgress, table_of}
use Rattle.mig_mem.specs.First.{first_of}
use Rattle.mig_stream.specs.Items.{id_in, is_single, faults, with_record}
use Rattle.mig_stream.specs.Text.{content_bytes, Record, PageOf, record_bytes, Follow, HasNoFlush, footer, body}
use Rattle.mig_stream.proofs.After.{after_body}
use Rattle.mig_stream.proofs.FoundFields.{counted_found, named_found}
use Rattle.mig_stream.proofs.Steps.{passed}

-- Records, EOS and footer are left, and what stands after the footer is what `Behind` says.
pub record RestOfBody (Behind : StreamProgress → List ℕ → Type 0) (c : StreamProgress) (bytes : List ℕ) : Type 0 where
  pub records : List Record
  pub more : List ℕ
  pub has_bytes : bytes ≡ body (table_of c) c.section_id records ++ more
  pub follow : Follow (table_of c) c.named records
  pub flushes : (is_single c.mode ≡ false) ⊎ HasNoFlush records
  pub others : Behind (after_body c records) more

-- A page record's content is left, and then the section's rest.
pub record RestOfPage (Behind : StreamProgress → List ℕ → Type 0) (c : StreamProgress) (f : Filling) (place : Place) (bytes : List ℕ) : Type 0 where
  pub content : Option (List ℕ)
  pub tail : List ℕ
  pub has_bytes : bytes ≡ content_bytes content ++ tail
  pub has_filling : filling_of content ≡ f
  pub has_size : IfSome content (λ page. length page ≡ c.page_size)
  pub rest : RestOfBody Behind (with_record c place content) tail

-- The id of a page record's block is left, and then its content.
pub record RestOfName (Behind : StreamProgress → List ℕ → Type 0) (c : StreamProgress) (f : Filling) (page : ℕ) (bytes : List ℕ) : Type 0 where
  pub number : ℕ
  pub tail : List ℕ
  pub has_bytes : bytes ≡ counted (block c.blocks number).id ++ tail
  pub has_place : IsPlace (table_of c) (place_at number page)
  pub rest : RestOfPage Behind (record c { due = Content f (place_at number page); named = Some number }) f (place_at number page) tail

-- ---- contents

-- a zero record, in front of the section's rest
pub zero_back : (Behind : StreamProgress → List ℕ → Type 0) (c : StreamProgress) (place : Place) (item bytes : List ℕ)
    → length item ≡ 1 → first_of (faults c (Content Zero place) item) ≡ None
    → RestOfBody Behind (with_record c place None) bytes → RestOfPage Behind c Zero place (item ++ bytes)
zero_back Behind c place [] bytes len free r = absurd cc
zero_back Behind c place (x ∷ []) bytes len free r =
    let is : x ≡ 0 = eqb-true x 0 (not-false (eqb x 0) (passed (not (eqb x 0)) _ [] free).0) in
    record { content = None; tail = bytes; has_bytes = ap (λ (n : ℕ). n ∷ bytes) is; has_filling = refl; has_size = tt; rest = r }
zero_back Behind c place (x ∷ y ∷ item) bytes len free r = absurd (omega arith)

-- a page's bytes, in front of the section's rest
pub normal_back : (Behind : StreamProgress → List ℕ → Type 0) (c : StreamProgress) (place : Place) (item bytes : List ℕ) → length item ≡ c.page_size
    → RestOfBody Behind (with_record c place (Some item)) bytes → RestOfPage Behind c Normal place (item ++ bytes)
normal_back Behind c place item bytes len r = record { content = Some item; tail = bytes; has_bytes = refl; has_filling = refl; has_size = len; rest = r }

-- ---- ids

-- the id of a block, in front of a content
pub name_back : (Behind : StreamProgress → List ℕ → Type 0) (c : StreamProgress) (f : Filling) (page : ℕ) (item bytes : List ℕ)
    → length item ≡ 1 + get_or item 0 0
    → (number : ℕ) → block_of c.blocks (id_in item) ≡ Some number → ltb page (block c.blocks number).pages ≡ true
    → RestOfPage Behind (record c { due = Content f (place_at number page); named = Some number }) f (place_at number page) bytes
    → RestOfName Behind c f page (item ++ bytes)
name_back Behind c f page item bytes len number e in_range r =
    let found = named_found c.blocks (id_in item) number e in
    record {
      number = number;
      tail = bytes;
      has_bytes = ap (λ (x : List ℕ). x ++ bytes) (counted_found item len ∙ ap counted (sym found.1));
      has_place = record { has_block = found.0; has_page = ltb-true _ _ in_range };
      rest = r;
    }

-- ---- heads of page records

-- a page record, records and a footer, put together otherwise
regroup : (h n c r e m : List ℕ) → h ++ (n ++ (c ++ ((r ++ e) ++ m))) ≡ (((h ++ n ++ c) ++ r) ++ e) ++ m
regroup h n c r e m = simp append_assoc

-- the bytes of a page record that names its block, and what is left
named_bytes : (c : StreamProgress) (page : ℕ) (item bytes : List ℕ) (f : Filling) (number : ℕ) (content : Option (List ℕ))
    (tail last : List ℕ) (rs : List Record) (more : List ℕ)
    → item ≡ be64 (page * c.page_size + flags_of (Named f)) → bytes ≡ counted (block c.blocks number).id ++ tail
    → filling_of content ≡ f → tail ≡ content_bytes content ++ last
    → last ≡ body (table_of c) c.section_id rs ++ more
    → item ++ bytes ≡ body (table_of c) c.section_id (PageOf false (record { place = place_at number page; content = content }) ∷ rs) ++ more
named_bytes c page item bytes f number content tail last rs more head b fill t l =
    let h : item ≡ be64 (page * c.page_size + flags_of (page_kind false content)) =
    head ∙ ap (λ (x : Filling). be64 (page * c.page_size + flags_of (Named x))) (sym fill) in
    let one : bytes ≡ counted (block c.blocks number).id ++ (content_bytes content ++ (body (table_of c) c.section_id rs ++ more)) =
    b ∙ ap (λ (x : List ℕ). counted (block c.blocks number).id ++ x) (t ∙ ap (λ (x : List ℕ). content_bytes content ++ x) l) in
    ap (λ (x : List ℕ). x ++ bytes) h ∙ ap (λ (x : List ℕ). be64 (page * c.page_size + flags_of (page_kind false content)) ++ x) one
    ∙ regroup (be64 (page * c.page_size + flags_of (page_kind false content))) (counted (block c.blocks number).id)
    (content_bytes content) (flat_map (record_bytes (table_of c)) rs)
    (be64 (flags_of EndOfSection) ++ footer c.section_id) more

-- a page record that names its block, in front of what is left
pub named_back : (Behind : StreamProgress → List ℕ → Type 0) (c : StreamProgress) (page : ℕ) (item bytes : List ℕ) (f : Filling)
    → item ≡ be64 (page * c.page_size + flags_of (Named f))
    → RestOfName Behind (record c { due = BlockName f page }) f page bytes → RestOfBody Behind c (item ++ bytes)
named_back Behind c page item bytes f head r =
    let q = r.rest in
    let s = q.rest in
    let here : PageRecord = record { place = place_at r.number page; content = q.content } in
    record {
      records = PageOf false here ∷ s.records;
      more = s.more;
      has_bytes = named_bytes c page item bytes f r.number q.content r.tail q.tail s.records s.more head r.has_bytes q.has_filling q.has_bytes s.has_bytes;
      follow = (record { has_place = r.has_place; has_size = q.has_size; is_carried = λ e. absurd cc }, s.follow);
      flushes = s.flushes;
      others = s.others;
    }

-- a block with a page is there
pub known_block : (blocks : List Block) (b n : ℕ) → n < (block blocks b).pages → b < length blocks
known_block blocks b n lt =
    elim (cases_lt b (length blocks)) [
      | inl h ↦ h
      | inr h ↦ let none : (block blocks b).pages ≡ 0 =
          ap (λ (x : Block). x.pages) (get_or_past blocks b (record { id = []; pages = 0 }) h) in absurd (omega arith)
    ]

-- a page record of the block that was named last, in front of what is left
pub continued_back : (Behind : StreamProgress → List ℕ → Type 0) (c : StreamProgress) (number page : ℕ) (item bytes : List ℕ) (f : Filling)
    → item ≡ be64 (page * c.page_size + flags_of (Continued f)) → page < (block c.blocks number).pages
    → RestOfPage Behind (record c { due = Content f (place_at number page); named = Some number }) f (place_at number page) bytes
    → RestOfBody Behind (record c { due = RecordHead; named = Some number }) (item ++ bytes)
continued_back Behind c number page item bytes f head lt q =
    let s = q.rest in
    let here : PageRecord = record { place = place_at number page; content = q.content } in
    let flags = flags_of (page_kind true q.content) in
    let h : item ≡ be64 (page * c.page_size + flags) = head ∙ ap (λ (x : Filling). be64 (page * c.page_size + flags_of (Continued x))) (sym q.has_filling) in
    let one : bytes ≡ content_bytes q.content ++ (body (table_of c) c.section_id s.records ++ s.more) = q.has_bytes
    ∙ ap (λ (x : List ℕ). content_bytes q.content ++ x) s.has_bytes in
    record {
      records = PageOf true here ∷ s.records;
      more = s.more;
      has_bytes = ap (λ (x : List ℕ). x ++ bytes) h ∙ ap (λ (x : List ℕ). be64 (page * c.page_size + flags) ++ x) one
          ∙ regroup (be64 (page * c.page_size + flags)) [] (content_bytes q.content)
          (flat_map (record_bytes (table_of c)) s.records) (be64 (flags_of EndOfSection) ++ footer c.section_id) s.more;
      follow = (
        record {
          has_place = record { has_block = known_block c.blocks number page lt; has_page = lt };
          has_size = q.has_size;
          is_carried = λ _. refl;
        },
        s.follow,
      );
      flushes = s.flushes;
      others = s.others;
    }
