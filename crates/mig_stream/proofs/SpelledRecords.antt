-- What is spelled is read as page records, and as a section's records up to its footer.
use Rattle.std.proofs.Common.{◌≡◌, ◌⊎◌, ℕ, ◌+◌, ◌*◌, ◌^◌, ◌<◌, Bool, true, false, ltb, List, [], ◌∷◌, length, Option, Some, None, refl, sym, ap, subst, ◌∙◌}
use Rattle.std.proofs.Common.{inl, inr, arith}
use Rattle.std.specs.Prelude.{is_none, IfSome}
use Rattle.std.specs.List.{flat_map}
use Rattle.std.proofs.lemmas.List.{take_all}
use Rattle.std.proofs.Math.Nat.{add-sub_cancel_left}
use Rattle.std.proofs.lemmas.Bool.{lt-ltb}
use Rattle.mig_mem.specs.declared.place.Place.{Place}
use Rattle.mig_mem.specs.Place.{place_at}
use Rattle.mig_mem.specs.RamTable.{RamTable, block, block_of, IsTable}
use Rattle.mig_mem.proofs.PageSizes.{page_before}
use Rattle.mig_mem.proofs.Blocks.{block_room}
use Rattle.mig_stream.specs.declared.item.Filling.{Filling}
use Rattle.mig_stream.specs.declared.item.Filling.TheVariants.{Zero, Normal}
use Rattle.mig_stream.specs.declared.item.RecordKind.{RecordKind}
use Rattle.mig_stream.specs.declared.item.RecordKind.TheVariants.{Named, Continued, EndOfSection, Flush}
use Rattle.mig_stream.specs.declared.item.Due.TheVariants.{RecordHead, BlockName, Content}
use Rattle.mig_stream.specs.Fields.{counted}
use Rattle.mig_stream.specs.Format.{flags_of}
use Rattle.mig_stream.specs.PageRecord.{PageRecord, filling_of}
use Rattle.mig_stream.specs.Progress.{StreamProgress, table_of}
use Rattle.mig_stream.specs.Items.{closes, has_tail, is_single, id_in, first_fault, is_start, has_none, flush_records, with_record, after, end_records}
use Rattle.mig_stream.specs.Reading.{Front}
use Rattle.mig_stream.specs.Text.{content_bytes, page_record, Fits, Record, PageOf, FlushMark, record_bytes, Follow, HasNoFlush, body}
use Rattle.mig_stream.proofs.Fronts.{Front-none, Front-append}
use Rattle.mig_stream.proofs.After.{unlimited, after_page, after_records, after_body}
use Rattle.mig_stream.proofs.SpelledItems.{item_front, page_size_large, flags_small, head_front, bare_front, footer_front}
use Rattle.mig_stream.proofs.Tables.{finds_each}
use Rattle.mig_stream.proofs.Steps.{flush_keeps}

-- ---- a page record

-- the head of a page of the table fits 64 bits
page_fits : (table : RamTable) (b page : ℕ) (kind : RecordKind) → IsTable table → b < length table.blocks → page < (block table.blocks b).pages
    → page * table.page_size + flags_of kind < 2 ^ 64
page_fits table b page kind is known in_range =
    omega (
      arith,
      flags_small kind,
      page_size_large table.page_size is.has_page_size,
      page_before table.page_size (block table.blocks b).pages page in_range,
      block_room table b is known,
    )

-- a page's content, as a mark or whole
pub content_front : (c : StreamProgress) (at : Place) (content : Option (List ℕ)) → IfSome content (λ bytes. length bytes ≡ c.page_size)
    → Front (record c { due = Content (filling_of content) at }) (content_bytes content) (with_record c at content)
content_front c at None len = item_front (record c { due = Content Zero at }) (0 ∷ []) (λ e. absurd cc) refl refl
content_front c at (Some bytes) len = item_front (record c { due = Content Normal at }) bytes (λ e. absurd cc) len refl

-- a counted id holds the id
counted_id : (id : List ℕ) → id_in (counted id) ≡ id
counted_id id = rw add-sub_cancel_left (take_all (length id) id (omega arith))

-- a block's id in a page record, of a page that the block has
name_front : (c : StreamProgress) (filling : Filling) (b page : ℕ) → block_of c.blocks (block c.blocks b).id ≡ Some b → page < (block c.blocks b).pages
    → Front (record c { due = BlockName filling page }) (counted (block c.blocks b).id) (record c { due = Content filling (place_at b page); named = Some b })
name_front c filling b page found in_range =
    let item : List ℕ = counted (block c.blocks b).id in
    let d : StreamProgress = record c { due = BlockName filling page } in
    let named : block_of c.blocks (id_in item) ≡ Some b = ap (block_of c.blocks) (counted_id (block c.blocks b).id) ∙ found in
    let inside : ltb page (block c.blocks b).pages ≡ true = lt-ltb page (block c.blocks b).pages in_range in
    let free : first_fault d item ≡ None = rw (named, inside) refl in
    let new : after d item ≡ record c { due = Content filling (place_at b page); named = Some b } = rw named refl in
    subst (λ (x : StreamProgress). Front d item x) new (item_front d item (λ e. absurd cc) (omega arith) free)

-- a whole page record, with CONTINUE or without
page_front : (c : StreamProgress) (continued : Bool) (r : PageRecord) → IsTable (table_of c) → is_none c.left ≡ false → Fits (table_of c) c.named continued r
    → Front (record (unlimited c) { due = RecordHead }) (page_record (table_of c) continued r) (after_page (unlimited c) r)
page_front c false r is begun fits =
    let u : StreamProgress = unlimited c in
    let b : ℕ = r.place.block in
    let page : ℕ = r.place.page in
    let filling : Filling = filling_of r.content in
    let small = page_fits (table_of u) b page (Named filling) is fits.has_place.has_block fits.has_place.has_page in
    let head = head_front u (Named filling) page is.has_page_size small (rw begun refl) in
    let name = name_front u filling b page (finds_each (table_of u) is b fits.has_place.has_block) fits.has_place.has_page in
    let content = content_front (record u { named = Some b }) r.place r.content fits.has_size in
    Front-append _ _ _ _ _ (Front-append _ _ _ _ _ head name) content
page_front c true r is begun fits =
    let u : StreamProgress = unlimited c in
    let b : ℕ = r.place.block in
    let page : ℕ = r.place.page in
    let filling : Filling = filling_of r.content in
    let d : StreamProgress = record u { named = Some b } in
    let small = page_fits (table_of u) b page (Continued filling) is fits.has_place.has_block fits.has_place.has_page in
    let inside : ltb page (block u.blocks b).pages ≡ true = lt-ltb page (block u.blocks b).pages fits.has_place.has_page in
    let head = head_front d (Continued filling) page is.has_page_size small (rw (begun, inside) refl) in
    let content = content_front d r.place r.content fits.has_size in
    subst (λ (n : Option ℕ). Front (record u { due = RecordHead; named = n }) (page_record (table_of u) true r) (after_page u r))
    (sym (fits.is_carried refl)) (Front-append _ _ _ _ _ head content)

-- ---- records one after another

-- page records and FLUSHes, as far as the mode has them
records_front : (c : StreamProgress) (records : List Record) → IsTable (table_of c) → is_none c.left ≡ false
    → is_single c.mode ≡ false ⊎ HasNoFlush records → Follow (table_of c) c.named records
    → Front (record (unlimited c) { due = RecordHead }) (flat_map (record_bytes (table_of c)) records)
    (record (after_records (unlimited c) records) { due = RecordHead })
records_front c [] is begun flushes follow =
    let u : StreamProgress = unlimited c in
    Front-none (record u { due = RecordHead })
records_front c (PageOf continued r ∷ records) is begun flushes follow =
    let u : StreamProgress = unlimited c in
    let first = page_front u continued r is begun follow.0 in
    let others = records_front (after_page u r) records is begun flushes follow.1 in
    Front-append _ _ _ _ _ first others
records_front c (FlushMark ∷ records) is begun (inl main) follow =
    let u : StreamProgress = unlimited c in
    let first = bare_front u Flush is.has_page_size (rw (begun, main) refl) in
    let still : is_single (flush_records u).mode ≡ false = (flush_keeps u.mode (is_start u.section) (has_none u.records)).single ∙ main in
    let others = records_front (flush_records u) records is begun (inl still) follow in
    Front-append _ _ _ _ _ first others
records_front c (FlushMark ∷ records) is begun (inr none) follow =
    let u : StreamProgress = unlimited c in
    absurd none

-- a section's records, EOS and footer
pub body_front : (c : StreamProgress) (records : List Record) → IsTable (table_of c) → c.section_id < 2 ^ 32
    → is_none c.left ≡ false → is_single c.mode ≡ false ⊎ HasNoFlush records
    → Follow (table_of c) c.named records → has_tail (closes c.frame c.section) (end_records (after_records (unlimited c) records)) ≡ false
    → Front (record (unlimited c) { due = RecordHead }) (body (table_of c) c.section_id records) (after_body (unlimited c) records)
body_front c records is small begun flushes follow whole =
    let u : StreamProgress = unlimited c in
    let d : StreamProgress = after_records u records in
    let end = Front-append _ _ _ _ _ (bare_front d EndOfSection is.has_page_size (rw begun refl)) (footer_front (end_records d) small whole) in
    Front-append _ _ _ _ _ (records_front u records is begun flushes follow) end
