-- The memory that the pages make which were passed to a sink.
use Rattle.std.proofs.Common.{◌≡◌, List, [], ◌∷◌, ◌++◌, length, map, ap, sym, ◌∙◌}
use Rattle.std.specs.Prelude.{IfSome}
use Rattle.std.specs.Option.{unwrap_or}
use Rattle.std.proofs.lemmas.List.{map-append}
use Rattle.mig_mem.specs.RamTable.{RamTable}
use Rattle.mig_mem.specs.Place.{IsPlace}
use Rattle.mig_mem.specs.Image.{Page, Image, content_at, zero_image, zero_page, with_page}
use Rattle.mig_mem.specs.Round.{with_round}
use Rattle.mig_mem.proofs.Rounds.{onto-nil, with_page-more}
use Rattle.mig_stream.specs.PageRecord.{PageRecord, page_of}
use Rattle.zimgasol_reading.specs.Recorded.{with_records}
use Rattle.zimgasol_reading.specs.Passed.{HasPassed}
use Rattle.zimgasol_reading.proofs.Images.{zeros_image}

-- one record more writes its page
record_more : (table : RamTable) (records : List PageRecord) (r : PageRecord) → with_records (zero_image table) (records ++ r ∷ [])
    ≡ with_page (with_records (zero_image table) records) r.place (unwrap_or r.content (zero_page table.page_size))
record_more table records r =
    ap (λ (l : List Page). with_round (zero_image table) l) (map-append (page_of table.page_size) records (r ∷ []))
    ∙ sym (with_page-more table (content_at (zero_image table)) (map (page_of table.page_size) records) (page_of table.page_size r))

-- before the first page
pub passed_none : (holds : RamTable → List PageRecord → Type 0) (table : RamTable) → holds table [] → HasPassed holds (zero_image table)
passed_none holds table begun = record { records = []; has_records = begun; make_memory = onto-nil (zero_image table) (zeros_image table) }

-- one page more
pub passed_more : (old new : RamTable → List PageRecord → Type 0) (memory : Image) (r : PageRecord)
    → ((table : RamTable) (records : List PageRecord) → IsPlace table r.place → IfSome r.content (λ bytes. length bytes ≡ table.page_size)
    → old table records → new table (records ++ r ∷ []))
    → IsPlace memory.table r.place → IfSome r.content (λ bytes. length bytes ≡ memory.table.page_size) → HasPassed old memory
    → HasPassed new (with_page memory r.place (unwrap_or r.content (zero_page memory.table.page_size)))
passed_more old new memory r takes here size had = record {
  records = had.records ++ r ∷ [];
  has_records = takes memory.table had.records here size had.has_records;
  make_memory = record_more memory.table had.records r
      ∙ ap (λ (m : Image). with_page m r.place (unwrap_or r.content (zero_page memory.table.page_size))) had.make_memory;
}
