-- The page records of a stream.
use Rattle.std.specs.Prelude.{ℕ, Bool, true, false, List, Option, Some, None}
use Rattle.std.specs.Option.{unwrap_or}
use Rattle.mig_mem.specs.Image.{Page, zero_page}
use Rattle.mig_mem.specs.declared.place.Place.{Place}
use Rattle.mig_stream.specs.declared.item.Filling.{Filling}
use Rattle.mig_stream.specs.declared.item.Filling.TheVariants.{Zero, Normal}
use Rattle.mig_stream.specs.declared.item.RecordKind.{RecordKind}
use Rattle.mig_stream.specs.declared.item.RecordKind.TheVariants.{Named, Continued}

-- a page record: where its page is, and the page's bytes, or None for a page of zeros
pub record PageRecord : Type 0 where
  pub place : Place
  pub content : Option (List ℕ)

-- the record of a page with these bytes
abbrev pub page_record : Place → List ℕ → PageRecord
page_record place content = record { place = place; content = Some content }

-- the page of a record, with this page size
abbrev pub page_of : ℕ → PageRecord → Page
page_of size r = record { place = r.place; content = unwrap_or r.content (zero_page size) }

abbrev pub filling_of : Option (List ℕ) → Filling
filling_of None = Zero
filling_of (Some bytes) = Normal

-- the kind of a page record without its block's id, or with it
abbrev pub page_kind : Bool → Option (List ℕ) → RecordKind
page_kind true content = Continued (filling_of content)
page_kind false content = Named (filling_of content)
