-- A round as a reader gives it.
use Rattle.std.specs.Prelude.{ℕ, ◌≡◌, List, length, slice_index_or, None, All, IfSome}
use Rattle.mig_mem.specs.Place.{place_at}
use Rattle.mig_stream.specs.PageRecord.{PageRecord}

-- the size of a page, and the page records in the order of the stream
pub record RoundOfRecords : Type 0 where
  pub page_size : ℕ
  pub records : List PageRecord

-- the record with a number
abbrev pub record_at : List PageRecord → ℕ → PageRecord
record_at records i = slice_index_or records i (record { place = place_at 0 0; content = None })

-- each record that has bytes has a page of them
abbrev pub AreWhole : ℕ → List PageRecord → Type 0
AreWhole page_size records = All (λ r. IfSome r.content (λ bytes. length bytes ≡ page_size)) records
