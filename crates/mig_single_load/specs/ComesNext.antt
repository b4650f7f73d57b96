-- What comes next in a stream that is loaded in place, so that its caller reads a page straight to
-- where it belongs.
use Rattle.std.specs.Prelude.{◌≡◌, ◌<◌, ◌++◌, ℕ, List, length, Option, Some, None}
use Rattle.std.specs.Option.{option_and_then}
use Rattle.mig_mem.specs.declared.place.Place.{Place}
use Rattle.mig_mem.specs.Place.{IsPlace}
use Rattle.mig_mem.specs.Image.{Image, with_page}
use Rattle.mig_stream.specs.declared.item.StreamState.TheVariants.{Reading}
use Rattle.mig_stream.specs.declared.wanted.Wanted.{Wanted}
use Rattle.mig_stream.specs.declared.wanted.Wanted.TheVariants as wanted
use Rattle.mig_stream.specs.Reading.{StreamReading, IsReading}
use Rattle.mig_stream.specs.Reader.{IsValidUpTo}
use Rattle.mig_stream.specs.Wanted.{page_due}
use Rattle.mig_load_types.specs.declared.settings.LoadSettings.{LoadSettings}
use Rattle.mig_single_load.specs.InPlace.{settings_of, IsOfOwnTable, HasRecordsOnto}
use Rattle.mig_single_load.specs.LoadInPlace.{LoadInPlace}

-- the page whose content comes next, from its first byte on
abbrev pub page_wanted : LoadInPlace → Option Place
page_wanted s = option_and_then page_due s.pause

-- the page that an answer asks for
abbrev pub page_asked : Option Wanted → Option Place
page_asked (Some (wanted.Page place)) = Some place
page_asked other = None

-- The load reads on: the stream has no end and no fault so far, and no other table than the
-- memory's.
pub record IsReadOn (given : LoadSettings) (first : Image) (text : List ℕ) : Type 0 where
  pub reading : StreamReading
  pub is_reading : IsReading (settings_of first given) text reading
  pub is_own : IsOfOwnTable first reading
  pub is_open : reading.state ≡ Reading

-- The next bytes are the content of this page, whatever they are. With them the stream is read on,
-- and a memory that has all its records so far has all of them once the page holds these bytes.
pub record BringsPage (given : LoadSettings) (first : Image) (text : List ℕ) (place : Place) : Type 0 where
  pub is_place : IsPlace first.table place
  pub reads_on : (content : List ℕ) → length content ≡ first.table.page_size → IsReadOn given first (text ++ content)
  pub takes : (memory : Image) (sections : ℕ) (content : List ℕ) → length content ≡ first.table.page_size → HasRecordsOnto given first text memory sections
      → HasRecordsOnto given first (text ++ content) (with_page memory place content) sections

-- So many bytes more, one at least, belong to an item that isn't complete: with fewer the stream is
-- read on, and valid up to the same place.
pub record NeedsBytes (given : LoadSettings) (first : Image) (text : List ℕ) (n : ℕ) : Type 0 where
  pub is_some : 0 < n
  pub reads_on : (more : List ℕ) → length more < n → IsReadOn given first (text ++ more)
  pub same_place : (more : List ℕ) (at : ℕ) → length more < n → IsValidUpTo (settings_of first given) text at → IsValidUpTo (settings_of first given) (text ++ more) at

-- What comes next in the stream. None where no more of it is read.
abbrev pub ComesNext : LoadSettings → Image → List ℕ → Option Wanted → Type 0
ComesNext given first text None = IsReadOn given first text → ⊥
ComesNext given first text (Some (wanted.Page place)) = BringsPage given first text place
ComesNext given first text (Some (wanted.Bytes n)) = NeedsBytes given first text n
