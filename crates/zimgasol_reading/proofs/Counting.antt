-- The pages that the records of a stream name, as its survey counts them.
use Rattle.std.proofs.Common.{◌≡◌, List, [], ◌∷◌, ◌++◌, Option, Some, None, refl, sym, ap, ◌∙◌, subst, false}
use Rattle.std.specs.Prelude.{is_some}
use Rattle.std.proofs.lemmas.List.{map-append}
use Rattle.mig_mem.specs.declared.place.Place.{Place}
use Rattle.mig_mem.specs.RamTable.{RamTable}
use Rattle.mig_mem.specs.Place.{IsPlace, has_place}
use Rattle.mig_mem.specs.PlaceSet.{PlaceSet, with_place}
use Rattle.mig_mem.proofs.Sets.{where_none}
use Rattle.mig_stream.specs.PageRecord.{PageRecord}
use Rattle.mig_assemble.specs.NamedPlaces.{HasPlaces}
use Rattle.mig_assemble.proofs.Marked.{place_added}
use Rattle.zimgasol_course.specs.Course.{Keeps}
use Rattle.zimgasol_reading.specs.declared.blocks.Blocks.{Blocks}
use Rattle.zimgasol_reading.specs.Recorded.{pages_named, AreNamed, AreCounted}

-- before the first record
pub named_none : (table : RamTable) (blocks : Blocks) → blocks.recorded ≡ record { table = table; marked = [] } → AreNamed table [] blocks
named_none table blocks is = is ∙ ap (λ (ps : List Place). record { table = table; marked = ps }) (sym (where_none table (has_place []) (λ p here. refl)))

-- one record more
pub named_more : (table : RamTable) (records : List PageRecord) (r : PageRecord) (old new : Blocks) → IsPlace table r.place
    → (IsPlace old.recorded.table r.place → new.recorded ≡ with_place old.recorded r.place)
    → AreNamed table records old → AreNamed table (records ++ r ∷ []) new
named_more table records r old new here count has =
    let same : table ≡ old.recorded.table = sym (ap (λ (s : PlaceSet). s.table) has) in
    let all : HasPlaces table (pages_named records ++ r.place ∷ []) new.recorded =
    place_added table (pages_named records) old.recorded new.recorded r.place has (count (subst (λ (t : RamTable). IsPlace t r.place) same here)) in
    subst (λ (ps : List Place). HasPlaces table ps new.recorded) (sym (map-append (λ (x : PageRecord). x.place) records (r ∷ []))) all

-- once the table was taken there are blocks
pub no_blocks : (blocks : Option Blocks) (table : RamTable) (records : List PageRecord) → blocks ≡ None → AreCounted blocks (Some table) records → ⊥
no_blocks blocks table records none had = subst (λ (o : Option Blocks). AreCounted o (Some table) records) none had

-- ---- blocks that are listed before the table was taken

listed_at : (o : Option RamTable) (records : List PageRecord) (blocks : Blocks) (table : RamTable) → blocks.recorded ≡ record { table = table; marked = [] }
    → AreCounted None o records → AreCounted (Some blocks) o records
listed_at None records blocks table is had = (had, ap (λ (s : PlaceSet). s.marked) is)
listed_at (Some other) records blocks table is had = absurd had

pub listed : (old : Option Blocks) (blocks : Blocks) (table : RamTable) → is_some old ≡ false → blocks.recorded ≡ record { table = table; marked = [] }
    → Keeps (AreCounted old) (AreCounted (Some blocks))
listed None blocks table none is = λ o records had. listed_at o records blocks table is had
listed (Some other) blocks table none is = absurd cc
