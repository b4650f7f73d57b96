-- A page that was read into its block is taken as the next bytes of the stream.
use Rattle.std.proofs.Common.{ℕ, ◌≡◌, ◌∙◌, List, ◌++◌, length, Option, Some, false, sym, ap, subst}
use Rattle.std.specs.Prelude.{IfSome}
use Rattle.mig_mem.specs.RamTable.{RamTable}
use Rattle.mig_mem.specs.declared.place.Place.{Place}
use Rattle.mig_mem.specs.Place.{IsPlace}
use Rattle.mig_mem.specs.Image.{Image, content_at, with_page}
use Rattle.mig_mem.specs.Lent.{FitTable, lent_image}
use Rattle.mig_mem.proofs.Images.{content_size}
use Rattle.mig_mem.proofs.Lents.{lent_is_image}
use Rattle.mig_load_types.specs.declared.settings.LoadSettings.{LoadSettings}
use Rattle.mig_single_load.specs.LoadInPlace.{LoadInPlace, LoadsInPlace}
use Rattle.mig_single_load.specs.ComesNext.{page_wanted}
use Rattle.mig_c_loads.specs.NextBytes.{IsReadInto}

-- the content of a page has the page size
pub page_len : (table : RamTable) (blocks : List (List ℕ)) (place : Place) (content : List ℕ) → FitTable table blocks → IsPlace table place
    → content ≡ content_at (lent_image table blocks) place → length content ≡ table.page_size
page_len table blocks place content fit is here =
    ap (λ (l : List ℕ). length l) here ∙ content_size (lent_image table blocks) place (lent_is_image table blocks fit) is

-- a memory that was read into at the page that comes next
pub takes_page : (old new : LoadInPlace) (place : Place) (now : Image) (content : List ℕ) → page_wanted old ≡ Some place → content ≡ content_at now place
    → IfSome (page_wanted old) (λ p. (memory : Image) (given : LoadSettings) (first : Image) (text : List ℕ) → LoadsInPlace memory given first old text false
    → LoadsInPlace (with_page memory p content) given first new (text ++ content) false)
    → IfSome (page_wanted old) (λ p. (memory : Image) (given : LoadSettings) (first : Image) (text : List ℕ) → IsReadInto p memory now
    → LoadsInPlace memory given first old text false → LoadsInPlace now given first new (text ++ content_at now p) false)
takes_page old new place now content next here takes =
    subst (λ (o : Option Place). IfSome o (λ p. (memory : Image) (given : LoadSettings) (first : Image) (text : List ℕ) → IsReadInto p memory now
    → LoadsInPlace memory given first old text false → LoadsInPlace now given first new (text ++ content_at now p) false)) (sym next)
    (λ memory given first text into stands.
    let taken : LoadsInPlace (with_page memory place content) given first new (text ++ content) false =
    subst (λ (o : Option Place). IfSome o (λ p. (m : Image) (g : LoadSettings) (f : Image) (t : List ℕ) → LoadsInPlace m g f old t false
    → LoadsInPlace (with_page m p content) g f new (t ++ content) false)) next takes memory given first text stands in
    subst (λ (m : Image). LoadsInPlace m given first new (text ++ content_at now place) false) (sym into)
    (subst (λ (l : List ℕ). LoadsInPlace (with_page memory place l) given first new (text ++ l) false) here taken))
