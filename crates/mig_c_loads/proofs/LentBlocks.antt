-- A page is written into one of the slices that C lends.
use Rattle.std.proofs.Common.{ℕ, ◌≡◌, ◌+◌, ◌*◌, ◌≤◌, ◌∙◌, List, length, set, get_or, sym, ap, subst}
use Rattle.std.specs.Borrow.{MutBor}
use Rattle.mig_mem.specs.RamTable.{RamTable}
use Rattle.mig_mem.specs.declared.place.Place.{Place}
use Rattle.mig_mem.specs.Place.{IsPlace}
use Rattle.mig_mem.specs.Image.{with_page}
use Rattle.mig_mem.specs.Parts.{ChangesPart}
use Rattle.mig_mem.specs.Lent.{FitTable, lent_image, mut_lent_bytes}
use Rattle.mig_mem.proofs.Lents.{loan_written, room_in_loan}
use Rattle.mig_c_loads.specs.InPlace.{with_content}
use Rattle.mig_c_loads.proofs.HeldBlocks.{content_changes}

-- The memory of the slices has the page, and its slices still fit.
pub block_written : (table : RamTable) (loans : List (MutBor (List ℕ))) (p : Place) (old new : MutBor (List ℕ)) (size : ℕ) (content : List ℕ)
    → FitTable table (mut_lent_bytes loans) → IsPlace table p → size ≡ table.page_size → old ≡ get_or loans p.block old → length content ≡ table.page_size
    → new.now ≡ with_content size old.now p.page content
    → FitTable table (mut_lent_bytes (set loans p.block new))
    × (with_page (lent_image table (mut_lent_bytes loans)) p content ≡ lent_image table (mut_lent_bytes (set loans p.block new)))
block_written table loans p old new size content fit is same there len written =
    let bytes : MutBor (List ℕ) → List ℕ = λ b. b.now in
    let here : (get_or loans p.block old).now ≡ old.now = ap bytes (sym there) in
    let room : p.page * table.page_size + table.page_size ≤ length old.now =
    subst (λ (l : List ℕ). p.page * table.page_size + table.page_size ≤ length l) here (room_in_loan bytes table loans p old fit is) in
    let becomes : new.now ≡ with_content table.page_size old.now p.page content = written ∙ ap (λ (n : ℕ). with_content n old.now p.page content) same in
    let changes : ChangesPart table.page_size (get_or loans p.block old).now new.now p.page content =
    subst (λ (l : List ℕ). ChangesPart table.page_size l new.now p.page content) (sym here)
    (subst (λ (l : List ℕ). ChangesPart table.page_size old.now l p.page content) (sym becomes)
    (content_changes table.page_size p.page old.now content room len)) in
    loan_written bytes table loans p old new content fit is changes
