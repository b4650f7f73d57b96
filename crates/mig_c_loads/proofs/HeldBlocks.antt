-- A page is written into the bytes of its block.
use Rattle.std.proofs.Common.{ℕ, ◌≡◌, ◌+◌, ◌*◌, ◌≤◌, List, ◌++◌, length, take, drop, refl, sym, ap, ◌∙◌, subst}
use Rattle.std.proofs.Math.Seq.{take-length}
use Rattle.std.proofs.lemmas.List.{take-append-drop, append_assoc, drop-drop}
use Rattle.std.proofs.lemmas.Slice.{put_mid-paste}
use borrow.Rule.Slice.PartMut.{put_mid}
use Rattle.mig_mem.specs.Parts.{part_at, ChangesPart}
use Rattle.mig_mem.proofs.PartWrites.{changes_part}
use Rattle.mig_c_loads.specs.InPlace.{with_content}

-- writing a page's content at its offset in a block's bytes puts it in place of the page's bytes
pub content_written : (size page k : ℕ) (old ys content : List ℕ) → length content ≡ size → ys ≡ content → k ≡ size
    → put_mid (page * size) k old ys ≡ with_content size old page content
content_written size page k old ys content len same ek =
    let whole : take size content ≡ content = ap (λ (n : ℕ). take n content) (sym len) ∙ take-length content in
    put_mid-paste (page * size) k old ys content size same (sym ek) (sym len)
    ∙ ap (λ (l : List ℕ). take (page * size) old ++ l ++ drop (page * size + size) old) whole

-- a block with other content at one of its pages differs from what it was at this page alone
pub content_changes : (size page : ℕ) (old content : List ℕ) → page * size + size ≤ length old → length content ≡ size
    → ChangesPart size old (with_content size old page content) page content
content_changes size page old content room len =
    subst (λ (l : List ℕ). ChangesPart size old l page content) (content_written size page size old content content len refl refl)
    (changes_part size old content content page size room len refl refl)

-- a page that has the content already
pub content_there : (size page : ℕ) (old content : List ℕ) → part_at size old page ≡ content → old ≡ with_content size old page content
content_there size page old content here =
    let a : ℕ = page * size in
    let rest : List ℕ = drop (a + size) old in
    let parts : drop a old ≡ part_at size old page ++ rest =
    sym (take-append-drop size (drop a old)) ∙ ap (λ (l : List ℕ). part_at size old page ++ l) (drop-drop size a old) in
    let whole : drop a old ≡ content ++ rest = parts ∙ ap (λ (l : List ℕ). l ++ rest) here in
    sym (take-append-drop a old) ∙ ap (λ (l : List ℕ). take a old ++ l) whole ∙ sym (append_assoc (take a old) content rest)
