use Rattle.std.proofs.Common.{◌<◌, ◌∙◌, ℕ, List, [], length, Bor, sym, ap, arith}
use Rattle.std.proofs.lemmas.List.{length-map}
use Rattle.mig_mem.specs.Place.{IsPlace}
use Rattle.mig_mem.specs.Image.{Image, content_at}
use Rattle.mig_mem.specs.Lent.{lent_bytes}
use Rattle.mig_c_calls.specs.Copied.{content_of}
use Rattle.mig_c_calls.proofs.Copies.{lent_content, index_within, copied_content}
use Rattle.mig_c_calls.proofs.copied.CopiedPages.page_in.Goals as goal

pub returns : goal.returns
returns c =
    let table = c.self.inside.table.now in
    let pages : List ℕ = c.self.inside.pages.now in
    let contents : List (Bor (List ℕ)) = c.self.inside.contents.now in
    let has = c.self.invariant in
    let within : c.index_of.result < length contents =
    omega (
      arith,
      c.index_of.ensures,
      index_within pages c.args.place.page has.has_some,
      has.fits.as_many,
      length-map contents (λ (b : Bor (List ℕ)). b.now),
    ) in
    let is : IsPlace table c.args.place = rw (sym (ap (λ (m : Image). m.table) c.self.view_is)) at c.requires in
    sym (lent_content contents c.index_of.result (record { ref_ptr = (0, 0); now = [] }) within)
    ∙ ap (λ (i : ℕ). content_of (lent_bytes contents) i) c.index_of.ensures
    ∙ sym (copied_content table pages (lent_bytes contents) c.args.place is)
    ∙ ap (λ (m : Image). content_at m c.args.place) c.self.view_is
