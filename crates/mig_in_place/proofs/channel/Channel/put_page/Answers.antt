use Rattle.std.proofs.Common.{ℕ, ◌≡◌, ◌/◌, ◌∙◌, List, refl, sym, ap, Some, None}
use Rattle.std.specs.Prelude.{IsFalse}
use Rattle.mig_mem.specs.RamTable.{RamTable}
use Rattle.mig_mem.specs.Place.{place_at}
use Rattle.mig_mem.specs.Image.{Image, with_page}
use Rattle.mig_mem.proofs.PageSizes.{page_size_some}
use Rattle.mig_packet.specs.Paging.{content_of}
use Rattle.mig_in_place.specs.Sources.{KeptChannel}
use Rattle.mig_in_place.proofs.Lying.{adds_page}
use Rattle.mig_in_place.proofs.channel.Channel.put_page.Goals as goal

pub nonzero_div-page : goal.nonzero_div-page
nonzero_div-page g c = rw c.page_size.ensures (page_size_some c.table-table.result.now.page_size c.keeps_limits.ensures.has_page_size)

pub returns-in-Some-clause-adds : goal.returns-in-Some-clause-adds
returns-in-Some-clause-adds g c =
    let m : Image = g.M.GuestTarget.image c.args.memory.now in
    let content : List ℕ = content_of c.args.content c.args.self.now.reader in
    let size : c.page_size.result ≡ m.table.page_size = c.page_size.ensures ∙ ap (λ (t : RamTable). t.page_size) c.table-table.ensures.value in
    let is_content : c.content.result.now ≡ content = c.content.ensures ∙ ap (λ (k : KeptChannel). content_of c.args.content k.reader) c.self.view_is in
    let block : c.args.self.now.block ≡ Some c.in-Some.block = sym (ap (λ (k : KeptChannel). k.block) c.self.view_is) ∙ c.in-Some.is in
    adds_page c.args.offset content c.args.self.now.block c.args.round.now m (g.M.GuestTarget.image c.put_page.new.self)
    (λ b e right.
    let both : Some c.in-Some.block ≡ Some b = sym block ∙ e in
    let same : c.in-Some.block ≡ b = cc in
    c.put_page.ensures.image
    ∙ ap (λ (l : List ℕ). with_page m (place_at c.in-Some.block (c.args.offset / c.page_size.result)) l) is_content
    ∙ ap (λ (n : ℕ). with_page m (place_at c.in-Some.block (c.args.offset / n)) content) size
    ∙ ap (λ (k : ℕ). with_page m (place_at k (c.args.offset / m.table.page_size)) content) same)
    (λ wrong. absurd (let right : IsFalse c.args.round.now.has_misplaced = sym c.has_misplaced.ensures ∙ c.if-has_misplaced.false in cc))

pub returns-in_default-clause-adds : goal.returns-in_default-clause-adds
returns-in_default-clause-adds g c =
    let m : Image = g.M.GuestTarget.image c.args.memory.now in
    let content : List ℕ = content_of c.args.content c.args.self.now.reader in
    let none : c.args.self.now.block ≡ None = sym (ap (λ (k : KeptChannel). k.block) c.self.view_is) ∙ c.in_default.is in
    adds_page c.args.offset content c.args.self.now.block c.args.round.now m m (λ b e right. absurd (let both : None ≡ Some b = sym none ∙ e in cc)) (λ _. refl)
