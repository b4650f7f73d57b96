use Rattle.std.proofs.Common.{rules, ◌≡◌, ◌*◌, ℕ, refl, ap, sym, ◌∙◌}
use Rattle.mig_mem.specs.Image.{Page}
use Rattle.mig_mem.specs.RamTable.{RamTable}
use Rattle.zimgasol_packing.proofs.Steps.{page_added}
use Rattle.zimgasol_packing.proofs.packing.Packing.add.Goals as goal

pub returns-clause-sent : goal.returns-clause-sent
returns-clause-sent g c = λ _ begun pages is.
    let place = c.args.place in
    let page : Page = record { place = place; content = c.args.content.now } in
    let same : c.args.self.now.main.table ≡ begun.table = is.has_packed.has_sent.has_table in
    let own : c.page_size-page_size.result ≡ c.args.self.now.main.table.page_size = search rules in
    let size : c.page_size-page_size.result ≡ begun.table.page_size = own ∙ ap (λ (t : RamTable). t.page_size) same in
    let offset : place.page * begun.table.page_size ≡ c.in-Some.offset =
    ap (λ (n : ℕ). place.page * n) (sym size) ∙ (search rules) in
    page_added g.F.Write.contents begun c.make_room.new.self _ pages page refl refl refl refl c.in_ok-add.ensures.block
    (λ n waiting x at content has. c.in_ok-add.ensures.pages n waiting x (at ∙ offset) content has)
    (c.in_ok-make_room.ensures.room begun pages is)
