use Rattle.std.proofs.Common.{ℕ, ◌≡◌, ◌+◌, ◌∙◌, List, refl, ap, get_or}
use Rattle.std.specs.Borrow.{MutBor}
use Rattle.mig_mem.specs.RamTable.{RamTable}
use Rattle.mig_mem.specs.Image.{content_at}
use Rattle.mig_mem.specs.Parts.{part_at}
use Rattle.mig_mem.specs.Lent.{mut_lent_bytes, lent_image}
use Rattle.mig_mem.proofs.Lents.{page_of_loan}
use Rattle.mig_c_loads.proofs.PageTakes.{page_len, takes_page}
use Rattle.mig_c_loads.proofs.next_bytes.take_page.Goals as goal

pub returns-in-Some : goal.returns-in-Some
returns-in-Some c =
    let old = c.args.state.now in
    let place = c.in-Ok.place in
    let loans : List (MutBor (List ℕ)) = c.args.blocks.now in
    let blocks : List (List ℕ) = mut_lent_bytes loans in
    let loan : MutBor (List ℕ) = c.in-Some.block.now in
    let may = c.in-Ok.ensures.ok in
    let fit = may.0.fits refl in
    let size : c.page_size-size.result ≡ old.table.page_size = c.page_size-size.ensures ∙ ap (λ (t : RamTable). t.page_size) c.table.ensures in
    let there : loan ≡ get_or loans place.block loan = c.in-Some.ensures.lookup.1 in
    let here : c.page_of.result.now ≡ content_at (lent_image old.table blocks) place =
    c.page_of.ensures
    ∙ ap (λ (n : ℕ). part_at n loan.now place.page) size
    ∙ ap (λ (b : MutBor (List ℕ)). part_at old.table.page_size b.now place.page) there
    ∙ page_of_loan (λ (b : MutBor (List ℕ)). b.now) old.table loans place loan fit may.2 in
    record {
      may_take = may.0;
      takes = λ _. takes_page old c.take_page.new.self place (lent_image old.table blocks) c.page_of.result.now may.1 here c.take_page.ensures.loads;
      counted = λ _. c.take_page.ensures.fed ∙ ap (λ (n : ℕ). old.fed + n) (page_len old.table blocks place c.page_of.result.now fit may.2 here);
      goes_on = λ _. c.take_page.ensures.open;
      same_rounds = c.take_page.ensures.rounds;
      same_table = c.take_page.ensures.table;
      same = λ no. absurd (no refl);
    }
