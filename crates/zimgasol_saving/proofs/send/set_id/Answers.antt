use Rattle.std.proofs.Common.{ℕ, ◌≡◌, ◌∙◌, ap, sym}
use Rattle.std.proofs.lemmas.Option.{same_Some}
use Rattle.std.proofs.lemmas.List.{with_items_is}
use Rattle.mig_stream.specs.Text.{section}
use Rattle.zimgasol_saving.proofs.send.set_id.Goals as goal

pub returns-clause-section : goal.returns-clause-section
returns-clause-section c = λ own table kind records is from.
    let same : c.in-Some.id ≡ own = same_Some c.in-Some.id own (sym c.in-Some.is ∙ is) in
    with_items_is c.args.bytes.now c.set_section_id.new.bytes (c.set_section_id.ensures.len ∙ c.deref_mut.ensures.len)
    ∙ c.set_section_id.ensures.section table kind records (c.deref_mut.ensures.value ∙ from)
    ∙ ap (λ (n : ℕ). section table kind n records) same
