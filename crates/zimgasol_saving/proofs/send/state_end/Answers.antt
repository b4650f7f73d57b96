use Rattle.std.proofs.Common.{◌∙◌}
use Rattle.std.proofs.lemmas.List.{with_items_is}
use Rattle.zimgasol_saving.proofs.Streams.{kept_ends}
use Rattle.zimgasol_saving.proofs.send.state_end.Goals as goal

pub returns-in-Ok : goal.returns-in-Ok
returns-in-Ok c =
    kept_ends c.args.sender c.in-Ok.last.items _ c.args.id c.in-Ok.ensures.ok (λ table kind records is.
    with_items_is c.in-Ok.last c.set_section_id.new.bytes (c.set_section_id.ensures.len ∙ c.deref_mut.ensures.len)
    ∙ c.set_section_id.ensures.section table kind records (c.deref_mut.ensures.value ∙ is))
