use Rattle.std.proofs.Common.{◌∙◌, sym}
use Rattle.mig_mem.proofs.Refusals.{has_id_blocks}
use Rattle.mig_mem.proofs.refusal.has_id.Goals as goal

pub returns : goal.returns
returns g c = c.has_entry.ensures ∙ sym (has_id_blocks c.args.list.now c.args.id.now)
