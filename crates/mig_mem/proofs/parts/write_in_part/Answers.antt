use Rattle.mig_mem.proofs.PartWrites.{changes_byte_in}
use Rattle.mig_mem.proofs.parts.write_in_part.Goals as goal

pub returns : goal.returns
returns g c = rw c.write_item.ensures (changes_byte_in c.args.size c.args.items.now c.args.part c.args.offset c.args.item c.requires.offset)
