use Rattle.std.proofs.Common.{◌≡◌, rules}
use Rattle.mig_mem.specs.Image.{zero_page}
use Rattle.mig_mem.specs.Parts.{part_at}
use Rattle.mig_c_loads.proofs.HeldBlocks.{content_there}
use Rattle.mig_c_loads.proofs.putting.clear_page.Goals as goal

pub returns-else-ne : goal.returns-else-ne
returns-else-ne c =
    let here : part_at c.args.size c.args.bytes.now c.args.page ≡ zero_page c.args.size = search rules in
    content_there c.args.size c.args.page c.args.bytes.now (zero_page c.args.size) here
