use Rattle.std.proofs.Common.{◌∙◌, refl, subst}
use Rattle.mig_mem.specs.Image.{IsImage, zero_image}
use Rattle.mig_session.specs.Loading.{round_load}
use Rattle.mig_session.proofs.Settling.{took_first}
use Rattle.mig_session.proofs.loading.RoundLoad.new.Goals as goal

pub returns-clause-took : goal.returns-clause-took
returns-clause-took g c =
    let image : IsImage (zero_image c.args.table.now) = subst IsImage (c.memory-first.ensures ∙ c.in_ok-memory.ensures.kept) c.table-table.ensures.image in
    took_first c.args.settings c.args.uuid.now c.args.channels c.args.table.now (round_load c.in_ok-load.load c.in_ok-memory.memory)
    c.in_ok-load.ensures.table c.requires.page_size c.in_ok-memory.ensures.kept c.in_ok-memory.ensures.image
    (c.in_ok-load.ensures.stands (zero_image c.args.table.now) image refl)
