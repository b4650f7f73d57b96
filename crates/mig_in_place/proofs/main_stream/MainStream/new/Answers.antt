use Rattle.std.proofs.Common.{subst}
use Rattle.mig_stream.specs.declared.item.Mode.{Mode}
use Rattle.mig_stream.specs.Reading.{settings, in_frame, with_waiting}
use Rattle.mig_stream.specs.Reader.{Stands, nothing_yet}
use Rattle.mig_load_types.specs.Settings.{main_of}
use Rattle.mig_in_place.proofs.Mains.{begins}
use Rattle.mig_in_place.proofs.main_stream.MainStream.new.Goals as goal

pub returns-clause-holds : goal.returns-clause-holds
returns-clause-holds g c =
    let given = c.args.settings in
    let stands : Stands (main_of given) nothing_yet c.new_with.result =
    subst (λ (m : Mode). Stands (with_waiting given.waiting (in_frame given.frame (settings m given.page_size given.limit)))
    nothing_yet c.new_with.result) c.main_mode.ensures c.new_with.ensures.stands in
    begins (main_of given) c.new_with.result c.requires.page_size stands
