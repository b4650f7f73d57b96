use Rattle.std.proofs.Common.{ap, subst}
use Rattle.std.specs.Prelude.{is_some, IsNone}
use Rattle.mig_mem.specs.Image.{Image, IsImage}
use Rattle.zimgasol_reading.specs.Passed.{HasPassed}
use Rattle.zimgasol_reading.proofs.Surveying.{if_ok}
use Rattle.zimgasol_reading.proofs.Answering.{loaded_all}
use Rattle.zimgasol_reading.proofs.several.Several.load_to.Goals as goal

pub returns-in-Ok-None-clause-loaded : goal.returns-in-Ok-None-clause-loaded
returns-in-Ok-None-clause-loaded g c = λ all begun stands.
    let none : IsNone c.into_sink-trouble.result.0 = ap (λ o. is_some o) c.in-Ok-None.is-1 in
    loaded_all g.F.Read.remaining (g.R.Read.remaining c.args.input.now) (g.R.Read.remaining c.load-read.new.input) all
    (g.S.PageSink.holds c.into_sink-trouble.result.1) c.args.table c.args.judge c.new.result c.new-load.result c.load-read.new.load
    c.args.self.now
    c.load-read.new.self c.new-load.ensures c.new.ensures
    (if_ok _ _ _ c.in-Ok-None.is-0 c.load-read.ensures.takes) (if_ok _ _ _ c.in-Ok-None.is-0 c.load-read.ensures.told)
    (if_ok _ _ _ c.in-Ok-None.is-0 c.load-read.ensures.asked)
    (subst (λ (i : Image). IsImage i) c.into_memory.ensures c.into_sink-trouble.ensures.image)
    (subst (λ (i : Image). HasPassed (g.S.PageSink.holds c.into_sink-trouble.result.1) i) c.into_memory.ensures
    (c.into_sink-trouble.ensures.passed none)) begun stands
