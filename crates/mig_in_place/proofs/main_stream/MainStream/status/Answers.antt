use Rattle.std.proofs.Common.{Bool, sym, subst}
use Rattle.mig_answer.specs.declared.status.Status.TheVariants.{Whole}
use Rattle.mig_in_place.specs.Sources.{KeptMain, TellsMainStatus}
use Rattle.mig_in_place.proofs.Mains.{kept, tells_whole, tells_end}
use Rattle.mig_in_place.proofs.main_stream.MainStream.status.Goals as goal

pub returns-then-self-clause-tells : goal.returns-then-self-clause-tells
returns-then-self-clause-tells g c =
    let i = c.self.inside in
    subst (λ (m : KeptMain). TellsMainStatus m Whole) c.self.view_is
    (subst (λ (b : Bool). TellsMainStatus (kept i.reader b) Whole) (sym c.if-self.true) (tells_whole i.reader))

pub returns-clause-tells : goal.returns-clause-tells
returns-clause-tells g c =
    let i = c.self.inside in
    subst (λ (m : KeptMain). TellsMainStatus m c.stream_end.result) c.self.view_is
    (subst (λ (b : Bool). TellsMainStatus (kept i.reader b) c.stream_end.result) (sym c.if-self.false)
    (tells_end i.reader c.state.result c.stream_end.result c.state.ensures c.stream_end.ensures))
