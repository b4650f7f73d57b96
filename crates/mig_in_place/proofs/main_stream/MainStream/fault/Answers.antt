use Rattle.std.proofs.Common.{subst}
use Rattle.mig_in_place.specs.Sources.{KeptMain, TellsMainFault}
use Rattle.mig_in_place.proofs.Mains.{kept, tells_fault}
use Rattle.mig_in_place.proofs.main_stream.MainStream.fault.Goals as goal

pub returns : goal.returns
returns g c =
    let i = c.self.inside in
    subst (λ (m : KeptMain). TellsMainFault m c.fault_of.result) c.self.view_is
    (tells_fault (kept i.reader i.is_whole) c.state.result c.stream_end.result c.fault_of.result c.state.ensures c.stream_end.ensures c.fault_of.ensures)
