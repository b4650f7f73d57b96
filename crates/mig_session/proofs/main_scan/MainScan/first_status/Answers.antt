use Rattle.std.proofs.Common.{sym, subst}
use Rattle.mig_session.specs.Scan.{MainScan, ScansMain}
use Rattle.mig_load_types.specs.Settings.{main_of}
use Rattle.mig_session.proofs.MainScanning.{first_main}
use Rattle.mig_session.proofs.main_scan.MainScan.first_status.Goals as goal

pub returns : goal.returns
returns g c = λ given text reading size scans is none.
    let i = c.self.inside in
    let s : MainScan = record { reader = i.reader; rounds = i.rounds } in
    let sc = subst (λ (s : MainScan). ScansMain (main_of given) text s) (sym c.self.view_is) scans in
    first_main given text s c.state.result c.stream_end.result reading size c.state.ensures c.stream_end.ensures sc is none
