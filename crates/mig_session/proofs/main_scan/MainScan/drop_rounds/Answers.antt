use Rattle.std.proofs.Common.{subst}
use Rattle.mig_session.specs.Scan.{MainScan, DropsRounds}
use Rattle.mig_session.proofs.main_scan.MainScan.drop_rounds.Goals as goal

pub returns : goal.returns
returns g c =
    subst (λ (s : MainScan). DropsRounds s.reader s.rounds c.drop_rounds-self-inside.new.reader c.drop_rounds-self-inside.result) c.self.view_is
    c.drop_rounds-self-inside.ensures
