use Rattle.std.proofs.Common.{sym, subst}
use Rattle.mig_answer.specs.Texts.{with_piece}
use Rattle.mig_session.specs.Scan.{MainScan, ScansMain, main_so_far}
use Rattle.mig_session.proofs.main_scan.MainScan.feed.Goals as goal

pub returns : goal.returns
returns g c = λ given text scans.
    let sc = subst (λ (s : MainScan). ScansMain given text s) (sym c.self.view_is) scans in
    c.drop_rounds.ensures given (with_piece c.args.piece.now text) sc.dropped (c.in_ok-feed.ensures.stands given
    (main_so_far text sc.dropped) sc.stands) sc.has_rounds
