use Rattle.std.proofs.Common.{◌∙◌, sym, subst}
use Rattle.mig_session.specs.Scan.{Scan, Scans}
use Rattle.mig_session.proofs.scan.ChannelScan.feed.Goals as goal

pub returns : goal.returns
returns g c = λ given text scans.
    let sc = subst (λ (s : Scan). Scans given text s) (sym c.self.view_is) scans in
    let on = c.read_all-self-inside.ensures.reads given text.bytes sc.gave sc.is_read sc.has_rounds in
    record {
      gave = on.0;
      is_read = on.1;
      has_ended = c.read_all-self-inside.ensures.ended ∙ sc.has_ended;
      has_rounds = on.2;
    }
