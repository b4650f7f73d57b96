use Rattle.std.proofs.Common.{◌≡◌, ◌-◌, ap, length, rules, arith}
use Rattle.mig_stream.specs.Giving.{Paused}
use Rattle.mig_stream.proofs.Closing.{valid_paused}
use Rattle.mig_stream.proofs.record_reader.Pause.valid_up_to.Goals as goal

pub returns : goal.returns
returns g c =
    let count : c.len.result ≡ length c.self.inside.pending.items = search rules in
    let fed : c.self.inside.fed ≡ c.args.self.now.fed = ap (λ (x : Paused). x.fed) c.self.view_is in
    let left : length c.self.inside.pending.items ≡ length c.args.self.now.pending = ap (λ (x : Paused). length x.pending) c.self.view_is in
    let is : c.saturating_sub.result ≡ c.args.self.now.fed - length c.args.self.now.pending = omega (arith, c.saturating_sub.ensures, count, fed, left) in
    valid_paused c.args.self.now c.saturating_sub.result is
