use Rattle.std.proofs.Common.{◌≡◌, [], length, rules, sym, ap, ◌∙◌}
use Rattle.mig_stream.proofs.Keeping.{records_length}
use Rattle.mig_stream.proofs.round.Records.len.Goals as goal

pub returns : goal.returns
returns g c =
    let len : c.len.result ≡ length c.self.inside.items.items = search rules in
    len ∙ sym (records_length [] c.self.inside.items.items) ∙ ap (λ l. length l) c.self.view_is
