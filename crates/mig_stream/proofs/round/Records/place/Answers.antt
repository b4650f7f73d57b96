use Rattle.std.proofs.Common.{◌≡◌, ◌<◌, [], length, arith, rules, sym, ap, ◌∙◌}
use Rattle.std.specs.Vec.{vec_len}
use Rattle.mig_stream.specs.Round.{record_at}
use Rattle.mig_stream.proofs.Keeping.{records_length, place_there}
use Rattle.mig_stream.proofs.round.Records.place.Goals as goal

pub index-requires : goal.index-requires
index-requires g c =
    let len : vec_len c.self.inside.items ≡ length c.self.inside.items.items = search rules in
    omega (arith, len, c.requires, ap (λ l. length l) c.self.view_is, records_length [] c.self.inside.items.items)

pub returns : goal.returns
returns g c =
    let lt : c.args.i < length c.self.inside.items.items =
    omega (arith, c.requires, ap (λ l. length l) c.self.view_is, records_length [] c.self.inside.items.items) in
    c.place.ensures ∙ sym (place_there c.self.inside.items.items c.args.i _ c.index.result.now lt c.index.ensures)
    ∙ ap (λ l. (record_at l c.args.i).place) c.self.view_is
