use Rattle.std.proofs.Common.{◌≡◌, ◌<◌, [], length, arith, rules, sym, ap, ◌∙◌}
use Rattle.std.specs.Vec.{vec_len}
use Rattle.mig_stream.specs.Kept.{buffers_of_records, content_in, place_of}
use Rattle.mig_stream.specs.Round.{record_at}
use Rattle.mig_stream.proofs.Keeping.{records_length, place_there, content_there}
use Rattle.mig_stream.proofs.round.Records.get.Goals as goal

pub index-requires : goal.index-requires
index-requires g c =
    let len : vec_len c.self.inside.items ≡ length c.self.inside.items.items = search rules in
    omega (arith, len, c.requires, ap (λ l. length l) c.self.view_is, records_length [] c.self.inside.items.items)

pub returns-in-Zeros-clause-place : goal.returns-in-Zeros-clause-place
returns-in-Zeros-clause-place g c =
    let lt : c.args.i < length c.self.inside.items.items =
    omega (arith, c.requires, ap (λ l. length l) c.self.view_is, records_length [] c.self.inside.items.items) in
    c.place_of.ensures ∙ ap (λ r. place_of r) (sym c.in-Zeros.is) ∙ sym (place_there c.self.inside.items.items c.args.i _ c.index.result.now lt c.index.ensures)
    ∙ ap (λ l. (record_at l c.args.i).place) c.self.view_is

pub returns-in-Zeros-clause-content : goal.returns-in-Zeros-clause-content
returns-in-Zeros-clause-content g c =
    let lt : c.args.i < length c.self.inside.items.items =
    omega (arith, c.requires, ap (λ l. length l) c.self.view_is, records_length [] c.self.inside.items.items) in
    ap (λ r. content_in (buffers_of_records c.self.inside.items.items) r) (sym c.in-Zeros.is)
    ∙ content_there c.self.inside.items.items c.args.i _ c.index.result.now lt c.index.ensures c.self.invariant
    ∙ ap (λ l. (record_at l c.args.i).content) c.self.view_is
