use Rattle.std.proofs.Common.{◌≡◌, ◌∙◌, ◌<◌, [], ap, arith}
use Rattle.atomic_table.specs.Table.{Me}
use Rattle.mig_deal.specs.declared.rule.Holding.{Holding}
use Rattle.mig_deal.specs.Rule.{numbers_of}
use Rattle.mig_deal.proofs.Steps.{splits}
use Rattle.mig_deal.proofs.deal.split_seats.Goals as goal

pub split_seat-inner-requires : goal.split_seat-inner-requires
split_seat-inner-requires g c =
    let rest = c.loop.invariant.rest in
    let test = c.loop-test.true in
    let some_seat : 0 < c.loop.rest.me.0.seats = rw rest (omega arith) in
    let empty : numbers_of c.loop.rest.me.0 ≡ [] = ap (λ (m : Me (Unit {0}) Holding). numbers_of m.0) rest in
    let one = c.requires.table.1 in (
      c.loop.invariant.same ∙ c.requires.first.0,
      omega arith,
      splits _ _ _ some_seat empty,
    )
