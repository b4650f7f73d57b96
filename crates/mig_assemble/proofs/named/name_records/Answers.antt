use Rattle.std.proofs.Common.{arith, ◌∙◌, ap}
use Rattle.mig_mem.specs.PlaceSet.{PlaceSet}
use Rattle.mig_assemble.proofs.Naming.{record_named}
use Rattle.mig_assemble.proofs.named.name_records.Goals as goal

pub loop-i-preserved : goal.loop-i-preserved
loop-i-preserved g c = record {
  table = ap (λ (s : PlaceSet). s.table) c.mark.ensures.set ∙ c.loop-i.invariant.table;
  named = record_named c.args.named.now c.loop-i.named c.mark.new.self c.args.round.now.page_size c.args.round.now.records c.loop-i.i c.place.result
      c.loop-i.invariant.named (omega arith) c.place.ensures c.mark.ensures.set;
}
