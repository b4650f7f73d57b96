use Rattle.std.proofs.Common.{◌≡◌, sym}
use Rattle.std.specs.Prelude.{Err}
use Rattle.mig_load_types.specs.declared.fault.InPlaceFault.TheVariants.{OtherTable}
use Rattle.mig_c_loads.proofs.RoundsFed.{other_way}
use Rattle.mig_c_loads.proofs.held_rounds.feed_memory.Goals as goal

pub returns-in-Err-clause-still_keeps : goal.returns-in-Err-clause-still_keeps
returns-in-Err-clause-still_keeps g c = λ _.
    let own : c.feed_rounds.result ≡ Err OtherTable → ⊥ = λ other. (c.feed_rounds.ensures.other other).0 (sym c.requires.table) in
    c.feed_rounds.ensures.err (other_way c.feed_rounds.result c.in-Err.field-0 c.in-Err.is own)
