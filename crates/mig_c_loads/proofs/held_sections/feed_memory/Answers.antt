use Rattle.std.proofs.Common.{◌≡◌, ap, refl, arith}
use Rattle.std.specs.Prelude.{Result, Err, ⊤}
use Rattle.mig_load_types.specs.declared.fault.InPlaceFault.{InPlaceFault}
use Rattle.mig_load_types.specs.declared.fault.InPlaceFault.TheVariants.{OtherTable, NoMemory}
use Rattle.mig_c_loads.proofs.held_sections.feed_memory.Goals as goal

-- there are two ways in which a piece is refused
other_way : (r : Result ⊤ InPlaceFault) (e : InPlaceFault) → r ≡ Err e → (r ≡ Err OtherTable → ⊥) → r ≡ Err NoMemory
other_way r OtherTable is foreign = absurd (foreign is)
other_way r NoMemory is foreign = is

pub returns-in-Ok-clause-feeds : goal.returns-in-Ok-clause-feeds
returns-in-Ok-clause-feeds g c = record {
  is_named = refl;
  takes = λ _. c.in-Ok.ensures.ok;
  counted = λ _. c.in-Ok.ensures.fed;
  same = grind arith;
  settled = grind arith;
  goes_on = c.feed.ensures.open;
  same_table = c.feed.ensures.table.0;
}

pub returns-in-Err-clause-feeds : goal.returns-in-Err-clause-feeds
returns-in-Err-clause-feeds g c =
    let own : c.feed.result ≡ Err OtherTable → ⊥ = λ other. absurd (c.feed.ensures.other.0 other c.requires.table) in
    let none : c.feed.result ≡ Err NoMemory = other_way c.feed.result c.in-Err.field-0 c.in-Err.is own in
    record {
      is_named = refl;
      takes = grind arith;
      counted = grind arith;
      same = λ _. c.in-Err.ensures.err;
      settled = λ _ given first text loads.
          (λ final. c.feed.ensures.settled given first text loads final none, λ another. c.feed.ensures.another given first text loads another none);
      goes_on = c.feed.ensures.open;
      same_table = c.feed.ensures.table.0;
    }
