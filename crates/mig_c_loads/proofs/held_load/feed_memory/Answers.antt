use Rattle.std.proofs.Common.{◌≡◌, ap, refl, arith}
use Rattle.std.specs.Prelude.{Result, Err, IsOk, ⊤}
use Rattle.std.specs.Result.{is_ok}
use Rattle.mig_load_types.specs.declared.fault.InPlaceFault.{InPlaceFault}
use Rattle.mig_load_types.specs.declared.fault.InPlaceFault.TheVariants.{OtherTable, NoMemory}
use Rattle.mig_c_loads.proofs.held_load.feed_memory.Goals as goal

-- there are two ways in which a piece is refused
other_way : (r : Result ⊤ InPlaceFault) (e : InPlaceFault) → r ≡ Err e → (r ≡ Err OtherTable → ⊥) → r ≡ Err NoMemory
other_way r OtherTable is not = absurd (not is)
other_way r NoMemory is not = is

err_not_ok : (r : Result ⊤ InPlaceFault) (e : InPlaceFault) → r ≡ Err e → IsOk r → ⊥
err_not_ok r e is ok = absurd (let other = ap (λ (x : Result ⊤ InPlaceFault). is_ok x) is in cc)

pub returns-in-Ok-clause-feeds : goal.returns-in-Ok-clause-feeds
returns-in-Ok-clause-feeds g c =
    let own : c.feed.result ≡ Err OtherTable → ⊥ = λ other. absurd (c.feed.ensures.other.0 other c.requires.table) in
    record {
      is_named = refl;
      takes = λ _. c.in-Ok.ensures.ok;
      fails = grind arith;
      has_failed = λ given first text lacks. ((c.feed.ensures.lacking own given first text lacks).0, refl);
      counted = c.feed.ensures.fed own;
      goes_on = c.feed.ensures.open;
      same_table = c.feed.ensures.table.0;
    }

pub returns-in-Err-clause-feeds : goal.returns-in-Err-clause-feeds
returns-in-Err-clause-feeds g c =
    let own : c.feed.result ≡ Err OtherTable → ⊥ = λ other. absurd (c.feed.ensures.other.0 other c.requires.table) in
    let none : c.feed.result ≡ Err NoMemory = other_way c.feed.result c.in-Err.field-0 c.in-Err.is own in
    record {
      is_named = refl;
      takes = grind arith;
      fails = λ _. c.feed.ensures.failed none;
      has_failed = λ given first text lacks.
          absurd (err_not_ok c.feed.result c.in-Err.field-0 c.in-Err.is (c.feed.ensures.lacking own given first text lacks).1);
      counted = c.feed.ensures.fed own;
      goes_on = c.feed.ensures.open;
      same_table = c.feed.ensures.table.0;
    }
