use Rattle.std.proofs.Common.{◌≡◌, None, rules}
use Rattle.mig_stream.specs.Progress.{whole_table}
use Rattle.mig_single_load.proofs.LoadsInPlace.{Step, gave_on, gave_before}
use Rattle.mig_single_load.proofs.in_place_state.find_table.Goals as goal

pub items-preserved : goal.items-preserved
items-preserved g c = λ given table text so_far gives size.
    let none : whole_table c.items.reader.progress ≡ None = search rules in
    let e = c.in_ok-gave.ensures in
    let step : Step c.in_ok-gave.gave c.items.reader c.read_on.new.self = record {
      ok = e.ok;
      page_size = e.page_size;
      places = e.places;
      end = e.end;
      none = e.none;
      less = e.less;
    } in
    gave_on given table text so_far c.in_ok-gave.gave c.items.reader c.read_on.new.self
    (gave_before given table text so_far c.items.gave c.items.reader (c.items.invariant given table text so_far gives size) none) step

pub returns-in-End-clause-gave : goal.returns-in-End-clause-gave
returns-in-End-clause-gave g c = λ given table text so_far gives size.
    let none : whole_table c.items.reader.progress ≡ None = search rules in
    let e = c.in_ok-gave.ensures in
    let step : Step c.in_ok-gave.gave c.items.reader c.read_on.new.self = record {
      ok = e.ok;
      page_size = e.page_size;
      places = e.places;
      end = e.end;
      none = e.none;
      less = e.less;
    } in
    gave_on given table text so_far c.in_ok-gave.gave c.items.reader c.read_on.new.self
    (gave_before given table text so_far c.items.gave c.items.reader (c.items.invariant given table text so_far gives size) none) step
