use Rattle.std.proofs.Common.{None, subst, sym}
use Rattle.mig_stream.proofs.Writing.{on_err}
use Rattle.mig_load_types.specs.Settings.{single_of}
use Rattle.mig_single_load.specs.Loader.{loader, put_so_far, Loads, HasAllSections, WasFed}
use Rattle.mig_mem.specs.Image.{zero_image}
use Rattle.mig_single_load.proofs.Sections.{put_new, put_of, none_there, loads_put, loads_all}
use Rattle.mig_single_load.proofs.settle.settle.Goals as goal

pub put_sections-requires : goal.put_sections-requires
put_sections-requires g c =
    let some = c.requires in
    let r = c.args.reader.now in
    let t = c.in-Some.target in
    record {
      given = some.given;
      first = zero_image t.memory.table;
      text = some.text;
      ended = some.ended;
      is_short = some.is_short;
      has_put = put_of some.given some.text some.ended r t (subst (λ o. WasFed some.given (loader r o) some.text some.ended) c.in-Some.is some.has_fed);
    }

pub returns-in-Some-clause-ok : goal.returns-in-Some-clause-ok
returns-in-Some-clause-ok g c = λ given text ended before.
    let r = c.args.reader.now in
    let t = c.in-Some.target in
    let put = put_of given text ended r t (subst (λ o. WasFed given (loader r o) text ended) c.in-Some.is before) in
    let now = c.put_sections.ensures.all given (zero_image t.memory.table) text ended put in
    loads_put given text ended c.put_sections.new.reader t.memory.table c.put_sections.new.target now.0 now.1

pub returns-in_default-table-clause-ok : goal.returns-in_default-table-clause-ok
returns-in_default-table-clause-ok g c = λ given text ended before.
    let r = c.args.reader.now in
    let fed = subst (λ o. WasFed given (loader r o) text ended) c.in_default.is before in
    subst (λ o. Loads given (loader r o) text ended × HasAllSections given (loader r o) text) (sym c.in_default.is)
    (loads_all given (loader r None) text ended fed
    (none_there given text r fed.is_page_size (c.in_default-table.ensures (single_of given) (put_so_far text ended 0) fed.stands)))

pub returns-in_err-made-clause-waits : goal.returns-in_err-made-clause-waits
returns-in_err-made-clause-waits g c =
    on_err c.from_residual.result _ (λ given text ended before.
    let fed = subst (λ o. WasFed given (loader c.args.reader.now o) text ended) c.in_default.is before in
    record {
      table = c.in-Some-table.table.now;
      has_table = c.in-Some-table.ensures (single_of given) (put_so_far text ended 0) fed.stands;
      has_no_memory = c.in_default.is;
    })

pub put_sections-requires-2 : goal.put_sections-requires-2
put_sections-requires-2 g c =
    let some = c.requires in
    let r = c.args.reader.now in
    let fed = subst (λ o. WasFed some.given (loader r o) some.text some.ended) c.in_default.is some.has_fed in
    record {
      given = some.given;
      first = zero_image c.in-Some-table.table.now;
      text = some.text;
      ended = some.ended;
      is_short = some.is_short;
      has_put = put_new some.given some.text some.ended r c.in-Some-table.table.now c.in_ok-made.made fed
          (c.in-Some-table.ensures (single_of some.given) (put_so_far some.text some.ended 0) fed.stands) c.in_ok-made.ensures;
    }

pub returns-clause-ok : goal.returns-clause-ok
returns-clause-ok g c = λ given text ended before.
    let r = c.args.reader.now in
    let table = c.in-Some-table.table.now in
    let fed = subst (λ o. WasFed given (loader r o) text ended) c.in_default.is before in
    let now = c.put_sections-2.ensures.all given (zero_image table) text ended (put_new given text ended r table c.in_ok-made.made fed
    (c.in-Some-table.ensures (single_of given) (put_so_far text ended 0) fed.stands) c.in_ok-made.ensures) in
    loads_put given text ended c.put_sections-2.new.reader table c.put_sections-2.new.target now.0 now.1
