use Rattle.std.proofs.Common.{Some, None, sym, refl}
use Rattle.std.specs.Prelude.{is_ok}
use Rattle.mig_stream.specs.Reader.{HasTable}
use Rattle.mig_load_types.specs.Settings.{main_of}
use Rattle.mig_relay.proofs.MainStream.{main_so_far}
use Rattle.mig_relay.proofs.RelayAnswers.{were_received, none_received, answers_with, answers_without, places_of_main, ends_without_table, no_memory_there}
use Rattle.mig_relay.proofs.RelayAnswers.{none_missing_there, goes_from_zeros}
use Rattle.mig_relay.proofs.relayed.with_table.Goals as goal

pub end-requires : goal.end-requires
end-requires g c =
    let l = c.requires.0 in
    let begins = c.requires.1 in
    let given = main_of l.given in
    let so_far = main_so_far l.main 0 in (
      l,
      ends_without_table l c.args.reader c.state.result c.args.places.items c.args.collector.now begins
          (c.in_default.ensures given so_far begins.stands) (c.state.ensures given so_far begins.stands),
    )

pub returns-in_default-clause-answer : goal.returns-in_default-clause-answer
returns-in_default-clause-answer g c = λ l begins.
    let given = main_of l.given in
    let so_far = main_so_far l.main 0 in
    let none : HasTable given l.main None = c.in_default.ensures given so_far begins.stands in
    let at = ends_without_table l c.args.reader c.state.result c.args.places.items c.args.collector.now begins none
    (c.state.ensures given so_far begins.stands) in
    let places = c.main_places-at.result in
    answers_with {A = g.row.A.Denot} l 0
    (record {
      memory = None;
      rounds = 0;
      verdict = c.end.result;
      missing = None;
      closed_at = places.closed_at;
      valid_up_to = Some places.valid_up_to;
    }) c.end.new.collector
    begins.loading.are_readings begins.loading.have_passed refl
    (sym (no_memory_there l c.args.reader c.args.places.items c.args.collector.now begins none)) (c.end.ensures.ended l at)
    (none_missing_there l c.args.reader c.args.places.items c.args.collector.now begins none) places
    (places_of_main l c.args.reader 0 places begins.stands c.main_places-at.ensures) refl refl

pub returns-in_default-clause-received : goal.returns-in_default-clause-received
returns-in_default-clause-received g c =
    let l = c.requires.0 in
    let begins = c.requires.1 in
    let given = main_of l.given in
    let so_far = main_so_far l.main 0 in
    let none : HasTable given l.main None = c.in_default.ensures given so_far begins.stands in
    let at = ends_without_table l c.args.reader c.state.result c.args.places.items c.args.collector.now begins none
    (c.state.ensures given so_far begins.stands) in
    let ended = c.end.ensures.ended l at in
    were_received 0 (is_ok c.end.result) c.args.collector.now c.end.new.collector c.end.ensures.continues ended.have_rounds ended.through

pub returns-in-Ok-clause-going : goal.returns-in-Ok-clause-going
returns-in-Ok-clause-going g c = λ l begins.
    let has : HasTable (main_of l.given) l.main (Some c.in-Some.table.now) = c.in-Some.ensures (main_of l.given) (main_so_far l.main 0) begins.stands in
    goes_from_zeros l c.args.reader c.in-Some.table.now c.in-Ok.target c.args.places.items c.args.collector.now begins has c.in-Ok.ensures

pub returns-clause-answer : goal.returns-clause-answer
returns-clause-answer g c = λ l begins. rw c.without_memory.ensures (answers_without g.row.A.Denot l begins.loading.are_readings)

pub returns-clause-received : goal.returns-clause-received
returns-clause-received g c = rw c.without_memory.ensures (none_received c.args.collector.now)
