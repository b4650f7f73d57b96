use Rattle.std.proofs.Common.{ℕ, ◌≡◌, ◌∙◌, length, replicate, arith, ap, subst}
use Rattle.std.proofs.lemmas.Result.{IfOk-weaker, IfErr-weaker}
use Rattle.mig_load_types.specs.Settings.{mode_of}
use Rattle.mig_stream.specs.Reading.{Settings, settings, in_frame, with_waiting}
use Rattle.mig_stream.specs.declared.item.Mode.{Mode}
use Rattle.mig_stream.specs.Reader.{nothing_yet, with_piece, over, Stands}
use Rattle.mig_relay.specs.Relayed.{Load, IsLoadOf, Begins}
use Rattle.mig_relay.proofs.RelayAnswers.{none_received, answers_without, load_of_relay, begins_load}
use Rattle.mig_relay.proofs.relayed.begin.Goals as goal

pub returns-in_default-clause-answer : goal.returns-in_default-clause-answer
returns-in_default-clause-answer g c = λ l is. rw c.without_memory.ensures (answers_without g.row.A.Denot l is.are_readings)

pub returns-in_default-clause-received : goal.returns-in_default-clause-received
returns-in_default-clause-received g c = rw c.without_memory.ensures (none_received c.args.collector.now)

pub returns-in_default-starts-clause-answer : goal.returns-in_default-starts-clause-answer
returns-in_default-starts-clause-answer g c = λ l is. rw c.without_memory-in_default-starts.ensures (answers_without g.row.A.Denot l is.are_readings)

pub returns-in_default-starts-clause-received : goal.returns-in_default-starts-clause-received
returns-in_default-starts-clause-received g c = rw c.without_memory-in_default-starts.ensures (none_received c.args.collector.now)

pub with_table-requires : goal.with_table-requires
with_table-requires g c =
    let l = load_of_relay c.args.settings c.args.main.now c.args.collector.now c.page_size-page_size.ensures.relay in
    let read : Mode → Settings = λ e. with_waiting c.waiting-waiting.result
    (in_frame c.args.settings.frame (settings e c.page_size-page_size.result c.args.settings.limit)) in
    let read_so = c.end.ensures.stands (read c.main_mode.result) (with_piece c.args.main.now nothing_yet) c.in-Ok.ensures.stands in
    let stands : Stands (read (mode_of c.args.settings.round_end))
    (over (with_piece c.args.main.now nothing_yet)) c.end.new.self =
    subst (λ (e : Mode). Stands (read e) (over (with_piece c.args.main.now nothing_yet)) c.end.new.self) c.main_mode.ensures read_so in
    let places : c.in-Ok-starts.places.items ≡ replicate (length c.args.collector.now) 0 = c.in-Ok-starts.ensures
    ∙ ap (λ (m : ℕ). replicate m 0) c.len.ensures in (
      l.0,
      rw places (begins_load c.args.settings c.args.main.now c.args.collector.now c.end.new.self l.0 c.page_size-page_size.result c.waiting-waiting.result l.1
          c.page_size-page_size.ensures.value c.waiting-waiting.ensures stands (omega arith)),
    )

pub returns-clause-some : goal.returns-clause-some
returns-clause-some g c = load_of_relay c.args.settings c.args.main.now c.args.collector.now c.page_size-page_size.ensures.relay

pub returns-in_default-clause-some : goal.returns-in_default-clause-some
returns-in_default-clause-some g c = load_of_relay c.args.settings c.args.main.now c.args.collector.now c.page_size-page_size.ensures.relay

pub returns-in_default-starts-clause-some : goal.returns-in_default-starts-clause-some
returns-in_default-starts-clause-some g c = load_of_relay c.args.settings c.args.main.now c.args.collector.now c.page_size-page_size.ensures.relay

-- the load begins, with a table or without one
begun : (g : _) (c : goal.After-with_table g) (l : Load) → IsLoadOf c.args.settings c.args.main.now c.args.collector.now l
    → Begins l c.end.new.self c.in-Ok-starts.places.items c.args.collector.now
begun g c l is =
    let read : Mode → Settings = λ e. with_waiting c.waiting-waiting.result
    (in_frame c.args.settings.frame (settings e c.page_size-page_size.result c.args.settings.limit)) in
    let read_so = c.end.ensures.stands (read c.main_mode.result) (with_piece c.args.main.now nothing_yet) c.in-Ok.ensures.stands in
    let stands : Stands (read (mode_of c.args.settings.round_end))
    (over (with_piece c.args.main.now nothing_yet)) c.end.new.self =
    subst (λ (e : Mode). Stands (read e) (over (with_piece c.args.main.now nothing_yet)) c.end.new.self) c.main_mode.ensures read_so in
    let places : c.in-Ok-starts.places.items ≡ replicate (length c.args.collector.now) 0 = c.in-Ok-starts.ensures
    ∙ ap (λ (m : ℕ). replicate m 0) c.len.ensures in
    rw places (begins_load c.args.settings c.args.main.now c.args.collector.now c.end.new.self l c.page_size-page_size.result c.waiting-waiting.result is
    c.page_size-page_size.ensures.value c.waiting-waiting.ensures stands (omega arith))

pub returns-clause-going : goal.returns-clause-going
returns-clause-going g c = IfOk-weaker c.with_table.result _ _ (λ going goes l is. goes l (begun g c l is)) c.with_table.ensures.going

pub returns-clause-answer : goal.returns-clause-answer
returns-clause-answer g c = IfErr-weaker c.with_table.result _ _ (λ loaded answers l is. answers l (begun g c l is)) c.with_table.ensures.answer
