use Rattle.std.proofs.Common.{◌≡◌, ◌∙◌, Option, Some, None, ap, length, refl, subst, sym}
use Rattle.mig_sources.specs.Sources.{feed_step}
use Rattle.mig_session.specs.Loading.{RoundLoad, Feeding}
use Rattle.mig_session.specs.Session.{Fed, LoadSession, StandsFor, LacksMemory, rounds_loaded, target_in, session, feeding}
use Rattle.mig_session.specs.Advancing.{IsFedNext, failed_without_memory}
use Rattle.mig_answer.specs.declared.verdict.Verdict.{Verdict}
use Rattle.mig_session.proofs.Sessions.{Keeps, keeps_of, held_then, fed_next, feed_steps, feed_runs_out, feed_counts, feed_lacks, is_session_still}
use Rattle.mig_session.proofs.Sessions.{has_source_of, open_of, room_of}
use Rattle.mig_session.proofs.session.Session.feed.Goals as goal

pub returns-in-None-clause-ok : goal.returns-in-None-clause-ok
returns-in-None-clause-ok g c = λ given uuid texts stands.
    let i = c.self.inside in
    let s : LoadSession = session i.settings i.uuid i.counts i.places i.sources i.load i.over i.verdict in
    feed_counts given uuid texts s c.args.source c.args.piece.now c.add.new.self c.self.invariant
    (subst (λ (x : LoadSession). StandsFor given uuid texts x) (sym c.self.view_is) stands) c.in-None.is
    (has_source_of s c.args.self.now c.args.source c.self.view_is c.requires.source)
    (open_of s c.args.self.now c.args.source c.self.view_is c.requires.open) c.add.ensures

pub returns-in-None-clause-lacking : goal.returns-in-None-clause-lacking
returns-in-None-clause-lacking g c = λ given uuid texts lacks.
    let i = c.self.inside in
    let s : LoadSession = session i.settings i.uuid i.counts i.places i.sources i.load i.over i.verdict in
    feed_lacks given uuid texts s c.args.source c.args.piece.now c.add.new.self
    (subst (λ (x : LoadSession). LacksMemory given uuid texts x) (sym c.self.view_is) lacks)
    (has_source_of s c.args.self.now c.args.source c.self.view_is c.requires.source)
    (open_of s c.args.self.now c.args.source c.self.view_is c.requires.open) c.add.ensures

pub take-taken-requires : goal.take-taken-requires
take-taken-requires g c =
    let i = c.self.inside in
    let s : LoadSession = session i.settings i.uuid i.counts i.places i.sources i.load i.over i.verdict in
    let some = c.self.invariant.stands (λ none. absurd (let bad : Some c.in-Some.fed ≡ None = sym c.in-Some.is ∙ none in cc)) in (
      feeding some.given some.uuid some.texts,
      fed_next some.given some.uuid some.texts s c.in-Some.fed c.args.source c.args.piece.now c.add.new.self some.stands c.in-Some.is
          (has_source_of s c.args.self.now c.args.source c.self.view_is c.requires.source)
          (open_of s c.args.self.now c.args.source c.self.view_is c.requires.open)
          (room_of s c.args.self.now c.args.source (length c.args.piece.now) c.self.view_is c.requires.room) c.add.ensures,
    )

pub invariant_of-self-in-Ok : goal.invariant_of-self-in-Ok
invariant_of-self-in-Ok g c =
    let i = c.self.inside in
    let s : LoadSession = session i.settings i.uuid i.counts i.places i.sources i.load i.over i.verdict in
    let new : Fed = c.take-taken.new.fed in
    let some = c.self.invariant.stands (λ none. absurd (let bad : Some c.in-Some.fed ≡ None = sym c.in-Some.is ∙ none in cc)) in
    let keeps : Keeps c.in-Ok.verdict c.take-taken.new.fed c.take-taken.new.load c.keep.new.sources c.keep.new.load c.keep.new.over =
    keeps_of c.in-Ok.verdict c.take-taken.new.fed c.take-taken.new.load c.keep.new.sources c.keep.new.load c.keep.new.over i.over
    (c.self.invariant.is_not_over (λ none. absurd (let bad : Some c.in-Some.fed ≡ None = sym c.in-Some.is ∙ none in cc)))
    c.keep.ensures.running c.keep.ensures.settled c.keep.ensures.target in
    let next : IsFedNext i.settings i.uuid c.add.new.self c.args.source c.args.piece.now (feeding some.given some.uuid some.texts) c.in-Some.fed i.load =
    fed_next some.given some.uuid some.texts s c.in-Some.fed c.args.source c.args.piece.now c.add.new.self some.stands c.in-Some.is
    (has_source_of s c.args.self.now c.args.source c.self.view_is c.requires.source)
    (open_of s c.args.self.now c.args.source c.self.view_is c.requires.open)
    (room_of s c.args.self.now c.args.source (length c.args.piece.now) c.self.view_is c.requires.room) c.add.ensures in
    is_session_still i.settings i.uuid c.add.new.self c.take-taken.new.places new c.take-taken.new.load c.in-Ok.verdict
    c.keep.new.sources c.keep.new.load c.keep.new.over keeps
    (λ _. record {
      uuid = some.uuid;
      given = some.given;
      texts = feed_step c.args.source c.args.piece.now some.texts;
      stands = feed_steps some.given some.uuid some.texts s c.in-Some.fed new c.args.source c.args.piece.now
          c.take-taken.new.load c.in-Ok.verdict c.add.new.self c.take-taken.new.places c.keep.new.sources c.keep.new.load c.keep.new.over
          some.stands c.in-Some.is next c.in-Ok.ensures.ok keeps c.in-Ok.ensures.places;
    })

pub returns-in-Ok-clause-ok : goal.returns-in-Ok-clause-ok
returns-in-Ok-clause-ok g c = λ given uuid texts stands.
    let i = c.self.inside in
    let s : LoadSession = session i.settings i.uuid i.counts i.places i.sources i.load i.over i.verdict in
    let here : StandsFor given uuid texts s = subst (λ (x : LoadSession). StandsFor given uuid texts x) (sym c.self.view_is) stands in
    let keeps : Keeps c.in-Ok.verdict c.take-taken.new.fed c.take-taken.new.load c.keep.new.sources c.keep.new.load c.keep.new.over =
    keeps_of c.in-Ok.verdict c.take-taken.new.fed c.take-taken.new.load c.keep.new.sources c.keep.new.load c.keep.new.over i.over
    (c.self.invariant.is_not_over (λ none. absurd (let bad : Some c.in-Some.fed ≡ None = sym c.in-Some.is ∙ none in cc)))
    c.keep.ensures.running c.keep.ensures.settled c.keep.ensures.target in
    feed_steps given uuid texts s c.in-Some.fed c.take-taken.new.fed c.args.source c.args.piece.now
    c.take-taken.new.load c.in-Ok.verdict c.add.new.self c.take-taken.new.places c.keep.new.sources c.keep.new.load c.keep.new.over here c.in-Some.is
    (fed_next given uuid texts s c.in-Some.fed c.args.source c.args.piece.now c.add.new.self here c.in-Some.is
    (has_source_of s c.args.self.now c.args.source c.self.view_is c.requires.source)
    (open_of s c.args.self.now c.args.source c.self.view_is c.requires.open)
    (room_of s c.args.self.now c.args.source (length c.args.piece.now) c.self.view_is c.requires.room) c.add.ensures)
    c.in-Ok.ensures.ok keeps c.in-Ok.ensures.places

pub returns-in-Err-clause-err : goal.returns-in-Err-clause-err
returns-in-Err-clause-err g c = λ given uuid texts stands.
    let i = c.self.inside in
    let s : LoadSession = session i.settings i.uuid i.counts i.places i.sources i.load i.over i.verdict in
    let here : StandsFor given uuid texts s = subst (λ (x : LoadSession). StandsFor given uuid texts x) (sym c.self.view_is) stands in
    let none : i.over ≡ None = c.self.invariant.is_not_over (λ none. absurd (let bad : Some c.in-Some.fed ≡ None = sym c.in-Some.is ∙ none in cc)) in
    subst (λ (l : Option RoundLoad). LacksMemory given uuid (feed_step c.args.source c.args.piece.now texts)
    (session i.settings i.uuid c.add.new.self None None l c.settle.new.over c.wants_memory-self-inside.result)) (sym c.settle.ensures.none)
    (subst (λ (v : Verdict). LacksMemory given uuid (feed_step c.args.source c.args.piece.now texts)
    (session i.settings i.uuid c.add.new.self None None None c.settle.new.over v))
    (sym (c.wants_memory-self-inside.ensures ∙ ap failed_without_memory (c.rounds_of.ensures ∙ ap rounds_loaded (held_then c.take-taken.new.load
    (target_in c.take-taken.new.load i.over) i.over none refl))))
    (feed_runs_out given uuid texts s c.in-Some.fed c.args.source c.args.piece.now c.take-taken.new.load c.add.new.self c.settle.new.over here
    (fed_next given uuid texts s c.in-Some.fed c.args.source c.args.piece.now c.add.new.self here c.in-Some.is
    (has_source_of s c.args.self.now c.args.source c.self.view_is c.requires.source)
    (open_of s c.args.self.now c.args.source c.self.view_is c.requires.open)
    (room_of s c.args.self.now c.args.source (length c.args.piece.now) c.self.view_is c.requires.room) c.add.ensures)
    c.in-Err.ensures.err (held_then c.take-taken.new.load c.settle.new.over i.over none c.settle.ensures.kept)))
