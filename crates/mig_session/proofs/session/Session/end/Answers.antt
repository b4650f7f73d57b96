use Rattle.std.proofs.Common.{◌≡◌, ◌∙◌, Option, Some, None, ap, subst, sym}
use Rattle.mig_sources.specs.Sources.{HasSource, end_step, counts_in}
use Rattle.mig_answer.specs.declared.verdict.Verdict.{Verdict}
use Rattle.mig_answer.specs.declared.verdict.Verdict.TheVariants.{Running}
use Rattle.mig_session.specs.Loading.{Feeding}
use Rattle.mig_session.specs.Session.{Fed, LoadSession, IsRunning, StandsFor, LacksMemory, session, feeding}
use Rattle.mig_session.proofs.Sessions.{Keeps, keeps_of, keeps_runs, runs_of, end_counts, end_lacks, end_steps, is_session_still, has_source_of}
use Rattle.mig_session.proofs.session.Session.end.Goals as goal

pub returns-in-None-clause-steps : goal.returns-in-None-clause-steps
returns-in-None-clause-steps g c = λ given uuid texts stands.
    let i = c.self.inside in
    let s : LoadSession = session i.settings i.uuid i.counts i.places i.sources i.load i.over i.verdict in
    end_counts given uuid texts s c.args.source c.end.new.self c.self.invariant
    (subst (λ (x : LoadSession). StandsFor given uuid texts x) (sym c.self.view_is) stands) c.in-None.is c.end.ensures

pub returns-in-None-clause-lacking : goal.returns-in-None-clause-lacking
returns-in-None-clause-lacking g c = λ given uuid texts lacks.
    let i = c.self.inside in
    let s : LoadSession = session i.settings i.uuid i.counts i.places i.sources i.load i.over i.verdict in
    end_lacks given uuid texts s c.args.source c.end.new.self
    (subst (λ (x : LoadSession). LacksMemory given uuid texts x) (sym c.self.view_is) lacks) c.end.ensures

pub end_source-verdict-requires : goal.end_source-verdict-requires
end_source-verdict-requires g c =
    let i = c.self.inside in
    let s : LoadSession = session i.settings i.uuid i.counts i.places i.sources i.load i.over i.verdict in
    let some = c.self.invariant.stands (λ none. absurd (let bad : Some c.in-Some.fed ≡ None = sym c.in-Some.is ∙ none in cc)) in
    let f : Feeding = feeding some.given some.uuid some.texts in
    let runs : s.verdict ≡ Running = keeps_runs s c.in-Some.fed c.self.invariant c.in-Some.is in (
      f,
      some.stands.is_page_size,
      subst (λ (v : Verdict). IsRunning f i.load v c.in-Some.fed) runs (runs_of some.given some.uuid some.texts s c.in-Some.fed c.in-Some.is some.stands),
      subst (λ (x : _). HasSource x c.args.source) some.stands.has_counts (has_source_of s c.args.self.now c.args.source c.self.view_is c.requires),
    )

pub invariant_of-self-2 : goal.invariant_of-self-2
invariant_of-self-2 g c =
    let i = c.self.inside in
    let s : LoadSession = session i.settings i.uuid i.counts i.places i.sources i.load i.over i.verdict in
    let new : Fed = c.end_source-verdict.new.fed in
    let keeps : Keeps c.end_source-verdict.result c.end_source-verdict.new.fed c.end_source-verdict.new.load c.keep.new.sources c.keep.new.load
    c.keep.new.over =
    keeps_of c.end_source-verdict.result c.end_source-verdict.new.fed c.end_source-verdict.new.load c.keep.new.sources c.keep.new.load c.keep.new.over i.over
    (c.self.invariant.is_not_over (λ none. absurd (let bad : Some c.in-Some.fed ≡ None = sym c.in-Some.is ∙ none in cc)))
    c.keep.ensures.running c.keep.ensures.settled c.keep.ensures.target in
    let some = c.self.invariant.stands (λ none. absurd (let bad : Some c.in-Some.fed ≡ None = sym c.in-Some.is ∙ none in cc)) in
    is_session_still i.settings i.uuid c.end.new.self c.end_source-verdict.new.places new c.end_source-verdict.new.load c.end_source-verdict.result
    c.keep.new.sources c.keep.new.load c.keep.new.over keeps
    (λ _. record {
      uuid = some.uuid;
      given = some.given;
      texts = end_step c.args.source some.texts;
      stands = end_steps some.given some.uuid some.texts s c.in-Some.fed new c.args.source c.end_source-verdict.new.load
          c.end_source-verdict.result c.end.new.self c.end_source-verdict.new.places c.keep.new.sources c.keep.new.load c.keep.new.over some.stands c.in-Some.is
          (keeps_runs s c.in-Some.fed c.self.invariant c.in-Some.is) (has_source_of s c.args.self.now c.args.source c.self.view_is c.requires)
          c.end_source-verdict.ensures.told c.end.ensures keeps c.end_source-verdict.ensures.places;
    })

pub returns-clause-steps : goal.returns-clause-steps
returns-clause-steps g c = λ given uuid texts stands.
    let i = c.self.inside in
    let s : LoadSession = session i.settings i.uuid i.counts i.places i.sources i.load i.over i.verdict in
    let keeps : Keeps c.end_source-verdict.result c.end_source-verdict.new.fed c.end_source-verdict.new.load c.keep.new.sources c.keep.new.load
    c.keep.new.over =
    keeps_of c.end_source-verdict.result c.end_source-verdict.new.fed c.end_source-verdict.new.load c.keep.new.sources c.keep.new.load c.keep.new.over i.over
    (c.self.invariant.is_not_over (λ none. absurd (let bad : Some c.in-Some.fed ≡ None = sym c.in-Some.is ∙ none in cc)))
    c.keep.ensures.running c.keep.ensures.settled c.keep.ensures.target in
    end_steps given uuid texts s c.in-Some.fed c.end_source-verdict.new.fed c.args.source c.end_source-verdict.new.load c.end_source-verdict.result
    c.end.new.self c.end_source-verdict.new.places c.keep.new.sources c.keep.new.load c.keep.new.over
    (subst (λ (x : LoadSession). StandsFor given uuid texts x) (sym c.self.view_is) stands) c.in-Some.is
    (keeps_runs s c.in-Some.fed c.self.invariant c.in-Some.is) (has_source_of s c.args.self.now c.args.source c.self.view_is c.requires)
    c.end_source-verdict.ensures.told c.end.ensures keeps c.end_source-verdict.ensures.places
