use Rattle.std.proofs.Common.{◌≡◌, ◌≢◌, ◌∙◌, ap, sym, inl, inr, rules}
use Rattle.std.proofs.lemmas.Bool.{cases_Bool}
use Rattle.mig_load_types.specs.Settings.{for_table}
use Rattle.mig_answer.specs.declared.verdict.Verdict.TheVariants.{Running}
use Rattle.mig_sources.specs.Sources.{end_step}
use Rattle.mig_in_place.specs.Session.{InPlaceLoad, Loading, Loads, with_over}
use Rattle.mig_in_place.proofs.Ended.{never_due, end_bytes}
use Rattle.mig_in_place.proofs.Over.{end_stands, end_lacks}
use Rattle.mig_in_place.proofs.Takes.{loads_of}
use Rattle.mig_in_place.proofs.WholeRounds.{alone_ended}
use Rattle.mig_in_place.proofs.session.InPlaceSession.end.Goals as goal

pub returns-then-eq-clause-steps : goal.returns-then-eq-clause-steps
returns-then-eq-clause-steps g c = λ memory given uuid first texts stands.
    let runs : c.end_source.new.self.verdict ≡ Running = search rules in
    let running : c.args.self.now.verdict ≡ Running = sym (ap (λ (x : InPlaceLoad). x.verdict) c.end_source.ensures.others) ∙ runs in
    let f : Loading = record { given = given; uuid = uuid; first = first; texts = texts } in
    let on : Loads (with_over c.args.source f) memory c.end_source.new.self =
    c.end_source.ensures.loads f memory (loads_of f memory c.args.self.now running stands) in
    let rounds : c.end_source.new.self.rounds ≡ c.args.self.now.rounds = ap (λ (x : InPlaceLoad). x.rounds) c.end_source.ensures.others in
    let bytes = end_bytes c.args.source texts in
    elim (cases_Bool c.tell.result) [
      | inl t ↦ c.tell.ensures.told t (with_over c.args.source f) memory on
      | inr none ↦ absurd (never_due f memory memory c.args.self.now c.end_source.new.self
          (end_step c.args.source texts) stands running bytes.0 bytes.1 bytes.2 rounds on
          (c.tell.ensures.due none (with_over c.args.source f) memory on))
    ]

pub returns-then-eq-clause-lacking : goal.returns-then-eq-clause-lacking
returns-then-eq-clause-lacking g c = λ memory given uuid first texts lacks.
    let runs : c.end_source.new.self.verdict ≡ Running = search rules in
    let running : c.args.self.now.verdict ≡ Running = sym (ap (λ (x : InPlaceLoad). x.verdict) c.end_source.ensures.others) ∙ runs in
    let failed = lacks.is_without.has_verdict in
    absurd (let e = sym running ∙ failed in cc)

pub returns-else-eq-clause-steps : goal.returns-else-eq-clause-steps
returns-else-eq-clause-steps g c = λ memory given uuid first texts stands.
    let judged : c.end_source.new.self.verdict ≢ Running = search rules in
    end_stands given uuid first texts memory c.args.self.now c.end_source.new.self c.args.source
    (λ running. judged (ap (λ (x : InPlaceLoad). x.verdict) c.end_source.ensures.others ∙ running)) c.end_source.ensures.others
    (c.end_source.ensures.taken (for_table first.table given) uuid texts) stands

pub returns-else-eq-clause-lacking : goal.returns-else-eq-clause-lacking
returns-else-eq-clause-lacking g c = λ memory given uuid first texts lacks. end_lacks given uuid first texts memory
    c.args.self.now c.end_source.new.self c.args.source c.end_source.ensures.others lacks

pub returns-then-eq-clause-keeps : goal.returns-then-eq-clause-keeps
returns-then-eq-clause-keeps g c = λ memory kept. alone_ended c.args.source memory kept c.args.self.now c.tell.new.self
    (ap (λ (x : InPlaceLoad). x.rounds) c.tell.ensures.others ∙ ap (λ (x : InPlaceLoad). x.rounds) c.end_source.ensures.others)

pub returns-else-eq-clause-keeps : goal.returns-else-eq-clause-keeps
returns-else-eq-clause-keeps g c = λ memory kept. alone_ended c.args.source memory kept c.args.self.now c.end_source.new.self
    (ap (λ (x : InPlaceLoad). x.rounds) c.end_source.ensures.others)
