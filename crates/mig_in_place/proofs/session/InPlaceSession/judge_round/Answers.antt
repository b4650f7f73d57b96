use Rattle.std.proofs.Common.{ℕ, ◌≡◌, ◌≢◌, ◌∙◌, sym, ap, subst, refl, rules}
use Rattle.mig_answer.specs.declared.verdict.Verdict.TheVariants.{Running}
use Rattle.mig_in_place.specs.Session.{InPlaceLoad, Loads, Stands, IsDue, PassesAt, Lacks}
use Rattle.mig_in_place.proofs.Feeding.{if_ok, on_err}
use Rattle.mig_in_place.proofs.Told.{lacks_memory}
use Rattle.mig_in_place.proofs.session.InPlaceSession.judge_round.Goals as goal
use Rattle.mig_in_place.proofs.session.InPlaceSession.judge_round.Goals.{then-ne-via-then-ne, then-ne-via-else-ne+then-tell}

pub returns-then-ne-clause-stands : goal.returns-then-ne-clause-stands
returns-then-ne-clause-stands g c = λ _ f memory unsettled.
    elim c.then-ne.branch [
      | then-ne-via-then-ne w ↦
          let judged : c.args.self.now.verdict ≢ Running = search rules in
          subst (λ (x : InPlaceLoad). Stands f memory x) (sym w.self-is) (unsettled.stands judged)
      | then-ne-via-else-ne+then-tell w ↦
          let running : c.args.self.now.verdict ≡ Running = search rules in
          subst (λ (x : InPlaceLoad). Stands f memory x) (sym w.self-is) (w.if-tell.ensures.told refl f memory (unsettled.runs running))
    ]

pub returns-clause-stands : goal.returns-clause-stands
returns-clause-stands g c = if_ok c.judge.result c.judge.ensures.refused (λ lawful refused no f memory unsettled.
    let running : c.args.self.now.verdict ≡ Running = search rules in
    let loads : Loads f memory c.args.self.now = unsettled.runs running in
    let due : IsDue f c.args.self.now.rounds = c.if-tell.ensures.due refl f memory loads in
    let same : c.tell.new.self ≡ c.args.self.now = c.if-tell.ensures.same refl in
    refused no f memory (subst (λ (x : InPlaceLoad). Loads f memory x) (sym same) loads) (subst (λ (x : InPlaceLoad). IsDue f x.rounds) (sym same) due))

pub returns-clause-judged : goal.returns-clause-judged
returns-clause-judged g c = if_ok c.judge.result c.judge.ensures.lawful (λ lawful law yes f memory unsettled.
    let running : c.args.self.now.verdict ≡ Running = search rules in
    let loads : Loads f memory c.args.self.now = unsettled.runs running in
    let due : IsDue f c.args.self.now.rounds = c.if-tell.ensures.due refl f memory loads in
    let same : c.tell.new.self ≡ c.args.self.now = c.if-tell.ensures.same refl in
    let due_then : IsDue f c.tell.new.self.rounds = subst (λ (x : InPlaceLoad). IsDue f x.rounds) (sym same) due in
    let judged = law yes f memory (subst (λ (x : InPlaceLoad). Loads f memory x) (sym same) loads) due_then in
    let rounds : c.judge.new.self.rounds ≡ c.tell.new.self.rounds = ap (λ (x : InPlaceLoad). x.rounds) c.judge.ensures.others in
    record {
      loads = judged.0;
      is_due = subst (λ (n : ℕ). IsDue f n) (sym rounds) due_then;
      passes = subst (λ (n : ℕ). PassesAt f n) (sym rounds) judged.1;
    })

pub returns-clause-lacks : goal.returns-clause-lacks
returns-clause-lacks g c = on_err c.judge.result c.judge.ensures.err (λ same f memory unsettled.
    let running : c.args.self.now.verdict ≡ Running = search rules in
    let both : c.judge.new.self ≡ c.args.self.now = same ∙ c.if-tell.ensures.same refl in
    subst (λ (x : InPlaceLoad). Lacks f memory x) (sym both) (lacks_memory f memory c.args.self.now (unsettled.runs running)))
