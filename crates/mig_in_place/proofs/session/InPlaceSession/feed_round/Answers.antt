use Rattle.std.proofs.Common.{◌≡◌, refl, sym, subst, inl, inr}
use Rattle.std.proofs.lemmas.Bool.{false≢true}
use Rattle.mig_mem.specs.Image.{Image}
use Rattle.mig_answer.specs.declared.verdict.Verdict.TheVariants.{Running}
use Rattle.mig_answer.specs.Texts.{Texts}
use Rattle.mig_in_place.specs.Sources.{counts_of}
use Rattle.mig_in_place.specs.Session.{InPlaceLoad, Loading, Loads, StandsFor, LacksBehind}
use Rattle.mig_sources.specs.Sources.{Counts, HasSource}
use Rattle.mig_in_place.proofs.Feeding.{fed_none, counted_none, source_still}
use Rattle.mig_in_place.proofs.Takes.{loads_of}
use Rattle.mig_in_place.proofs.Turns.{lacks_failed, running_or_not, takes_none}
use Rattle.mig_in_place.proofs.session.InPlaceSession.feed_round.Goals as goal

pub returns-then-not-is_taking-clause-ok : goal.returns-then-not-is_taking-clause-ok
returns-then-not-is_taking-clause-ok g c = λ _ given uuid first texts stands.
    subst (λ (t : Texts). StandsFor given uuid first t (g.M.GuestTarget.image c.args.memory.now) c.args.self.now) (sym (fed_none c.args.source texts)) stands

pub returns-then-not-is_taking-clause-counts : goal.returns-then-not-is_taking-clause-counts
returns-then-not-is_taking-clause-counts g c = sym (counted_none c.args.source (counts_of c.args.self.now.sources))

pub returns-in-Ok-clause-ok : goal.returns-in-Ok-clause-ok
returns-in-Ok-clause-ok g c = λ no given uuid first texts stands.
    let f : Loading = record { given = given; uuid = uuid; first = first; texts = texts } in
    let running : c.args.self.now.verdict ≡ Running = c.if-not-is_taking.ensures.runs refl in
    c.in-Ok.ensures.stands no f (loads_of f (g.M.GuestTarget.image c.args.memory.now) c.args.self.now running stands)

pub returns-in-Ok-clause-judged : goal.returns-in-Ok-clause-judged
returns-in-Ok-clause-judged g c = λ yes given uuid first texts stands.
    let f : Loading = record { given = given; uuid = uuid; first = first; texts = texts } in
    let running : c.args.self.now.verdict ≡ Running = c.if-not-is_taking.ensures.runs refl in
    c.in-Ok.ensures.judged yes f (loads_of f (g.M.GuestTarget.image c.args.memory.now) c.args.self.now running stands)

pub returns-in-Err-clause-failed : goal.returns-in-Err-clause-failed
returns-in-Err-clause-failed g c =
    let i = c.self.inside in
    let s : InPlaceLoad =
    record {
      table = i.table;
      sources = record { main = i.main; channels = i.channels.items };
      round = i.round;
      rounds = i.rounds;
      base = i.base;
      named = i.named;
      verdict = i.verdict;
    } in
    let before : Image = g.M.GuestTarget.image c.args.memory.now in
    let later : Image = g.M.GuestTarget.image c.read_round.new.memory in
    let old : InPlaceLoad = c.args.self.now in
    let running : old.verdict ≡ Running = c.if-not-is_taking.ensures.runs refl in
    let loads : LacksBehind c.args.source c.args.piece.now (λ f. Loads f before old) old later s =
    subst (λ (x : InPlaceLoad). LacksBehind c.args.source c.args.piece.now (λ f. Loads f before old) old later x) (sym c.self.view_is) c.in-Err.ensures.lacks in
    lacks_failed c.args.source c.args.piece.now before old later s c.failed-self-inside.result c.failed-self-inside.ensures (record {
      taken = loads.taken;
      is_part = loads.is_part;
      has_counts = loads.has_counts;
      lacks = λ f stands. loads.lacks f (loads_of f before old running stands);
    })

pub returns-then-not-is_taking-clause-waits : goal.returns-then-not-is_taking-clause-waits
returns-then-not-is_taking-clause-waits g c = λ no lt. elim (running_or_not c.args.self.now.verdict) [
  | inr other ↦ inl other
  | inl running ↦ inr (λ given uuid first texts stands takes. false≢true
      ((c.if-not-is_taking.ensures.takes (g.M.GuestTarget.image c.args.memory.now) running given uuid first texts stands).1 takes))
]

pub returns-then-not-is_taking-clause-main : goal.returns-then-not-is_taking-clause-main
returns-then-not-is_taking-clause-main g c = λ main. inl refl

pub returns-in-Ok-clause-main : goal.returns-in-Ok-clause-main
returns-in-Ok-clause-main g c = λ main. inr (c.in-Ok.ensures.main main)

pub returns-in-Ok-clause-waits : goal.returns-in-Ok-clause-waits
returns-in-Ok-clause-waits g c = λ no lt.
    let new : InPlaceLoad = c.read_round.new.self in
    let has : HasSource (counts_of new.sources) c.args.source =
    subst (λ (x : Counts). HasSource x c.args.source) (sym c.in-Ok.ensures.counts)
    (source_still c.args.source c.in-Ok.found.0 (counts_of c.args.self.now.sources) c.requires.source) in
    elim (running_or_not new.verdict) [
      | inr other ↦ inl other
      | inl still ↦ inr (λ given uuid first texts stands takes.
          let f : Loading = record { given = given; uuid = uuid; first = first; texts = texts } in
          takes_none c.args.source f (g.M.GuestTarget.image c.read_round.new.memory) new
          (loads_of f (g.M.GuestTarget.image c.read_round.new.memory) new still stands) has (c.in-Ok.ensures.waits lt) takes)
    ]

pub returns-in-Ok-clause-settled : goal.returns-in-Ok-clause-settled
returns-in-Ok-clause-settled g c = λ other. absurd (other (c.if-not-is_taking.ensures.runs refl))

pub returns-in-Err-clause-runs : goal.returns-in-Err-clause-runs
returns-in-Err-clause-runs g c = c.if-not-is_taking.ensures.runs refl
