use Rattle.std.proofs.Common.{◌≡◌, ◌∙◌, true, false, sym, subst}
use Rattle.mig_load_types.specs.Settings.{main_of, for_table}
use Rattle.mig_in_place.specs.Session.{InPlaceLoad, Loading, HaveTaken}
use Rattle.mig_in_place.proofs.Refused.{stands_found}
use Rattle.mig_in_place.proofs.session.InPlaceSession.closed_at.Goals as goal

pub returns-then-lacks_memory-clause-stands : goal.returns-then-lacks_memory-clause-stands
returns-then-lacks_memory-clause-stands g c = λ memory given uuid first texts stands.
    let f : Loading = record { given = given; uuid = uuid; first = first; texts = texts } in
    absurd (stands_found f memory c.args.self.now c.args.self.now.rounds stands (c.lacks_memory.ensures.0 c.if-lacks_memory.true))

pub returns-clause-stands : goal.returns-clause-stands
returns-clause-stands g c = λ memory given uuid first texts stands.
    let i = c.self.inside in
    let s : InPlaceLoad =
    record {
      table = i.table;
      sources = record { main = i.main; channels = i.channels.items };
      round = i.round;
      rounds = i.rounds;
      base = i.base;
      named = i.named;
      verdict = i.verdict;
    } in
    let mine : HaveTaken (for_table first.table given) uuid texts s.sources =
    subst (λ (x : InPlaceLoad). HaveTaken (for_table first.table given) uuid texts x.sources) (sym c.self.view_is) stands.have_taken in
    c.closed_at.ensures (main_of (for_table first.table given)) mine.rounds texts.main mine.main

pub returns-clause-lacking : goal.returns-clause-lacking
returns-clause-lacking g c = λ memory given uuid first texts lacks.
    let refused : c.lacks_memory.result ≡ true = c.lacks_memory.ensures.1 lacks.is_without.has_verdict in
    let found : c.lacks_memory.result ≡ false = c.if-lacks_memory.false in
    absurd (let clash : true ≡ false = sym refused ∙ found in cc)
