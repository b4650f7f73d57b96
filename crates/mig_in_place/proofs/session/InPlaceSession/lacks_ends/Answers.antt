use Rattle.std.proofs.Common.{◌∙◌, sym, subst}
use Rattle.mig_load_types.specs.Settings.{for_table}
use Rattle.mig_in_place.specs.Session.{InPlaceLoad, Loads, HasAllRounds, MoreMayCome}
use Rattle.mig_in_place.proofs.AllIn.{all_in, packets_come, main_goes_on}
use Rattle.mig_in_place.proofs.session.InPlaceSession.lacks_ends.Goals as goal

pub returns-clause-all : goal.returns-clause-all
returns-clause-all g c = λ t f memory loads.
    let i = c.self.inside in
    let s : InPlaceLoad =
    record {
      table = i.table;
      sources = record { main = i.main; channels = i.channels.items };
      round = i.round;
      rounds = i.rounds;
      base = i.base;
      named = i.named;
      verdict = i.verdict;
    } in
    let mine : Loads f memory s = subst (λ (x : InPlaceLoad). Loads f memory x) (sym c.self.view_is) loads in
    subst (λ (x : InPlaceLoad). HasAllRounds (for_table f.first.table f.given) f.uuid f.first f.texts memory x.rounds) c.self.view_is
    (all_in f memory s c.status.result mine c.status.ensures.tells c.status.ensures.whole (sym c.is_clean.ensures ∙ t) (sym c.len.ensures ∙ c.if-len-ne0.false))

pub returns-clause-more : goal.returns-clause-more
returns-clause-more g c = λ t f memory loads.
    let i = c.self.inside in
    let s : InPlaceLoad =
    record {
      table = i.table;
      sources = record { main = i.main; channels = i.channels.items };
      round = i.round;
      rounds = i.rounds;
      base = i.base;
      named = i.named;
      verdict = i.verdict;
    } in
    let mine : Loads f memory s = subst (λ (x : InPlaceLoad). Loads f memory x) (sym c.self.view_is) loads in
    subst (λ (x : InPlaceLoad). MoreMayCome (for_table f.first.table f.given) f.uuid f.texts x.rounds) c.self.view_is
    (main_goes_on f memory s c.status.result mine c.status.ensures.tells (sym c.is_clean.ensures ∙ t))

pub returns-then-len-ne0-clause-more : goal.returns-then-len-ne0-clause-more
returns-then-len-ne0-clause-more g c = λ t f memory loads.
    let i = c.self.inside in
    let s : InPlaceLoad =
    record {
      table = i.table;
      sources = record { main = i.main; channels = i.channels.items };
      round = i.round;
      rounds = i.rounds;
      base = i.base;
      named = i.named;
      verdict = i.verdict;
    } in
    let mine : Loads f memory s = subst (λ (x : InPlaceLoad). Loads f memory x) (sym c.self.view_is) loads in
    subst (λ (x : InPlaceLoad). MoreMayCome (for_table f.first.table f.given) f.uuid f.texts x.rounds) c.self.view_is
    (packets_come f memory s mine (λ e. c.if-len-ne0.true (c.len.ensures ∙ e)))
