use Rattle.std.proofs.Common.{◌∙◌, take, sym, ap, subst, arith}
use Rattle.mig_in_place.specs.Sources.{KeptSources, counts_of}
use Rattle.mig_in_place.specs.Session.{InPlaceLoad, TakesNoMore, with_bytes}
use Rattle.mig_in_place.proofs.Midway.{any_err}
use Rattle.mig_in_place.proofs.session.InPlaceSession.read_round.Goals as goal

pub returns-clause-stands : goal.returns-clause-stands
returns-clause-stands g c = λ no f loads.
    c.in_ok-judged.ensures.stands no (with_bytes c.args.source (take c.in_ok-count.count c.args.piece.now) f) (g.M.GuestTarget.image c.read.new.memory)
    (c.in_ok-count.ensures.read f loads)

pub returns-clause-judged : goal.returns-clause-judged
returns-clause-judged g c = λ yes f loads.
    c.in_ok-judged.ensures.judged yes (with_bytes c.args.source (take c.in_ok-count.count c.args.piece.now) f) (g.M.GuestTarget.image c.read.new.memory)
    (c.in_ok-count.ensures.read f loads)

pub returns-in_err-judged-clause-lacks : goal.returns-in_err-judged-clause-lacks
returns-in_err-judged-clause-lacks g c = any_err c.from_residual-in_err-judged.result (record {
  taken = c.in_ok-count.count;
  is_part = c.in_ok-count.ensures.taken;
  has_counts = ap (λ (x : InPlaceLoad). counts_of x.sources) c.judge_round.ensures.others ∙ c.in_ok-count.ensures.counts;
  lacks = λ f loads. (
    c.in_ok-count.count,
    omega arith,
    c.in_err-judged.ensures.lacks (with_bytes c.args.source (take c.in_ok-count.count c.args.piece.now) f) (g.M.GuestTarget.image c.read.new.memory)
        (c.in_ok-count.ensures.read f loads),
  );
})

pub returns-clause-waits : goal.returns-clause-waits
returns-clause-waits g c = λ below.
    subst (λ (x : KeptSources). TakesNoMore c.args.source x) (sym (ap (λ (x : InPlaceLoad). x.sources) c.judge_round.ensures.others))
    (c.in_ok-count.ensures.waits below)
