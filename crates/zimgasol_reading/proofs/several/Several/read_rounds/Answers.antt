use Rattle.std.proofs.Common.{sym, subst}
use Rattle.zimgasol_reading.specs.Consumed.{Bytes}
use Rattle.zimgasol_reading.specs.Left.{sources_left}
use Rattle.zimgasol_reading.specs.Loaded.{LoadInto, TakesOn}
use Rattle.zimgasol_reading.proofs.Consuming.{takes_none, takes_both}
use Rattle.zimgasol_reading.proofs.Answering.{asked_none, asked_both}
use Rattle.zimgasol_reading.proofs.several.Several.read_rounds.Goals as goal

pub rounds-init : goal.rounds-init
rounds-init g c = (
  takes_none
      (sources_left g.F.Read.remaining (g.R.Read.remaining c.args.input.now) c.args.self.now) c.args.load.now,
  asked_none c.args.self.now,
)

pub rounds-preserved : goal.rounds-preserved
rounds-preserved g c =
    let start = sources_left g.F.Read.remaining (g.R.Read.remaining c.args.input.now) c.args.self.now in (
      subst (λ (l : LoadInto). TakesOn start
          (sources_left g.F.Read.remaining (g.R.Read.remaining c.read_round.new.input) c.advance.new.self) c.args.load.now l) (sym c.advance.ensures.load)
          (subst (λ (b : Bytes). TakesOn start b c.args.load.now c.read_round.new.load)
          (sym (c.advance.ensures.left (g.R.Read.remaining c.read_round.new.input)))
          (takes_both start
          (sources_left g.F.Read.remaining (g.R.Read.remaining c.rounds.input) c.rounds.self)
          (sources_left g.F.Read.remaining (g.R.Read.remaining c.read_round.new.input) c.read_round.new.self)
          c.args.load.now c.rounds.load c.read_round.new.load c.rounds.invariant.0 c.in_ok-read_round.ensures.takes)),
      asked_both c.args.self.now c.read_round.new.self c.advance.new.self
          (asked_both c.args.self.now c.rounds.self c.read_round.new.self c.rounds.invariant.1 c.in_ok-read_round.ensures.asked) c.advance.ensures.asked,
    )

pub returns-then-ne-clause-takes : goal.returns-then-ne-clause-takes
returns-then-ne-clause-takes g c =
    takes_both (sources_left g.F.Read.remaining (g.R.Read.remaining c.args.input.now) c.args.self.now)
    (sources_left g.F.Read.remaining (g.R.Read.remaining c.rounds.input) c.rounds.self)
    (sources_left g.F.Read.remaining (g.R.Read.remaining c.read_round.new.input) c.read_round.new.self)
    c.args.load.now c.rounds.load c.read_round.new.load c.rounds.invariant.0 c.in_ok-read_round.ensures.takes

pub returns-then-ne-clause-asked : goal.returns-then-ne-clause-asked
returns-then-ne-clause-asked g c = asked_both c.args.self.now c.rounds.self c.read_round.new.self c.rounds.invariant.1 c.in_ok-read_round.ensures.asked
