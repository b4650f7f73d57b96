use Rattle.std.proofs.Common.{ℕ, ◌∙◌, List, ◌++◌, take, drop, sym, ap, subst, arith}
use Rattle.mig_stream.proofs.ZeroRecords.{tail_from}
use Rattle.mig_session.specs.Sources.{Waits, waiting_of, with_waiting}
use Rattle.mig_session.specs.Loading.{fed, Takes}
use Rattle.mig_session.proofs.FedSources.{on_ok, on_err}
use Rattle.mig_session.proofs.Settling.{takes_size, takes_there, takes_open, takes_few, takes_pushed, takes_fed, takes_alone, keeps_fed}
use Rattle.mig_session.proofs.taking.put.Goals as goal

pub returns-clause-ok : goal.returns-clause-ok
returns-clause-ok g c = on_ok c.push-2.result c.push-2.ensures.ok (λ is f takes room.
    subst (λ (w : Waits). Takes (fed c.args.source c.args.piece.now f) w c.args.load.now) (sym is)
    (takes_pushed f c.args.waiting.now c.args.load.now c.args.source c.args.piece.now (takes_size f c.args.waiting.now c.args.load.now takes) room takes))

pub returns-clause-err : goal.returns-clause-err
returns-clause-err g c = on_err c.push-2.result (λ f takes room.
    takes_alone (fed c.args.source c.args.piece.now f)
    (with_waiting c.args.source (waiting_of c.args.waiting.now c.args.source ++ c.args.piece.now) c.args.waiting.now) c.args.load.now
    (takes_size f c.args.waiting.now c.args.load.now takes)
    (takes_pushed f c.args.waiting.now c.args.load.now c.args.source c.args.piece.now (takes_size f c.args.waiting.now c.args.load.now takes) room takes))

pub take-requires-clause-source : goal.take-requires-clause-source
take-requires-clause-source g c = takes_there c.requires.0 c.args.waiting.now c.args.load.now c.args.source c.requires.1 c.requires.2.there

pub take-requires-clause-open : goal.take-requires-clause-open
take-requires-clause-open g c =
    takes_open c.requires.0 c.args.waiting.now c.args.load.now c.args.source c.requires.1 c.requires.2.there c.requires.2.is_open

pub take-requires-clause-room : goal.take-requires-clause-room
take-requires-clause-room g c =
    let few = takes_few c.requires.0 c.args.waiting.now c.args.load.now c.args.source c.requires.1 c.requires.2.there in
    omega (arith, few, c.requires.2.few)

pub returns-in_err-taken-clause-err : goal.returns-in_err-taken-clause-err
returns-in_err-taken-clause-err g c = on_err c.from_residual.result (λ f takes room.
    keeps_fed f c.args.waiting.now c.args.load.now c.take.new.self c.args.source c.args.piece.now room takes c.in_err-taken.ensures.err c.take.ensures.table
    (c.none_of.ensures.0 c.if-none_of.true))

pub returns-then-none_of-clause-ok : goal.returns-then-none_of-clause-ok
returns-then-none_of-clause-ok g c = on_ok c.push.result c.push.ensures.ok (λ is f takes room.
    let n : ℕ = c.in_ok-taken.taken in
    let piece : List ℕ = c.args.piece.now in
    let w : Waits = c.args.waiting.now in
    subst (λ (x : Waits). Takes (fed c.args.source piece f) x c.take.new.self)
    (sym (is ∙ ap (λ (l : List ℕ). with_waiting c.args.source (waiting_of w c.args.source ++ l) w) (tail_from piece n)))
    (takes_fed f w c.args.load.now c.take.new.self c.args.source piece n (takes_size f w c.args.load.now takes) room
    (c.none_of.ensures.0 c.if-none_of.true) c.in_ok-taken.ensures.ok c.take.ensures.table takes))

pub returns-then-none_of-clause-err : goal.returns-then-none_of-clause-err
returns-then-none_of-clause-err g c = on_err c.push.result (λ f takes room.
    let n : ℕ = c.in_ok-taken.taken in
    let piece : List ℕ = c.args.piece.now in
    let w : Waits = c.args.waiting.now in
    let size = takes_size f w c.args.load.now takes in
    takes_alone (fed c.args.source piece f) (with_waiting c.args.source (waiting_of w c.args.source ++ drop n piece) w) c.take.new.self size
    (takes_fed f w c.args.load.now c.take.new.self c.args.source piece n size room
    (c.none_of.ensures.0 c.if-none_of.true) c.in_ok-taken.ensures.ok c.take.ensures.table takes))
