use Rattle.std.proofs.Common.{ℕ, ◌∙◌, List, length, take, drop, sym, ap, subst, arith}
use Rattle.std.specs.Prelude.{IsFalse}
use Rattle.mig_sources.specs.declared.counts.Count.{Count}
use Rattle.mig_sources.specs.Sources.{feed_step}
use Rattle.mig_in_place.specs.Session.{text_of}
use Rattle.mig_session.specs.Sources.{Waits, waiting_of, with_waiting}
use Rattle.mig_session.specs.Loading.{Feeding, Takes, TakesOn, KeepsAlone}
use Rattle.mig_session.proofs.FedSources.{on_err}
use Rattle.mig_session.proofs.Settling.{takes_there, takes_few, taken_open, takes_waiting, takes_ended, keeps_waiting}
use Rattle.mig_session.proofs.taking.take_waiting.Goals as goal

pub ended-requires : goal.ended-requires
ended-requires g c = takes_there c.requires.streams.0 c.args.waiting.now c.args.load.now c.args.source c.requires.streams.1 c.requires.streams.2.there

pub takes-requires : goal.takes-requires
takes-requires g c = takes_there c.requires.streams.0 c.args.waiting.now c.args.load.now c.args.source c.requires.streams.1 c.requires.streams.2.there

pub take-requires-clause-source : goal.take-requires-clause-source
take-requires-clause-source g c = takes_there c.requires.streams.0 c.args.waiting.now c.args.load.now c.args.source c.requires.streams.1
    c.requires.streams.2.there

pub take-requires-clause-room : goal.take-requires-clause-room
take-requires-clause-room g c =
    let few = takes_few c.requires.streams.0 c.args.waiting.now c.args.load.now c.args.source c.requires.streams.1 c.requires.streams.2.there in
    let one = ap (λ (n : Count). n.fed) c.requires.streams.2.is_count in
    omega (arith, few, one, ap (λ (l : List ℕ). length l) c.of.ensures, c.requires.few)

pub returns-in_err-taken-clause-err : goal.returns-in_err-taken-clause-err
returns-in_err-taken-clause-err g c = on_err c.from_residual.result (λ f takes counted.
    let open_ : IsFalse (text_of takes.taken c.args.source).ended =
    taken_open f c.args.waiting.now c.args.load.now c.args.source takes counted.there (sym c.ended.ensures ∙ c.if-ended.false) in
    keeps_waiting f c.args.waiting.now c.args.load.now c.take.new.self c.args.source counted.there takes
    (subst (λ (l : List ℕ). KeepsAlone
    (feed_step c.args.source l) c.args.load.now c.take.new.self) c.of.ensures c.in_err-taken.ensures.err) c.take.ensures.table open_)

pub returns-then-none_of-clause-ok : goal.returns-then-none_of-clause-ok
returns-then-none_of-clause-ok g c = λ f takes counted.
    let n : ℕ = c.in_ok-taken.taken in
    let w : Waits = c.args.waiting.now in
    let open_ : IsFalse (text_of takes.taken c.args.source).ended =
    taken_open f w c.args.load.now c.args.source takes counted.there (sym c.ended.ensures ∙ c.if-ended.false) in
    let on : TakesOn (feed_step c.args.source (take n (waiting_of w c.args.source))) c.args.load.now c.take.new.self =
    subst (λ (l : List ℕ). TakesOn (feed_step c.args.source (take n l)) c.args.load.now c.take.new.self) c.of.ensures c.in_ok-taken.ensures.ok in
    let next : Takes f c.skip.new.self c.take.new.self =
    subst (λ (x : Waits). Takes f x c.take.new.self) (sym c.skip.ensures)
    (takes_waiting f w c.args.load.now c.take.new.self c.args.source n counted.there on c.take.ensures.table takes open_) in
    takes_ended f c.skip.new.self c.take.new.self c.end.new.self c.args.source counted.there (c.none_of.ensures.0 c.if-none_of.true)
    (sym (ap (λ (x : Count). x.ended) counted.is_count) ∙ c.if-count.true) c.end.ensures.ok c.end.ensures.table next

pub returns-else-count-clause-ok : goal.returns-else-count-clause-ok
returns-else-count-clause-ok g c = λ f takes counted.
    let n : ℕ = c.in_ok-taken.taken in
    let w : Waits = c.args.waiting.now in
    let open_ : IsFalse (text_of takes.taken c.args.source).ended =
    taken_open f w c.args.load.now c.args.source takes counted.there (sym c.ended.ensures ∙ c.if-ended.false) in
    let on : TakesOn (feed_step c.args.source (take n (waiting_of w c.args.source))) c.args.load.now c.take.new.self =
    subst (λ (l : List ℕ). TakesOn (feed_step c.args.source (take n l)) c.args.load.now c.take.new.self) c.of.ensures c.in_ok-taken.ensures.ok in
    subst (λ (x : Waits). Takes f x c.take.new.self) (sym c.skip.ensures)
    (takes_waiting f w c.args.load.now c.take.new.self c.args.source n counted.there on c.take.ensures.table takes open_)

pub end-requires : goal.end-requires
end-requires g c =
    let f : Feeding = c.requires.streams.0 in
    let takes = c.requires.streams.1 in
    let counted = c.requires.streams.2 in
    let n : ℕ = c.in_ok-taken.taken in
    let w : Waits = c.args.waiting.now in
    let open_ : IsFalse (text_of takes.taken c.args.source).ended =
    taken_open f w c.args.load.now c.args.source takes counted.there (sym c.ended.ensures ∙ c.if-ended.false) in
    let on : TakesOn (feed_step c.args.source (take n (waiting_of w c.args.source))) c.args.load.now c.take.new.self =
    subst (λ (l : List ℕ). TakesOn (feed_step c.args.source (take n l)) c.args.load.now c.take.new.self) c.of.ensures c.in_ok-taken.ensures.ok in
    takes_there f (with_waiting c.args.source (drop n (waiting_of w c.args.source)) w) c.take.new.self c.args.source
    (takes_waiting f w c.args.load.now c.take.new.self c.args.source n counted.there on c.take.ensures.table takes open_) counted.there
