use Rattle.std.proofs.Common.{◌≡◌, length, true, rules}
use Rattle.std.specs.Io.KnownBytes.{prepend_known}
use Rattle.mig_sources.specs.declared.source.Source.TheVariants as source
use Rattle.zimgasol_reading.proofs.Consuming.{keeps_same, of_both, takes_held, takes_ended}
use Rattle.zimgasol_reading.proofs.main_stream.MainStream.begin.Goals as goal

pub returns-then-not-is_over-clause-takes : goal.returns-then-not-is_over-clause-takes
returns-then-not-is_over-clause-takes g c = λ left over.
    let all : c.in_ok-taken.taken ≡ length c.args.self.now.held.items = search rules in
    takes_held source.Main left c.args.self.now.held.items _ c.in_ok-taken.taken c.args.load.now c.feed.new.self c.in_ok-taken.ensures.takes (search rules) all

pub returns-clause-takes : goal.returns-clause-takes
returns-clause-takes g c = λ left over.
    let all : c.in_ok-taken.taken ≡ length c.args.self.now.held.items = search rules in
    let yes : c.args.self.now.is_over ≡ true = search rules in
    of_both source.Main (prepend_known c.args.self.now.held.items left) left left c.args.load.now c.feed.new.self c.end.new.self
    (takes_held source.Main left c.args.self.now.held.items _ c.in_ok-taken.taken c.args.load.now c.feed.new.self c.in_ok-taken.ensures.takes
    (search rules) all)
    (takes_ended source.Main left left c.feed.new.self c.end.new.self c.end.ensures (keeps_same left) (over yes))
