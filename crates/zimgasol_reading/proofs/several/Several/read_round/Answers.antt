use Rattle.std.proofs.Common.{rules, ◌≡◌, length, sym, subst}
use Rattle.std.proofs.lemmas.List.{with_items_is}
use Rattle.zimgasol_reading.specs.Loaded.{TakesOn}
use Rattle.zimgasol_reading.specs.Left.{main_left, channels_left}
use Rattle.zimgasol_reading.proofs.Consuming.{takes_both}
use Rattle.zimgasol_reading.proofs.several.Several.read_round.Goals as goal

pub returns-clause-takes : goal.returns-clause-takes
returns-clause-takes g c =
    let old = main_left (g.R.Read.remaining c.args.input.now) c.args.self.now.main in
    let new = main_left (g.R.Read.remaining c.read_round.new.input) c.read_round.new.self in
    let channels = channels_left g.F.Read.remaining c.args.self.now.channels.items in
    let items = c.read_channels.new.channels in
    let len : length items ≡ c.args.self.now.channels.len = search rules in
    let both = takes_both (record { main = old; channels = channels }) (record { main = new; channels = channels })
    (record { main = new; channels = channels_left g.F.Read.remaining c.read_channels.new.channels })
    c.args.load.now c.read_round.new.load c.read_channels.new.load
    (c.in_ok-read_round.ensures (record { main = old; channels = channels }))
    (subst (λ l. TakesOn (record { main = new; channels = channels_left g.F.Read.remaining l })
    (record { main = new; channels = channels_left g.F.Read.remaining c.read_channels.new.channels }) c.read_round.new.load c.read_channels.new.load)
    c.deref_mut.ensures.value (c.in_ok-read_channels.ensures.takes new)) in
    subst (λ l. TakesOn (record { main = old; channels = channels }) (record { main = new; channels = channels_left g.F.Read.remaining l })
    c.args.load.now c.read_channels.new.load) (sym (with_items_is c.args.self.now.channels items len)) both
