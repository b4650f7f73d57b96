use Rattle.std.proofs.Common.{sym, subst}
use Rattle.mig_mem.specs.Image.{Image}
use Rattle.mig_sources.specs.declared.source.Source.{Source}
use Rattle.mig_in_place.specs.Session.{InPlaceLoad, Loads, LacksBehind}
use Rattle.mig_in_place.proofs.Feeding.{none_behind, on_err}
use Rattle.mig_in_place.proofs.Midway.{any_err}
use Rattle.mig_in_place.proofs.Told.{lacks_memory}
use Rattle.mig_in_place.proofs.session.InPlaceSession.read.Goals as goal

pub returns-in_err-read_main-in-Main-clause-lacks : goal.returns-in_err-read_main-in-Main-clause-lacks
returns-in_err-read_main-in-Main-clause-lacks g c =
    let memory : Image = g.M.GuestTarget.image c.args.memory.now in
    let s : InPlaceLoad = c.args.self.now in
    let err = c.in_err-read_main-in-Main.ensures.lacks in
    any_err c.from_residual.result (subst (λ (x : InPlaceLoad). LacksBehind c.args.source c.args.piece.now
    (λ f. Loads f memory s) s (g.M.GuestTarget.image c.read_main.new.memory) x) (sym err.0)
    (subst (λ (m : Image). LacksBehind c.args.source c.args.piece.now (λ f. Loads f memory s) s m s) (sym err.1)
    (none_behind c.args.source c.args.piece.now (λ f. Loads f memory s) memory s (λ f loads. lacks_memory f memory s loads))))

pub returns-in-Channel-clause-lacks : goal.returns-in-Channel-clause-lacks
returns-in-Channel-clause-lacks g c = on_err c.read_channel.result c.read_channel.ensures.lacks (λ lacks.
    let memory : Image = g.M.GuestTarget.image c.args.memory.now in
    let s : InPlaceLoad = c.args.self.now in
    subst (λ (x : Source). LacksBehind x c.args.piece.now (λ f. Loads f memory s) s
    (g.M.GuestTarget.image c.read_channel.new.memory) c.read_channel.new.self) (sym c.in-Channel.is) lacks)
