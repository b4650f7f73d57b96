use Rattle.std.proofs.Common.{ℕ, List, ◌∙◌, sym, subst}
use Rattle.std.specs.Prelude.{OnOk}
use Rattle.mig_apart.specs.Claims.{ApartLoad}
use Rattle.mig_uses.specs.Straight.{HasClaimed, GoesOn}
use Rattle.mig_uses.proofs.StraightTurns.{goes_both, goes_claimed, claimed_now, goes_ended}
use Rattle.mig_uses.proofs.straight.take_turn.Goals as goal

pub returns-then-is_empty-clause-goes : goal.returns-then-is_empty-clause-goes
returns-then-is_empty-clause-goes g c = goes_ended c.args.source
    (g.M.GuestTarget.image c.args.memory.now) c.args.load.now c.end.new.self c.end.ensures.table c.end.ensures.claimed c.end.ensures.steps

pub take_packet-requires-clause-claimed : goal.take_packet-requires-clause-claimed
take_packet-requires-clause-claimed g c =
    subst (λ (bytes : List ℕ). HasClaimed c.in-Pages.block bytes c.claim.new.self) (c.deref.ensures.value ∙ sym c.deref-in-Pages.ensures.value)
    (claimed_now c.in-Pages.block c.deref.result.now c.args.load.now c.claim.new.self c.claim.ensures.load
    c.in-Pages.ensures.claims.1 c.in-Pages.ensures.claims.2)

pub returns-in_ok-take_packet-in-Pages-clause-goes : goal.returns-in_ok-take_packet-in-Pages-clause-goes
returns-in_ok-take_packet-in-Pages-clause-goes g c =
    let image = g.M.GuestTarget.image in
    let old : ApartLoad = c.args.load.now in
    let mid : ApartLoad = c.claim.new.self in
    goes_both (image c.args.memory.now) (image c.args.memory.now) (image c.take_packet.new.memory) old mid c.take_packet.new.load
    (goes_claimed (image c.args.memory.now) old mid _ c.claim.ensures.load c.in-Pages.ensures.claims.2) c.take_packet.ensures.goes

pub returns-in-Feed-clause-goes : goal.returns-in-Feed-clause-goes
returns-in-Feed-clause-goes g c =
    let image = g.M.GuestTarget.image in
    subst (λ (s : ApartLoad). OnOk c.feed-in-Feed.result
    (GoesOn (image c.args.memory.now) s (image c.feed-in-Feed.new.memory) c.feed-in-Feed.new.load)) c.in-Feed.ensures.claims c.feed-in-Feed.ensures.goes
