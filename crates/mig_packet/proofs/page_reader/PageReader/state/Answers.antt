use Rattle.std.proofs.Common.{◌≡◌, ◌≢◌, ◌∙◌, true, false, refl, ap, sym, inl, inr}
use Rattle.std.specs.Prelude.{◌⊎◌}
use Rattle.mig_packet.specs.declared.state.ChannelState.TheVariants.{Reading}
use Rattle.mig_packet.specs.Paging.{PageHolder}
use Rattle.mig_packet.proofs.PagingState.{tells_closing, tells_found, state_told}
use Rattle.mig_packet.proofs.page_reader.PageReader.state.Goals as goal
use Rattle.mig_packet.proofs.page_reader.PageReader.state.Goals.{else-self-via-then-self+else-is_reading, else-self-via-else-self}

pub returns-then-is_reading-clause-reading : goal.returns-then-is_reading-clause-reading
returns-then-is_reading-clause-reading g c =
    let ended : c.args.self.now.ended ≡ true = ap (λ (r : PageHolder). r.ended) (sym c.self.view_is) ∙ c.if-self.true in
    tells_closing c.args.self.now c.state_at_end.result (c.if-is_reading.ensures.reading refl) ended c.state_at_end.ensures

pub returns-then-is_reading-clause-state : goal.returns-then-is_reading-clause-state
returns-then-is_reading-clause-state g c = state_told c.args.self.now c.state_at_end.result (returns-then-is_reading-clause-reading g c)

pub returns-else-self-clause-reading : goal.returns-else-self-clause-reading
returns-else-self-clause-reading g c =
    let other : (c.args.self.now.found ≢ Reading) ⊎ (c.args.self.now.ended ≡ false) = elim c.else-self.branch [
      | else-self-via-then-self+else-is_reading w ↦ inl (w.if-is_reading.ensures.other refl)
      | else-self-via-else-self w ↦ inr (ap (λ (r : PageHolder). r.ended) (sym c.self.view_is) ∙ w.if-self.false)
    ] in
    tells_found c.args.self.now c.self.inside.found other (ap (λ (r : PageHolder). r.found) c.self.view_is)

pub returns-else-self-clause-state : goal.returns-else-self-clause-state
returns-else-self-clause-state g c = state_told c.args.self.now c.self.inside.found (returns-else-self-clause-reading g c)
