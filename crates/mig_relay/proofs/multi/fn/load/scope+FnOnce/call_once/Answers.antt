use Rattle.mig_relay.proofs.multi.fn.load.scope+FnOnce.call_once.Goals as goal

-- what its threads ask of the allocator, the handle and the gate holds of them as the closure has
-- them
pub scope-requires : goal.scope-requires
scope-requires g c =
    let asked = c.requires.1.1.1.1 in let bounds = asked.1 in (
      record { owned = bounds.0.owned; leaving = bounds.0.leaving },
      (
        record { shared = bounds.1.shared },
        (record { shared = bounds.2.shared }, (record { shared = bounds.3.shared }, (bounds.4, (c.requires.1.1.1.0, asked.0)))),
      ),
    )
