use Rattle.std.proofs.Common.{◌∙◌, ℕ, List, refl, ap}
use Rattle.std.specs.Prelude.{Vec}
use Rattle.std.specs.declared.alloc.Global.{Global}
use Rattle.mig_c_calls.proofs.Drains.{refills_idle, refills_over}
use Rattle.mig_c_calls.proofs.multi.refill_main.Goals as goal

pub returns-in-Idle : goal.returns-in-Idle
returns-in-Idle c =
    refills_idle c.args.multi.now _ c.in-Idle.sender c.drain_main.new.self c.drain_main.new.bytes.items c.in-Idle.is refl
    (c.if-not-is_empty.ensures.0 refl) refl
    c.drain_main.ensures.counts c.drain_main.ensures.all c.drain_main.ensures.drained

pub returns-in-Over : goal.returns-in-Over
returns-in-Over c =
    let items : Vec ℕ Global → List ℕ = λ v. v.items in
    refills_over c.args.multi.now _ c.in-Over.streams _ c.in-Over.is refl (c.if-not-is_empty.ensures.0 refl)
    (ap items c.swap.ensures.x_after) (ap items c.swap.ensures.y_after ∙ c.clear.ensures.items) refl refl refl
