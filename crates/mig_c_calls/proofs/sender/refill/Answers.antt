use Rattle.std.proofs.Common.{refl, arith}
use Rattle.mig_c_calls.proofs.SenderSteps.{refills_same, refills_idle, refills_over, refills_open}
use Rattle.mig_c_calls.proofs.sender.refill.Goals as goal

pub returns-then-sender-len : goal.returns-then-sender-len
returns-then-sender-len c = refills_same c.args.sender.now (omega (arith, c.args.sender.now.drained.ok.0, c.len.ensures, c.if-sender-len.true))

pub returns-in-Idle : goal.returns-in-Idle
returns-in-Idle c =
    refills_idle c.args.sender.now _ c.in-Idle.writer c.drain_into.new.self c.in-Idle.is refl
    (omega (arith, c.args.sender.now.drained.ok.0, c.len.ensures, c.if-sender-len.false)) c.drain_into.ensures.table
    c.drain_into.ensures.all c.drain_into.ensures.drained

pub returns-in-Over : goal.returns-in-Over
returns-in-Over c =
    refills_over c.args.sender.now _ c.in-Over.text c.take_text.new.text c.in-Over.is refl
    (omega (arith, c.args.sender.now.drained.ok.0, c.len.ensures, c.if-sender-len.false)) c.take_text.ensures.none c.take_text.ensures.taken

pub returns-in-LeftOpen : goal.returns-in-LeftOpen
returns-in-LeftOpen c =
    refills_open c.args.sender.now _ c.in-LeftOpen.text c.take_text-in-LeftOpen.new.text c.in-LeftOpen.is refl
    (omega (arith, c.args.sender.now.drained.ok.0, c.len.ensures, c.if-sender-len.false)) c.take_text-in-LeftOpen.ensures.none
    c.take_text-in-LeftOpen.ensures.taken
