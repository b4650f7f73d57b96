use Rattle.mig_c_calls.proofs.Heads.{refuses_head, gives_head}
use Rattle.mig_c_calls.proofs.sending.HeldWorker.head.Goals as goal

pub returns-in-Some : goal.returns-in-Some
returns-in-Some c =
    refuses_head c.args.zeros.now c.in-Some.status c.args.written.now c.args.out.now c.args.self.now c.refill.new.held c.refill.ensures c.in-Some.ensures.some

pub returns-in-None : goal.returns-in-None
returns-in-None c =
    let told = c.in-None.ensures.none in
    gives_head c.args.zeros.now c.give_head.result c.args.written.now c.give_head.new.written c.args.out.now c.give_head.new.out
    c.args.self.now c.refill.new.held _ c.refill.ensures told.0 told.1
    c.give_head.auto.out c.give_head.ensures
