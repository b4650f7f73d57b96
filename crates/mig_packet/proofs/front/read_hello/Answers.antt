use Rattle.std.proofs.Common.{◌≡◌, ◌≤◌, length, Some, None, sym, ◌∙◌, arith}
use Rattle.mig_packet.specs.Hello.{hello_len}
use Rattle.mig_packet.proofs.Finding.{hello_at_front, begins_with_hello}
use Rattle.mig_packet.proofs.front.read_hello.Goals as goal

pub returns-in-None-clause-reads : goal.returns-in-None-clause-reads
returns-in-None-clause-reads c =
    let whole : hello_len ≤ length c.args.bytes.now = omega arith in
    hello_at_front c.args.uuid.now c.args.channels c.args.bytes.now whole (sym c.hello_fault.ensures ∙ c.in-None.is)

pub returns-in-Some-clause-found : goal.returns-in-Some-clause-found
returns-in-Some-clause-found c = λ front more id e is lt.
    absurd (let clash : None ≡ Some c.in-Some.fault =
    sym (begins_with_hello c.args.uuid.now c.args.channels id c.args.bytes.now front more e is lt) ∙ sym c.hello_fault.ensures ∙ c.in-Some.is in cc)
