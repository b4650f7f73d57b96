use Rattle.std.proofs.Common.{sym, ◌∙◌, arith}
use Rattle.mig_packet.proofs.Within.{read_within}
use Rattle.mig_packet.proofs.front.read_packet_with.Goals as goal

pub returns : goal.returns
returns c =
    read_within c.args.page_size c.args.room c.args.bytes.now c.read_judged.result c.read_judged.ensures (omega arith)
    (sym c.head_fault_within.ensures ∙ c.in_default.is)
