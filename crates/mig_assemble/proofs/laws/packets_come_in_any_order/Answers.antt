use Rattle.mig_assemble.proofs.OrderFree.{any_order}
use Rattle.mig_assemble.proofs.laws.packets_come_in_any_order.Goals as goal

pub returns : goal.returns
returns c = any_order
