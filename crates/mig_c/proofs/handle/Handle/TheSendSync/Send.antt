use denote.Param.Send.{IsSend}
use Rattle.mig_c.specs.contracts.handle.Handle.{the_row}
use Rattle.mig_c.proofs.Crosses.{handle_send}

-- a handle may be sent to another thread
pub send : IsSend the_row
send = handle_send
