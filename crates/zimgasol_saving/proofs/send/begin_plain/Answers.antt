use Rattle.std.proofs.Common.{refl}
use Rattle.zimgasol_saving.proofs.Streams.{begun_plain}
use Rattle.zimgasol_saving.proofs.send.begin_plain.Goals as goal

pub returns : goal.returns
returns c = begun_plain c.args.table.now _ c.in_ok-sender.ensures.table refl c.in_ok-sender.ensures.none
