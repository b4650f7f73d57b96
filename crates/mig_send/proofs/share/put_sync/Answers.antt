use Rattle.std.proofs.Common.{sym, subst}
use Rattle.mig_packet.specs.PageSize.{IsPageSize}
use Rattle.mig_send.proofs.share.put_sync.Goals as goal

pub put_packet-requires-clause-page_size : goal.put_packet-requires-clause-page_size
put_packet-requires-clause-page_size g c = subst IsPageSize (sym c.page_size.ensures) c.keeps_limits.ensures.has_page_size
