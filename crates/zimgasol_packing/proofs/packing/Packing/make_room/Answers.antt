use Rattle.std.proofs.Common.{rules, ◌≡◌, refl}
use Rattle.mig_packet.specs.PageSize.{IsPageSize, page_limit}
use Rattle.zimgasol_packing.proofs.Steps.{room_made}
use Rattle.zimgasol_packing.proofs.packing.Packing.make_room.Goals as goal

pub returns-clause-room : goal.returns-clause-room
returns-clause-room g c = λ begun pages is.
    let old = c.args.self.now in
    let size : IsPageSize old.main.table.page_size = search rules in
    let limit : c.page_limit-limit.result ≡ page_limit old.main.table.page_size = search rules in
    room_made g.F.Write.contents begun old c.send_batch.new.self _ pages c.args.block c.page_limit-limit.result size limit
    (c.if-takes.ensures.full (search rules)) c.in_ok-send_batch.ensures.sent refl refl refl refl refl is
