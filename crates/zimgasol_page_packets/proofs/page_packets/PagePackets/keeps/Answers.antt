use Rattle.std.proofs.Common.{rules, ◌≡◌, ◌∙◌, ap, length}
use Rattle.zimgasol_page_packets.specs.Passing.{keeps}
use Rattle.zimgasol_page_packets.proofs.Parting.{keeps_is}
use Rattle.zimgasol_page_packets.proofs.page_packets.PagePackets.keeps.Goals as goal

pub returns-in-Bytes : goal.returns-in-Bytes
returns-in-Bytes c =
    let len : c.len.result ≡ length c.self.inside.kept.items = search rules in
    keeps_is c.self.inside.next c.self.inside.given c.len.result c.self.inside.kept.items len c.in-Bytes.is ∙ ap keeps c.self.view_is
