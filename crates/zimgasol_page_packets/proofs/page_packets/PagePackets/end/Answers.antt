use Rattle.std.proofs.Common.{◌∙◌, ap, sym, drop, []}
use Rattle.zimgasol_page_packets.specs.Parted.{Parted}
use Rattle.zimgasol_page_packets.specs.Passing.{Passing, to_come, part_next, with_counts}
use Rattle.zimgasol_page_packets.proofs.Parting.{end_is, end_waits}
use Rattle.zimgasol_page_packets.proofs.page_packets.PagePackets.end.Goals as goal

pub returns-clause-waits : goal.returns-clause-waits
returns-clause-waits c =
    end_waits (drop c.self.inside.given c.self.inside.kept.items)
    ∙ sym (ap (λ (p : Parted). p.given)
    (end_is c.self.inside.page_size c.self.inside.given c.self.inside.next c.self.inside.kept.items c.self.invariant.is_part))
    ∙ ap (λ (p : Passing). (part_next p.page_size p.next p.kept []).given) c.self.view_is

pub returns-clause-to_come : goal.returns-clause-to_come
returns-clause-to_come c =
    ap (λ (p : Parted). with_counts c.self.inside.passed_over.packets c.self.inside.passed_over.bytes p)
    (sym (end_is c.self.inside.page_size c.self.inside.given c.self.inside.next c.self.inside.kept.items c.self.invariant.is_part))
    ∙ ap (λ (p : Passing). to_come p []) c.self.view_is
