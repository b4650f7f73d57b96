use Rattle.std.proofs.Common.{refl, sym, ap, ◌∙◌, subst, ◌+◌, ◌-◌, length}
use Rattle.mig_packet.specs.Reader.{Reader, StepsOn, with_piece}
use Rattle.mig_packet.proofs.Standing.{fed_on, fed_past, not_settled}
use Rattle.mig_packet.proofs.reader.ChannelReader.feed.Goals as goal

pub returns-clause-stands : goal.returns-clause-stands
returns-clause-stands g c =
    let piece = c.args.piece.now in
    subst (λ (x : Reader). StepsOn (with_piece piece) c.args.self.now
    (record x { valid_up_to = c.saturating_sub-self-inside.result; fed = x.fed + length piece })) (sym c.self-2.view_is)
    (fed_on c.args.self.now c.read_on.new.self piece c.in_ok-left.left c.saturating_sub-self-inside.result
    (c.saturating_sub-self-inside.ensures ∙ ap (λ (x : Reader). x.fed + length piece - c.in_ok-left.left) c.self-2.view_is)
    (c.if-not-is_reading.ensures.reading refl)
    c.in_ok-left.ensures.ok c.in_ok-left.ensures.same.0 c.in_ok-left.ensures.same.1)

pub returns-then-not-is_reading-clause-stands : goal.returns-then-not-is_reading-clause-stands
returns-then-not-is_reading-clause-stands g c =
    let piece = c.args.piece.now in
    subst (λ (x : Reader). StepsOn (with_piece piece) c.args.self.now (record x { fed = x.fed + length piece })) (sym c.self.view_is)
    (fed_past c.args.self.now piece (c.if-not-is_reading.ensures.other refl))

pub returns-in_err-left-clause-settled : goal.returns-in_err-left-clause-settled
returns-in_err-left-clause-settled g c = λ given so_far s settled.
    absurd (not_settled c.args.self.now (c.if-not-is_reading.ensures.reading refl) given so_far s settled)
