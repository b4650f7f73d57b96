use Rattle.std.proofs.Common.{◌∙◌}
use Rattle.std.specs.List.{concat}
use Rattle.mig_uses.proofs.Pumping.{all_read, loads_both}
use Rattle.mig_uses.proofs.two_readers.load_from.Goals as goal

pub returns : goal.returns
returns g c = λ main_text channel_text has_main has_channel.
    let p = c.in_ok-pump.ensures.pumped in
    let q = c.in_ok-pump-2.ensures.pumped in
    loads_both c.args.page_size c.args.uuid.now c.args.limit main_text channel_text p.0 q.0 c.in_ok-pump.field-0 c.in_ok-pump-2.field-0
    c.in_ok-session.session c.pump.new.session c.pump-2.new.session c.in_ok-session.ensures.stands p.3.stands q.3.stands
    (all_read main_text (concat p.0) _ _ (c.new-2.ensures.bytes ∙ has_main) p.2.are_given p.2.is_at_end)
    (all_read channel_text (concat q.0) _ _ (c.new-3.ensures.bytes ∙ has_channel) q.2.are_given q.2.is_at_end)
