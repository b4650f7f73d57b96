use Rattle.std.proofs.Common.{sym, subst}
use Rattle.mig_packet.specs.PageSize.{IsPageSize}
use Rattle.mig_relay.specs.declared.log.ChannelText.{ChannelText}
use Rattle.mig_relay.proofs.InOrder.{forks}
use Rattle.mig_relay.proofs.queue.cut.Goals as goal

pub another-requires-clause-rule : goal.another-requires-clause-rule
another-requires-clause-rule g c =
    forks _ _ _ (subst (λ (s : ChannelText). IsPageSize s.page_size) (sym c.requires.source) c.requires.page_size) c.requires.first
