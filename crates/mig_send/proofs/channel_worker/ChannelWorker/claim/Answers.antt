use Rattle.std.proofs.Common.{List, ℕ, ◌≡◌, subst}
use Rattle.mig_mem.specs.Image.{Image}
use Rattle.mig_send.specs.ChannelWork.{RoundTerms, ChannelWork, HasPacked, HasPackedTo, HasClaimed}
use Rattle.mig_send.specs.Copies.{HasPagesPacked, HasPackedEach}
use Rattle.mig_send.proofs.Stepping.{claimed_packed}
use Rattle.mig_send.proofs.Copies.{claims_each}
use Rattle.mig_send.proofs.channel_worker.ChannelWorker.claim.Goals as goal

pub returns-clause-packed : goal.returns-clause-packed
returns-clause-packed g c =
    let old = c.self.inside in
    let new = c.claim_in.new in
    let has = subst (λ (terms : RoundTerms). HasClaimed terms.deal old.hand new.hand) c.deref.ensures c.claim_in.ensures.claimed in
    subst (λ (work : ChannelWork). (image : Image) (before whole : List ℕ) → HasPacked image before whole work
    → HasPackedTo image old.shared.value before whole new.hand) c.self.view_is
    (λ image before whole packed. claimed_packed image old.shared.value before whole old.hand new.hand has packed)

pub returns-clause-packed_each : goal.returns-clause-packed_each
returns-clause-packed_each g c =
    let old = c.self.inside in
    let new = c.claim_in.new in
    let has = subst (λ (terms : RoundTerms). HasClaimed terms.deal old.hand new.hand) c.deref.ensures c.claim_in.ensures.claimed in
    subst (λ (work : ChannelWork). (memories : ℕ → Image) (before whole : List ℕ) → HasPackedEach memories before whole work
    → (image : Image) → image.table ≡ old.shared.value.table → HasPagesPacked image old.shared.value memories new.hand
    → HasPackedTo image old.shared.value before whole new.hand) c.self.view_is
    (λ memories before whole packed. claims_each memories old.shared.value before whole old.hand new.hand has packed)
