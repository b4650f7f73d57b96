use Rattle.std.proofs.Common.{List, [], ℕ, ◌≡◌, ◌++◌, ◌∙◌, ap, append-nil, subst, sym}
use Rattle.std.specs.Prelude.{Vec}
use Rattle.mig_mem.specs.Image.{Image}
use Rattle.mig_send.specs.ChannelWork.{ChannelWork, HasPackedTo}
use Rattle.mig_send.specs.Copies.{HasPagesPacked, HasPackedEach}
use Rattle.mig_send.proofs.channel_worker.ChannelWorker.drain_into.Goals as goal

pub returns-clause-packed_each : goal.returns-clause-packed_each
returns-clause-packed_each g c =
    let old = c.self.inside in
    let text = c.swap.new.x.items in
    let bytes = c.swap.new.y.items in
    let none : text ≡ [] = ap (λ (v : Vec ℕ _). v.items) c.swap.ensures.x_after ∙ c.clear.ensures.items in
    let all : bytes ≡ old.text.items = ap (λ (v : Vec ℕ _). v.items) c.swap.ensures.y_after in
    subst (λ (work : ChannelWork). (memories : ℕ → Image) (before drained : List ℕ) → HasPackedEach memories before (drained ++ work.text) work
    → (image : Image) → image.table ≡ old.shared.value.table → HasPagesPacked image old.shared.value memories old.hand
    → HasPackedTo image old.shared.value before ((drained ++ bytes) ++ text) old.hand) c.self.view_is
    (λ memories before drained packed image same pages.
    subst (λ (whole : List ℕ). HasPackedTo image old.shared.value before whole old.hand)
    (ap (λ (l : List ℕ). drained ++ l) (sym all) ∙ sym (append-nil (drained ++ bytes)) ∙ ap (λ (l : List ℕ). (drained ++ bytes) ++ l) (sym none))
    (packed image same pages))
