use Rattle.std.proofs.Common.{List, ℕ, ◌≡◌, ◌++◌, ◌∙◌, refl, sym, ap, subst}
use Rattle.std.specs.Prelude.{length}
use Rattle.mig_mem.specs.Image.{Image}
use Rattle.mig_mem.specs.RamTable.{RamTable}
use Rattle.mig_mem.specs.Lent.{lent_bytes}
use Rattle.mig_send.specs.ChannelWork.{RoundTerms, ChannelWork, HasPackedTo, HasClaimed, IsStep}
use Rattle.mig_c_calls.specs.Copied.{AreContents, HasBatch, OfClaim, copied_image}
use Rattle.mig_c_calls.proofs.Sends.{worker_steps}
use Rattle.mig_c_calls.proofs.Copies.{packs_named, packs_in_turn, packs_fit, map_claim, claimed_stays, copied_writes, copied_packed, step_hand, same_worker}
use Rattle.mig_c_calls.proofs.sending.HeldWorker.pack.Goals as goal

pub returns-in-Ok : goal.returns-in-Ok
returns-in-Ok c =
    let old = c.args.self.now in
    let terms : RoundTerms = old.worker.terms in
    let new : ChannelWork = c.pack_on.new.worker in
    let pages : List ℕ = c.in-Ok.pages.items in
    let contents : List (List ℕ) = lent_bytes c.args.contents.now in
    let packs = c.pack_on.ensures in
    let claim : OfClaim (λ batch number. HasBatch terms.table pages contents batch) terms old.worker.hand = c.in-Ok.ensures.ok in
    let drawn : HasClaimed terms.deal old.worker.hand old.worker.hand =
    claimed_stays terms old.worker.hand (map_claim (λ batch number. HasBatch terms.table pages contents batch)
    (λ batch number. Unit {0}) terms old.worker.hand (λ _ _ _. tt) claim) in
    let image : c.new-memory.result ≡ copied_image terms.table pages contents =
    c.new-memory.ensures ∙ ap (λ (t : RamTable). copied_image t c.deref.result.now contents) old.same_table
    ∙ ap (λ (l : List ℕ). copied_image terms.table l contents) c.deref.ensures.value in
    let step : IsStep (copied_image terms.table pages contents) terms packs.made old.worker.hand new.hand old.worker.text new.text =
    subst (λ (i : Image). IsStep i terms packs.made old.worker.hand new.hand old.worker.text new.text) image packs.stepped.is_step in
    let after = step_hand (copied_image terms.table pages contents) terms packs.made old.worker.hand new.hand old.worker.text new.text drawn step in
    record {
      is_named = packs_named c.pack_on.result packs.is_named;
      wrong = λ late. absurd (packs_in_turn c.pack_on.result packs.is_named late);
      unfit = λ bad. absurd (packs_fit c.pack_on.result packs.is_named bad);
      fits = λ _ _. map_claim (λ batch number. HasBatch terms.table pages contents batch)
          (λ batch number. AreContents terms.table.page_size (length batch.pages) contents) terms old.worker.hand (λ _ _ has. has.fits) claim;
      writes = λ running image same. copied_writes image terms pages contents packs.made old.worker.hand new.hand old.worker.text
          new.text same (packs.is_made.1 running) claim step;
      packs = λ image sent given more same copied before.
          worker_steps image sent given more old _ refl
          (λ own drained packed.
          subst (λ (t : RoundTerms). HasPackedTo image t own (drained ++ new.text) new.hand) (sym packs.stepped.same_terms)
          (copied_packed image terms pages contents packs.made old.worker.hand new.hand old.worker.text new.text own drained same claim copied step packed))
          before;
      over = λ running. after.0 (packs.is_made.1 running);
      same = λ other.
          let stays = after.1 (λ ok. other (packs.is_made.0 ok)) in
          same_worker new old.worker packs.stepped.same_terms packs.stepped.same_channel stays.0 stays.1;
      same_work = (packs.stepped.same_terms, packs.stepped.same_channel, refl);
    }
