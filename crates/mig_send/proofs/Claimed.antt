-- The batch that a worker's number claims.
use Rattle.std.proofs.Common.{◌≡◌, ◌<◌, ◌-◌, length, get_or, sym, arith, Option, Some, None, subst}
use Rattle.std.specs.Prelude.{IfSome}
use Rattle.std.specs.Option.{option_copied}
use Rattle.std.specs.Borrow.{Bor}
use Rattle.std.proofs.lemmas.Option.{same_Some}
use Rattle.mig_send.specs.declared.channel_worker.Hand.{Hand}
use Rattle.mig_send.specs.declared.channel_worker.Hand.TheVariants.{Drawing, Claimed, Ending, Ended, Moving}
use Rattle.mig_send.specs.Batches.{BatchOfPages, IsBatch}
use Rattle.mig_send.specs.Work.{ClaimsBatches, no_batch}
use Rattle.mig_send.specs.ChannelWork.{RoundTerms, IsHand, batch_in}

is_claimed : (terms : RoundTerms) (hand : Hand) (batch : BatchOfPages) → ClaimsBatches terms.deal terms.table terms.batches → IsHand terms.deal hand
    → Some batch ≡ batch_in terms hand → IsBatch terms.table batch
is_claimed terms (Drawing seat) batch claims is e = absurd cc
is_claimed terms (Claimed seat number) batch claims is e =
    let within = is.claim_batches 0 number (omega arith) in
    let at : number - terms.deal.base < length terms.batches = omega (arith, within.0, within.1, claims.as_many) in
    let same : batch ≡ get_or terms.batches (number - terms.deal.base) no_batch =
    same_Some batch (get_or terms.batches (number - terms.deal.base) no_batch) e in
    subst (IsBatch terms.table) (sym same) (claims.are_batches (number - terms.deal.base) no_batch at)
is_claimed terms (Ending spent last) batch claims is e = absurd cc
is_claimed terms (Ended spent) batch claims is e = absurd cc
is_claimed terms Moving batch claims is e = absurd cc

-- it is one of the table
pub claimed_batch : (terms : RoundTerms) (hand : Hand) (found : Option (Bor BatchOfPages))
    → ClaimsBatches terms.deal terms.table terms.batches → IsHand terms.deal hand
    → option_copied found ≡ batch_in terms hand → IfSome found (λ batch. IsBatch terms.table batch.now)
claimed_batch terms hand None claims is e = tt
claimed_batch terms hand (Some found) claims is e = is_claimed terms hand found.now claims is e
