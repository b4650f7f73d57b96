use Rattle.std.proofs.Common.{◌≡◌, ◌∙◌, length, refl, subst, sym}
use Rattle.mig_send.specs.ChannelWork.{RoundTerms}
use Rattle.mig_send.specs.MultiRound.{IsDealtTo}
use Rattle.mig_send.specs.Finding.{cut_of}
use Rattle.mig_send.proofs.DealtSets.{round_work, dealt_claims}
use Rattle.mig_send.proofs.multi_round.deal_out.Goals as goal

pub invariant_of-work : goal.invariant_of-work
invariant_of-work g c =
    let count = c.count_batches-count.ensures in
    let many : c.in-Ok.deal.batches ≡ length (cut_of c.args.limit c.args.dirty.marked) = c.in-Ok.ensures.terms.1 ∙ count.count in
    (round_work c.args.dirty c.args.limit c.in-Ok.deal c.requires.set c.requires.limit.0 c.requires.limit.1 count.cut many, count.count)

pub returns-in-Ok-new-clause-dealt : goal.returns-in-Ok-new-clause-dealt
returns-in-Ok-new-clause-dealt g c =
    let count = c.count_batches-count.ensures in
    let batches = cut_of c.args.limit c.args.dirty.marked in
    let many : c.in-Ok.deal.batches ≡ length batches = c.in-Ok.ensures.terms.1 ∙ count.count in
    let terms : RoundTerms = record { deal = c.in-Ok.deal; table = c.args.dirty.table; batches = batches } in
    subst (λ (t : RoundTerms). IsDealtTo c.args.base c.args.dirty.table batches c.args.seats t c.in-Ok.seats.items) (sym c.in-Ok-new.ensures.ok)
    (record {
      same_table = refl;
      same_batches = refl;
      claims = dealt_claims c.args.dirty c.args.limit c.in-Ok.deal c.requires.set c.requires.limit.1 count.cut many;
      has_base = c.in-Ok.ensures.terms.0;
      as_many = c.in-Ok.ensures.terms.2;
      are_seats = c.in-Ok.ensures.seats;
    })
