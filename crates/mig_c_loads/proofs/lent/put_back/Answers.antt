use Rattle.std.proofs.Common.{ℕ, ◌∙◌, List, [], ◌∷◌, ◌++◌, take, sym, ap, arith}
use Rattle.std.specs.Borrow.{MutBor}
use Rattle.std.proofs.lemmas.List.{take_more, take_more_set, length-set}
use Rattle.mig_c_loads.proofs.Moved.{still_there, next_there}
use Rattle.mig_c_loads.proofs.lent.put_back.Goals as goal

abbrev no_loan : MutBor (List ℕ)
no_loan = record { ref_ptr = (0, 0); ghost_name = 0; now = [] }

pub loop-i-preserved : goal.loop-i-preserved
loop-i-preserved c =
    let i = c.loop-i.i in
    let so_far = c.loop-i.invariant in
    let within = c.loop-i-test.true in
    record {
      put =
          take_more_set c.loop-i.blocks i c.take.result (omega (arith, within, so_far.count, so_far.room, c.requires))
          ∙ ap (λ (l : List (MutBor (List ℕ))). l ++ c.take.result ∷ []) so_far.put
          ∙ ap (λ (x : MutBor (List ℕ)). take i c.args.list.now ++ x ∷ [])
          (c.take.ensures.value ∙ still_there c.loop-i.list c.args.list.now i no_loan so_far.rest)
          ∙ sym (take_more c.args.list.now i no_loan (omega (arith, within, so_far.count)));
      rest = next_there c.loop-i.list c.args.list.now i c.take.new.dest so_far.rest;
      count = length-set c.loop-i.list i c.take.new.dest ∙ so_far.count;
      room = length-set c.loop-i.blocks i c.take.result ∙ so_far.room;
    }
