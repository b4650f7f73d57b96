use Rattle.std.proofs.Common.{ℕ, ◌+◌, ◌∙◌, List, [], ◌∷◌, ◌++◌, take, sym, ap, arith}
use Rattle.std.specs.Borrow.{MutBor}
use Rattle.std.proofs.lemmas.List.{take_more, length-set}
use Rattle.mig_c_loads.proofs.Moved.{still_there, next_there}
use Rattle.mig_c_loads.proofs.lent.taken_out.Goals as goal

abbrev no_loan : MutBor (List ℕ)
no_loan = record { ref_ptr = (0, 0); ghost_name = 0; now = [] }

pub loop-i-preserved : goal.loop-i-preserved
loop-i-preserved c =
    let i = c.loop-i.i in
    let so_far = c.loop-i.invariant in
    record {
      out =
          c.push_reserved.ensures.items
          ∙ ap (λ (l : List (MutBor (List ℕ))). l ++ c.take.result ∷ []) so_far.out
          ∙ ap (λ (x : MutBor (List ℕ)). take i c.args.blocks.now ++ x ∷ [])
          (c.take.ensures.value ∙ still_there c.loop-i.blocks c.args.blocks.now i no_loan so_far.rest)
          ∙ sym (take_more c.args.blocks.now i no_loan (omega (arith, c.loop-i-test.true, so_far.count)));
      rest = next_there c.loop-i.blocks c.args.blocks.now i c.take.new.dest so_far.rest;
      count = length-set c.loop-i.blocks i c.take.new.dest ∙ so_far.count;
      len = c.push_reserved.ensures.len ∙ ap (λ (n : ℕ). n + 1) so_far.len;
      room = c.push_reserved.ensures.capacity ∙ so_far.room;
    }
