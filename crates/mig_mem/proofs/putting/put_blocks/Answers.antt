use Rattle.std.specs.Borrow.{MutBor}
use Rattle.std.proofs.Common.{ℕ, ◌<◌, List, [], get_or, arith, length}
use Rattle.std.proofs.lemmas.List.{length-map}
use borrow.Rule.Slice.Mut.{set_vals}
use Rattle.mig_mem.specs.Lent.{mut_lent_bytes, bytes_of_block}
use Rattle.mig_mem.specs.Puts.{PutsAll}
use Rattle.mig_mem.proofs.BytePuts.{done_more, puts_image}
use Rattle.mig_mem.proofs.putting.put_blocks.Goals as goal

abbrev no_loan : MutBor (List ℕ)
no_loan = record { ref_ptr = (0, 0); ghost_name = 0; now = [] }

pub loop-b-preserved : goal.loop-b-preserved
loop-b-preserved g c =
    let loans = c.loop-b.blocks in
    done_more (λ (x : MutBor (List ℕ)). x.now) c.args.size c.loop-b.b c.args.blocks.now loans
    (set_vals c.put_block.new.bytes (get_or loans c.loop-b.b no_loan)) no_loan c.args.pages.now
    c.loop-b.invariant (omega (arith, c.loop-b.invariant.len)) c.put_block.ensures

pub returns-clause-image : goal.returns-clause-image
returns-clause-image g c = λ table fit same.
    let all : (k : ℕ) → k < length c.args.blocks.now
    → PutsAll c.args.size k 0 (bytes_of_block (mut_lent_bytes c.args.blocks.now) k) (bytes_of_block (mut_lent_bytes c.loop-b.blocks) k) c.args.pages.now =
    λ k lt. c.loop-b.invariant.before k (omega arith) in
    rw (← same) (puts_image table (mut_lent_bytes c.args.blocks.now) (mut_lent_bytes c.loop-b.blocks) c.args.pages.now fit
    (λ k lt. rw same (all k (omega (arith, fit.same_count, length-map c.args.blocks.now (λ (x : MutBor (List ℕ)). x.now))))))
