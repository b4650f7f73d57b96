use Rattle.std.proofs.Common.{◌≡◌, ◌+◌, ◌*◌, ◌∙◌, ap, arith, min}
use Rattle.std.specs.Prelude.{not}
use Rattle.mig_mem.specs.RamTable.{RamTable, block}
use Rattle.mig_mem.proofs.Differing.{differs_in, word_none, word_same, word_more, differing_word}
use Rattle.mig_mem.proofs.comparing.word.Goals as goal
use Rattle.mig_mem.proofs.comparing.word.Goals.{then-not-is_same_at, else-not-is_same_at}

pub loop-bit-init : goal.loop-bit-init
loop-bit-init g c = word_none (differs_in c.args.a.now c.args.b.now c.args.block) c.args.i

pub loop-bit-preserved : goal.loop-bit-preserved
loop-bit-preserved g c =
    let test = differs_in c.args.a.now c.args.b.now c.args.block in
    elim c.if-not-is_same_at.branch [
      | then-not-is_same_at w ↦ rw w.word-is (word_more test c.args.i c.loop-bit.bit c.loop-bit.word
          (omega arith) c.loop-bit.invariant (c.is_same_at.ensures ∙ ap not w.if-not-is_same_at.true))
      | else-not-is_same_at w ↦ rw w.word-is (word_same test c.args.i c.loop-bit.bit c.loop-bit.word c.loop-bit.invariant
          (c.is_same_at.ensures ∙ ap not w.if-not-is_same_at.false))
    ]

pub returns : goal.returns
returns g c =
    let pages : c.pages-pages.result ≡ (block c.args.a.now.table.blocks c.args.block).pages =
    c.pages-pages.ensures.value ∙ ap (λ (t : RamTable). (block t.blocks c.args.block).pages) c.table.ensures.value in
    let end : c.args.i * 64 + c.loop-bit.bit ≡ min (block c.args.a.now.table.blocks c.args.block).pages (c.args.i * 64 + 64) =
    omega (arith, c.min-count.ensures) in
    differing_word c.args.a.now c.args.b.now c.args.block c.args.i c.loop-bit.bit c.loop-bit.word end c.loop-bit.invariant
