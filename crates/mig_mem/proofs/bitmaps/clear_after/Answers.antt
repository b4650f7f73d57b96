use Rattle.mig_mem.proofs.BitmapRows.{cleared, whole_words}
use Rattle.mig_mem.proofs.bitmaps.clear_after.Goals as goal

pub returns-then-rest-ne0 : goal.returns-then-rest-ne0
returns-then-rest-ne0 c = λ page. cleared c.args.words.now c.args.pages page c.requires c.if-rest-ne0.true

pub returns-else-rest-ne0 : goal.returns-else-rest-ne0
returns-else-rest-ne0 c = λ page. whole_words c.args.words.now c.args.pages page c.requires c.if-rest-ne0.false
