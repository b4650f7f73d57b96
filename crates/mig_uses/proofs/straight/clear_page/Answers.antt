use Rattle.std.proofs.Common.{ℕ, ◌*◌, ap, ◌∙◌, arith}
use Rattle.std.proofs.lemmas.List.{length-replicate}
use Rattle.mig_mem.specs.Image.{zero_page}
use Rattle.mig_mem.proofs.PartWrites.{changes_part}
use Rattle.mig_uses.proofs.StraightPages.{part_length}
use Rattle.mig_uses.proofs.straight.clear_page.Goals as goal

pub returns : goal.returns
returns c = changes_part c.args.size c.args.bytes.now c.fill.new.self (zero_page c.args.size) c.args.page _ c.requires (length-replicate c.args.size 0)
    (c.fill.ensures.after (λ y e. e) ∙ ap (λ (n : ℕ). zero_page n)
    (part_length (c.args.page * c.args.size) c.args.size c.args.bytes.now c.requires)) (omega arith)
