use Rattle.std.proofs.Common.{◌≡◌, ◌*◌, length, refl, ◌∙◌, arith}
use Rattle.mig_mem.proofs.PartWrites.{changes_part}
use Rattle.mig_uses.proofs.StraightPages.{part_length}
use Rattle.mig_uses.proofs.straight.read_part.Goals as goal

pub returns-in_err-count : goal.returns-in_err-count
returns-in_err-count g c =
    let len : length c.fill.new.piece ≡ c.args.size = c.fill.ensures.len ∙ part_length (c.args.page * c.args.size) c.args.size c.args.bytes.now c.requires in
    (c.fill.new.piece, len, changes_part c.args.size c.args.bytes.now c.fill.new.piece c.fill.new.piece c.args.page _ c.requires len refl (omega arith))

pub returns : goal.returns
returns g c =
    let len : length c.fill.new.piece ≡ c.args.size = c.fill.ensures.len ∙ part_length (c.args.page * c.args.size) c.args.size c.args.bytes.now c.requires in
    (c.fill.new.piece, len, changes_part c.args.size c.args.bytes.now c.fill.new.piece c.fill.new.piece c.args.page _ c.requires len refl (omega arith))
