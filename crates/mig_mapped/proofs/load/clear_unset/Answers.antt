use Rattle.std.proofs.Common.{◌≡◌, ◌∙◌, ap, true, false, arith}
use Rattle.mig_mem.specs.Place.{place_at}
use Rattle.mig_mem.specs.Image.{Image, zero_page, with_page}
use Rattle.mig_mapped.specs.declared.settings.MappedSettings.{MappedSettings}
use Rattle.mig_mapped.specs.Bitmap.{is_set}
use Rattle.mig_mapped.specs.Block.{MappedBlock, mapped_block}
use Rattle.mig_mapped.proofs.Clearing.{none_cleared, set_stays, one_cleared}
use Rattle.mig_mapped.proofs.load.clear_unset.Goals as goal
use Rattle.mig_mapped.proofs.load.clear_unset.Goals.{then-not-has, else-not-has}

pub loop-page-init : goal.loop-page-init
loop-page-init g c =
    none_cleared c.args.index.now.given (mapped_block c.args.index.now.blocks c.args.block) c.args.block
    (g.M.GuestTarget.image c.args.memory.now) c.table.ensures.image

pub loop-page-preserved : goal.loop-page-preserved
loop-page-preserved g c =
    let given : MappedSettings = c.args.index.now.given in
    let b : MappedBlock = mapped_block c.args.index.now.blocks c.args.block in
    let m : Image = g.M.GuestTarget.image c.args.memory.now in
    elim c.if-not-has.branch [
      | then-not-has w ↦
          let unset : is_set given.order b.bitmap c.loop-page.page ≡ false = grind (arith, c.has.ensures, w.if-not-has.true) in
          ap g.M.GuestTarget.image w.memory-is ∙ w.put_zero_page.ensures.image
          ∙ ap (λ (x : Image). with_page x (place_at c.args.block c.loop-page.page) (zero_page x.table.page_size)) c.loop-page.invariant
          ∙ one_cleared given b c.args.block c.loop-page.page m unset
      | else-not-has w ↦
          let set : is_set given.order b.bitmap c.loop-page.page ≡ true = grind (arith, c.has.ensures, w.if-not-has.false) in
          ap g.M.GuestTarget.image w.memory-is ∙ c.loop-page.invariant ∙ set_stays given b c.args.block c.loop-page.page m set
    ]
